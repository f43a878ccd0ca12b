-- Growth, causes and ends under a renaming.
use Rattle.std.proofs.Common.{◌≡◌}
use Rattle.std.specs.Option.{option_map}
use Rattle.wcv_core.specs.Names.{Name, Place}
use Rattle.wcv_core.specs.declared.features.WasmFeatures.{WasmFeatures}
use Rattle.wcv_syntax.specs.Model.{Form}
use Rattle.wcv_types.specs.Rename.{rename}
use Rattle.wcv_lower.specs.Ending.{type_at_end}
use Rattle.wcv_lower.specs.Growth.{grow, checks}
use Rattle.wcv_lower.specs.Mapped.{IsKnown, map_context, map_stack}
use Rattle.wcv_lower.specs.Names.{Names, Under, AreRenamed}
use Rattle.wcv_lower.specs.Renamed.{Renaming, renaming}
use Rattle.wcv_lower.specs.Trees.{Tree_context, Tree_stack, tree_maker, node_tree}
use Rattle.wcv_lower.specs.Uses.{uses}
use Rattle.wcv_lower.proofs.EndingLaws.{type_at_end-mapped}
use Rattle.wcv_lower.proofs.GrowthLaws.{grow-mapped, checks-mapped}
use Rattle.wcv_lower.proofs.MadeRenamed.{node_tree-renamed, makes_renamed}
use Rattle.wcv_lower.proofs.Renamed.{renaming_commutes}

-- under a renaming all is known
pub known : (c : Tree_context) → IsKnown (λ t. Unit {0}) c
known c = record { space = λ k i x e. tt; core = λ k i x e. tt }

-- the renamed names grow the renamed stack to the renamed one
pub grow-renamed : (w : Renaming) (n m : Names) (p : Place) → AreRenamed (Under p) w.resources.to w.identities.to n m → (fs : WasmFeatures) (s : Tree_stack) (f : Form) →
    grow fs (tree_maker m p) (map_stack (renaming w) s) f ≡ option_map (map_stack (renaming w)) (grow fs (tree_maker n p) s f)
grow-renamed w n m p r fs s f = grow-mapped (renaming w) (renaming_commutes w) fs (tree_maker n p) (tree_maker m p) s f (known s.top) (makes_renamed w n m p r (uses fs s f))

-- and give it the same causes
pub checks-renamed : (w : Renaming) (n m : Names) (p : Place) → AreRenamed (Under p) w.resources.to w.identities.to n m → (fs : WasmFeatures) (s : Tree_stack) (f : Form) →
    checks fs (tree_maker m p) (map_stack (renaming w) s) f ≡ checks fs (tree_maker n p) s f
checks-renamed w n m p r fs s f = checks-mapped (renaming w) (renaming_commutes w) fs (tree_maker n p) (tree_maker m p) s f (known s.top) (makes_renamed w n m p r (uses fs s f))

pub type_at_end-renamed : (w : Renaming) (i : Name) (c : Tree_context) → type_at_end (node_tree (w.identities.to i)) (map_context (renaming w) c) ≡ option_map (rename w.resources.to w.identities.to) (type_at_end (node_tree i) c)
type_at_end-renamed w i c = type_at_end-mapped (renaming w) (renaming_commutes w) (node_tree i) (node_tree (w.identities.to i)) (node_tree-renamed w i) c
