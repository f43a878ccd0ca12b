-- What a line mentions by ids is what it mentions of the tree.
use Rattle.std.proofs.Common.{◌≡◌, ℕ, [], Option, Some, None, refl, ap}
use Rattle.std.specs.Prelude.{All}
use Rattle.std.proofs.lemmas.List.Elements.{All-head}
use Rattle.wcv_types.specs.Arena.{Arena}
use Rattle.wcv_types.specs.Standing.{HasIdentity, Stands, StandsBefore, identity_of}
use Rattle.wcv_types.specs.Text.{Written, node_number, mention, mention_head, payload_text}
use Rattle.wcv_types.specs.Tree.{head}
use Rattle.wcv_types.specs.Unfold.{any_part, value_slot, option_slot, slot_refs, slot_tree, tree_at, trees}
use Rattle.wcv_types.specs.declared.arena.Node.TheVariants as n
use Rattle.wcv_types.specs.declared.ids.ComponentAnyTypeId.{ComponentAnyTypeId}
use Rattle.wcv_types.specs.declared.ids.ComponentAnyTypeId.TheVariants as any
use Rattle.wcv_types.specs.declared.ids.Part.{Part}
use Rattle.wcv_types.specs.declared.ids.Part.TheVariants as p
use Rattle.wcv_types.specs.declared.shapes.ComponentValType.{ComponentValType}
use Rattle.wcv_types.specs.declared.shapes.ComponentValType.TheVariants as v
use Rattle.wcv_types.proofs.Unfolding.{head_in}
use Rattle.wcv_text.specs.DefinedLine.{payload_said}
use Rattle.wcv_text.specs.Mentions.{value_text, option_text}

-- a type that stands and is no core type is mentioned by the number of its line
pub mention_is : (a : Arena) (w : Written) (q : Part) → HasIdentity q → Stands a q → mention w (tree_at a q) ≡ node_number w (identity_of q)
mention_is a w (p.Resource r) h s = refl
mention_is a w (p.Func i) h s = ap (mention_head w) (head_in a.nodes i.index (n.Func s.0) s.1)
mention_is a w (p.Defined i) h s = ap (mention_head w) (head_in a.nodes i.index (n.Defined s.0) s.1)
mention_is a w (p.Instance i) h s = ap (mention_head w) (head_in a.nodes i.index (n.Instance s.0) s.1)
mention_is a w (p.Component i) h s = ap (mention_head w) (head_in a.nodes i.index (n.Component s.0) s.1)
mention_is a w (p.Module i) h s = ap (mention_head w) (head_in a.nodes i.index (n.Module s.0) s.1)
mention_is a w (p.CoreInstance i) h s = ap (mention_head w) (head_in a.nodes i.index (n.CoreInstance s.0) s.1)
mention_is a w (p.Core i) h s = absurd h

pub mention_any : (a : Arena) (w : Written) (c : ComponentAnyTypeId) → Stands a (any_part c) → mention w (tree_at a (any_part c)) ≡ node_number w (identity_of (any_part c))
mention_any a w (any.Resource r) s = mention_is a w (p.Resource r) tt s
mention_any a w (any.Defined i) s = mention_is a w (p.Defined i) tt s
mention_any a w (any.Func i) s = mention_is a w (p.Func i) tt s
mention_any a w (any.Instance i) s = mention_is a w (p.Instance i) tt s
mention_any a w (any.Component i) s = mention_is a w (p.Component i) tt s

module _ (a : Arena) (bound : ℕ) (w : Written) where
  -- a value type
  pub value_said : (t : ComponentValType) → All (StandsBefore a bound) (slot_refs (value_slot t)) → mention w (slot_tree (trees a.nodes) (value_slot t)) ≡ value_text w t
  value_said (v.Primitive q) h = refl
  value_said (v.Ty i) h = mention_is a w (p.Defined i) tt (All-head (StandsBefore a bound) (p.Defined i) [] h).stands

  -- one that may be left out
  pub option_said : (o : Option ComponentValType) → All (StandsBefore a bound) (slot_refs (option_slot o)) → mention w (slot_tree (trees a.nodes) (option_slot o)) ≡ option_text w o
  option_said None h = refl
  option_said (Some t) h = value_said t h

  -- the type of a case
  pub payload_is : (o : Option ComponentValType) → All (StandsBefore a bound) (slot_refs (option_slot o)) → payload_text w (head (slot_tree (trees a.nodes) (option_slot o))) ≡ payload_said w o
  payload_is None h = refl
  payload_is (Some (v.Primitive q)) h = refl
  payload_is (Some (v.Ty i)) h =
      let s : Stands a (p.Defined i) = (All-head (StandsBefore a bound) (p.Defined i) [] h).stands in
      ap (payload_text w) (head_in a.nodes i.index (n.Defined s.0) s.1)
