-- The arguments of a core instance.
use Rattle.std.specs.Prelude.{◌≡◌, List, map, Option, Some, None, bytes_eq}
use Rattle.std.specs.Borrow.{Bor}
use Rattle.std.specs.BTreeMap.{BTreeMap}
use Rattle.std.specs.Map.{lookup}
use Rattle.wcv_core.specs.declared.core_types.EntityType.{EntityType}
use Rattle.wcv_types.specs.Arena.{Arena}
use Rattle.wcv_types.specs.Tree.{Text}
use Rattle.wcv_types.specs.Unfold.{tree_at}
use Rattle.wcv_types.specs.declared.ids.ComponentCoreInstanceTypeId.{ComponentCoreInstanceTypeId}
use Rattle.wcv_types.specs.declared.ids.Part.TheVariants as p
use Rattle.wcv_matching.specs.ByName.{held}
use Rattle.wcv_matching.specs.ModuleItems.{instance_exports}

-- what the instances export, by the names of the arguments
abbrev pub argument_exports : Arena → List (Text × ComponentCoreInstanceTypeId) → List (Text × List (Text × EntityType))
argument_exports a args = map (λ x. (x.0, instance_exports (tree_at a (p.CoreInstance x.1)))) args

-- a map from names holds what a list of entries has under each, or neither is there
abbrev pub HeldAs : Option (BTreeMap (Bor Text) EntityType) → Option (List (Text × EntityType)) → Type 0
HeldAs None None = Unit {0}
HeldAs (Some m) (Some es) = (q : Text) → held m q ≡ lookup (bytes_eq q) es
HeldAs _ _ = ⊥

-- what the first gives of the first name, the second gives of the second
abbrev pub if_there : {X Y : Type 0} → Option X → (X → Option Y) → Option Y
if_there None f = None
if_there (Some x) f = f x

-- what an argument exports under a name, by maps
abbrev pub export_under : BTreeMap (Bor Text) (BTreeMap (Bor Text) EntityType) → Text × Text → Option EntityType
export_under items i = if_there (held items i.0) (λ m. held m i.1)
