-- How many steps are left of a comparison of value types and functions.
use Rattle.std.proofs.Common.{◌≡◌, ℕ, suc, ◌+◌, List, [], ◌∷◌, drop, Option, Some, ◌∙◌, ap, arith}
use Rattle.std.specs.Prelude.{slice_get}
use Rattle.wcv_types.specs.Arena.{Arena}
use Rattle.wcv_types.specs.Tree.{Text, Role, here}
use Rattle.wcv_types.specs.Unfold.{Type_tree, field_slots, option_slot, slot_parts, trees, unfolded}
use Rattle.wcv_types.specs.declared.arena.Node.TheVariants as n
use Rattle.wcv_types.specs.declared.shapes.ComponentFuncType.{ComponentFuncType}
use Rattle.wcv_types.specs.declared.shapes.ComponentValType.{ComponentValType}
use Rattle.wcv_atoms.specs.Extent.{extent, extents, value_extent, values_extent}
use Rattle.wcv_values.specs.SeenValues.{labelled}
use Rattle.wcv_atoms.proofs.Walking.{at_drop}

-- the k-th, and those behind it
pub values_next : (ts : List Type_tree) (ps : List (Role × Option ComponentValType)) (k : ℕ) (x : Role × Option ComponentValType) → slice_get ps k ≡ Some x → values_extent ts (drop k ps) ≡ value_extent ts x.1 + values_extent ts (drop (k + 1) ps)
values_next ts ps k x e = ap (values_extent ts) (at_drop ps k x e)

params_extent : (ts : List Type_tree) (ps : List (Text × ComponentValType)) (o : Option ComponentValType) → extents (slot_parts ts (field_slots ps ((here, option_slot o) ∷ []))) ≡ values_extent ts (labelled ps) + value_extent ts o
params_extent ts [] o = omega arith
params_extent ts (q ∷ ps) o = let l = params_extent ts ps o in omega (arith, l)

pub func_extent : (a : Arena) (i : ℕ) (s : ComponentFuncType) (x : Type_tree) → x ≡ unfolded a i (n.Func s) → extent x ≡ suc (values_extent (trees a.nodes) (labelled s.params.items) + value_extent (trees a.nodes) s.result)
func_extent a i s x e = ap extent e ∙ ap suc (params_extent (trees a.nodes) s.params.items s.result)
