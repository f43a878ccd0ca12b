-- Value types by ids, as their resources are read.
use Rattle.std.specs.Prelude.{ℕ, List, map, Bool, Option, None, Some, All, ◌≡◌}
use Rattle.wcv_types.specs.Alike.{form_primitive}
use Rattle.wcv_types.specs.Arena.{Arena}
use Rattle.wcv_types.specs.SameSeen.{same_parts, same_within}
use Rattle.wcv_types.specs.Seen.{seen, seen_parts}
use Rattle.wcv_types.specs.Standing.{StandsBefore}
use Rattle.wcv_types.specs.Tree.{Text, Role, label, nothing, primitive, defined, node, none}
use Rattle.wcv_types.specs.Unfold.{Type_tree, Slots, defined_slots, former_of, option_slot, parts_of, rank, slot_parts, slot_tree, value_parts}
use Rattle.wcv_types.specs.declared.arena.Node.TheVariants as n
use Rattle.wcv_types.specs.declared.ids.ComponentDefinedTypeId.{ComponentDefinedTypeId}
use Rattle.wcv_types.specs.declared.ids.Part.TheVariants as p
use Rattle.wcv_types.specs.declared.shapes.ComponentValType.{ComponentValType}
use Rattle.wcv_types.specs.declared.shapes.ComponentValType.TheVariants as v
use Rattle.wcv_matching.specs.AtomTests.{same_atom}
use Rattle.wcv_matching.specs.Matching.{Reading, outside}
use Rattle.wcv_matching.specs.OnePass.{Atom, Seen_tree}
use Rattle.wcv_atoms.specs.Extent.{values_extent}
use Rattle.wcv_values.specs.declared.values.SeenValue.{SeenValue}
use Rattle.wcv_values.specs.declared.values.SeenValue.TheVariants as view

-- a value type that may be left out, as f reads its resources
abbrev pub seen_value : List Type_tree → Reading Atom → Option ComponentValType → Seen_tree
seen_value ts f o = seen (outside f) (slot_tree ts (option_slot o))

-- what it is seen as
abbrev pub seen_view : List Type_tree → Reading Atom → SeenValue → Seen_tree
seen_view ts f view.LeftOut = node nothing none
seen_view ts f (view.Primitive q) = node (primitive q) none
seen_view ts f (view.Node s) = node (defined tt (former_of s.now)) (seen_parts (outside f) (slot_parts ts (defined_slots s.now)))

-- a node is no primitive under a name, and is made of types that stand before it
abbrev pub ViewStands : Arena → Option ComponentValType → SeenValue → Type 0
ViewStands a o (view.Node s) = (i : ComponentDefinedTypeId) × (o ≡ Some (v.Ty i)) × (form_primitive (former_of s.now) ≡ None) × All (StandsBefore a (rank (p.Defined i))) (parts_of (n.Defined s.now))
ViewStands a o w = Unit {0}

-- the parts are the same, as each side reads its resources
abbrev pub same_slots : List Type_tree → Reading Atom → Reading Atom → Slots → Slots → Bool
same_slots ts f g ss rs = same_parts (same_within same_atom) (seen_parts (outside f) (slot_parts ts ss)) (seen_parts (outside g) (slot_parts ts rs))

-- parameters, each under its name
abbrev pub labelled : List (Text × ComponentValType) → List (Role × Option ComponentValType)
labelled ps = map (λ p. (label p.0, Some p.1)) ps

-- of what stands inside a value type, as it is seen
abbrev pub inner_extent : List Type_tree → SeenValue → ℕ
inner_extent ts (view.Node s) = values_extent ts (value_parts s.now)
inner_extent ts w = 0
