-- Which parts component types are made of.
use Rattle.std.proofs.Common.{◌≡◌, zero, suc, List, [], ◌∷◌, ◌++◌, sym, subst, arith, true, Some}
use Rattle.std.specs.Prelude.{Option, None, Contains}
use Rattle.wcv_types.specs.Arena.{Arena}
use Rattle.wcv_types.specs.Standing.{Stands}
use Rattle.wcv_types.specs.Tree.{Text, Extern_name, Role, here, import, export}
use Rattle.wcv_types.specs.Unfold.{Slots, any_part, option_slot, value_slot, entity_slot, entry_slots, field_slots, defined_slots, value_parts, value_slots, slots_if, slot_refs, parts_in, parts_at}
use Rattle.wcv_types.specs.declared.arena.Node.{Node}
use Rattle.wcv_types.specs.declared.ids.ComponentAnyTypeId.{ComponentAnyTypeId}
use Rattle.wcv_types.specs.declared.ids.ComponentAnyTypeId.TheVariants as any
use Rattle.wcv_types.specs.declared.ids.Part.{Part}
use Rattle.wcv_types.specs.declared.ids.Part.TheVariants as p
use Rattle.wcv_types.specs.declared.item_map.ComponentItem.{ComponentItem}
use Rattle.wcv_types.specs.declared.shapes.ComponentDefinedType.{ComponentDefinedType}
use Rattle.wcv_types.specs.declared.shapes.ComponentDefinedType.TheVariants as d
use Rattle.wcv_types.specs.declared.shapes.ComponentEntityType.{ComponentEntityType}
use Rattle.wcv_types.specs.declared.shapes.ComponentEntityType.TheVariants as entity
use Rattle.wcv_types.specs.declared.shapes.ComponentValType.{ComponentValType}
use Rattle.wcv_types.specs.declared.shapes.ComponentValType.TheVariants as v
use Rattle.wcv_remap.specs.Map.{is_node}
use Rattle.wcv_remap.specs.Remap.{IsInside}

abbrev pub AllInside : List Part → Type 0
AllInside [] = Unit {0}
AllInside (q ∷ qs) = IsInside q × AllInside qs

inside_both : (xs ys : List Part) → AllInside xs → AllInside ys → AllInside (xs ++ ys)
inside_both [] ys h k = k
inside_both (x ∷ xs) ys h k = (h.0, inside_both xs ys h.1 k)

inside_of : (xs : List Part) (r : Part) → AllInside xs → Contains xs r → IsInside r
inside_of [] r h c = absurd (omega (arith, c.1))
inside_of (x ∷ xs) r h (zero, l, e) = subst IsInside e h.0
inside_of (x ∷ xs) r h (suc k, l, e) = inside_of xs r h.1 (k, omega (arith, l), e)

value_inside : (t : ComponentValType) → AllInside (slot_refs (value_slot t))
value_inside (v.Primitive q) = tt
value_inside (v.Ty i) = (tt, tt)

option_inside : (o : Option ComponentValType) → AllInside (slot_refs (option_slot o))
option_inside None = tt
option_inside (Some t) = value_inside t

any_inside : (c : ComponentAnyTypeId) → IsInside (any_part c)
any_inside (any.Resource r) = tt
any_inside (any.Defined i) = tt
any_inside (any.Func i) = tt
any_inside (any.Instance i) = tt
any_inside (any.Component i) = tt

pub entity_inside : (x : ComponentEntityType) → AllInside (slot_refs (entity_slot x))
entity_inside (entity.Module i) = (tt, tt)
entity_inside (entity.Func i) = (tt, tt)
entity_inside (entity.Value t) = value_inside t
entity_inside (entity.Ty c r) = (any_inside c, (any_inside r, tt))
entity_inside (entity.Instance i) = (tt, tt)
entity_inside (entity.Component i) = (tt, tt)

fields_inside : (fs : List (Text × ComponentValType)) (rest : Slots) → AllInside (parts_in rest) → AllInside (parts_in (field_slots fs rest))
fields_inside [] rest h = h
fields_inside (f ∷ fs) rest h = inside_both (slot_refs (value_slot f.1)) (parts_in (field_slots fs rest)) (value_inside f.1) (fields_inside fs rest h)

values_inside : (ps : List (Role × Option ComponentValType)) → AllInside (parts_in (value_slots ps))
values_inside [] = tt
values_inside (q ∷ ps) = inside_both (slot_refs (option_slot q.1)) (parts_in (value_slots ps)) (option_inside q.1) (values_inside ps)

defined_inside : (s : ComponentDefinedType) → AllInside (parts_in (defined_slots s))
defined_inside (d.Own r) = (tt, tt)
defined_inside (d.Borrow r) = (tt, tt)
defined_inside x = values_inside (value_parts x)

entries_inside : (role : Extern_name → Role) (es : List (Text × ComponentItem)) (rest : Slots) → AllInside (parts_in rest) → AllInside (parts_in (entry_slots role es ++ rest))
entries_inside role [] rest h = h
entries_inside role (e ∷ es) rest h = inside_both (slot_refs (entity_slot e.1.ty)) (parts_in (entry_slots role es ++ rest)) (entity_inside e.1.ty) (entries_inside role es rest h)

exports_inside : (es : List (Text × ComponentItem)) → AllInside (parts_in (entry_slots export es))
exports_inside [] = tt
exports_inside (e ∷ es) = inside_both (slot_refs (entity_slot e.1.ty)) (parts_in (entry_slots export es)) (entity_inside e.1.ty) (exports_inside es)

all_inside : (a : Arena) (q : Part) → is_node q ≡ true → Stands a q → AllInside (parts_at a q)
all_inside a (p.Resource r) h s = tt
all_inside a (p.Core i) h s = tt
all_inside a (p.Module i) h s = absurd (let e = h in cc)
all_inside a (p.CoreInstance i) h s = absurd (let e = h in cc)
all_inside a (p.Defined i) h s = subst (λ (o : Option Node). AllInside (parts_in (slots_if o))) (sym s.1) (defined_inside s.0)
all_inside a (p.Func i) h s = subst (λ (o : Option Node). AllInside (parts_in (slots_if o))) (sym s.1) (fields_inside s.0.params.items ((here, option_slot s.0.result) ∷ []) (inside_both (slot_refs (option_slot s.0.result)) [] (option_inside s.0.result) tt))
all_inside a (p.Instance i) h s = subst (λ (o : Option Node). AllInside (parts_in (slots_if o))) (sym s.1) (exports_inside s.0.exports)
all_inside a (p.Component i) h s = subst (λ (o : Option Node). AllInside (parts_in (slots_if o))) (sym s.1) (entries_inside import s.0.imports (entry_slots export s.0.exports) (exports_inside s.0.exports))

-- the parts of a node are inside, where the node is
pub part_inside : (a : Arena) (q r : Part) → is_node q ≡ true → Stands a q → Contains (parts_at a q) r → IsInside r
part_inside a q r h s c = inside_of (parts_at a q) r (all_inside a q h s) c
