-- Functions and entities of an arena, as names speak of them.
use Rattle.std.proofs.Common.{Bool, true, false, ◌≡◌, ℕ, List, [], ◌∷◌, Option, Some, None, refl, sym, ap, ◌∙◌, subst}
use Rattle.std.specs.Prelude.{All}
use Rattle.std.proofs.lemmas.List.Elements.{All-cons, All-nil, All-head, All-tail}
use Rattle.wcv_syntax.specs.ExternName.{Form, access_of}
use Rattle.wcv_types.specs.Arena.{Arena}
use Rattle.wcv_types.specs.Entities.{entity_tree, EntityStands, SlotStands}
use Rattle.wcv_types.specs.Standing.{Stands, StandsBefore}
use Rattle.wcv_types.specs.Tree.{Text, here, func, resource, defined, nothing, primitive, instance, component, type_entity, core_module, core_instance, core_type, core_item, node, Sort, sort, is_func}
use Rattle.wcv_types.specs.Unfold.{Type_tree, Slot, Slots, rank, left_out, value_slot, option_slot, field_slots, slot_refs, slot_tree, slot_parts, parts_in, parts_of, place, tree_at, unfolded, trees}
use Rattle.wcv_types.specs.declared.arena.Node.TheVariants as n
use Rattle.wcv_types.specs.declared.ids.ComponentFuncTypeId.{ComponentFuncTypeId}
use Rattle.wcv_types.specs.declared.ids.Part.{Part}
use Rattle.wcv_types.specs.declared.ids.Part.TheVariants as p
use Rattle.wcv_types.specs.declared.shapes.ComponentEntityType.{ComponentEntityType}
use Rattle.wcv_types.specs.declared.shapes.ComponentEntityType.TheVariants as entity
use Rattle.wcv_types.specs.declared.shapes.ComponentFuncType.{ComponentFuncType}
use Rattle.wcv_types.specs.declared.shapes.ComponentValType.{ComponentValType}
use Rattle.wcv_types.specs.declared.shapes.ComponentValType.TheVariants as v
use Rattle.wcv_types.proofs.Unfolding.{all_left, all_right, sort_stands}
use Rattle.wcv_names.specs.ResourceNames.{Resource_names}
use Rattle.wcv_names.specs.Rules.{Params, Entries, params, gives, function_fits, is_for_any_sort, fits, gotten, if_ok, taken, getter_in, is_paired_by, is_paired}
use Rattle.wcv_names.specs.Shapes.{option_tree, OptionStands, param_trees, ParamsStand, FuncStands, rest_of}
use Rattle.wcv_names.specs.FuncTrees.{IsFunction, func_part}

-- ## What a function is made of

abbrev Field : Type 0
Field = Text × ComponentValType

value_stands : (a : Arena) (t : ComponentValType) → All (Stands a) (slot_refs (value_slot t)) → SlotStands a (value_slot t)
value_stands a (v.Primitive q) h = tt
value_stands a (v.Ty i) h = All-head (Stands a) (p.Defined i) [] h

fields_stand : (a : Arena) (fs : List Field) (rest : Slots) → All (Stands a) (parts_in (field_slots fs rest)) → ParamsStand a fs
fields_stand a [] rest h = All-nil (λ (f : Field). SlotStands a (value_slot f.1))
fields_stand a (f ∷ fs) rest h =
    All-cons (λ (g : Field). SlotStands a (value_slot g.1)) f fs
    (value_stands a f.1 (all_left (Stands a) (slot_refs (value_slot f.1)) (parts_in (field_slots fs rest)) h))
    (fields_stand a fs rest (all_right (Stands a) (slot_refs (value_slot f.1)) (parts_in (field_slots fs rest)) h))

pub rest_params : (a : Arena) (fs : List Field) → ParamsStand a fs → ParamsStand a (rest_of fs)
rest_params a [] h = h
rest_params a (f ∷ fs) h = All-tail (λ (g : Field). SlotStands a (value_slot g.1)) f fs h

rest_stands : (a : Arena) (fs : List Field) (rest : Slots) → All (Stands a) (parts_in (field_slots fs rest)) → All (Stands a) (parts_in rest)
rest_stands a [] rest h = h
rest_stands a (f ∷ fs) rest h = rest_stands a fs rest (all_right (Stands a) (slot_refs (value_slot f.1)) (parts_in (field_slots fs rest)) h)

last_stands : (a : Arena) (o : Option ComponentValType) → All (Stands a) (parts_in ((here, option_slot o) ∷ [])) → OptionStands a o
last_stands a None h = tt
last_stands a (Some (v.Primitive q)) h = tt
last_stands a (Some (v.Ty i)) h = All-head (Stands a) (p.Defined i) [] h

all_stand : (a : Arena) (bound : ℕ) (qs : List Part) → All (StandsBefore a bound) qs → All (Stands a) qs
all_stand a bound qs h k x l = (h k x l).stands

pub func_stands : (a : Arena) (i : ComponentFuncTypeId) (s : ComponentFuncType) → All (StandsBefore a (rank (p.Func i))) (parts_of (n.Func s)) → FuncStands a s
func_stands a i s h =
    let last : Slots = (here, option_slot s.result) ∷ [] in
    let all : All (Stands a) (parts_in (field_slots s.params.items last)) = all_stand a (rank (p.Func i)) (parts_of (n.Func s)) h in
    record { params = fields_stand a s.params.items last all; result = last_stands a s.result (rest_stands a s.params.items last all) }

pub is_function : (a : Arena) (i : ComponentFuncTypeId) (s : ComponentFuncType) → tree_at a (p.Func i) ≡ unfolded a (place (p.Func i)) (n.Func s) → IsFunction a (tree_at a (p.Func i)) s
is_function a i s h = (i.index, h)

-- ## What is seen of it

params_are : (a : Arena) (fs : List Field) (s : Slot) → params (slot_parts (trees a.nodes) (field_slots fs ((here, s) ∷ []))) ≡ param_trees a fs
params_are a [] s = refl
params_are a (f ∷ fs) s = ap (λ (ps : Params). (f.0, slot_tree (trees a.nodes) (value_slot f.1)) ∷ ps) (params_are a fs s)

gives_is : (a : Arena) (fs : List Field) (s : Slot) → gives (slot_parts (trees a.nodes) (field_slots fs ((here, s) ∷ []))) ≡ slot_tree (trees a.nodes) s
gives_is a [] s = refl
gives_is a (f ∷ fs) s = gives_is a fs s

pub function_looks : (a : Arena) (t : Type_tree) (s : ComponentFuncType) (ns : Resource_names) (f : Form) → IsFunction a t s → fits ns f t ≡ function_fits ns f s.async_ (param_trees a s.params.items) (option_tree a s.result)
function_looks a t s ns f h =
    ap (fits ns f) h.1 ∙ ap (λ (ps : Params). function_fits ns f s.async_ ps (gives (slot_parts (trees a.nodes) (field_slots s.params.items ((here, option_slot s.result) ∷ []))))) (params_are a s.params.items (option_slot s.result)) ∙
    ap (function_fits ns f s.async_ (param_trees a s.params.items)) (gives_is a s.params.items (option_slot s.result))

pub function_gives : (a : Arena) (t : Type_tree) (s : ComponentFuncType) → IsFunction a t s → if_ok (option_tree a s.result) ≡ gotten t
function_gives a t s h = sym (ap gotten h.1 ∙ ap if_ok (gives_is a s.params.items (option_slot s.result)))

-- what it is for the function to be paired with the getter before it
pub function_pairs : (a : Arena) (t : Type_tree) (s : ComponentFuncType) (es : Entries) (f : Form) → IsFunction a t s → is_paired es f t ≡ is_paired_by (access_of f) (taken f (param_trees a s.params.items)) (getter_in f es)
function_pairs a t s es f h =
    ap (is_paired es f) h.1 ∙ ap (λ (ps : Params). is_paired_by (access_of f) (taken f ps) (getter_in f es)) (params_are a s.params.items (option_slot s.result))

-- ## What is no function

-- the sort is that of functions
abbrev is_of_func : Sort → Bool
is_of_func is_func = true
is_of_func _ = false

other_free : (t : Type_tree) (ns : Resource_names) (f : Form) → is_of_func (sort t) ≡ false → fits ns f t ≡ is_for_any_sort f
other_free (node (func i b) ps) ns f h = cc h
other_free (node nothing ps) ns f h = refl
other_free (node (primitive q) ps) ns f h = refl
other_free (node (resource r s) ps) ns f h = refl
other_free (node (defined i k) ps) ns f h = refl
other_free (node (instance i own) ps) ns f h = refl
other_free (node (component i x y) ps) ns f h = refl
other_free (node type_entity ps) ns f h = refl
other_free (node (core_module i k) ps) ns f h = refl
other_free (node (core_instance i k) ps) ns f h = refl
other_free (node (core_type k) ps) ns f h = refl
other_free (node (core_item e) ps) ns f h = refl

none_gotten : (t : Type_tree) → is_of_func (sort t) ≡ false → left_out ≡ gotten t
none_gotten (node (func i b) ps) h = cc h
none_gotten (node nothing ps) h = refl
none_gotten (node (primitive q) ps) h = refl
none_gotten (node (resource r s) ps) h = refl
none_gotten (node (defined i k) ps) h = refl
none_gotten (node (instance i own) ps) h = refl
none_gotten (node (component i x y) ps) h = refl
none_gotten (node type_entity ps) h = refl
none_gotten (node (core_module i k) ps) h = refl
none_gotten (node (core_instance i k) ps) h = refl
none_gotten (node (core_type k) ps) h = refl
none_gotten (node (core_item e) ps) h = refl

other_paired : (t : Type_tree) (es : Entries) (f : Form) → is_of_func (sort t) ≡ false → is_paired es f t ≡ true
other_paired (node (func i b) ps) es f h = cc h
other_paired (node nothing ps) es f h = refl
other_paired (node (primitive q) ps) es f h = refl
other_paired (node (resource r s) ps) es f h = refl
other_paired (node (defined i k) ps) es f h = refl
other_paired (node (instance i own) ps) es f h = refl
other_paired (node (component i x y) ps) es f h = refl
other_paired (node type_entity ps) es f h = refl
other_paired (node (core_module i k) ps) es f h = refl
other_paired (node (core_instance i k) ps) es f h = refl
other_paired (node (core_type k) ps) es f h = refl
other_paired (node (core_item e) ps) es f h = refl

-- what is no function has another sort
other_sort : (a : Arena) (x : ComponentEntityType) → EntityStands a x → func_part x ≡ None → is_of_func (sort (entity_tree (trees a.nodes) x)) ≡ false
other_sort a (entity.Func i) h e = cc e
other_sort a (entity.Module i) h e = ap is_of_func (sort_stands a (p.Module i) h)
other_sort a (entity.Value (v.Primitive q)) h e = refl
other_sort a (entity.Value (v.Ty i)) h e = ap is_of_func (sort_stands a (p.Defined i) h)
other_sort a (entity.Ty c r) h e = refl
other_sort a (entity.Instance i) h e = ap is_of_func (sort_stands a (p.Instance i) h)
other_sort a (entity.Component i) h e = ap is_of_func (sort_stands a (p.Component i) h)

pub other_looks : (a : Arena) (x : ComponentEntityType) (ns : Resource_names) (f : Form) → EntityStands a x → func_part x ≡ None → fits ns f (entity_tree (trees a.nodes) x) ≡ is_for_any_sort f
other_looks a x ns f h e = other_free (entity_tree (trees a.nodes) x) ns f (other_sort a x h e)

pub other_gives : (a : Arena) (x : ComponentEntityType) → EntityStands a x → func_part x ≡ None → left_out ≡ gotten (entity_tree (trees a.nodes) x)
other_gives a x h e = none_gotten (entity_tree (trees a.nodes) x) (other_sort a x h e)

pub other_pairs : (a : Arena) (x : ComponentEntityType) (es : Entries) (f : Form) → EntityStands a x → func_part x ≡ None → is_paired es f (entity_tree (trees a.nodes) x) ≡ true
other_pairs a x es f h e = other_paired (entity_tree (trees a.nodes) x) es f (other_sort a x h e)

-- ## Parts of entities

pub entity_func : (a : Arena) (x : ComponentEntityType) (i : ComponentFuncTypeId) → EntityStands a x → func_part x ≡ Some i → Stands a (p.Func i)
entity_func a (entity.Func j) i h e = subst (λ (y : ComponentFuncTypeId). Stands a (p.Func y)) (some e) h
  where
    some : {X : Type 0} {x y : X} → Some x ≡ Some y → x ≡ y
    some k = cc k
entity_func a _ i h e = cc e

pub entity_is_func : (a : Arena) (x : ComponentEntityType) (i : ComponentFuncTypeId) (s : ComponentFuncType) → func_part x ≡ Some i → IsFunction a (tree_at a (p.Func i)) s → IsFunction a (entity_tree (trees a.nodes) x) s
entity_is_func a (entity.Func j) i s e h = subst (λ (y : ComponentFuncTypeId). IsFunction a (tree_at a (p.Func y)) s) (sym (some e)) h
  where
    some : {X : Type 0} {x y : X} → Some x ≡ Some y → x ≡ y
    some k = cc k
entity_is_func a _ i s e h = cc e
