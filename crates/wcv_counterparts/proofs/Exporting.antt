-- What entries export, by ids.
use Rattle.std.proofs.Common.{◌≡◌, ℕ, zero, suc, ◌+◌, ◌<◌, length, get_or, drop, arith, List, [], ◌∷◌, ◌++◌, map, Bool, true, false, Option, None, Some, option_map, is_some, cond, eqb, nat_cmp, refl, sym, ◌∙◌, ap, subst}
use Rattle.wcv_core.specs.declared.core_types.EntityType.{EntityType}
use Rattle.wcv_types.specs.Arena.{Arena}
use Rattle.wcv_types.specs.Entities.{any_part, entity_slot, entity_tree, entry_tree, EntityStands, EntryStands, SlotStands}
use Rattle.std.specs.Prelude.{All, slice_get}
use Rattle.wcv_types.specs.Standing.{AllFit, Stands, StandsBefore}
use Rattle.wcv_types.specs.Tree.{Text, Extern_name, Head, resource, Role, here, label, import, export, core_import, core_export, none, part, Parts, first_part, rest_parts, head, referenced, sort_at, is_value, is_resource, is_func, is_instance, is_component, is_module, is_core_instance}
use Rattle.wcv_core.specs.Names.{Name}
use Rattle.wcv_types.specs.Unfold.{Type_tree, Slot, leaf, at, both, core, Slots, kind_slots, tree_at, tree_in, value_parts, value_slot, core_export_slots, core_import_slots, defined_slots, entry_slots, field_slots, option_slot, parts_in, parts_of, slot_parts, slot_refs, slot_tree, slots_of, trees, unfolded, value_slots}
use Rattle.wcv_types.specs.declared.arena.Node.{Node}
use Rattle.wcv_types.specs.declared.arena.Node.TheVariants as n
use Rattle.wcv_types.specs.declared.core_shapes.CoreInstanceTypeKind.{CoreInstanceTypeKind}
use Rattle.wcv_types.specs.declared.core_shapes.CoreInstanceTypeKind.TheVariants as kind
use Rattle.wcv_types.specs.declared.ids.ComponentAnyTypeId.{ComponentAnyTypeId}
use Rattle.wcv_types.specs.declared.ids.ComponentAnyTypeId.TheVariants as any
use Rattle.wcv_types.specs.declared.ids.Part.{Part}
use Rattle.wcv_types.specs.declared.ids.Part.TheVariants as p
use Rattle.wcv_types.specs.declared.component_type.ComponentType.{ComponentType}
use Rattle.wcv_types.specs.declared.ids.ComponentInstanceTypeId.{ComponentInstanceTypeId}
use Rattle.wcv_types.specs.declared.ids.ComponentTypeId.{ComponentTypeId}
use Rattle.wcv_types.specs.declared.item_map.ComponentItem.{ComponentItem}
use Rattle.wcv_types.specs.declared.shapes.ComponentDefinedType.{ComponentDefinedType}
use Rattle.wcv_types.specs.declared.shapes.ComponentDefinedType.TheVariants as d
use Rattle.wcv_types.specs.declared.shapes.ComponentEntityType.{ComponentEntityType}
use Rattle.wcv_types.specs.declared.shapes.ComponentEntityType.TheVariants as entity
use Rattle.wcv_types.specs.declared.shapes.ComponentValType.{ComponentValType}
use Rattle.wcv_types.specs.declared.shapes.ComponentValType.TheVariants as v
use Rattle.wcv_types.proofs.EntryParts.{component_exports}
use Rattle.wcv_types.proofs.Gathered.{parts_ready}
use Rattle.wcv_types.proofs.Knowing.{parts_in-append}
use Rattle.wcv_types.proofs.Unfolding.{all_left, all_right, parts_before, sort_stands, tree_in-unfolds}
use Rattle.std.specs.BTreeMap.{BTreeMap, get_by, Updates}
use Rattle.std.proofs.lemmas.Bool.{eqb-true}
use Rattle.wcv_counterparts.specs.IdCounterparts.{AreExportMaps, exporter}
use Rattle.wcv_atoms.specs.IdPasses.{as_resource, named_trees}
use Rattle.wcv_atoms.proofs.AtomLists.{number_told}
use Rattle.wcv_matching.proofs.ByName.{drop_none, some_one}
use Rattle.wcv_atoms.proofs.Walking.{at_drop}
use Rattle.wcv_matching.specs.Matching.{named, named_exports, named_exports_in}
use Rattle.wcv_matching.specs.NamedPaths.{and_then, entry, follow, resource_at}
use Rattle.wcv_atoms.specs.Readings.{resource_name}
use Rattle.wcv_matching.proofs.NamedLists.{map-map}
use Rattle.wcv_atoms.proofs.PassIds.{entries_stand, slot_there}

is_export : Role → Bool
is_export (export m) = true
is_export r = false

abbrev NoExports : Slots → Type 0
NoExports [] = Unit {0}
NoExports (s ∷ ss) = (is_export s.0 ≡ false) × NoExports ss

skipped : (r : Role) (t : Type_tree) (ps : Parts Name Name) → is_export r ≡ false → named_exports_in (part r t ps) ≡ named_exports_in ps
unfolding is_export
skipped here t ps h = refl
skipped (label m) t ps h = refl
skipped (import m) t ps h = refl
skipped (export m) t ps h = cc
skipped (core_import l m) t ps h = refl
skipped (core_export m) t ps h = refl

none_exported : (ts : List Type_tree) (ss : Slots) → NoExports ss → named_exports_in (slot_parts ts ss) ≡ []
none_exported ts [] h = refl
none_exported ts (s ∷ ss) h = skipped s.0 (slot_tree ts s.1) (slot_parts ts ss) h.0 ∙ none_exported ts ss h.1

plain_fields : (fs : List (Text × ComponentValType)) (rest : Slots) → NoExports rest → NoExports (field_slots fs rest)
unfolding is_export
plain_fields [] rest h = h
plain_fields (f ∷ fs) rest h = (refl, plain_fields fs rest h)

plain_values : {X : Type 0} (role : X → Role) (value : X → _) → ((x : X) → is_export (role x) ≡ false) → (xs : List X) → NoExports (value_slots (map (λ x. (role x, value x)) xs))
plain_values role value o [] = tt
plain_values role value o (x ∷ xs) = (o x, plain_values role value o xs)

plain_defined : (s : ComponentDefinedType) → NoExports (defined_slots s)
unfolding is_export
plain_defined (d.Record fs) = plain_values (λ f. label f.0) (λ f. _) (λ f. refl) fs.items
plain_defined (d.Variant cs) = plain_values (λ c. label c.0) (λ c. c.1) (λ c. refl) cs.items
plain_defined (d.Tuple ws) = plain_values (λ w. here) (λ w. _) (λ w. refl) ws.items
plain_defined (d.Map k w) = (refl, (refl, tt))
plain_defined (d.Result o e) = (refl, (refl, tt))
plain_defined (d.Primitive q) = tt
plain_defined (d.Flags ms) = tt
plain_defined (d.Enum ms) = tt
plain_defined x = (refl, tt)

plain_imports : (is : List ((Text × Text) × EntityType)) (es : List (Text × EntityType)) → NoExports (core_import_slots is ++ core_export_slots es)
unfolding is_export
plain_imports [] [] = tt
plain_imports [] (e ∷ es) = (refl, plain_imports [] es)
plain_imports (i ∷ is) es = (refl, plain_imports is es)

-- what is no instance and no component exports nothing
pub no_exports : (a : Arena) → AllFit a → (x : ComponentEntityType) → EntityStands a x → ((i : ComponentInstanceTypeId) → x ≡ entity.Instance i → ⊥) → ((i : ComponentTypeId) → x ≡ entity.Component i → ⊥) →
    named_exports (entity_tree (trees a.nodes) x) ≡ []
unfolding is_export
no_exports a fit (entity.Module i) s o u = ap (λ (t : Type_tree). named_exports t) (tree_in-unfolds a i.index (n.Module s.0) fit s.1) ∙ none_exported (trees a.nodes) (slots_of (n.Module s.0)) (plain_imports s.0.imports s.0.exports)
no_exports a fit (entity.Func i) s o u = ap (λ (t : Type_tree). named_exports t) (tree_in-unfolds a i.index (n.Func s.0) fit s.1) ∙ none_exported (trees a.nodes) (slots_of (n.Func s.0)) (plain_fields s.0.params.items ((here, option_slot s.0.result) ∷ []) (refl, tt))
no_exports a fit (entity.Value (v.Primitive q)) s o u = refl
no_exports a fit (entity.Value (v.Ty i)) s o u = ap (λ (t : Type_tree). named_exports t) (tree_in-unfolds a i.index (n.Defined s.0) fit s.1) ∙ none_exported (trees a.nodes) (slots_of (n.Defined s.0)) (plain_defined s.0)
no_exports a fit (entity.Ty c r) s o u = refl
no_exports a fit (entity.Instance i) s o u = absurd (o i refl)
no_exports a fit (entity.Component i) s o u = absurd (u i refl)

-- ## Components by ids

pub component_names : (a : Arena) (i : ℕ) (s : ComponentType) (t : Type_tree) → t ≡ unfolded a i (n.Component s) → named_exports t ≡ named_trees (trees a.nodes) s.exports
component_names a i s t e =
    ap (λ (w : Type_tree). named_exports w) e ∙ ap (λ (es : _). named es) (component_exports (trees a.nodes) s.imports s.exports) ∙ map-map (λ (w : _). (w.0.name, w.1)) (entry_tree (trees a.nodes)) s.exports

-- ## References

-- no reference to a resource stands there
abbrev NoReference : Slot → Type 0
NoReference (at (p.Resource r)) = ⊥
NoReference s = Unit {0}

plain_sort : (h : Head Name Name) → (sort_at h ≡ is_resource → ⊥) → resource_at h ≡ None
plain_sort (resource r s) o = absurd (o refl)
plain_sort _ o = refl

no_reference : (a : Arena) (s : Slot) → SlotStands a s → NoReference s → resource_at (head (slot_tree (trees a.nodes) s)) ≡ None
no_reference a (leaf None) t w = refl
no_reference a (leaf (Some q)) t w = refl
no_reference a (both c r) t w = refl
no_reference a (core e) t w = refl
no_reference a (at (p.Resource r)) t w = absurd w
no_reference a (at (p.Core i)) t w = refl
no_reference a (at (p.Defined i)) t w = plain_sort _ (λ e. let z : is_value ≡ is_resource = sym (sort_stands a (p.Defined i) t) ∙ e in cc)
no_reference a (at (p.Func i)) t w = plain_sort _ (λ e. let z : is_func ≡ is_resource = sym (sort_stands a (p.Func i) t) ∙ e in cc)
no_reference a (at (p.Instance i)) t w = plain_sort _ (λ e. let z : is_instance ≡ is_resource = sym (sort_stands a (p.Instance i) t) ∙ e in cc)
no_reference a (at (p.Component i)) t w = plain_sort _ (λ e. let z : is_component ≡ is_resource = sym (sort_stands a (p.Component i) t) ∙ e in cc)
no_reference a (at (p.Module i)) t w = plain_sort _ (λ e. let z : is_module ≡ is_resource = sym (sort_stands a (p.Module i) t) ∙ e in cc)
no_reference a (at (p.CoreInstance i)) t w = plain_sort _ (λ e. let z : is_core_instance ≡ is_resource = sym (sort_stands a (p.CoreInstance i) t) ∙ e in cc)

-- of slots with two or more, the second is none
abbrev SecondPlain : Arena → Slots → Type 0
SecondPlain a (s ∷ t ∷ ss) = SlotStands a t.1 × NoReference t.1
SecondPlain a ss = Unit {0}

second_plain : (a : Arena) (ss : Slots) → SecondPlain a ss → resource_at (head (first_part (rest_parts (slot_parts (trees a.nodes) ss)))) ≡ None
second_plain a [] w = refl
second_plain a (s ∷ []) w = refl
second_plain a (s ∷ t ∷ ss) w = no_reference a t.1 w.0 w.1

value_plain : (w : ComponentValType) → NoReference (value_slot w)
value_plain (v.Primitive q) = tt
value_plain (v.Ty i) = tt

option_plain : (o : Option ComponentValType) → NoReference (option_slot o)
option_plain None = tt
option_plain (Some w) = value_plain w

entity_plain : (x : ComponentEntityType) → NoReference (entity_slot x)
entity_plain (entity.Module i) = tt
entity_plain (entity.Func i) = tt
entity_plain (entity.Value w) = value_plain w
entity_plain (entity.Ty c r) = tt
entity_plain (entity.Instance i) = tt
entity_plain (entity.Component i) = tt

-- where each is none and stands
abbrev AllPlain : Slots → Type 0
AllPlain [] = Unit {0}
AllPlain (s ∷ ss) = NoReference s.1 × AllPlain ss

plain_second : (a : Arena) (ss : Slots) → All (Stands a) (parts_in ss) → AllPlain ss → SecondPlain a ss
plain_second a [] h w = tt
plain_second a (s ∷ []) h w = tt
plain_second a (s ∷ t ∷ ss) h w = (slot_there a t.1 (all_left (Stands a) (slot_refs t.1) (parts_in ss) (all_right (Stands a) (slot_refs s.1) (slot_refs t.1 ++ parts_in ss) h)), w.1.0)

fields_all : (fs : List (Text × ComponentValType)) (rest : Slots) → AllPlain rest → AllPlain (field_slots fs rest)
fields_all [] rest h = h
fields_all (f ∷ fs) rest h = (value_plain f.1, fields_all fs rest h)

values_all : (ps : List (Role × Option ComponentValType)) → AllPlain (value_slots ps)
values_all [] = tt
values_all (q ∷ ps) = (option_plain q.1, values_all ps)

core_all : (is : List ((Text × Text) × EntityType)) (es : List (Text × EntityType)) → AllPlain (core_import_slots is ++ core_export_slots es)
core_all [] [] = tt
core_all [] (e ∷ es) = (tt, core_all [] es)
core_all (i ∷ is) es = (tt, core_all is es)

entries_all : (role : Extern_name → Role) (es : List (Text × ComponentItem)) → AllPlain (entry_slots role es)
entries_all role [] = tt
entries_all role (e ∷ es) = (entity_plain e.1.ty, entries_all role es)

both_all : (ss rs : Slots) → AllPlain ss → AllPlain rs → AllPlain (ss ++ rs)
both_all [] rs h k = k
both_all (s ∷ ss) rs h k = (h.0, both_all ss rs h.1 k)

defined_second : (a : Arena) (s : ComponentDefinedType) → All (Stands a) (parts_in (defined_slots s)) → SecondPlain a (defined_slots s)
defined_second a (d.Own r) h = tt
defined_second a (d.Borrow r) h = tt
defined_second a (d.Record fs) h = plain_second a _ h (values_all _)
defined_second a (d.Variant cs) h = plain_second a _ h (values_all _)
defined_second a (d.Tuple ws) h = plain_second a _ h (values_all _)
defined_second a (d.Map k w) h = plain_second a (value_slots (value_parts (d.Map k w))) h (values_all (value_parts (d.Map k w)))
defined_second a (d.Result o e) h = plain_second a (value_slots (value_parts (d.Result o e))) h (values_all (value_parts (d.Result o e)))
defined_second a x h = tt

node_second : (a : Arena) (x : Node) → All (Stands a) (parts_of x) → SecondPlain a (slots_of x)
node_second a (n.Defined s) h = defined_second a s h
node_second a (n.Func s) h = plain_second a _ h (fields_all s.params.items ((here, option_slot s.result) ∷ []) (option_plain s.result, tt))
node_second a (n.Instance s) h = plain_second a _ h (entries_all export s.exports)
node_second a (n.Component s) h = plain_second a _ h (both_all _ _ (entries_all import s.imports) (entries_all export s.exports))
node_second a (n.Module s) h = plain_second a _ h (core_all s.imports s.exports)
node_second a (n.CoreInstance s) h = kind_second a s.kind
  where
    kind_second : (a : Arena) (c : CoreInstanceTypeKind) → SecondPlain a (kind_slots c)
    kind_second a (kind.Instantiated m) = tt
    kind_second a (kind.Exports []) = tt
    kind_second a (kind.Exports (e ∷ [])) = tt
    kind_second a (kind.Exports (e ∷ f ∷ es)) = (tt, tt)

node_no_resource : (a : Arena) (k : ℕ) (x : Node) → AllFit a → slice_get a.nodes k ≡ Some x → resource_at (head (referenced (tree_in (trees a.nodes) k))) ≡ None
node_no_resource a k x fit e =
    ap (λ (t : Type_tree). resource_at (head (referenced t))) (tree_in-unfolds a k x fit e) ∙
    second_plain a (slots_of x) (node_second a x (parts_ready a (suc k) (parts_of x) (parts_of x) refl (parts_before a k x fit e) (omega arith)).1)

pub no_resource_there : (a : Arena) → AllFit a → (x : ComponentEntityType) → EntityStands a x → ((c r : ComponentAnyTypeId) → x ≡ entity.Ty c r → ⊥) → resource_at (head (referenced (entity_tree (trees a.nodes) x))) ≡ None
no_resource_there a fit (entity.Module i) s o = node_no_resource a i.index (n.Module s.0) fit s.1
no_resource_there a fit (entity.Func i) s o = node_no_resource a i.index (n.Func s.0) fit s.1
no_resource_there a fit (entity.Value (v.Primitive q)) s o = refl
no_resource_there a fit (entity.Value (v.Ty i)) s o = node_no_resource a i.index (n.Defined s.0) fit s.1
no_resource_there a fit (entity.Ty c r) s o = absurd (o c r refl)
no_resource_there a fit (entity.Instance i) s o = node_no_resource a i.index (n.Instance s.0) fit s.1
no_resource_there a fit (entity.Component i) s o = node_no_resource a i.index (n.Component s.0) fit s.1

-- what a type refers to
pub referred : (a : Arena) (r : ComponentAnyTypeId) → Stands a (any_part r) → option_map resource_name (as_resource r) ≡ resource_at (head (tree_at a (any_part r)))
referred a (any.Resource r) s = refl
referred a (any.Defined i) s = sym (no_reference a (at (p.Defined i)) s tt)
referred a (any.Func i) s = sym (no_reference a (at (p.Func i)) s tt)
referred a (any.Instance i) s = sym (no_reference a (at (p.Instance i)) s tt)
referred a (any.Component i) s = sym (no_reference a (at (p.Component i)) s tt)

-- the exports of a component type stand
pub component_stands : (a : Arena) (i : ℕ) (s : ComponentType) → All (StandsBefore a (suc i)) (parts_of (n.Component s)) → All (EntryStands a) s.exports
component_stands a i s h =
    entries_stand a export s.exports (all_right (Stands a) (parts_in (entry_slots import s.imports)) (parts_in (entry_slots export s.exports))
    (subst (λ (qs : List Part). All (Stands a) qs) (parts_in-append (entry_slots import s.imports) (entry_slots export s.exports)) (parts_ready a (suc i) (parts_of (n.Component s)) (parts_of (n.Component s)) refl h (omega arith)).1))

-- ## Maps of exports

pub no_exporter : (x : ComponentEntityType) → ((i : ComponentInstanceTypeId) → x ≡ entity.Instance i → ⊥) → ((i : ComponentTypeId) → x ≡ entity.Component i → ⊥) → false ≡ is_some (exporter x)
no_exporter (entity.Instance i) o u = absurd (o i refl)
no_exporter (entity.Component i) o u = absurd (u i refl)
no_exporter _ o u = refl

exporter_tree : (ts : List Type_tree) (x : ComponentEntityType) (k : ℕ) → exporter x ≡ Some k → entity_tree ts x ≡ tree_in ts k
exporter_tree ts (entity.Instance i) k e = ap (tree_in ts) (some_one i.index k e)
exporter_tree ts (entity.Component i) k e = ap (tree_in ts) (some_one i.index k e)
exporter_tree ts (entity.Module i) k e = cc
exporter_tree ts (entity.Func i) k e = cc
exporter_tree ts (entity.Value w) k e = cc
exporter_tree ts (entity.Ty c r) k e = cc

pub exports_kept : (a : Arena) (m l : BTreeMap ℕ (List (Text × ComponentItem))) (x : ComponentEntityType) (k : ℕ) (es : List (Text × ComponentItem)) → AreExportMaps a m → exporter x ≡ Some k → Updates nat_cmp m l k (Some es) →
    named_exports (entity_tree (trees a.nodes) x) ≡ named_trees (trees a.nodes) es → All (EntryStands a) es → AreExportMaps a l
exports_kept a m l x k es old e u h w y j fs s f g = go (eqb j k) refl (sym (u.0 j ∙ ap (λ (b : Bool). cond b (Some es) (get_by (λ i. nat_cmp j i) m)) (number_told k j)) ∙ g)
  where
    go : (b : Bool) → eqb j k ≡ b → cond b (Some es) (get_by (λ i. nat_cmp j i) m) ≡ Some fs → (named_exports (entity_tree (trees a.nodes) y) ≡ named_trees (trees a.nodes) fs) × All (EntryStands a) fs
    go false q r = old y j fs s f r
    go true q r =
        let is : es ≡ fs = some_one es fs r in
        let at : j ≡ k = eqb-true j k q in
        let same : entity_tree (trees a.nodes) y ≡ entity_tree (trees a.nodes) x = exporter_tree (trees a.nodes) y j f ∙ ap (tree_in (trees a.nodes)) at ∙ sym (exporter_tree (trees a.nodes) x k e) in
        (ap (λ (t : Type_tree). named_exports t) same ∙ h ∙ ap (named_trees (trees a.nodes)) is, subst (λ (gs : List (Text × ComponentItem)). All (EntryStands a) gs) is w)

-- ## Paths

-- where the rest of a path leads from two entries
abbrev pub lands : Type_tree → Type_tree → List ℕ → Option Name
lands e x [] = resource_at (head (referenced x))
lands e x (j ∷ q) = follow (j ∷ q) (named_exports e) (named_exports x)

pub follow_first : (k : ℕ) (q : List ℕ) (es xs : List (Text × Type_tree)) → follow (k ∷ q) es xs ≡ and_then (slice_get es k) (λ e. and_then (entry e.0 xs) (λ x. lands e.1 x q))
follow_first k [] es xs = refl
follow_first k (j ∷ q) es xs = refl

module _ (path : List ℕ) (i k : ℕ) (at_k : slice_get path i ≡ Some k) (es xs : List (Text × Type_tree)) where
  dropped : follow (drop i path) es xs ≡ and_then (slice_get es k) (λ e. and_then (entry e.0 xs) (λ x. lands e.1 x (drop (i + 1) path)))
  dropped = ap (λ (q : List ℕ). follow q es xs) (at_drop path i k at_k) ∙ follow_first k (drop (i + 1) path) es xs

  pub no_place : slice_get es k ≡ None → follow (drop i path) es xs ≡ None
  no_place h = dropped ∙ ap (λ (o : Option (Text × Type_tree)). and_then o (λ e. and_then (entry e.0 xs) (λ x. lands e.1 x (drop (i + 1) path)))) h

  pub no_name : (e : Text × Type_tree) → slice_get es k ≡ Some e → entry e.0 xs ≡ None → follow (drop i path) es xs ≡ None
  no_name e h n =
      dropped ∙ ap (λ (o : Option (Text × Type_tree)). and_then o (λ e. and_then (entry e.0 xs) (λ x. lands e.1 x (drop (i + 1) path)))) h ∙
      ap (λ (o : Option Type_tree). and_then o (λ x. lands e.1 x (drop (i + 1) path))) n

  pub goes_on : (e : Text × Type_tree) (x : Type_tree) → slice_get es k ≡ Some e → entry e.0 xs ≡ Some x → follow (drop i path) es xs ≡ lands e.1 x (drop (i + 1) path)
  goes_on e x h n =
      dropped ∙ ap (λ (o : Option (Text × Type_tree)). and_then o (λ e. and_then (entry e.0 xs) (λ x. lands e.1 x (drop (i + 1) path)))) h ∙
      ap (λ (o : Option Type_tree). and_then o (λ x. lands e.1 x (drop (i + 1) path))) n

  pub lands_as : (e x : Type_tree) → named_exports e ≡ es → named_exports x ≡ xs → lands e x (drop i path) ≡ follow (drop i path) es xs
  lands_as e x h n =
      ap (lands e x) (at_drop path i k at_k) ∙ (λ j. follow (k ∷ drop (i + 1) path) (h j) (n j)) ∙ sym (ap (λ (q : List ℕ). follow q es xs) (at_drop path i k at_k))

pub follow_whole : (path : List ℕ) (es xs : List (Text × Type_tree)) → follow path es xs ≡ follow (drop 0 path) es xs
follow_whole path es xs = ap (λ (q : List ℕ). follow q es xs) (sym (drop_none path))

pub no_more : (path : List ℕ) (i k : ℕ) → slice_get path i ≡ Some k → (xs : List (Text × Type_tree)) → follow (drop i path) [] xs ≡ None
no_more path i k e xs = no_place path i k e [] xs refl

pub path_at : (path : List ℕ) (i : ℕ) → i < length path → slice_get path i ≡ Some (get_or path i 0)
path_at [] i l = absurd (omega (arith, l))
path_at (k ∷ path) zero l = refl
path_at (k ∷ path) (suc i) l = path_at path i (omega (arith, l))

-- where there is no map
pub no_maps : (a : Arena) (m : BTreeMap ℕ (List (Text × ComponentItem))) → ((k : ℕ) → get_by (λ j. nat_cmp k j) m ≡ None) → AreExportMaps a m
no_maps a m n x k es s e h = let f : None ≡ Some es = sym (n k) ∙ h in cc
