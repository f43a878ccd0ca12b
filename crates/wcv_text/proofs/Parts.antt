-- What is written before a node's own line: its parts, or the groups that its core items name.
use Rattle.std.proofs.Common.{◌≡◌, ℕ, List, [], ◌∷◌, ◌++◌, map, refl, sym, ◌∙◌, ap, subst, Option, Some, None}
use Rattle.std.specs.Prelude.{slice_get, All}
use Rattle.std.proofs.lemmas.List.Elements.{All-cons, All-get_or, All-nil}
use Rattle.std.proofs.lemmas.Option.{get_or_from_slice_get, slice_get_within}
use Rattle.wcv_core.specs.declared.core_types.EntityType.{EntityType}
use Rattle.wcv_types.specs.Arena.{Arena}
use Rattle.wcv_types.specs.CoreText.{item_ids}
use Rattle.wcv_types.specs.Standing.{HasIdentity, core_items, kind_items}
use Rattle.wcv_types.specs.Text.{Written, write, write_parts, write_groups}
use Rattle.wcv_types.specs.Tree.{Text, Extern_name, Role, here, import, export}
use Rattle.wcv_types.specs.Unfold.{any_part, Slot, leaf, at, both, core, Slots, value_slot, option_slot, value_slots, field_slots, entity_slot, entry_slots, core_import_slots, core_export_slots, defined_slots, kind_slots, value_parts, slots_of, slots_if, slots_at, slot_parts, parts_in, parts_of, parts_at, trees, tree_at}
use Rattle.wcv_types.specs.declared.arena.Node.{Node}
use Rattle.wcv_types.specs.declared.arena.Node.TheVariants as n
use Rattle.wcv_types.specs.declared.core_shapes.CoreInstanceTypeKind.{CoreInstanceTypeKind}
use Rattle.wcv_types.specs.declared.core_shapes.CoreInstanceTypeKind.TheVariants as kind
use Rattle.wcv_types.specs.declared.ids.ComponentAnyTypeId.{ComponentAnyTypeId}
use Rattle.wcv_types.specs.declared.ids.ComponentAnyTypeId.TheVariants as any
use Rattle.wcv_types.specs.declared.ids.Part.{Part}
use Rattle.wcv_types.specs.declared.ids.Part.TheVariants as p
use Rattle.wcv_types.specs.declared.item_map.ComponentItem.{ComponentItem}
use Rattle.wcv_types.specs.declared.shapes.ComponentDefinedType.{ComponentDefinedType}
use Rattle.wcv_types.specs.declared.shapes.ComponentDefinedType.TheVariants as d
use Rattle.wcv_types.specs.declared.shapes.ComponentEntityType.{ComponentEntityType}
use Rattle.wcv_types.specs.declared.shapes.ComponentEntityType.TheVariants as entity
use Rattle.wcv_types.specs.declared.shapes.ComponentValType.{ComponentValType}
use Rattle.wcv_types.specs.declared.shapes.ComponentValType.TheVariants as v
use Rattle.wcv_text.specs.EntryList.{write_items}
use Rattle.wcv_text.specs.Nodes.{items_at, items_if, write_all}

-- ## Slots without core items, whose parts get lines

abbrev IsPart : Slot → Type 0
IsPart (leaf o) = Unit {0}
IsPart (at q) = HasIdentity q
IsPart (both c r) = HasIdentity c × HasIdentity r
IsPart (core e) = ⊥

abbrev ArePart : Slots → Type 0
ArePart [] = Unit {0}
ArePart (s ∷ ss) = IsPart s.1 × ArePart ss

value_part : (t : ComponentValType) → IsPart (value_slot t)
value_part (v.Primitive q) = tt
value_part (v.Ty i) = tt

option_part : (o : Option ComponentValType) → IsPart (option_slot o)
option_part None = tt
option_part (Some t) = value_part t

value_slots_part : (ps : List (Role × Option ComponentValType)) → ArePart (value_slots ps)
value_slots_part [] = tt
value_slots_part (x ∷ ps) = (option_part x.1, value_slots_part ps)

field_slots_part : (fs : List (Text × ComponentValType)) (rest : Slots) → ArePart rest → ArePart (field_slots fs rest)
field_slots_part [] rest h = h
field_slots_part (f ∷ fs) rest h = (value_part f.1, field_slots_part fs rest h)

defined_part : (s : ComponentDefinedType) → ArePart (defined_slots s)
defined_part (d.Own r) = (tt, tt)
defined_part (d.Borrow r) = (tt, tt)
defined_part (d.Primitive q) = value_slots_part (value_parts (d.Primitive q))
defined_part (d.Record fs) = value_slots_part (value_parts (d.Record fs))
defined_part (d.Variant cs) = value_slots_part (value_parts (d.Variant cs))
defined_part (d.List t) = value_slots_part (value_parts (d.List t))
defined_part (d.Map k t) = value_slots_part (value_parts (d.Map k t))
defined_part (d.FixedLengthList t m) = value_slots_part (value_parts (d.FixedLengthList t m))
defined_part (d.Tuple ts) = value_slots_part (value_parts (d.Tuple ts))
defined_part (d.Flags ns) = value_slots_part (value_parts (d.Flags ns))
defined_part (d.Enum ns) = value_slots_part (value_parts (d.Enum ns))
defined_part (d.Option t) = value_slots_part (value_parts (d.Option t))
defined_part (d.Result o e) = value_slots_part (value_parts (d.Result o e))
defined_part (d.Future o) = value_slots_part (value_parts (d.Future o))
defined_part (d.Stream o) = value_slots_part (value_parts (d.Stream o))

pub any_line : (c : ComponentAnyTypeId) → HasIdentity (any_part c)
any_line (any.Resource r) = tt
any_line (any.Defined i) = tt
any_line (any.Func i) = tt
any_line (any.Instance i) = tt
any_line (any.Component i) = tt

entity_part : (x : ComponentEntityType) → IsPart (entity_slot x)
entity_part (entity.Module i) = tt
entity_part (entity.Func i) = tt
entity_part (entity.Value t) = value_part t
entity_part (entity.Ty c r) = (any_line c, any_line r)
entity_part (entity.Instance i) = tt
entity_part (entity.Component i) = tt

entries_part : (role : Extern_name → Role) (es : List (Text × ComponentItem)) (rest : Slots) → ArePart rest → ArePart (entry_slots role es ++ rest)
entries_part role [] rest h = h
entries_part role (e ∷ es) rest h = (entity_part e.1.ty, entries_part role es rest h)

entries_alone : (role : Extern_name → Role) (es : List (Text × ComponentItem)) → ArePart (entry_slots role es)
entries_alone role [] = tt
entries_alone role (e ∷ es) = (entity_part e.1.ty, entries_alone role es)

slots_written : (a : Arena) (w : Written) (ss : Slots) → ArePart ss → write_parts w (slot_parts (trees a.nodes) ss) ≡ write_all a w (parts_in ss)
slots_written a w [] h = refl
slots_written a w ((r, leaf None) ∷ ss) h = slots_written a w ss h.1
slots_written a w ((r, leaf (Some o)) ∷ ss) h = slots_written a w ss h.1
slots_written a w ((r, at q) ∷ ss) h = slots_written a (write w (tree_at a q)) ss h.1
slots_written a w ((r, both c q) ∷ ss) h = slots_written a (write (write w (tree_at a c)) (tree_at a q)) ss h.1
slots_written a w ((r, core e) ∷ ss) h = absurd h.0

-- ## Core items

exports_none : (es : List (Text × EntityType)) → parts_in (core_export_slots es) ≡ []
exports_none [] = refl
exports_none (e ∷ es) = exports_none es

module_none : (is : List ((Text × Text) × EntityType)) (es : List (Text × EntityType)) → parts_in (core_import_slots is ++ core_export_slots es) ≡ []
module_none [] es = exports_none es
module_none (i ∷ is) es = module_none is es

exports_written : (a : Arena) (w : Written) (es : List (Text × EntityType)) → write_parts w (slot_parts (trees a.nodes) (core_export_slots es)) ≡ write_items (map (λ e. e.1) es) w
exports_written a w [] = refl
exports_written a w (e ∷ es) = exports_written a (write_groups w (item_ids e.1)) es

module_written : (a : Arena) (w : Written) (is : List ((Text × Text) × EntityType)) (es : List (Text × EntityType)) →
    write_parts w (slot_parts (trees a.nodes) (core_import_slots is ++ core_export_slots es)) ≡ write_items (map (λ i. i.1) is ++ map (λ e. e.1) es) w
module_written a w [] es = exports_written a w es
module_written a w (i ∷ is) es = module_written a (write_groups w (item_ids i.1)) is es

-- ## Nodes

kind_written : (a : Arena) (w : Written) (k : CoreInstanceTypeKind) → write_parts w (slot_parts (trees a.nodes) (kind_slots k)) ≡ write_items (kind_items k) (write_all a w (parts_in (kind_slots k)))
kind_written a w (kind.Instantiated m) = refl
kind_written a w (kind.Exports es) = exports_written a w es ∙ ap (λ (qs : List Part). write_items (map (λ e. e.1) es) (write_all a w qs)) (sym (exports_none es))

node_written : (a : Arena) (w : Written) (x : Node) → write_parts w (slot_parts (trees a.nodes) (slots_of x)) ≡ write_items (core_items x) (write_all a w (parts_of x))
node_written a w (n.Defined s) = slots_written a w (slots_of (n.Defined s)) (defined_part s)
node_written a w (n.Func s) = slots_written a w (slots_of (n.Func s)) (field_slots_part s.params.items ((here, option_slot s.result) ∷ []) (option_part s.result, tt))
node_written a w (n.Instance s) = slots_written a w (slots_of (n.Instance s)) (entries_alone export s.exports)
node_written a w (n.Component s) = slots_written a w (slots_of (n.Component s)) (entries_part import s.imports (entry_slots export s.exports) (entries_alone export s.exports))
node_written a w (n.Module s) =
    module_written a w s.imports s.exports ∙ ap (λ (qs : List Part). write_items (core_items (n.Module s)) (write_all a w qs)) (sym (module_none s.imports s.exports))
node_written a w (n.CoreInstance s) = kind_written a w s.kind

if_written : (a : Arena) (w : Written) (o : Option Node) → write_parts w (slot_parts (trees a.nodes) (slots_if o)) ≡ write_items (items_if o) (write_all a w (parts_in (slots_if o)))
if_written a w None = refl
if_written a w (Some x) = node_written a w x

-- the parts of a type are written in order, and then the groups that its core items name
pub parts_written : (a : Arena) (w : Written) (q : Part) → write_parts w (slot_parts (trees a.nodes) (slots_at a.nodes q)) ≡ write_items (items_at a q) (write_all a w (parts_at a q))
parts_written a w (p.Resource r) = refl
parts_written a w (p.Core i) = refl
parts_written a w (p.Defined i) = if_written a w (slice_get a.nodes i.index)
parts_written a w (p.Func i) = if_written a w (slice_get a.nodes i.index)
parts_written a w (p.Instance i) = if_written a w (slice_get a.nodes i.index)
parts_written a w (p.Component i) = if_written a w (slice_get a.nodes i.index)
parts_written a w (p.Module i) = if_written a w (slice_get a.nodes i.index)
parts_written a w (p.CoreInstance i) = if_written a w (slice_get a.nodes i.index)

-- ## Parts of nodes are no core types

parts_line : (ss : Slots) → ArePart ss → All HasIdentity (parts_in ss)
parts_line [] h = All-nil HasIdentity
parts_line ((r, leaf o) ∷ ss) h = parts_line ss h.1
parts_line ((r, at q) ∷ ss) h = All-cons HasIdentity q (parts_in ss) h.0 (parts_line ss h.1)
parts_line ((r, both c q) ∷ ss) h = All-cons HasIdentity c (q ∷ parts_in ss) h.0.0 (All-cons HasIdentity q (parts_in ss) h.0.1 (parts_line ss h.1))
parts_line ((r, core e) ∷ ss) h = absurd h.0

kind_line : (k : CoreInstanceTypeKind) → All HasIdentity (parts_in (kind_slots k))
kind_line (kind.Instantiated m) = All-cons HasIdentity (p.Module m) [] tt (All-nil HasIdentity)
kind_line (kind.Exports es) = subst (All HasIdentity) (sym (exports_none es)) (All-nil HasIdentity)

node_line : (x : Node) → All HasIdentity (parts_of x)
node_line (n.Defined s) = parts_line (slots_of (n.Defined s)) (defined_part s)
node_line (n.Func s) = parts_line (slots_of (n.Func s)) (field_slots_part s.params.items ((here, option_slot s.result) ∷ []) (option_part s.result, tt))
node_line (n.Instance s) = parts_line (slots_of (n.Instance s)) (entries_alone export s.exports)
node_line (n.Component s) = parts_line (slots_of (n.Component s)) (entries_part import s.imports (entry_slots export s.exports) (entries_alone export s.exports))
node_line (n.Module s) = subst (All HasIdentity) (sym (module_none s.imports s.exports)) (All-nil HasIdentity)
node_line (n.CoreInstance s) = kind_line s.kind

if_line : (o : Option Node) → All HasIdentity (parts_in (slots_if o))
if_line None = All-nil HasIdentity
if_line (Some x) = node_line x

all_line : (a : Arena) (q : Part) → All HasIdentity (parts_at a q)
all_line a (p.Resource r) = All-nil HasIdentity
all_line a (p.Core i) = All-nil HasIdentity
all_line a (p.Defined i) = if_line (slice_get a.nodes i.index)
all_line a (p.Func i) = if_line (slice_get a.nodes i.index)
all_line a (p.Instance i) = if_line (slice_get a.nodes i.index)
all_line a (p.Component i) = if_line (slice_get a.nodes i.index)
all_line a (p.Module i) = if_line (slice_get a.nodes i.index)
all_line a (p.CoreInstance i) = if_line (slice_get a.nodes i.index)

pub part_line : (a : Arena) (q r : Part) (k : ℕ) → slice_get (parts_at a q) k ≡ Some r → HasIdentity r
part_line a q r k h =
    subst HasIdentity (get_or_from_slice_get (parts_at a q) k r r h) (All-get_or HasIdentity (parts_at a q) k r (slice_get_within (parts_at a q) k r h) (all_line a q))
