-- What items append to the instances is an instance, to the core modules a core module, and nothing is free in what they append to the
-- core types.
use Rattle.std.proofs.Common.{◌≡◌, ℕ, zero, suc, List, [], ◌∷◌, ◌++◌, Bool, true, false, ◌&&◌, not, cond, refl, ap, Some, None}
use Rattle.std.specs.Prelude.{All, Option, slice_get}
use Rattle.std.specs.Option.{option_map}
use Rattle.std.specs.List.{list_all}
use Rattle.std.proofs.lemmas.List.Elements.{All-nil, All-cons, All-append, All-head, All-tail, All-push}
use Rattle.wcv_core.specs.CoreForm.{Group}
use Rattle.wcv_core.specs.CoreJoining.{first_id, group_ids, grown}
use Rattle.wcv_core.specs.CoreWritten.{closed_group}
use Rattle.wcv_core.specs.Names.{Name, Place, base}
use Rattle.wcv_core.specs.declared.core_types.EntityType.TheVariants as entity
use Rattle.wcv_core.specs.declared.features.WasmFeatures.{WasmFeatures}
use Rattle.wcv_syntax.specs.Model.{Form, core_type_item, core_module_item, core_instance_item, type_item, import_item, export_item, component_item, instance_item, alias_item, start_item, canon_item, Type_form, defined_type, func_type, component_type, instance_type, resource_type, Core_type_form, core_rec, core_module_type, Instance_form, instantiate, bag}
use Rattle.wcv_syntax.specs.ModuleTypes.{Module_type, Made}
use Rattle.wcv_syntax.specs.declared.core_section.ExternalKind.{ExternalKind}
use Rattle.wcv_syntax.specs.declared.core_section.ExternalKind.TheVariants as external
use Rattle.wcv_syntax.specs.declared.instance.ComponentAlias.{ComponentAlias}
use Rattle.wcv_syntax.specs.declared.instance.ComponentAlias.TheVariants as alias
use Rattle.wcv_syntax.specs.declared.instance.ComponentOuterAliasKind.{ComponentOuterAliasKind}
use Rattle.wcv_syntax.specs.declared.instance.ComponentOuterAliasKind.TheVariants as outer
use Rattle.wcv_types.specs.Tree.{Extern_name, Sort, is_nothing, is_value, is_resource, is_func, is_instance, is_component, is_type, is_module, is_core_instance, is_core_type, is_core_item, sort}
use Rattle.wcv_lower.specs.Aliases.{joining, outer_items, outer_at, outer_joins, is_charged, concrete_at, charged, alias_step}
use Rattle.wcv_lower.specs.Checks.{is_none}
use Rattle.wcv_lower.specs.Context.{in_types, in_funcs, in_values, in_instances, in_components, core_types, core_funcs, core_modules, core_instances, Core_space, Side, importing, exporting, same_side, is_concrete, at_distance}
use Rattle.wcv_lower.specs.CoreInstances.{space_of, core_instance_made, core_instance_step, item_joins}
use Rattle.wcv_lower.specs.CoreInstances as core
use Rattle.wcv_lower.specs.CoreItems.{core_entries, may_join, types_join, closed_step, module_joins, core_type_made, core_type_step, core_module_made, core_module_step}
use Rattle.wcv_lower.specs.Canons.{alone, func_at}
use Rattle.wcv_lower.specs.Entries.{extern_name, written, exported, new_there, exported_values, import_step, export_step}
use Rattle.wcv_lower.specs.Growth.{step}
use Rattle.wcv_lower.specs.Instances.{listed, bag_made, instance_of_component, instance_of_items, instance_made, instance_joins, instance_values, instance_step, opened}
use Rattle.wcv_lower.specs.Marks.{uses_each, using, value_at}
use Rattle.wcv_lower.specs.Names.{names_by_place}
use Rattle.wcv_lower.specs.NewTypes.{new_reference}
use Rattle.wcv_lower.specs.Readers.{New_node, instance_node}
use Rattle.wcv_lower.specs.Start.{result_joins, start_joins, start_step}
use Rattle.wcv_lower.specs.Step.{Change, appends, lists, introduces, defines, creates, core_appends, interns, charges, types_slots, marks_value, uses_value, names_start, Step, Brought, joins_types, joins, enters, change, apply}
use Rattle.wcv_lower.specs.Trees.{Type_tree, Tree_context, Tree_stack, tree_reader, tree_maker, module_tree, node_tree, type_entry, created}
use Rattle.wcv_lower.specs.Types.{type_made, added, dtor_stands, type_step}
use Rattle.wcv_lower.proofs.SidesKept.{bag_differs}
use Rattle.wcv_lower.proofs.Bringing.{OfAny, of_some, any_cond}
use Rattle.wcv_growth.proofs.CanonGrowing.{canon-holds}
use Rattle.wcv_growth.proofs.CoreGrowing.{sub-fine, made-fine}
use Rattle.wcv_growth.proofs.Known.{then-some, all-get, Within}
use Rattle.wcv_growth.proofs.Near.{AreSorted, IsFine, fine-at}

-- what a change appends is as the entries of its space are
abbrev pub Joins : Change tree_reader → Type 0
Joins (appends in_instances t) = sort t ≡ is_instance
Joins (core_appends core_modules t) = sort t ≡ is_module
Joins (core_appends core_types t) = Within (λ r. ⊥) t
Joins x = Unit {0}

abbrev pub AllJoin : Step tree_reader → Type 0
AllJoin x = All Joins x

-- so they are behind it
sorted-core : (k : Core_space) (t : Type_tree) (s : Tree_stack) → Joins (core_appends k t) → AreSorted s.top → AreSorted (change {X = tree_reader} (core_appends k t) s).top
sorted-core core_types t s w h = (h.0, h.1, All-push (Within (λ r. ⊥)) (s.top.core core_types) t h.2 w)
sorted-core core_modules t s w h = (h.0, All-push (λ t. sort t ≡ is_module) (s.top.core core_modules) t h.1 w, h.2)
sorted-core k t s w h = h

sorted-change : (x : Change tree_reader) (s : Tree_stack) → Joins x → AreSorted s.top → AreSorted (change x s).top
sorted-change (appends in_types t) s w h = h
sorted-change (appends in_funcs t) s w h = h
sorted-change (appends in_values t) s w h = h
sorted-change (appends in_instances t) s w h = (All-push (λ t. sort t ≡ is_instance) (s.top.space in_instances) t h.0 w, h.1, h.2)
sorted-change (appends in_components t) s w h = h
sorted-change (lists d n t) s w h = h
sorted-change (introduces importing rs) s w h = h
sorted-change (introduces exporting rs) s w h = h
sorted-change (defines r v) s w h = h
sorted-change (creates d is) s w h = h
sorted-change (core_appends k t) s w h = sorted-core k t s w h
sorted-change (interns gs) s w h = h
sorted-change (charges zero n) s w h = h
sorted-change (charges (suc k) n) s w h = h
sorted-change (types_slots v) s w h = h
sorted-change (marks_value b) s w h = h
sorted-change (uses_value k) s w h = h
sorted-change names_start s w h = h

pub still-sorted : (x : Step tree_reader) (s : Tree_stack) → AllJoin x → AreSorted s.top → AreSorted (apply x s).top
still-sorted [] s w h = h
still-sorted (y ∷ x) s w h = still-sorted x (change y s) (All-tail Joins y x w) (sorted-change y s (All-head Joins y x w) h)

-- ## Steps

one : (x : Change tree_reader) → Joins x → AllJoin (x ∷ [])
one x w = All-cons Joins x [] w (All-nil Joins)

more : (x : Change tree_reader) (y : Step tree_reader) → Joins x → AllJoin y → AllJoin (x ∷ y)
more x y w v = All-cons Joins x y w v

mapped : {A : Type 0} (f : A → Step tree_reader) → ((a : A) → AllJoin (f a)) → (o : Option A) → OfAny AllJoin (option_map f o)
mapped f h None = tt
mapped f h (Some a) = h a

mapped-twice : {A B : Type 0} (g : B → Step tree_reader) (f : A → B) → ((a : A) → AllJoin (g (f a))) → (o : Option A) → OfAny AllJoin (option_map g (option_map f o))
mapped-twice g f h None = tt
mapped-twice g f h (Some a) = h a

-- so it is behind uses of values
uses-all : (ks : List ℕ) (x : Step tree_reader) → AllJoin x → AllJoin (uses_each ks ++ x)
uses-all [] x w = w
uses-all (k ∷ ks) x w = more (uses_value k) (uses_each ks ++ x) tt (uses-all ks x w)

using-all : (ks : List ℕ) (o : Option (Step tree_reader)) → OfAny AllJoin o → OfAny AllJoin (using ks o)
using-all ks None w = tt
using-all ks (Some x) w = uses-all ks x w

joins-all : (used : Bool) (o : Sort) (t : Type_tree) → sort t ≡ o → AllJoin (joins tree_reader used o t)
joins-all used is_func t e = one (appends in_funcs t) tt
joins-all used is_value t e = more (appends in_values t) (marks_value used ∷ []) tt (one (marks_value used) tt)
joins-all used is_instance t e = one (appends in_instances t) e
joins-all used is_component t e = one (appends in_components t) tt
joins-all used is_type t e = one (appends in_types (created t)) tt
joins-all used is_module t e = one (core_appends core_modules t) e
joins-all used is_resource t e = All-nil Joins
joins-all used is_nothing t e = All-nil Joins
joins-all used is_core_instance t e = All-nil Joins
joins-all used is_core_type t e = All-nil Joins
joins-all used is_core_item t e = All-nil Joins

-- an entry of a side
pub entry-joins : (d : Side) (n : Extern_name) (b : Brought tree_reader) → AllJoin (enters d n b)
entry-joins d n b =
    let last : Step tree_reader = joins tree_reader (same_side d exporting) (sort b.entity) b.entity in
    more (introduces d b.resources) (lists d n b.entity ∷ creates d (tree_reader.creates b.entity) ∷ last) tt
    (more (lists d n b.entity) (creates d (tree_reader.creates b.entity) ∷ last) tt (more (creates d (tree_reader.creates b.entity)) last tt (joins-all (same_side d exporting) (sort b.entity) b.entity refl)))

types-all : (is : List ℕ) → AllJoin (types_join tree_reader is)
types-all [] = All-nil Joins
types-all (i ∷ is) = more (core_appends core_types (tree_reader.core_type i)) (types_join tree_reader is) (sub-fine (λ r. ⊥) i).0 (types-all is)

-- a module type, or a core module
module-one : (k : Core_space) (i : Name) (m : Module_type) → Joins (core_appends k (module_tree i m))
module-one core_types i m = (made-fine (λ r. ⊥) i m).0
module-one core_modules i m = refl
module-one k i m = tt

-- a core item
item-one : (w : ExternalKind) (t : Type_tree) → Joins (core_appends (space_of w) t)
item-one external.Func t = tt
item-one external.Table t = tt
item-one external.Memory t = tt
item-one external.Global t = tt
item-one external.Tag t = tt

-- the core function that joins
abbrev func_item : List Group → Group → Type_tree
func_item gs g = tree_reader.core_item (entity.Func (record { index = first_id gs g }))

module _ (p : Place) (s : Tree_stack) (h : IsFine s) where
  type-joins : (t : Type_form) → OfAny AllJoin (type_step (tree_maker names_by_place p) s.top t)
  type-joins (defined_type d) = mapped (added (tree_maker names_by_place p)) (λ n. one (appends in_types (type_entry (node_tree (base p) n))) tt) (type_made s.top (defined_type d))
  type-joins (func_type f) = mapped (added (tree_maker names_by_place p)) (λ n. one (appends in_types (type_entry (node_tree (base p) n))) tt) (type_made s.top (func_type f))
  type-joins (component_type ds) = tt
  type-joins (instance_type ds) = tt
  type-joins (resource_type rep dtor) =
      any_cond AllJoin (is_concrete s.top.kind && dtor_stands s.top dtor) (defines (base p) (Some rep) ∷ joins_types (type_entry (new_reference names_by_place p)))
      (more (defines (base p) (Some rep)) (joins_types (type_entry (new_reference names_by_place p))) tt (one (appends in_types (type_entry (new_reference names_by_place p))) tt))

  closed-joins : (g : Group) → AllJoin (closed_step tree_reader s.groups g)
  closed-joins g = more (interns (grown s.groups g)) (types_join tree_reader (group_ids s.groups g)) tt (types-all (group_ids s.groups g))

  module-joins : (k : Core_space) (o : Option Made) → OfAny AllJoin (option_map (module_joins (tree_maker names_by_place p) k) o)
  module-joins k o =
      mapped (module_joins (tree_maker names_by_place p) k) (λ m. more (interns m.0) (core_appends k (module_tree (base p) m.1) ∷ []) tt (one (core_appends k (module_tree (base p) m.1)) (module-one k (base p) m.1))) o

  core_type-joins : (fs : WasmFeatures) (t : Core_type_form) → OfAny AllJoin (core_type_step fs (tree_maker names_by_place p) s t)
  core_type-joins fs (core_rec w) = any_cond AllJoin (may_join s.groups (core_entries s.top) w) (closed_step tree_reader s.groups (closed_group (core_entries s.top) w)) (closed-joins (closed_group (core_entries s.top) w))
  core_type-joins fs (core_module_type ds) = module-joins core_types (core_type_made fs s (core_module_type ds))

  -- ## Instances

  joined : (b : Brought tree_reader) → sort b.entity ≡ is_instance → AllJoin (instance_joins b)
  joined b e = more (introduces exporting b.resources) (appends in_instances b.entity ∷ []) tt (one (appends in_instances b.entity) e)

  made-join : (i : Instance_form) → OfAny AllJoin (option_map instance_joins (instance_made (tree_maker names_by_place p) s i))
  made-join (instantiate i args) = mapped-twice instance_joins (instance_of_component (tree_maker names_by_place p)) (λ o. joined (instance_of_component (tree_maker names_by_place p) o) refl) (opened s i args)
  made-join (bag es) = go (bag_made s.top es) (λ n e. (bag_differs s.top es n e).0)
    where
      go : (o : Option (New_node tree_reader)) → ((n : New_node tree_reader) → o ≡ Some n → n ≡ instance_node [] (listed s.top es)) → OfAny AllJoin (option_map instance_joins (option_map (instance_of_items (tree_maker names_by_place p)) o))
      go None h = tt
      go (Some n) h = joined (instance_of_items (tree_maker names_by_place p) n) (ap (λ (m : New_node tree_reader). sort (node_tree (base p) m)) (h n refl))

  instances-join : (i : Instance_form) → OfAny AllJoin (instance_step (tree_maker names_by_place p) s i)
  instances-join i = using-all (instance_values i) (option_map instance_joins (instance_made (tree_maker names_by_place p) s i)) (made-join i)

  -- ## Aliases

  -- what stands further out is as the entries of its space are there
  out-joins : (w : ComponentOuterAliasKind) (n i : ℕ) (t : Type_tree) → outer_at s w n i ≡ Some t → AllJoin (outer_joins w t)
  out-joins w n i t e =
      let c = then-some (λ (c : Tree_context). slice_get (outer_items w c) i) (at_distance n s) t e in
      let f = fine-at (s.top ∷ s.outer) n c.0 h c.1 in
      go w c.0 f.1.sorted c.2
    where
      go : (w : ComponentOuterAliasKind) (c : Tree_context) → AreSorted c → slice_get (outer_items w c) i ≡ Some t → AllJoin (outer_joins w t)
      go outer.CoreModule c a q = one (core_appends core_modules t) (all-get (λ t. sort t ≡ is_module) (c.core core_modules) i t a.1 q)
      go outer.CoreType c a q = one (core_appends core_types t) (all-get (Within (λ r. ⊥)) (c.core core_types) i t a.2 q)
      go outer.Ty c a q = one (appends in_types t) tt
      go outer.Component c a q = one (appends in_components t) tt

  charge-joins : (w : ComponentOuterAliasKind) (n : ℕ) (t : Type_tree) → AllJoin (charged s w n t)
  charge-joins w zero t = All-nil Joins
  charge-joins w (suc n) t = go (is_charged w && concrete_at n s)
    where
      go : (b : Bool) → AllJoin (cond b (charges n (tree_reader.size t) ∷ []) [])
      go true = one (charges n (tree_reader.size t)) tt
      go false = All-nil Joins

  aliases-join : (a : ComponentAlias) → OfAny AllJoin (alias_step s a)
  aliases-join (alias.InstanceExport w i n) = mapped joining (λ t. joins-all false (sort t) t refl) _
  aliases-join (alias.CoreInstanceExport w i n) = mapped (item_joins tree_reader w) (λ e. one (core_appends (space_of w) (tree_reader.core_item e)) (item-one w (tree_reader.core_item e))) _
  aliases-join (alias.Outer w n i) = go (outer_at s w n i) refl
    where
      go : (o : Option Type_tree) → outer_at s w n i ≡ o → OfAny AllJoin (option_map (λ t. charged s w n t ++ outer_joins w t) o)
      go None e = tt
      go (Some t) e = All-append Joins (charged s w n t) (outer_joins w t) (charge-joins w n t) (out-joins w n i t e)

  -- ## Start functions

  result-joins : (o : Option Type_tree) → AllJoin (names_start ∷ result_joins {X = tree_reader} o)
  result-joins None = one names_start tt
  result-joins (Some t) = more names_start (appends in_values t ∷ marks_value false ∷ []) tt (more (appends in_values t) (marks_value false ∷ []) tt (one (marks_value false) tt))

  starts-join : (f : ℕ) (args : List ℕ) → OfAny AllJoin (start_step s.top f args)
  starts-join f args = go (list_all (λ k. not (is_none (value_at s.top k))) args)
    where
      go : (b : Bool) → OfAny AllJoin (cond b (option_map (start_joins args) (func_at s.top f)) None)
      go true = mapped (start_joins args) (λ t. uses-all args (names_start ∷ result_joins (tree_reader.result t)) (result-joins (tree_reader.result t))) (func_at s.top f)
      go false = tt

  -- ## Items

  pub items-join : (fs : WasmFeatures) (f : Form) (x : Step tree_reader) → step fs (tree_maker names_by_place p) s f ≡ Some x → AllJoin x
  items-join fs (type_item t) x e = of_some AllJoin (type_step (tree_maker names_by_place p) s.top t) x (type-joins t) e
  items-join fs (import_item i) x e = of_some AllJoin (import_step (tree_maker names_by_place p) s.top i) x (mapped (enters importing (extern_name i.name)) (λ b. entry-joins importing (extern_name i.name) b) (new_there importing (extern_name i.name) s.top (written (tree_maker names_by_place p) s.top i.ty))) e
  items-join fs (export_item i) x e =
      of_some AllJoin (export_step (tree_maker names_by_place p) s.top i) x
      (using-all (exported_values i) (option_map (enters exporting (extern_name i.name)) (new_there exporting (extern_name i.name) s.top (exported (tree_maker names_by_place p) s.top i)))
      (mapped (enters exporting (extern_name i.name)) (λ b. entry-joins exporting (extern_name i.name) b) (new_there exporting (extern_name i.name) s.top (exported (tree_maker names_by_place p) s.top i)))) e
  items-join fs (core_type_item t) x e = of_some AllJoin (core_type_step fs (tree_maker names_by_place p) s t) x (core_type-joins fs t) e
  items-join fs (core_module_item ds) x e = of_some AllJoin (core_module_step fs (tree_maker names_by_place p) s ds) x (module-joins core_modules (core_module_made fs s ds)) e
  items-join fs (core_instance_item i) x e = of_some AllJoin (core_instance_step (tree_maker names_by_place p) s i) x (mapped (core.instance_joins (tree_maker names_by_place p)) (λ m. one (core_appends core_instances (node_tree (base p) m)) tt) (core_instance_made s i)) e
  items-join fs (component_item is end) x e = cc
  items-join fs (instance_item i) x e = of_some AllJoin (instance_step (tree_maker names_by_place p) s i) x (instances-join i) e
  items-join fs (alias_item a) x e = of_some AllJoin (alias_step s a) x (aliases-join a) e
  items-join fs (start_item f args n) x e = of_some AllJoin (start_step s.top f args) x (starts-join f args) e
  items-join fs (canon_item c) x e = canon-holds s AllJoin (λ v y w. more (types_slots v) y tt w) (λ b w. let g : Group = closed_group (core_entries s.top) (alone b w) in more (interns (grown s.groups g)) (core_appends core_funcs (func_item s.groups g) ∷ []) tt (one (core_appends core_funcs (func_item s.groups g)) tt)) (λ k t q. one (appends in_funcs t) tt) c x e
