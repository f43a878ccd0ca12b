-- What steps bring: entries that have what those of the context have, and resources by the names of their place.
use Rattle.std.proofs.Common.{◌≡◌, ℕ, List, [], ◌∷◌, ◌++◌, map, refl, subst, Bool, true, false, cond, ◌&&◌, Some, None}
use Rattle.std.specs.Prelude.{Option, All, not, slice_get}
use Rattle.std.specs.List.{list_all}
use Rattle.std.specs.Option.{option_map, option_and_then}
use Rattle.std.proofs.lemmas.List.Elements.{All-nil, All-cons, All-get_or}
use Rattle.std.proofs.lemmas.Option.{slice_get_within, get_or_from_slice_get}
use Rattle.wcv_core.specs.CoreForm.{Group}
use Rattle.wcv_core.specs.CoreJoining.{group_ids, grown}
use Rattle.wcv_core.specs.CoreWritten.{closed_group}
use Rattle.wcv_core.specs.Names.{Name, Place}
use Rattle.wcv_core.specs.declared.core_types.EntityType.{EntityType}
use Rattle.wcv_core.specs.declared.features.WasmFeatures.{WasmFeatures}
use Rattle.wcv_syntax.specs.Model.{Type_form, defined_type, func_type, component_type, instance_type, resource_type, Defined_form, Func_form, Core_type_form, core_rec, core_module_type, Core_instance_form, core_instantiate, core_bag, Module_decl}
use Rattle.wcv_syntax.specs.ModuleTypes.{Made}
use Rattle.wcv_syntax.specs.declared.component_type.ComponentTypeRef.{ComponentTypeRef}
use Rattle.wcv_syntax.specs.declared.component_type.ComponentTypeRef.TheVariants as ref
use Rattle.wcv_syntax.specs.declared.component_type.ComponentValType.{ComponentValType}
use Rattle.wcv_syntax.specs.declared.component_type.ComponentValType.TheVariants.{Primitive, Ty}
use Rattle.wcv_syntax.specs.declared.component_type.TypeBounds.TheVariants as bounds
use Rattle.wcv_syntax.specs.declared.core_section.Export.{Export}
use Rattle.wcv_syntax.specs.declared.core_section.ExternalKind.{ExternalKind}
use Rattle.wcv_syntax.specs.declared.core_section.InstantiationArg.{InstantiationArg}
use Rattle.wcv_syntax.specs.declared.instance.ComponentExternalKind.{ComponentExternalKind}
use Rattle.wcv_syntax.specs.declared.instance.ComponentExternalKind.TheVariants as kind
use Rattle.wcv_syntax.specs.declared.name.ComponentExport.{ComponentExport}
use Rattle.wcv_syntax.specs.declared.name.ComponentImport.{ComponentImport}
use Rattle.wcv_types.specs.Tree.{Text, Extern_name, Role, Sort, is_nothing, is_value, is_resource, is_func, is_instance, is_component, is_type, is_module, is_core_instance, is_core_type, is_core_item, sort, owned, exports, nothing, primitive, core_type, core_item, here, Parts}
use Rattle.wcv_types.specs.FirstPath.{first_path}
use Rattle.wcv_types.specs.Unfold.{Type_tree}
use Rattle.wcv_lower.specs.Checks.{is_none, same_sort}
use Rattle.wcv_lower.specs.Context.{Side, importing, exporting, in_types, in_funcs, in_values, in_instances, in_components, Core_space, core_types, core_modules, core_instances, is_concrete, type_at, same_side}
use Rattle.wcv_lower.specs.CoreInstances.{space_of, core_module_at, core_instance_at, item_listed, items_listed, listed_size, module_instance, core_instance_made, instance_joins, core_instance_step, core_export_of, if_of, item_joins, core_alias_step}
use Rattle.wcv_lower.specs.CoreItems.{core_entries, may_join, types_join, closed_step, module_joins, core_type_made, core_type_step, core_module_made, core_module_step}
use Rattle.wcv_lower.specs.Defined.{former, written_parts, handle_index, made_of, defined_made}
use Rattle.wcv_lower.specs.Entries.{extern_name, module_type_at, again_brought, written, items_of, exported_at, exported_as, exported_by, exported, is_new, new_there, import_step, export_step, exported_values}
use Rattle.wcv_lower.specs.Marks.{uses_each, using}
use Rattle.wcv_lower.specs.Names.{Names, Origin, introduced, again}
use Rattle.wcv_lower.specs.NewTypes.{path_or_none}
use Rattle.wcv_lower.specs.Owned.{AllEntries}
use Rattle.wcv_lower.specs.Readers.{New_node, func_node, defined_node, module_node, core_instance_node, core_exports_node, if_sort, Maker}
use Rattle.wcv_lower.specs.Step.{Change, appends, lists, introduces, defines, creates, core_appends, interns, charges, types_slots, marks_value, uses_value, names_start, Step, Brought, bare, joins, enters, joins_types}
use Rattle.wcv_lower.specs.Trees.{tree_reader, Tree_context, Tree_stack, node_tree, tree_maker, referenced, created}
use Rattle.wcv_lower.specs.Types.{func_parts, func_made, added, dtor_stands, type_step}
use Rattle.wcv_lower.specs.Values.{type_of_sort, resource_at, value_entry, option_entry, Written_parts, behind, parts_entries}
use Rattle.wcv_lower.proofs.Owning.{Inherited, leaf_has, entry_has, created_has, referenced_has, again_has, reference_has, instance_has, MadeOf, node_has}

-- ## What is there

-- what holds of each element holds of the one at an index
pub all_at : {A : Type 0} (P : A → Type 0) (xs : List A) (k : ℕ) (x : A) → All P xs → slice_get xs k ≡ Some x → P x
all_at P xs k x a h = subst P (get_or_from_slice_get xs k x x h) (All-get_or P xs k x (slice_get_within xs k x h) a)

-- it holds of what is there, if something is
abbrev pub OfAny : {A : Type 0} → (A → Type 0) → Option A → Type 0
OfAny P None = Unit {0}
OfAny P (Some x) = P x

pub of_some : {A : Type 0} (P : A → Type 0) (o : Option A) (x : A) → OfAny P o → o ≡ Some x → P x
of_some P o x h e = subst (OfAny P) e h

pub any_at : {A : Type 0} (P : A → Type 0) (xs : List A) (k : ℕ) → All P xs → OfAny P (slice_get xs k)
any_at P xs k a = go (slice_get xs k) refl
  where
    go : (o : Option _) → slice_get xs k ≡ o → OfAny P o
    go None e = tt
    go (Some x) e = all_at P xs k x a e

-- what is mapped to something is there
pub map-some : {A B : Type 0} (f : A → B) (o : Option A) (y : B) → option_map f o ≡ Some y → (x : A) × (o ≡ Some x) × (Some (f x) ≡ Some y)
map-some f None y e = cc
map-some f (Some x) y e = (x, refl, e)

pub any_mapped : {A B : Type 0} (P : A → Type 0) (Q : B → Type 0) (f : A → B) → ((x : A) → P x → Q (f x)) → (o : Option A) → OfAny P o → OfAny Q (option_map f o)
any_mapped P Q f h None w = tt
any_mapped P Q f h (Some x) w = h x w

pub any_then : {A B : Type 0} (P : A → Type 0) (Q : B → Type 0) (f : A → Option B) → ((x : A) → P x → OfAny Q (f x)) → (o : Option A) → OfAny P o → OfAny Q (option_and_then f o)
any_then P Q f h None w = tt
any_then P Q f h (Some x) w = h x w

pub any_cond : {A : Type 0} (P : A → Type 0) (b : Bool) (x : A) → P x → OfAny P (cond b (Some x) None)
any_cond P true x w = w
any_cond P false x w = tt

-- where a test holds too
pub any_if : {A : Type 0} (P : A → Type 0) (b : Bool) (o : Option A) → OfAny P o → OfAny P (cond b o None)
any_if P true o w = w
any_if P false o w = tt

-- the items of a sort
pub items_have : (P : Type_tree → Type 0) (c : Tree_context) → AllEntries P c → (k : ComponentExternalKind) → All P (items_of c k)
items_have P c all kind.Module = all.core core_modules
items_have P c all kind.Func = all.space in_funcs
items_have P c all kind.Value = all.space in_values
items_have P c all kind.Ty = all.space in_types
items_have P c all kind.Instance = all.space in_instances
items_have P c all kind.Component = all.space in_components

-- ## What a change brings

-- an entry has one property, a resource another
abbrev pub Brings : (Type_tree → Type 0) → (Name → Type 0) → Change tree_reader → Type 0
Brings P New (appends k x) = P x
Brings P New (lists d n x) = P x
Brings P New (introduces d rs) = All (λ r. New r.0) rs
Brings P New (defines r v) = New r
Brings P New (core_appends k x) = P x
Brings P New (creates d is) = Unit {0}
Brings P New (interns gs) = Unit {0}
Brings P New (charges k n) = Unit {0}
Brings P New (types_slots v) = Unit {0}
Brings P New (marks_value b) = Unit {0}
Brings P New (uses_value k) = Unit {0}
Brings P New names_start = Unit {0}

abbrev pub AllBring : (Type_tree → Type 0) → (Name → Type 0) → Step tree_reader → Type 0
AllBring P New p = All (Brings P New) p

module _ (P : Type_tree → Type 0) (New : Name → Type 0) where
  abbrev B : Change tree_reader → Type 0
  B = Brings P New

  pub brings_one : (x : Change tree_reader) → Brings P New x → AllBring P New (x ∷ [])
  brings_one x w = All-cons B x [] w (All-nil B)

  pub brings_more : (x : Change tree_reader) (p : Step tree_reader) → Brings P New x → AllBring P New p → AllBring P New (x ∷ p)
  brings_more x p w v = All-cons B x p w v

  pub uses_bring : (ks : List ℕ) (p : Step tree_reader) → AllBring P New p → AllBring P New (uses_each ks ++ p)
  uses_bring [] p w = w
  uses_bring (k ∷ ks) p w = brings_more (uses_value k) (uses_each ks ++ p) tt (uses_bring ks p w)

  -- values may be used before
  pub using_brings : (ks : List ℕ) (o : Option (Step tree_reader)) → OfAny (AllBring P New) o → OfAny (AllBring P New) (using ks o)
  using_brings ks o w = any_mapped (AllBring P New) (AllBring P New) (λ p. uses_each ks ++ p) (uses_bring ks) o w

module _ {P : Type_tree → Type 0} {In : Parts Name Name → Type 0} (law : Inherited P In) (New : Name → Type 0) where
  pub joins_bring : (used : Bool) (s : Sort) (x : Type_tree) → P x → AllBring P New (joins tree_reader used s x)
  joins_bring used is_func x w = brings_one P New (appends in_funcs x) w
  joins_bring used is_value x w = brings_more P New (appends in_values x) (marks_value used ∷ []) w (brings_one P New (marks_value used) tt)
  joins_bring used is_instance x w = brings_one P New (appends in_instances x) w
  joins_bring used is_component x w = brings_one P New (appends in_components x) w
  joins_bring used is_type x w = brings_one P New (appends in_types (created x)) (created_has law x w)
  joins_bring used is_module x w = brings_one P New (core_appends core_modules x) w
  joins_bring used is_resource x w = All-nil (Brings P New)
  joins_bring used is_nothing x w = All-nil (Brings P New)
  joins_bring used is_core_instance x w = All-nil (Brings P New)
  joins_bring used is_core_type x w = All-nil (Brings P New)
  joins_bring used is_core_item x w = All-nil (Brings P New)

  -- an entity that has it, with resources that have theirs
  abbrev pub BroughtOf : Brought tree_reader → Type 0
  BroughtOf b = P b.entity × All (λ r. New r.0) b.resources

  pub enters_bring : (d : Side) (n : Extern_name) (b : Brought tree_reader) → BroughtOf b → AllBring P New (enters d n b)
  enters_bring d n b w =
      let last : Step tree_reader = joins tree_reader (same_side d exporting) (sort b.entity) b.entity in
      let named : Step tree_reader = creates d (tree_reader.creates b.entity) ∷ last in
      brings_more P New (introduces d b.resources) (lists d n b.entity ∷ named) w.1 (brings_more P New (lists d n b.entity) named w.0 (brings_more P New (creates d (tree_reader.creates b.entity)) last tt (joins_bring (same_side d exporting) (sort b.entity) b.entity w.0)))

  -- one that introduces none
  bare_of : (x : Type_tree) → P x → BroughtOf (bare tree_reader x)
  bare_of x w = (w, All-nil (λ (r : Name × List ℕ). New r.0))

  -- ## What is found in a context

  module _ (c : Tree_context) (all : AllEntries P c) where
    pub type_has : (k : ℕ) → OfAny P (type_at c k)
    type_has k = any_mapped P P referenced (referenced_has law) (slice_get (c.space in_types) k) (any_at P (c.space in_types) k (all.space in_types))

    sorted_has : (s : Sort) (x : Type_tree) → P x → OfAny P (if_sort tree_reader s x)
    sorted_has s x w = any_cond P (same_sort s (sort x)) x w

    pub of_sort_has : (s : Sort) (k : ℕ) → OfAny P (type_of_sort s c k)
    of_sort_has s k = any_then P P (if_sort tree_reader s) (sorted_has s) (type_at c k) (type_has k)

    module_at_has : (k : ℕ) → OfAny P (module_type_at c k)
    module_at_has k = any_then P P (if_sort tree_reader is_module) (sorted_has is_module) (slice_get (c.core core_types) k) (any_at P (c.core core_types) k (all.core core_types))

    value_has : (v : ComponentValType) → OfAny P (value_entry c v)
    value_has (Primitive p) = leaf_has law (primitive p) (λ r. refl)
    value_has (Ty k) = of_sort_has is_value k

    option_has : (o : Option ComponentValType) → OfAny P (option_entry c o)
    option_has None = leaf_has law nothing (λ r. refl)
    option_has (Some v) = value_has v

    abbrev Of : Role × Type_tree → Type 0
    Of p = P p.1

    entries_found : (ps : Written_parts) → OfAny (All Of) (parts_entries c ps)
    entries_found [] = All-nil Of
    entries_found (p ∷ ps) =
        any_then P (All Of) (behind tree_reader p.0 (parts_entries c ps)) (λ x w. any_mapped (All Of) (All Of) (λ qs. (p.0, x) ∷ qs) (λ qs v. All-cons Of (p.0, x) qs w v) (parts_entries c ps) (entries_found ps)) (option_entry c p.1)
        (option_has p.1)

    made_of_has : (o : Option ℕ) (ps : Written_parts) → OfAny (All Of) (made_of c o ps)
    made_of_has None ps = entries_found ps
    made_of_has (Some k) ps = any_mapped P (All Of) (λ x. (here, x) ∷ []) (λ x w. All-cons Of (here, x) [] w (All-nil Of)) (resource_at c k) (of_sort_has is_resource k)

    defined_has : (x : Defined_form) → OfAny (MadeOf law) (defined_made c x)
    defined_has x = any_mapped (All Of) (MadeOf law) (defined_node (former x)) (λ ps w. w) (made_of c (handle_index x) (written_parts x)) (made_of_has (handle_index x) (written_parts x))

    func_has : (f : Func_form) → OfAny (MadeOf law) (func_made c f)
    func_has f = any_mapped (All Of) (MadeOf law) (func_node f.async) (λ ps w. w) (parts_entries c (func_parts f)) (entries_found (func_parts f))

    -- ## What is made

    module _ (names : Names) (p : Place) (fresh : (o : Origin) → New (names.resource o)) where
      abbrev mk : Maker tree_reader
      mk = tree_maker names p

      again_of : (x : Type_tree) → P x → BroughtOf (again_brought mk x)
      again_of x w = bare_of (mk.again x) (again_has law names p x w)

      resources_new : (f : Name → List ℕ) (own : List Name) → All (λ (x : Name × List ℕ). New x.0) (map (λ r. (names.resource (again p r), f r)) own)
      resources_new f [] = All-nil (λ (r : Name × List ℕ). New r.0)
      resources_new f (r ∷ own) = All-cons (λ (r : Name × List ℕ). New r.0) (names.resource (again p r), f r) _ (fresh (again p r)) (resources_new f own)

      instance_of_has : (x : Type_tree) → P x → BroughtOf (mk.instance_of x)
      instance_of_has x w = (instance_has law names p x w, resources_new (λ r. path_or_none (first_path r (exports x))) (owned x))

      pub written_has : (r : ComponentTypeRef) → OfAny BroughtOf (written mk c r)
      written_has (ref.Module k) = any_mapped P BroughtOf (bare tree_reader) bare_of (module_type_at c k) (module_at_has k)
      written_has (ref.Func k) = any_mapped P BroughtOf (bare tree_reader) bare_of (type_of_sort is_func c k) (of_sort_has is_func k)
      written_has (ref.Instance k) = any_mapped P BroughtOf mk.instance_of instance_of_has (type_of_sort is_instance c k) (of_sort_has is_instance k)
      written_has (ref.Component k) = any_mapped P BroughtOf (bare tree_reader) bare_of (type_of_sort is_component c k) (of_sort_has is_component k)
      written_has (ref.Ty (bounds.Eq k)) = any_mapped P BroughtOf (again_brought mk) again_of (type_at c k) (type_has k)
      written_has (ref.Ty bounds.SubResource) = (reference_has law names p, All-cons (λ (r : Name × List ℕ). New r.0) (mk.resource, []) [] (fresh (introduced p)) (All-nil (λ (r : Name × List ℕ). New r.0)))
      written_has (ref.Value v) = any_mapped P BroughtOf (bare tree_reader) bare_of (value_entry c v) (value_has v)

      exported_as_has : (k : ComponentExternalKind) (x : Type_tree) → P x → BroughtOf (exported_as mk k x)
      exported_as_has kind.Ty x w = again_of (referenced x) (referenced_has law x w)
      exported_as_has kind.Module x w = bare_of x w
      exported_as_has kind.Func x w = bare_of x w
      exported_as_has kind.Value x w = bare_of x w
      exported_as_has kind.Instance x w = instance_of_has x w
      exported_as_has kind.Component x w = bare_of x w

      exported_by_has : (e : ComponentExport) (o : Option ComponentTypeRef) → OfAny BroughtOf (exported_by mk c e o)
      exported_by_has e None = any_mapped P BroughtOf (exported_as mk e.kind) (exported_as_has e.kind) (exported_at c e) (any_at P (items_of c e.kind) e.index (items_have P c all e.kind))
      exported_by_has e (Some r) = any_then P BroughtOf (λ x. written mk c r) (λ x w. written_has r) (exported_at c e) (any_at P (items_of c e.kind) e.index (items_have P c all e.kind))

      pub exported_has : (e : ComponentExport) → OfAny BroughtOf (exported mk c e)
      exported_has e = exported_by_has e e.ty

      -- ## Steps

      added_brings : (n : New_node tree_reader) → MadeOf law n → AllBring P New (added mk n)
      added_brings n w = brings_one P New (appends in_types (mk.build_type n)) (entry_has law (mk.build n) (node_has law (names.identity (introduced p)) n w))

      pub types_bring : (t : Type_form) → OfAny (AllBring P New) (type_step mk c t)
      types_bring (defined_type d) = any_mapped (MadeOf law) (AllBring P New) (added mk) added_brings (defined_made c d) (defined_has d)
      types_bring (func_type f) = any_mapped (MadeOf law) (AllBring P New) (added mk) added_brings (func_made c f) (func_has f)
      types_bring (component_type ds) = tt
      types_bring (instance_type ds) = tt
      types_bring (resource_type rep dtor) =
          any_cond (AllBring P New) (is_concrete c.kind && dtor_stands c dtor) (defines mk.resource (Some rep) ∷ joins_types mk.reference)
          (brings_more P New (defines mk.resource (Some rep)) (appends in_types mk.reference ∷ []) (fresh (introduced p)) (brings_one P New (appends in_types mk.reference) (reference_has law names p)))

      pub imports_bring : (i : ComponentImport) → OfAny (AllBring P New) (import_step mk c i)
      imports_bring i =
          any_mapped BroughtOf (AllBring P New) (enters importing (extern_name i.name)) (enters_bring importing (extern_name i.name))
          (new_there importing (extern_name i.name) c (written mk c i.ty)) (any_if BroughtOf (is_new importing i.name.name c) (written mk c i.ty) (written_has i.ty))

      pub exports_bring : (e : ComponentExport) → OfAny (AllBring P New) (export_step mk c e)
      exports_bring e =
          using_brings P New (exported_values e) (option_map (enters exporting (extern_name e.name)) (new_there exporting (extern_name e.name) c (exported mk c e)))
          (any_mapped BroughtOf (AllBring P New) (enters exporting (extern_name e.name)) (enters_bring exporting (extern_name e.name)) (new_there exporting (extern_name e.name) c (exported mk c e))
          (any_if BroughtOf (is_new exporting e.name.name c) (exported mk c e) (exported_has e)))

      core_types_join : (is : List ℕ) → AllBring P New (types_join tree_reader is)
      core_types_join [] = All-nil (Brings P New)
      core_types_join (i ∷ is) = brings_more P New (core_appends core_types (tree_reader.core_type i)) (types_join tree_reader is) (leaf_has law (core_type i) (λ r. refl)) (core_types_join is)

      module_brings : (k : Core_space) (m : Made) → Unit {0} → AllBring P New (module_joins mk k m)
      module_brings k m w = brings_more P New (interns m.0) (core_appends k (mk.build (module_node m.1)) ∷ []) tt (brings_one P New (core_appends k (mk.build (module_node m.1))) (node_has law (names.identity (introduced p)) (module_node m.1) tt))

  module _ (names : Names) (p : Place) (s : Tree_stack) (all : AllEntries P s.top) where
    core_instance_has : (i : Core_instance_form) → OfAny (MadeOf law) (core_instance_made s i)
    core_instance_has (core_instantiate i args) =
        any_if (MadeOf law) (list_all (λ (a : InstantiationArg). not (is_none (core_instance_at s.top a.index))) args) (option_map (module_instance tree_reader s.groups) (core_module_at s.top i))
        (any_mapped P (MadeOf law) (module_instance tree_reader s.groups) (λ x w. w) (core_module_at s.top i) (any_at P (s.top.core core_modules) i (all.core core_modules)))
    core_instance_has (core_bag es) =
        any_cond (MadeOf law) (list_all (λ (e : Export). not (is_none (item_listed s.top e))) es) (core_exports_node (listed_size s.groups (items_listed s.top es)) (items_listed s.top es)) tt

    pub core_instances_bring : (i : Core_instance_form) → OfAny (AllBring P New) (core_instance_step (tree_maker names p) s i)
    core_instances_bring i =
        any_mapped (MadeOf law) (AllBring P New) (instance_joins (tree_maker names p)) (λ n w. brings_one P New (core_appends core_instances (node_tree (names.identity (introduced p)) n)) (node_has law (names.identity (introduced p)) n w)) (core_instance_made s i)
        (core_instance_has i)

  core_item_brings : (k : ExternalKind) (e : EntityType) → Unit {0} → AllBring P New (item_joins tree_reader k e)
  core_item_brings k e w = brings_one P New (core_appends (space_of k) (tree_reader.core_item e)) (leaf_has law (core_item e) (λ r. refl))

  any_item : (o : Option EntityType) → OfAny (λ e. Unit {0}) o
  any_item None = tt
  any_item (Some e) = tt

  pub core_aliases_bring : (c : Tree_context) (k : ExternalKind) (i : ℕ) (n : Text) → OfAny (AllBring P New) (core_alias_step c k i n)
  core_aliases_bring c k i n =
      let o : Option EntityType = option_and_then (if_of k) (option_and_then (core_export_of tree_reader n) (core_instance_at c i)) in
      any_mapped (λ (e : EntityType). Unit {0}) (AllBring P New) (item_joins tree_reader k) (core_item_brings k) o (any_item o)

  any_made : (o : Option Made) → OfAny (λ m. Unit {0}) o
  any_made None = tt
  any_made (Some m) = tt

  module _ (fs : WasmFeatures) (names : Names) (p : Place) (fresh : (o : Origin) → New (names.resource o)) (s : Tree_stack) (all : AllEntries P s.top) where
    pub core_types_bring : (t : Core_type_form) → OfAny (AllBring P New) (core_type_step fs (tree_maker names p) s t)
    core_types_bring (core_rec w) =
        let g : Group = closed_group (core_entries s.top) w in
        any_cond (AllBring P New) (may_join s.groups (core_entries s.top) w) (closed_step tree_reader s.groups g)
        (brings_more P New (interns (grown s.groups g)) (types_join tree_reader (group_ids s.groups g)) tt (core_types_join s.top all names p fresh (group_ids s.groups g)))
    core_types_bring (core_module_type ds) =
        any_mapped (λ m. Unit {0}) (AllBring P New) (module_joins (tree_maker names p) core_types) (module_brings s.top all names p fresh core_types) (core_type_made fs s (core_module_type ds)) (any_made (core_type_made fs s (core_module_type ds)))

    pub core_modules_bring : (ds : List Module_decl) → OfAny (AllBring P New) (core_module_step fs (tree_maker names p) s ds)
    core_modules_bring ds = any_mapped (λ m. Unit {0}) (AllBring P New) (module_joins (tree_maker names p) core_modules) (module_brings s.top all names p fresh core_modules) (core_module_made fs s ds) (any_made (core_module_made fs s ds))
