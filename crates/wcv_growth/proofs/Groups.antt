-- Groups of core types join behind those that were read.
use Rattle.std.proofs.Common.{◌≡◌, ℕ, zero, suc, List, [], ◌∷◌, ◌++◌, refl, sym, ◌∙◌, ap, subst, append-nil, append_assoc, Bool, true, false, ◌&&◌, not, cond, Option, Some, None}
use Rattle.std.specs.List.{list_all}
use Rattle.std.specs.Option.{option_map}
use Rattle.wcv_core.specs.CoreForm.{Group}
use Rattle.wcv_core.specs.CoreGroups.{id_of}
use Rattle.wcv_core.specs.CoreJoining.{group_ids, grown}
use Rattle.wcv_core.specs.CoreTable.{joined_to}
use Rattle.wcv_core.specs.CoreWritten.{Core_entry, closed_group}
use Rattle.wcv_core.specs.declared.features.WasmFeatures.{WasmFeatures}
use Rattle.wcv_syntax.specs.CoreItems.{entity_of}
use Rattle.wcv_syntax.specs.Model.{Form, core_type_item, core_module_item, core_instance_item, type_item, import_item, export_item, component_item, instance_item, alias_item, start_item, canon_item, Type_form, defined_type, func_type, component_type, instance_type, resource_type, Core_type_form, core_rec, core_module_type, Module_decl, module_type, module_import, module_export, module_outer}
use Rattle.wcv_syntax.specs.ModuleTypes.{Module_type, Made, empty_module, module_entries, with_import, with_export, with_type, declared, aliased, and_then}
use Rattle.wcv_syntax.specs.declared.instance.ComponentAlias.{ComponentAlias}
use Rattle.wcv_syntax.specs.declared.instance.ComponentAlias.TheVariants as alias
use Rattle.wcv_syntax.specs.declared.instance.ComponentOuterAliasKind.{ComponentOuterAliasKind}
use Rattle.wcv_syntax.specs.declared.instance.ComponentOuterAliasKind.TheVariants as outer
use Rattle.wcv_types.specs.Tree.{Extern_name, Sort, is_nothing, is_value, is_resource, is_func, is_instance, is_component, is_type, is_module, is_core_instance, is_core_type, is_core_item, sort}
use Rattle.wcv_lower.specs.Aliases.{joining, outer_at, outer_joins, is_charged, concrete_at, charged, alias_step}
use Rattle.wcv_lower.specs.Canons.{alone, func_at}
use Rattle.wcv_lower.specs.Checks.{is_none}
use Rattle.wcv_lower.specs.Context.{Core_space, core_types, core_modules, Side, importing, exporting, same_side, is_concrete}
use Rattle.wcv_lower.specs.CoreInstances.{core_instance_made, core_instance_step, item_joins}
use Rattle.wcv_lower.specs.CoreInstances as core
use Rattle.wcv_lower.specs.CoreItems.{core_entries, may_join, is_declarable, types_join, closed_step, module_joins, declaration_made, module_made, core_type_made, core_type_step, core_module_made, core_module_step, outer_entries}
use Rattle.wcv_lower.specs.Entries.{extern_name, new_there, written, exported, exported_values, import_step, export_step}
use Rattle.wcv_lower.specs.Growth.{step}
use Rattle.wcv_lower.specs.Instances.{instance_made, instance_joins, instance_values, instance_step}
use Rattle.wcv_lower.specs.Marks.{uses_each, using, value_at}
use Rattle.wcv_lower.specs.Readers.{Maker}
use Rattle.wcv_lower.specs.Start.{result_joins, start_joins, start_step}
use Rattle.wcv_lower.specs.Step.{appends, lists, introduces, defines, creates, core_appends, interns, charges, types_slots, marks_value, uses_value, names_start, Step, Brought, joins_types, joins, enters, change, apply}
use Rattle.wcv_lower.specs.Trees.{Type_tree, Tree_stack, tree_reader}
use Rattle.wcv_lower.specs.Types.{dtor_stands, type_made, added, type_step}
use Rattle.wcv_lower.proofs.Bringing.{OfAny, of_some, any_cond}
use Rattle.wcv_growth.specs.Kept.{IsPrefix}
use Rattle.wcv_growth.proofs.CanonGrowing.{canon-holds}

-- ## Lists that begin others

pub no_more : {X : Type 0} (xs : List X) → IsPrefix xs xs
no_more xs = ([], sym (append-nil xs))

pub prefix_trans : {X : Type 0} (xs ys zs : List X) → IsPrefix xs ys → IsPrefix ys zs → IsPrefix xs zs
prefix_trans xs ys zs p q = (p.0 ++ q.0, q.1 ∙ ap (λ l. l ++ q.0) p.1 ∙ append_assoc xs p.0 q.0)

-- ## Groups

-- the groups behind a step
abbrev pub groups-behind : Step tree_reader → List Group → List Group
groups-behind [] gs = gs
groups-behind (interns hs ∷ p) gs = groups-behind p hs
groups-behind (x ∷ p) gs = groups-behind p gs

pub applied-groups : (p : Step tree_reader) (s : Tree_stack) → (apply p s).groups ≡ groups-behind p s.groups
applied-groups [] s = refl
applied-groups (interns hs ∷ p) s = applied-groups p (change (interns hs) s)
applied-groups (appends k x ∷ p) s = applied-groups p (change (appends k x) s)
applied-groups (lists d n x ∷ p) s = applied-groups p (change (lists d n x) s)
applied-groups (introduces d rs ∷ p) s = applied-groups p (change (introduces d rs) s)
applied-groups (defines r v ∷ p) s = applied-groups p (change (defines r v) s)
applied-groups (creates d is ∷ p) s = applied-groups p (change (creates d is) s)
applied-groups (core_appends k x ∷ p) s = applied-groups p (change (core_appends k x) s)
applied-groups (charges zero n ∷ p) s = applied-groups p (change (charges zero n) s)
applied-groups (charges (suc k) n ∷ p) s = applied-groups p (change (charges (suc k) n) s)
applied-groups (types_slots v ∷ p) s = applied-groups p (change (types_slots v) s)
applied-groups (marks_value b ∷ p) s = applied-groups p (change (marks_value b) s)
applied-groups (uses_value k ∷ p) s = applied-groups p (change (uses_value k) s)
applied-groups (names_start ∷ p) s = applied-groups p (change names_start s)

-- ## Tables grow behind

pub grown-behind : (gs : List Group) (g : Group) → IsPrefix gs (grown gs g)
grown-behind gs [] = no_more gs
grown-behind gs (s ∷ ss) = go (id_of gs (s ∷ ss))
  where
    go : (o : Option ℕ) → IsPrefix gs (joined_to o gs (s ∷ ss))
    go None = ((s ∷ ss) ∷ [], refl)
    go (Some i) = no_more gs

-- what declarations of a module make
abbrev Behind-made : List Group → Made → Type 0
Behind-made gs m = IsPrefix gs m.0

mapped-made : {A : Type 0} (gs : List Group) (f : A → Made) → ((a : A) → Behind-made gs (f a)) → (o : Option A) → OfAny (Behind-made gs) (option_map f o)
mapped-made gs f h None = tt
mapped-made gs f h (Some a) = h a

declared-behind : (outers : List (List Core_entry)) (gs : List Group) (m : Module_type) (d : Module_decl) → OfAny (Behind-made gs) (declared outers gs m d)
declared-behind outers gs m (module_type w) = grown-behind gs (closed_group (module_entries m) w)
declared-behind outers gs m (module_import i) = mapped-made gs (λ e. (gs, with_import gs m (i.module, i.name) e)) (λ e. no_more gs) (entity_of m.types i.ty)
declared-behind outers gs m (module_export n t) = mapped-made gs (λ e. (gs, with_export gs m n e)) (λ e. no_more gs) (entity_of m.types t)
declared-behind outers gs m (module_outer k i) = mapped-made gs (λ t. (gs, with_type m t)) (λ t. no_more gs) (aliased outers m k i)

declaration-behind : (outers : List (List Core_entry)) (gs : List Group) (m : Module_type) (d : Module_decl) → OfAny (Behind-made gs) (declaration_made outers gs m d)
declaration-behind outers gs m d = go (is_declarable gs m d)
  where
    go : (b : Bool) → OfAny (Behind-made gs) (cond b (declared outers gs m d) None)
    go true = declared-behind outers gs m d
    go false = tt

made-behind : (outers : List (List Core_entry)) (gs : List Group) (m : Module_type) (ds : List Module_decl) → OfAny (Behind-made gs) (module_made outers gs m ds)
made-behind outers gs m [] = no_more gs
made-behind outers gs m (d ∷ ds) = go (declaration_made outers gs m d) (declaration-behind outers gs m d) (λ s. made-behind outers s.0 s.1 ds)
  where
    later : (s : Made) (o : Option Made) → Behind-made gs s → OfAny (Behind-made s.0) o → OfAny (Behind-made gs) o
    later s None w v = tt
    later s (Some t) w v = prefix_trans gs s.0 t.0 w v

    go : (o : Option Made) → OfAny (Behind-made gs) o → ((s : Made) → OfAny (Behind-made s.0) (module_made outers s.0 s.1 ds)) → OfAny (Behind-made gs) (and_then (λ s. module_made outers s.0 s.1 ds) o)
    go None w v = tt
    go (Some s) w v = later s (module_made outers s.0 s.1 ds) w (v s)

-- ## Steps

module _ (gs : List Group) where
  -- behind the step the table begins as it was
  abbrev pub Behind : Step tree_reader → Type 0
  Behind p = IsPrefix gs (groups-behind p gs)

  abbrev AnyBehind : Option (Step tree_reader) → Type 0
  AnyBehind o = OfAny Behind o

  mapped : {A : Type 0} (f : A → Step tree_reader) → ((a : A) → Behind (f a)) → (o : Option A) → AnyBehind (option_map f o)
  mapped f h None = tt
  mapped f h (Some a) = h a

  where-so : (b : Bool) (o : Option (Step tree_reader)) → AnyBehind o → AnyBehind (cond b o None)
  where-so true o w = w
  where-so false o w = tt

  uses : (ks : List ℕ) (p : Step tree_reader) → Behind p → Behind (uses_each ks ++ p)
  uses [] p w = w
  uses (k ∷ ks) p w = uses ks p w

  using-behind : (ks : List ℕ) (o : Option (Step tree_reader)) → AnyBehind o → AnyBehind (using ks o)
  using-behind ks None w = tt
  using-behind ks (Some p) w = uses ks p w

  joins-behind : (used : Bool) (o : Sort) (t : Type_tree) → Behind (joins tree_reader used o t)
  joins-behind used is_func t = no_more gs
  joins-behind used is_value t = no_more gs
  joins-behind used is_instance t = no_more gs
  joins-behind used is_component t = no_more gs
  joins-behind used is_type t = no_more gs
  joins-behind used is_module t = no_more gs
  joins-behind used is_resource t = no_more gs
  joins-behind used is_nothing t = no_more gs
  joins-behind used is_core_instance t = no_more gs
  joins-behind used is_core_type t = no_more gs
  joins-behind used is_core_item t = no_more gs

  pub enters-behind : (d : Side) (n : Extern_name) (b : Brought tree_reader) → Behind (enters d n b)
  enters-behind d n b = joins-behind (same_side d exporting) (sort b.entity) b.entity

  types-same : (is : List ℕ) (hs : List Group) → groups-behind (types_join tree_reader is) hs ≡ hs
  types-same [] hs = refl
  types-same (i ∷ is) hs = types-same is hs

  charged-behind : (s : Tree_stack) (w : ComponentOuterAliasKind) (n : ℕ) (t : Type_tree) (p : Step tree_reader) → Behind p → Behind (charged s w n t ++ p)
  charged-behind s w zero t p h = h
  charged-behind s w (suc n) t p h = go (is_charged w && concrete_at n s)
    where
      go : (b : Bool) → Behind (cond b (charges n (tree_reader.size t) ∷ []) [] ++ p)
      go true = h
      go false = h

  outer-behind : (w : ComponentOuterAliasKind) (t : Type_tree) → Behind (outer_joins w t)
  outer-behind outer.CoreModule t = no_more gs
  outer-behind outer.CoreType t = no_more gs
  outer-behind outer.Ty t = no_more gs
  outer-behind outer.Component t = no_more gs

  result-behind : (o : Option Type_tree) → Behind (names_start ∷ result_joins {X = tree_reader} o)
  result-behind None = no_more gs
  result-behind (Some t) = no_more gs

-- ## Items

module _ (mk : Maker tree_reader) (s : Tree_stack) where
  types-behind : (t : Type_form) → AnyBehind s.groups (type_step mk s.top t)
  types-behind (defined_type d) = mapped s.groups (added mk) (λ n. no_more s.groups) (type_made s.top (defined_type d))
  types-behind (func_type f) = mapped s.groups (added mk) (λ n. no_more s.groups) (type_made s.top (func_type f))
  types-behind (component_type ds) = tt
  types-behind (instance_type ds) = tt
  types-behind (resource_type rep dtor) = any_cond (Behind s.groups) (is_concrete s.top.kind && dtor_stands s.top dtor) (defines mk.resource (Some rep) ∷ joins_types mk.reference) (no_more s.groups)

  modules-behind : (k : Core_space) (o : Option Made) → OfAny (Behind-made s.groups) o → AnyBehind s.groups (option_map (module_joins mk k) o)
  modules-behind k None w = tt
  modules-behind k (Some m) w = w

  core_types-behind : (fs : WasmFeatures) (t : Core_type_form) → AnyBehind s.groups (core_type_step fs mk s t)
  core_types-behind fs (core_rec w) =
      let g : Group = closed_group (core_entries s.top) w in
      any_cond (Behind s.groups) (may_join s.groups (core_entries s.top) w) (closed_step tree_reader s.groups g)
      (subst (IsPrefix s.groups) (sym (types-same s.groups (group_ids s.groups g) (grown s.groups g))) (grown-behind s.groups g))
  core_types-behind fs (core_module_type ds) = modules-behind core_types (core_type_made fs s (core_module_type ds)) (made-behind (outer_entries s) s.groups (empty_module fs) ds)

  instances-behind : (o : Option (Brought tree_reader)) → AnyBehind s.groups (option_map instance_joins o)
  instances-behind o = mapped s.groups instance_joins (λ b. no_more s.groups) o

  pub aliases-behind : (a : ComponentAlias) → AnyBehind s.groups (alias_step s a)
  aliases-behind (alias.InstanceExport w i n) = mapped s.groups joining (λ t. joins-behind s.groups false (sort t) t) _
  aliases-behind (alias.CoreInstanceExport w i n) = mapped s.groups (item_joins tree_reader w) (λ e. no_more s.groups) _
  aliases-behind (alias.Outer w n i) = mapped s.groups (λ t. charged s w n t ++ outer_joins w t) (λ t. charged-behind s.groups s w n t (outer_joins w t) (outer-behind s.groups w t)) (outer_at s w n i)

  starts-behind : (f : ℕ) (args : List ℕ) → AnyBehind s.groups (start_step s.top f args)
  starts-behind f args = where-so s.groups (list_all (λ k. not (is_none (value_at s.top k))) args) (option_map (start_joins args) (func_at s.top f))
      (mapped s.groups (start_joins args) (λ t. uses s.groups args (names_start ∷ result_joins (tree_reader.result t)) (result-behind s.groups (tree_reader.result t))) (func_at s.top f))

  pub steps-behind : (fs : WasmFeatures) (f : Form) (p : Step tree_reader) → step fs mk s f ≡ Some p → Behind s.groups p
  steps-behind fs (type_item t) p e = of_some (Behind s.groups) (type_step mk s.top t) p (types-behind t) e
  steps-behind fs (import_item i) p e = of_some (Behind s.groups) (import_step mk s.top i) p (mapped s.groups (enters importing (extern_name i.name)) (enters-behind s.groups importing (extern_name i.name)) (new_there importing (extern_name i.name) s.top (written mk s.top i.ty))) e
  steps-behind fs (export_item i) p e =
      of_some (Behind s.groups) (export_step mk s.top i) p
      (using-behind s.groups (exported_values i) (option_map (enters exporting (extern_name i.name)) (new_there exporting (extern_name i.name) s.top (exported mk s.top i)))
      (mapped s.groups (enters exporting (extern_name i.name)) (enters-behind s.groups exporting (extern_name i.name)) (new_there exporting (extern_name i.name) s.top (exported mk s.top i)))) e
  steps-behind fs (core_type_item t) p e = of_some (Behind s.groups) (core_type_step fs mk s t) p (core_types-behind fs t) e
  steps-behind fs (core_module_item ds) p e = of_some (Behind s.groups) (core_module_step fs mk s ds) p (modules-behind core_modules (core_module_made fs s ds) (made-behind [] s.groups (empty_module fs) ds)) e
  steps-behind fs (core_instance_item i) p e = of_some (Behind s.groups) (core_instance_step mk s i) p (mapped s.groups (core.instance_joins mk) (λ m. no_more s.groups) (core_instance_made s i)) e
  steps-behind fs (component_item is end) p e = cc
  steps-behind fs (instance_item i) p e = of_some (Behind s.groups) (instance_step mk s i) p (using-behind s.groups (instance_values i) (option_map instance_joins (instance_made mk s i)) (instances-behind (instance_made mk s i))) e
  steps-behind fs (alias_item a) p e = of_some (Behind s.groups) (alias_step s a) p (aliases-behind a) e
  steps-behind fs (start_item f args n) p e = of_some (Behind s.groups) (start_step s.top f args) p (starts-behind f args) e
  steps-behind fs (canon_item c) p e = canon-holds s (Behind s.groups) (λ v y w. w) (λ b w. grown-behind s.groups (closed_group (core_entries s.top) (alone b w))) (λ k t q. no_more s.groups) c p e
