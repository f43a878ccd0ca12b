-- What steps keep of core types: entries name types of the table.
use Rattle.std.proofs.Common.{◌≡◌, ◌<◌, ◌≤◌, ℕ, zero, suc, List, [], ◌∷◌, ◌++◌, map, Bool, true, false, cond, bytes_eq, refl, sym, subst, Option, Some}
use Rattle.std.specs.Prelude.{All, not, slice_get}
use Rattle.std.specs.List.{list_all}
use Rattle.std.specs.Map.{lookup}
use Rattle.std.specs.Option.{option_map, option_and_then}
use Rattle.std.proofs.lemmas.List.Elements.{All-nil, All-cons, All-head, All-tail}
use Rattle.wcv_core.specs.Checks.{IsFree}
use Rattle.wcv_core.specs.CoreForm.{CompositeForm, Group}
use Rattle.wcv_core.specs.CoreGroups.{total}
use Rattle.wcv_core.specs.CoreJoining.{first_id, group_ids, grown}
use Rattle.wcv_core.specs.CoreSizes.{IsEntityWithin}
use Rattle.wcv_core.specs.CoreWritten.{Core_entry, IsKnown, closed_group}
use Rattle.wcv_core.specs.Names.{Place}
use Rattle.wcv_core.specs.declared.core_types.EntityType.{EntityType}
use Rattle.wcv_core.specs.declared.features.WasmFeatures.{WasmFeatures}
use Rattle.wcv_core.proofs.Causes.{free_left}
use Rattle.wcv_core.proofs.Within.{mapped_of_all}
use Rattle.wcv_syntax.specs.Model.{Core_type_form, core_rec, core_module_type, Module_decl, Core_instance_form, core_instantiate, core_bag, Canon_form}
use Rattle.wcv_syntax.specs.ModuleTypes.{Made, empty_module, module_checks}
use Rattle.wcv_syntax.specs.declared.core_section.Export.{Export}
use Rattle.wcv_syntax.specs.declared.core_section.ExternalKind.{ExternalKind}
use Rattle.wcv_syntax.specs.declared.core_section.InstantiationArg.{InstantiationArg}
use Rattle.wcv_types.specs.Tree.{Text, Extern_name, Sort, is_nothing, is_value, is_resource, is_func, is_instance, is_component, is_type, is_module, is_core_instance, is_core_type, is_core_item, core_type, node, sort}
use Rattle.wcv_types.proofs.Lists.{some-inj}
use Rattle.wcv_lower.specs.Canons.{alone, func_joins, canon_step}
use Rattle.wcv_lower.specs.Checks.{is_none, no_type_room}
use Rattle.wcv_lower.specs.Context.{Core_space, core_types, core_modules, core_instances, Side, exporting, same_side, counts}
use Rattle.wcv_lower.specs.CoreInstances.{space_of, core_module_at, core_instance_at, core_item_at, item_listed, items_listed, listed_size, module_instance, core_instance_made, instance_joins, core_instance_step, core_export_of, is_of, if_of, item_joins, core_alias_step}
use Rattle.wcv_lower.specs.CoreItems.{core_entries, outer_entries, may_join, types_join, closed_step, module_joins, core_type_made, core_module_made, core_type_step, core_module_step, core_type_checks, core_module_checks}
use Rattle.wcv_lower.specs.Marks.{uses_each}
use Rattle.wcv_lower.specs.Names.{Names, introduced}
use Rattle.wcv_lower.specs.Owned.{AllEntries, Everywhere}
use Rattle.wcv_lower.specs.Readers.{New_node, core_exports_node}
use Rattle.wcv_lower.specs.Step.{Change, appends, lists, introduces, defines, creates, core_appends, interns, charges, types_slots, marks_value, uses_value, names_start, Step, Brought, change, apply, joins, enters}
use Rattle.wcv_lower.specs.Trees.{Type_tree, Tree_context, Tree_stack, tree_reader, tree_maker, core_entry}
use Rattle.wcv_lower.proofs.Applied.{applied_has}
use Rattle.wcv_lower.proofs.Bringing.{OfAny, any_at, any_then, Brings, brings_one}
use Rattle.wcv_lower.proofs.TableGroups.{ids_known}
use Rattle.wcv_growth.proofs.CanonGrowing.{canon-holds}
use Rattle.wcv_growth.proofs.CoreFound.{sorted-of}
use Rattle.wcv_growth.proofs.CoreGrowing.{if-some}
use Rattle.wcv_growth.proofs.CoreModules.{IsMade, grown-more, module-kept}
use Rattle.wcv_growth.proofs.Known.{mapped-some, then-some, all-get, entries-weaker, Any}
use Rattle.wcv_growth.proofs.OfTable.{OfTable, table-more, created-of, before-any, item-of, instance-items, exports-made, module-of}

-- each entry of each open context names types of the table
pub record CoreKept (s : Tree_stack) : Type 0 where
  pub entries : Everywhere (OfTable (total s.groups)) s

-- ## Changes

-- what a change brings, behind those that made these groups
abbrev pub Keeps : Change tree_reader → List Group → Type 0
Keeps (appends k t) gs = OfTable (total gs) t
Keeps (lists d x t) gs = OfTable (total gs) t
Keeps (core_appends k t) gs = OfTable (total gs) t
Keeps (interns hs) gs = total gs ≤ total hs
Keeps (introduces d rs) gs = Unit {0}
Keeps (defines r v) gs = Unit {0}
Keeps (creates d is) gs = Unit {0}
Keeps (charges k n) gs = Unit {0}
Keeps (types_slots v) gs = Unit {0}
Keeps (marks_value b) gs = Unit {0}
Keeps (uses_value k) gs = Unit {0}
Keeps names_start gs = Unit {0}

abbrev pub groups_behind : Change tree_reader → List Group → List Group
groups_behind (interns hs) gs = hs
groups_behind _ gs = gs

abbrev pub AllKeep : Step tree_reader → List Group → Type 0
AllKeep [] gs = Unit {0}
AllKeep (c ∷ x) gs = Keeps c gs × AllKeep x (groups_behind c gs)

-- the groups stay, and the change brings an entry of the table, if it brings one
same-kept : (c : Change tree_reader) (s : Tree_stack) → CoreKept s → Brings (OfTable (total s.groups)) Any c → (change c s).groups ≡ s.groups → CoreKept (change c s)
same-kept c s h w e = record {
  entries = subst (λ (gs : List Group). Everywhere (OfTable (total gs)) (change c s)) (sym e) (applied_has (OfTable (total s.groups)) Any (c ∷ []) s h.entries (brings_one (OfTable (total s.groups)) Any c w));
}

change-kept : (c : Change tree_reader) (s : Tree_stack) → CoreKept s → Keeps c s.groups → CoreKept (change c s) × ((change c s).groups ≡ groups_behind c s.groups)
change-kept (appends k t) s h w = (same-kept (appends k t) s h w refl, refl)
change-kept (lists d x t) s h w = (same-kept (lists d x t) s h w refl, refl)
change-kept (core_appends k t) s h w = (same-kept (core_appends k t) s h w refl, refl)
change-kept (introduces d rs) s h w = (same-kept (introduces d rs) s h (λ k x l. tt) refl, refl)
change-kept (defines r v) s h w = (same-kept (defines r v) s h tt refl, refl)
change-kept (creates d is) s h w = (same-kept (creates d is) s h tt refl, refl)
change-kept (charges zero n) s h w = (same-kept (charges zero n) s h tt refl, refl)
change-kept (charges (suc k) n) s h w = (same-kept (charges (suc k) n) s h tt refl, refl)
change-kept (types_slots v) s h w = (same-kept (types_slots v) s h tt refl, refl)
change-kept (marks_value b) s h w = (same-kept (marks_value b) s h tt refl, refl)
change-kept (uses_value k) s h w = (same-kept (uses_value k) s h tt refl, refl)
change-kept names_start s h w = (same-kept names_start s h tt refl, refl)
change-kept (interns hs) s h w =
    (record { entries = λ j c e. entries-weaker (OfTable (total s.groups)) (OfTable (total hs)) c (table-more (total s.groups) (total hs) w) (h.entries j c e) }, refl)

pub apply-kept : (x : Step tree_reader) (s : Tree_stack) → CoreKept s → AllKeep x s.groups → CoreKept (apply x s)
apply-kept [] s h w = h
apply-kept (c ∷ x) s h w =
    let v = change-kept c s h w.0 in
    apply-kept x (change c s) v.0 (subst (AllKeep x) (sym v.1) w.1)

-- ## Steps

module _ (gs : List Group) where
  pub joins-keep : (used : Bool) (o : Sort) (t : Type_tree) → OfTable (total gs) t → AllKeep (joins tree_reader used o t) gs
  joins-keep used is_func t w = (w, tt)
  joins-keep used is_value t w = (w, (tt, tt))
  joins-keep used is_instance t w = (w, tt)
  joins-keep used is_component t w = (w, tt)
  joins-keep used is_type t w = (created-of (total gs) t w, tt)
  joins-keep used is_module t w = (w, tt)
  joins-keep used is_resource t w = tt
  joins-keep used is_nothing t w = tt
  joins-keep used is_core_instance t w = tt
  joins-keep used is_core_type t w = tt
  joins-keep used is_core_item t w = tt

  pub enters-keep : (d : Side) (n : Extern_name) (b : Brought tree_reader) → OfTable (total gs) b.entity → AllKeep (enters d n b) gs
  enters-keep d n b w = (tt, (w, (tt, joins-keep (same_side d exporting) (sort b.entity) b.entity w)))

  pub uses-keep : (ks : List ℕ) (x : Step tree_reader) → AllKeep x gs → AllKeep (uses_each ks ++ x) gs
  uses-keep [] x w = w
  uses-keep (k ∷ ks) x w = (tt, uses-keep ks x w)

  types-keep : (is : List ℕ) → All (λ i. i < total gs) is → AllKeep (types_join tree_reader is) gs
  types-keep [] a = tt
  types-keep (i ∷ is) a = ((All-head (λ (i : ℕ). i < total gs) i is a, tt), types-keep is (All-tail (λ (i : ℕ). i < total gs) i is a))

-- ## Core items

entry-known : (n : ℕ) (t : Type_tree) → OfTable n t → IsKnown n (core_entry t)
entry-known n (node (core_type i) ps) w = w.0
entry-known n (node h ps) w = tt

found-has : (P : EntityType → Type 0) (x : Text) (es : List (Text × EntityType)) (e : EntityType) → All (λ y. P y.1) es → lookup (bytes_eq x) es ≡ Some e → P e
found-has P x [] e a q = cc
found-has P x (y ∷ es) e a q = go (bytes_eq x y.0) q (λ d. found-has P x es e (All-tail (λ (z : Text × EntityType). P z.1) y es a) d)
  where
    go : (b : Bool) → cond b (Some y.1) (lookup (bytes_eq x) es) ≡ Some e → (lookup (bytes_eq x) es ≡ Some e → P e) → P e
    go true d later = subst P (some-inj d) (All-head (λ (z : Text × EntityType). P z.1) y es a)
    go false d later = later d

module _ (s : Tree_stack) (h : CoreKept s) where
  abbrev n : ℕ
  n = total s.groups

  abbrev y : AllEntries (OfTable n) s.top
  y = h.entries zero s.top refl

  context-known : (c : Tree_context) → AllEntries (OfTable n) c → All (IsKnown n) (core_entries c)
  context-known c a = mapped_of_all (OfTable n) (IsKnown n) core_entry (c.core core_types) (entry-known n) (a.core core_types)

  each-known : (cs : List Tree_context) → ((j : ℕ) (c : Tree_context) → slice_get cs j ≡ Some c → AllEntries (OfTable n) c) → All (All (IsKnown n)) (map core_entries cs)
  each-known [] f = All-nil (All (IsKnown n))
  each-known (c ∷ cs) f = All-cons (All (IsKnown n)) (core_entries c) (map core_entries cs) (context-known c (f 0 c refl)) (each-known cs (λ j d e. f (suc j) d e))

  outers-known : All (All (IsKnown n)) (outer_entries s)
  outers-known = each-known (s.top ∷ s.outer) h.entries

  module _ (fs : WasmFeatures) (names : Names) (p : Place) where
    module-keeps : (k : Core_space) (outers : List (List Core_entry)) (ds : List Module_decl) (m : Made) → IsMade s.groups m → AllKeep (module_joins (tree_maker names p) k m) s.groups
    module-keeps k outers ds m w = (w.more, (module-of (total m.0) (names.identity (introduced p)) m.1 w.imports w.exports, tt))

    pub core_type-keeps : (t : Core_type_form) (x : Step tree_reader) → IsFree (core_type_checks fs s t) → core_type_step fs (tree_maker names p) s t ≡ Some x → AllKeep x s.groups
    core_type-keeps (core_rec w) x free e =
        let g : Group = closed_group (core_entries s.top) w in
        subst (λ (z : Step tree_reader). AllKeep z s.groups) (some-inj (if-some (may_join s.groups (core_entries s.top) w) (Some (closed_step tree_reader s.groups g)) x e))
        (grown-more s.groups g, types-keep (grown s.groups g) (group_ids s.groups g) (ids_known s.groups g))
    core_type-keeps (core_module_type ds) x free e =
        let m = mapped-some (module_joins (tree_maker names p) core_types) (core_type_made fs s (core_module_type ds)) x e in
        let f : IsFree (module_checks (outer_entries s) s.groups (empty_module fs) ds) = free_left (module_checks (outer_entries s) s.groups (empty_module fs) ds) (no_type_room true (counts s.top)) free in
        subst (λ (z : Step tree_reader). AllKeep z s.groups) m.2 (module-keeps core_types (outer_entries s) ds m.0 (module-kept fs (outer_entries s) s.groups ds m.0 outers-known f m.1))

    pub core_module-keeps : (ds : List Module_decl) (x : Step tree_reader) → IsFree (core_module_checks fs s ds) → core_module_step fs (tree_maker names p) s ds ≡ Some x → AllKeep x s.groups
    core_module-keeps ds x free e =
        let m = mapped-some (module_joins (tree_maker names p) core_modules) (core_module_made fs s ds) x e in
        subst (λ (z : Step tree_reader). AllKeep z s.groups) m.2 (module-keeps core_modules [] ds m.0 (module-kept fs [] s.groups ds m.0 (All-nil (All (IsKnown n))) free m.1))

  -- ## Core instances

  listed-any : (e : Export) → OfAny (IsEntityWithin n) (item_listed s.top e)
  listed-any e = any_then (OfTable n) (IsEntityWithin n) tree_reader.item (item-of n) (core_item_at s.top e.kind e.index) (any_at (OfTable n) (s.top.core (space_of e.kind)) e.index (y.core (space_of e.kind)))

  listed-within : (es : List Export) → All (λ e. IsEntityWithin n e.1) (items_listed s.top es)
  listed-within [] = All-nil (λ (e : Text × EntityType). IsEntityWithin n e.1)
  listed-within (e ∷ es) = before-any n e.name (item_listed s.top e) (items_listed s.top es) (listed-any e) (listed-within es)

  module _ (names : Names) (p : Place) where
    abbrev joins_as : New_node tree_reader → Step tree_reader
    joins_as m = instance_joins (tree_maker names p) m

    abbrev Joins : New_node tree_reader → Type 0
    Joins m = AllKeep (joins_as m) s.groups

    pub core_instance-keeps : (i : Core_instance_form) (x : Step tree_reader) → core_instance_step (tree_maker names p) s i ≡ Some x → AllKeep x s.groups
    core_instance-keeps (core_instantiate i args) x e =
        let m = mapped-some joins_as (core_instance_made s (core_instantiate i args)) x e in
        let o = if-some (list_all (λ (a : InstantiationArg). not (is_none (core_instance_at s.top a.index))) args) (option_map (module_instance tree_reader s.groups) (core_module_at s.top i)) m.0 m.1 in
        let t = mapped-some (module_instance tree_reader s.groups) (core_module_at s.top i) m.0 o in
        let w : OfTable n t.0 = all-get (OfTable n) (s.top.core core_modules) i t.0 (y.core core_modules) t.1 in
        subst (λ (z : Step tree_reader). AllKeep z s.groups) m.2 (subst Joins t.2 ((tt, (w, tt)), tt))
    core_instance-keeps (core_bag es) x e =
        let m = mapped-some joins_as (core_instance_made s (core_bag es)) x e in
        let k : New_node tree_reader = core_exports_node (listed_size s.groups (items_listed s.top es)) (items_listed s.top es) in
        let o = if-some (list_all (λ (e : Export). not (is_none (item_listed s.top e))) es) (Some k) m.0 m.1 in
        subst (λ (z : Step tree_reader). AllKeep z s.groups) m.2 (subst Joins (some-inj o) ((tt, exports-made n (items_listed s.top es) (listed-within es)), tt))

  -- ## Aliases

  pub core_alias-keeps : (k : ExternalKind) (i : ℕ) (x : Text) (z : Step tree_reader) → core_alias_step s.top k i x ≡ Some z → AllKeep z s.groups
  core_alias-keeps k i x z e =
      let found : Option EntityType = option_and_then (core_export_of tree_reader x) (core_instance_at s.top i) in
      let m = mapped-some (item_joins tree_reader k) (option_and_then (if_of k) found) z e in
      let o = then-some (if_of k) found m.0 m.1 in
      let same : o.0 ≡ m.0 = some-inj (if-some (is_of k o.0) (Some o.0) m.0 o.2) in
      let t = then-some (core_export_of tree_reader x) (core_instance_at s.top i) o.0 o.1 in
      let w : OfTable n t.0 = all-get (OfTable n) (s.top.core core_instances) i t.0 (y.core core_instances) t.1 in
      let v : IsEntityWithin n m.0 = subst (IsEntityWithin n) same (found-has (IsEntityWithin n) x (tree_reader.core_exports t.0) o.0 (instance-items n t.0 w) t.2) in
      subst (λ (q : Step tree_reader). AllKeep q s.groups) m.2 ((v, tt), tt)

  -- ## Canonical functions

  func-keeps : (b : Bool) (w : CompositeForm) → AllKeep (func_joins tree_reader s.groups (closed_group (core_entries s.top) (alone b w))) s.groups
  func-keeps b w =
      let g : Group = closed_group (core_entries s.top) (alone b w) in
      (grown-more s.groups g, ((All-head (λ (i : ℕ). i < total (grown s.groups g)) (first_id s.groups g) [] (ids_known s.groups g), tt), tt))

  pub canon-keeps : (f : Canon_form) (x : Step tree_reader) → canon_step s f ≡ Some x → AllKeep x s.groups
  canon-keeps f x e = canon-holds s (λ z. AllKeep z s.groups) (λ v z w. (tt, w)) func-keeps (λ k t q. (sorted-of n s.top y is_func k t q, tt)) f x e
