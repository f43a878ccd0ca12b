-- What an item, but for a declared type, and a declared export do to the stack that they stand in.
use Rattle.std.proofs.Common.{◌≡◌, ℕ, zero, ◌++◌, refl, true, ◌∙◌, ap, subst, Some}
use Rattle.std.specs.Option.{option_map}
use Rattle.wcv_core.specs.Names.{Name, Place}
use Rattle.wcv_core.specs.declared.features.WasmFeatures.{WasmFeatures}
use Rattle.wcv_syntax.specs.Model.{Form, core_type_item, core_module_item, core_instance_item, type_item, import_item, export_item, component_item, instance_item, alias_item, start_item, canon_item}
use Rattle.wcv_syntax.specs.declared.component_type.ComponentTypeRef.{ComponentTypeRef}
use Rattle.wcv_syntax.specs.declared.instance.ComponentAlias.TheVariants as alias
use Rattle.wcv_syntax.specs.declared.name.ComponentExternName.{ComponentExternName}
use Rattle.wcv_types.specs.Tree.{Parts}
use Rattle.wcv_lower.specs.Checks.{IsFree}
use Rattle.wcv_lower.specs.Context.{is_concrete, Side, importing, exporting}
use Rattle.wcv_lower.specs.Declared.{applied, declared_export_step}
use Rattle.wcv_lower.specs.Entries.{extern_name, written, exported, new_there, exported_values}
use Rattle.wcv_lower.specs.Even.{IsBalanced}
use Rattle.wcv_lower.specs.Growth.{step, grow, call_checks}
use Rattle.wcv_lower.specs.Marks.{uses_each}
use Rattle.wcv_lower.specs.Names.{names_by_place}
use Rattle.wcv_lower.specs.Owned.{OwnsNot, OwnApart, AllEntries, Everywhere, AreRegular}
use Rattle.wcv_lower.specs.Step.{Step, apply, enters, Brought}
use Rattle.wcv_lower.specs.Trees.{Type_tree, Tree_context, Tree_stack, tree_reader, tree_maker}
use Rattle.wcv_lower.proofs.EntryLaws.{newly_there}
use Rattle.wcv_lower.proofs.Bringing.{AllBring, BroughtOf, of_some, enters_bring, written_has}
use Rattle.wcv_lower.proofs.CalmInstances.{keeps_apart}
use Rattle.wcv_lower.proofs.EvenInstances.{regular_apart, keeps_balanced}
use Rattle.wcv_lower.proofs.EvenTypes.{balanced_inherited}
use Rattle.wcv_lower.proofs.ItemsBring.{ItemKeeps, items_bring, items_bring_given}
use Rattle.wcv_lower.proofs.Owning.{Inherited, owns_not_inherited, own_apart_inherited, owns_not_given}
use Rattle.wcv_growth.proofs.AliasGrowing.{export_alias-does, outer_alias-does}
use Rattle.wcv_growth.proofs.CanonGrowing.{canon-does}
use Rattle.wcv_growth.proofs.CoreGrowing.{core_type-does, core_module-does, core_instance-does, core_alias-does}
use Rattle.wcv_growth.proofs.Entering.{written-does, exported-does}
use Rattle.wcv_growth.proofs.Growing.{Ready, Grows, Does, Owns, own-nothing, does-grow, type-does}
use Rattle.wcv_growth.proofs.InstanceGrowing.{instance-does}
use Rattle.wcv_growth.proofs.Known.{mapped-some, Any}
use Rattle.wcv_growth.proofs.Joining.{still-sorted, items-join, entry-joins}
use Rattle.wcv_growth.proofs.Marked.{uses-does}
use Rattle.wcv_growth.proofs.StartGrowing.{start-does}
use Rattle.wcv_growth.proofs.Tidy.{Known, TidyEntry, tidy-bare}
use Rattle.wcv_growth.proofs.TidyRegular.{tidy-regular}

-- the side whose resources an item adds to
abbrev pub side_of : Form → Side
side_of (import_item i) = importing
side_of f = exporting

-- an instance is made in a component alone
abbrev pub MayStand : Form → Tree_context → Type 0
MayStand (instance_item i) c = is_concrete c.kind ≡ true
MayStand f c = Unit {0}

pub stands-in-component : (f : Form) (c : Tree_context) → is_concrete c.kind ≡ true → MayStand f c
stands-in-component (instance_item i) c e = e
stands-in-component f c e = tt

module _ (p : Place) (s : Tree_stack) (h : Ready p s) (g : Known) (y : Everywhere (TidyEntry g) s) where
  abbrev here : AllEntries (TidyEntry g) s.top
  here = y zero s.top refl

  step-does : (fs : WasmFeatures) (f : Form) (x : Step tree_reader) → MayStand f s.top → IsFree (call_checks fs (tree_maker names_by_place p) s f) → step fs (tree_maker names_by_place p) s f ≡ Some x → Does (side_of f) p s x
  step-does fs (type_item t) x may free e = type-does p s h t x e
  step-does fs (import_item i) x may free e =
      let m = mapped-some (enters importing (extern_name i.name)) (new_there importing (extern_name i.name) s.top (written (tree_maker names_by_place p) s.top i.ty)) x e in
      let o = newly_there importing (extern_name i.name) s.top (written (tree_maker names_by_place p) s.top i.ty) m.0 m.1 in
      subst (Does importing p s) m.2 (written-does p s h importing (extern_name i.name) i.ty m.0 o.0)
  step-does fs (export_item i) x may free e =
      let u = mapped-some (λ (z : Step tree_reader). uses_each (exported_values i) ++ z) (option_map (enters exporting (extern_name i.name)) (new_there exporting (extern_name i.name) s.top (exported (tree_maker names_by_place p) s.top i))) x e in
      let m = mapped-some (enters exporting (extern_name i.name)) (new_there exporting (extern_name i.name) s.top (exported (tree_maker names_by_place p) s.top i)) u.0 u.1 in
      let o = newly_there exporting (extern_name i.name) s.top (exported (tree_maker names_by_place p) s.top i) m.0 m.1 in
      subst (Does exporting p s) u.2 (uses-does exporting p s (exported_values i) u.0 (subst (Does exporting p s) m.2 (exported-does p s h (tidy-bare g s.top here) (extern_name i.name) i i.ty m.0 o.0)))
  step-does fs (core_type_item t) x may free e = core_type-does p s h fs t x e
  step-does fs (core_module_item ds) x may free e = core_module-does p s h fs ds x e
  step-does fs (core_instance_item i) x may free e = core_instance-does p s h i x e
  step-does fs (component_item is end) x may free e = cc
  step-does fs (instance_item i) x may free e = instance-does p s h may g here i x e
  step-does fs (alias_item (alias.CoreInstanceExport k i n)) x may free e = core_alias-does p s h k i n x e
  step-does fs (alias_item (alias.InstanceExport k i n)) x may free e = export_alias-does p s h (tidy-bare g s.top here) k i n x e
  step-does fs (alias_item (alias.Outer k n i)) x may free e = outer_alias-does p s h g y k n i x free e
  step-does fs (start_item f args n) x may free e = start-does s f args x e p h
  step-does fs (canon_item f) x may free e = canon-does p s h f x e

  -- ## What its entries own

  regular : AreRegular s.top
  regular = tidy-regular g s.top here

  item-apart : (fs : WasmFeatures) (f : Form) (x : Step tree_reader) → step fs (tree_maker names_by_place p) s f ≡ Some x → ItemKeeps own_apart_inherited Any names_by_place p (λ o. tt) s h.apart f
  item-apart fs (instance_item i) x e =
      keeps_apart Any names_by_place p s (h.apart zero s.top refl) i
      (regular_apart s h.balanced.0 (h.balanced.1 zero s.top refl) regular names_by_place p (apply x s) i (ap (option_map (λ (z : Step tree_reader). apply z s)) e)) (λ o. tt)
  item-apart fs f x e = tt

  item-balanced : (fs : WasmFeatures) (f : Form) (x : Step tree_reader) (v : Name → ℕ) (all : Everywhere (IsBalanced v) s) → step fs (tree_maker names_by_place p) s f ≡ Some x → ItemKeeps (balanced_inherited v) Any names_by_place p (λ o. tt) s all f
  item-balanced fs (instance_item i) x v all e = keeps_balanced s v (all zero s.top refl) regular names_by_place p (apply x s) Any (λ o. tt) i (ap (option_map (λ (z : Step tree_reader). apply z s)) e)
  item-balanced fs f x v all e = tt

  -- what no type owns, none owns behind it
  step-owns : (fs : WasmFeatures) (f : Form) (x : Step tree_reader) → step fs (tree_maker names_by_place p) s f ≡ Some x → Owns p s x
  step-owns fs f x e =
      own-nothing p s x h
      (λ r all. of_some (AllBring (OwnsNot r) Any) (step fs (tree_maker names_by_place p) s f) x (items_bring_given (owns_not_inherited r) Any names_by_place p (λ o. tt) s all (owns_not_given r) fs f) e)
      (of_some (AllBring OwnApart Any) (step fs (tree_maker names_by_place p) s f) x (items_bring own_apart_inherited Any names_by_place p (λ o. tt) s h.apart fs f (item-apart fs f x e)) e)
      (λ v all. of_some (AllBring (IsBalanced v) Any) (step fs (tree_maker names_by_place p) s f) x (items_bring (balanced_inherited v) Any names_by_place p (λ o. tt) s all fs f (item-balanced fs f x v all e)) e)

  pub grow-grows : (fs : WasmFeatures) (f : Form) (u : Tree_stack) → MayStand f s.top → IsFree (call_checks fs (tree_maker names_by_place p) s f) → grow fs (tree_maker names_by_place p) s f ≡ Some u → Grows (side_of f) p s u
  grow-grows fs f u may free e =
      let m = mapped-some (λ (x : Step tree_reader). apply x s) (step fs (tree_maker names_by_place p) s f) u e in
      subst (λ (t : Tree_stack). Grows (side_of f) p s t) m.2
      (does-grow p s m.0 h (side_of f) (step-owns fs f m.0 m.1) (still-sorted m.0 s (items-join p s h.fine fs f m.0 m.1) h.fine.0.sorted) (step-does fs f m.0 may free m.1))

-- ## A declared export

module _ (p : Place) (s : Tree_stack) (h : Ready p s) (n : ComponentExternName) (x : ComponentTypeRef) where
  abbrev entering : Brought tree_reader → Step tree_reader
  entering b = enters exporting (extern_name n) b

  export-brings : {P : Type_tree → Type 0} {In : Parts Name Name → Type 0} (law : Inherited P In) (b : Brought tree_reader) → written (tree_maker names_by_place p) s.top x ≡ Some b → Everywhere P s → AllBring P Any (entering b)
  export-brings law b e all =
      enters_bring law Any exporting (extern_name n) b (of_some (BroughtOf law Any) (written (tree_maker names_by_place p) s.top x) b (written_has law Any s.top (all zero s.top refl) names_by_place p (λ o. tt) x) e)

  export-owns : (b : Brought tree_reader) → written (tree_maker names_by_place p) s.top x ≡ Some b → Owns p s (entering b)
  export-owns b e =
      own-nothing p s (entering b) h (λ r all. export-brings (owns_not_inherited r) b e all) (export-brings own_apart_inherited b e h.apart) (λ v all. export-brings (balanced_inherited v) b e all)

  pub declared-grows : (u : Tree_stack) → applied s (declared_export_step (tree_maker names_by_place p) s.top n x) ≡ Some u → Grows exporting p s u
  declared-grows u e =
      let m = mapped-some (λ (y : Step tree_reader). apply y s) (declared_export_step (tree_maker names_by_place p) s.top n x) u e in
      let v = mapped-some (enters exporting (extern_name n)) (new_there exporting (extern_name n) s.top (written (tree_maker names_by_place p) s.top x)) m.0 m.1 in
      let o = newly_there exporting (extern_name n) s.top (written (tree_maker names_by_place p) s.top x) v.0 v.1 in
      let w : Grows exporting p s (apply (entering v.0) s) =
      does-grow p s (entering v.0) h exporting (export-owns v.0 o.0) (still-sorted (entering v.0) s (entry-joins exporting (extern_name n) v.0) h.fine.0.sorted) (written-does p s h exporting (extern_name n) x v.0 o.0) in
      subst (λ (t : Tree_stack). Grows exporting p s t) (ap (λ (y : Step tree_reader). apply y s) v.2 ∙ m.2) w
