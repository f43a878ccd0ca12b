-- A stack stays calm where an item or a declaration grows it.
use Rattle.std.proofs.Common.{◌≡◌, ℕ, zero, [], ◌∷◌, refl, sym, subst, Bool, true, false, cond, Some, None}
use Rattle.std.specs.Prelude.{Option}
use Rattle.wcv_core.specs.Names.{Name, Place, number, stamp, base, at, stamped, aside}
use Rattle.wcv_core.specs.declared.features.WasmFeatures.{WasmFeatures}
use Rattle.wcv_syntax.specs.Model.{Form, instance_item}
use Rattle.wcv_syntax.specs.declared.component_type.ComponentTypeRef.{ComponentTypeRef}
use Rattle.wcv_syntax.specs.declared.name.ComponentExternName.{ComponentExternName}
use Rattle.wcv_types.specs.Tree.{Extern_name}
use Rattle.wcv_types.proofs.Lists.{some-inj}
use Rattle.wcv_lower.specs.Context.{Side, exporting}
use Rattle.wcv_lower.specs.Declared.{applied, declared_export_step}
use Rattle.wcv_lower.specs.Entries.{extern_name, written, new_there}
use Rattle.wcv_lower.specs.Even.{IsBalanced}
use Rattle.wcv_lower.specs.Given.{Given, find, or_by_place, GivenNames, names_of, Numbers, AtMost, IsNewResource, AreGiven, GivesAt}
use Rattle.wcv_lower.specs.Growth.{step, grow}
use Rattle.wcv_lower.specs.Names.{Origin, introduced, again, stamp_at, same_origin}
use Rattle.wcv_lower.specs.Owned.{OwnsNot, OwnApart, ItemRegular, Everywhere, AllOwn, IsCalm}
use Rattle.wcv_lower.specs.Readers.{Brought}
use Rattle.wcv_lower.specs.Step.{Step, apply, enters}
use Rattle.wcv_lower.specs.Trees.{tree_reader, Tree_stack, tree_maker}
use Rattle.wcv_lower.proofs.Bringing.{OfAny, of_some, map-some, AllBring, BroughtOf, enters_bring, written_has}
use Rattle.wcv_lower.proofs.Calm.{IsLate, IsGentle, gentle, calm_applied}
use Rattle.wcv_lower.proofs.CalmInstances.{keeps_apart, calm_apart}
use Rattle.wcv_lower.proofs.EntryLaws.{newly_there}
use Rattle.wcv_lower.proofs.EvenInstances.{keeps_balanced}
use Rattle.wcv_lower.proofs.EvenTypes.{balanced_inherited}
use Rattle.wcv_lower.proofs.ItemsBring.{ItemKeeps, items_bring, items_bring_given}
use Rattle.wcv_lower.proofs.Owning.{owns_not_inherited, own_apart_inherited, owns_not_given}

-- ## Names that are given

module _ (In : Place → Type 0) (a b : Numbers) where
  new_late : (x : Name) → IsNewResource a b x → IsLate a x
  new_late (number k) h = h.0
  new_late (stamp k) h = tt
  new_late (base p) h = tt
  new_late (at p x) h = tt
  new_late (stamped p) h = tt
  new_late (aside x) h = tt

  found_late : (gs : Given) → AreGiven (IsNewResource a b) In gs → (o : Origin) → OfAny (IsLate a) (find gs o)
  found_late [] h o = tt
  found_late (g ∷ gs) h o = go (same_origin o g.0) (found_late gs h.5 o)
    where
      go : (c : Bool) → OfAny (IsLate a) (find gs o) → OfAny (IsLate a) (cond c (Some g.1) (find gs o))
      go true later = new_late g.1 h.0
      go false later = later

  named_late : (o : Origin) (x : Option Name) → OfAny (IsLate a) x → IsLate a (or_by_place o x)
  named_late (introduced p) None h = tt
  named_late (again p y) None h = tt
  named_late (stamp_at p) None h = tt
  named_late (introduced p) (Some x) h = h
  named_late (again p y) (Some x) h = h
  named_late (stamp_at p) (Some x) h = h

  -- a name by place is none that the arena gives
  pub names_late : (n : GivenNames) → GivesAt In a b n → (o : Origin) → IsLate a ((names_of n).resource o)
  names_late n g o = named_late o (find n.resources o) (found_late n.resources g.resources o)

-- ## Items and declared exports

module _ (In : Place → Type 0) (a b : Numbers) (n : GivenNames) (p : Place) (s : Tree_stack) (l : AtMost a b) (g : GivesAt In a b n) (h : IsCalm a s) where
  pub fresh : (o : Origin) → IsLate a ((names_of n).resource o)
  fresh = names_late In a b n g

  -- an entity of a written type enters
  entering : (d : Side) (x : Extern_name) (r : ComponentTypeRef) (e : Brought tree_reader) → written (tree_maker (names_of n) p) s.top r ≡ Some e → IsGentle a s (enters d x e)
  entering d x r e q =
      gentle a s (enters d x e) h
      (λ all. enters_bring own_apart_inherited (IsLate a) d x e (of_some (BroughtOf own_apart_inherited (IsLate a)) (written (tree_maker (names_of n) p) s.top r) e (written_has own_apart_inherited (IsLate a) s.top (all zero s.top refl) (names_of n) p fresh r) q))
      (λ y all. enters_bring (owns_not_inherited y) (IsLate a) d x e (of_some (BroughtOf (owns_not_inherited y) (IsLate a)) (written (tree_maker (names_of n) p) s.top r) e (written_has (owns_not_inherited y) (IsLate a) s.top (all zero s.top refl) (names_of n) p fresh r) q))
      (λ v all. enters_bring (balanced_inherited v) (IsLate a) d x e (of_some (BroughtOf (balanced_inherited v) (IsLate a)) (written (tree_maker (names_of n) p) s.top r) e (written_has (balanced_inherited v) (IsLate a) s.top (all zero s.top refl) (names_of n) p fresh r) q))

  -- a step that leads to a stack
  pub step_calm : (q : Step tree_reader) (t : Tree_stack) → IsGentle a s q → Some (apply q s) ≡ Some t → AllOwn b t.top → IsCalm b t
  step_calm q t w e own =
      let f : apply q s ≡ t = some-inj e in
      subst (IsCalm b) f (calm_applied a b s q l h w (subst (λ (x : Tree_stack). AllOwn b x.top) (sym f) own))

  pub calm_exports : (t : Tree_stack) (x : ComponentExternName) (r : ComponentTypeRef) → AllOwn b t.top → applied s (declared_export_step (tree_maker (names_of n) p) s.top x r) ≡ Some t → IsCalm b t
  calm_exports t x r own e =
      let w = map-some (λ q. apply q s) (declared_export_step (tree_maker (names_of n) p) s.top x r) t e in
      let v = map-some (enters exporting (extern_name x)) (new_there exporting (extern_name x) s.top (written (tree_maker (names_of n) p) s.top r)) w.0 w.1 in
      let found = newly_there exporting (extern_name x) s.top (written (tree_maker (names_of n) p) s.top r) v.0 v.1 in
      step_calm w.0 t (subst (IsGentle a s) (some-inj v.2) (entering exporting (extern_name x) r v.0 found.0)) w.2 own

  item_apart : (fs : WasmFeatures) (t : Tree_stack) (f : Form) (all : Everywhere OwnApart s) → ItemRegular s.top f → grow fs (tree_maker (names_of n) p) s f ≡ Some t → ItemKeeps own_apart_inherited (IsLate a) (names_of n) p fresh s all f
  item_apart fs t (instance_item i) all w e = keeps_apart (IsLate a) (names_of n) p s (all zero s.top refl) i (calm_apart a (names_of n) p s t i h w e) fresh
  item_apart fs t f all w e = tt

  item_balanced : (fs : WasmFeatures) (t : Tree_stack) (f : Form) (v : Name → ℕ) (all : Everywhere (IsBalanced v) s) → ItemRegular s.top f → grow fs (tree_maker (names_of n) p) s f ≡ Some t → ItemKeeps (balanced_inherited v) (IsLate a) (names_of n) p fresh s all f
  item_balanced fs t (instance_item i) v all w e = keeps_balanced s v (all zero s.top refl) w (names_of n) p t (IsLate a) fresh i e
  item_balanced fs t f v all w e = tt

  pub calm_grows : (fs : WasmFeatures) (t : Tree_stack) (f : Form) → ItemRegular s.top f → AllOwn b t.top → grow fs (tree_maker (names_of n) p) s f ≡ Some t → IsCalm b t
  calm_grows fs t f regular own e =
      let w = map-some (λ q. apply q s) (step fs (tree_maker (names_of n) p) s f) t e in
      step_calm w.0 t
      (gentle a s w.0 h
      (λ all. of_some (AllBring OwnApart (IsLate a)) (step fs (tree_maker (names_of n) p) s f) w.0
      (items_bring own_apart_inherited (IsLate a) (names_of n) p fresh s all fs f (item_apart fs t f all regular e)) w.1)
      (λ y all. of_some (AllBring (OwnsNot y) (IsLate a)) (step fs (tree_maker (names_of n) p) s f) w.0
      (items_bring_given (owns_not_inherited y) (IsLate a) (names_of n) p fresh s all (owns_not_given y) fs f) w.1)
      (λ v all. of_some (AllBring (IsBalanced v) (IsLate a)) (step fs (tree_maker (names_of n) p) s f) w.0
      (items_bring (balanced_inherited v) (IsLate a) (names_of n) p fresh s all fs f (item_balanced fs t f v all regular e)) w.1))
      w.2 own
