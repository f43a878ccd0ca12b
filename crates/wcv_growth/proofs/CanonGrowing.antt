-- What canonical functions do to a context: they append a core function, or a function of a type that stands there, and list no resource.
use Rattle.std.proofs.Common.{◌≡◌, ℕ, List, [], ◌∷◌, Bool, true, false, refl, subst, Some}
use Rattle.std.specs.Prelude.{Option}
use Rattle.std.specs.Option.{option_map, option_and_then}
use Rattle.wcv_core.specs.CoreForm.{CompositeForm, Group}
use Rattle.wcv_core.specs.CoreJoining.{is_free, first_id, grown}
use Rattle.wcv_core.specs.CoreWritten.{closed_group}
use Rattle.wcv_core.specs.Names.{Name, Place}
use Rattle.wcv_core.specs.declared.core_types.EntityType.{EntityType}
use Rattle.wcv_core.specs.declared.core_types.EntityType.TheVariants as entity
use Rattle.wcv_core.specs.declared.core_types.ValType.{ValType}
use Rattle.wcv_syntax.specs.Model.{Canon_form}
use Rattle.wcv_types.specs.Tree.{is_func}
use Rattle.wcv_types.proofs.Lists.{some-inj}
use Rattle.wcv_flat.specs.Rows.{Ask, Appends, canon_row}
use Rattle.wcv_flat.specs.Rows as row
use Rattle.wcv_lower.specs.Canons.{row_form, alone, canon_found, func_joins, func_step, func_added, row_step, slots_typed, canon_step}
use Rattle.wcv_lower.specs.Context.{in_funcs, core_funcs, exporting}
use Rattle.wcv_lower.specs.CoreItems.{core_entries, is_closable}
use Rattle.wcv_lower.specs.Step.{Step, appends, core_appends, interns, types_slots, change, apply}
use Rattle.wcv_lower.specs.Trees.{Type_tree, Tree_stack, tree_reader}
use Rattle.wcv_lower.specs.Values.{type_of_sort}
use Rattle.wcv_lower.proofs.Bringing.{AllBring, brings_one, brings_more}
use Rattle.wcv_growth.proofs.CoreGrowing.{item-fine, if-some}
use Rattle.wcv_growth.proofs.Growing.{Ready, Does, SameLists, same-does}
use Rattle.wcv_growth.proofs.Known.{mapped-some, then-some, Fine, Any}
use Rattle.wcv_growth.proofs.Looking.{sorted-fine}
use Rattle.wcv_growth.proofs.Near.{Near, After, near-apply}

-- what holds of its steps: of one that appends a core function of a type alone in its group, of one that appends a function of a type that stands there, and of each
-- that says the type of slots before such a one
module _ (s : Tree_stack) (Q : Step tree_reader → Type 0) (slots : (v : ValType) (y : Step tree_reader) → Q y → Q (types_slots v ∷ y)) (core : (b : Bool) (w : CompositeForm) → Q (func_joins tree_reader s.groups (closed_group (core_entries s.top) (alone b w)))) (typed : (k : ℕ) (t : Type_tree) → type_of_sort is_func s.top k ≡ Some t → Q (func_added t)) where
  slots-hold : (qs : List Ask) (y : Step tree_reader) → Q y → Q (slots_typed qs y)
  slots-hold [] y w = w
  slots-hold (row.slot_of v n ∷ qs) y w = slots v (slots_typed qs y) (slots-hold qs y w)
  slots-hold (q ∷ qs) y w = slots-hold qs y w

  func-holds : (b : Bool) (w : CompositeForm) (x : Step tree_reader) → func_step s (alone b w) ≡ Some x → Q x
  func-holds b w x e = subst Q (some-inj (if-some (is_closable s.groups (core_entries s.top) (alone b w)) (Some (func_joins tree_reader s.groups (closed_group (core_entries s.top) (alone b w)))) x e)) (core b w)

  form-holds : (b : Bool) (o : Option CompositeForm) (x : Step tree_reader) → option_and_then (λ w. func_step s (alone b w)) o ≡ Some x → Q x
  form-holds b o x e =
      let m = then-some (λ (w : CompositeForm). func_step s (alone b w)) o x e in
      func-holds b m.0 x m.2

  row-holds : (f : Canon_form) (q : Appends) (x : Step tree_reader) → row_step s f q ≡ Some x → Q x
  row-holds f (row.lifted t) x e =
      let m = mapped-some func_added (type_of_sort is_func s.top t) x e in
      subst Q m.2 (typed t m.0 m.1)
  row-holds f (row.lowered k) x e = form-holds false (row_form s f (row.lowered k)) x e
  row-holds f (row.returning r) x e = form-holds false (row_form s f (row.returning r)) x e
  row-holds f (row.core_func ps rs) x e = form-holds false (row_form s f (row.core_func ps rs)) x e
  row-holds f (row.shared_func ps rs) x e = form-holds true (row_form s f (row.shared_func ps rs)) x e

  pub canon-holds : (f : Canon_form) (x : Step tree_reader) → canon_step s f ≡ Some x → Q x
  canon-holds f x e =
      let o : Option (Step tree_reader) = row_step s f (canon_row f).appends in
      let m = mapped-some (slots_typed (canon_row f).asks) o x (if-some (is_free (canon_found s f)) (option_map (slots_typed (canon_row f).asks) o) x e) in
      subst Q m.2 (slots-hold (canon_row f).asks m.0 (row-holds f (canon_row f).appends m.0 m.1))

module _ (p : Place) (s : Tree_stack) (h : Ready p s) where
  module _ (P : Name → Type 0) (listed : (r : Name) → Near s r → P r) where
    -- what it brings is fine, and the lists stay
    abbrev Quiet : Step tree_reader → Type 0
    Quiet x = AllBring (Fine P) Any x × ((u : Tree_stack) → SameLists u.top (apply x u).top)

    slots-quiet : (v : ValType) (y : Step tree_reader) → Quiet y → Quiet (types_slots v ∷ y)
    slots-quiet v y w = (
      brings_more (Fine P) Any (types_slots v) y tt w.0,
      (λ u.
          let same = w.1 (change (types_slots v) u) in
          record { imported = same.imported; defined = same.defined; imports = same.imports; exports = same.exports }),
    )

    core-quiet : (g : Group) → Quiet (func_joins tree_reader s.groups g)
    core-quiet g =
        let e : EntityType = entity.Func (record { index = first_id s.groups g }) in
        let last : Step tree_reader = core_appends core_funcs (tree_reader.core_item e) ∷ [] in
        (brings_more (Fine P) Any (interns (grown s.groups g)) last tt (brings_one (Fine P) Any (core_appends core_funcs (tree_reader.core_item e)) (item-fine P e)), (λ u. record { imported = refl; defined = refl; imports = refl; exports = refl }))

    typed-quiet : (k : ℕ) (t : Type_tree) → type_of_sort is_func s.top k ≡ Some t → Quiet (func_added t)
    typed-quiet k t e =
        let w = sorted-fine (Near s) s.top h.fine.0.entries is_func k t e in
        (brings_one (Fine P) Any (appends in_funcs t) ((λ r f. listed r (w.0 r f)), w.1), (λ u. record { imported = refl; defined = refl; imports = refl; exports = refl }))

  pub canon-does : (f : Canon_form) (x : Step tree_reader) → canon_step s f ≡ Some x → Does exporting p s x
  canon-does f x e =
      let P : Name → Type 0 = After x s in
      let i : (r : Name) → Near s r → P r = near-apply x s in
      let w : Quiet P i x = canon-holds s (Quiet P i) (slots-quiet P i) (λ b w. core-quiet P i (closed_group (core_entries s.top) (alone b w))) (typed-quiet P i) f x e in
      same-does p s h x w.0 (w.1 s)
