-- A stack behind a step: what each of its entries has, and which resources its contexts have.
use Rattle.std.proofs.Common.{◌≡◌, ℕ, zero, suc, List, [], ◌∷◌, refl, sym, subst, Bool, true, false, ◌⊎◌, inl, inr, Some}
use Rattle.std.specs.Prelude.{All, slice_get}
use Rattle.std.proofs.lemmas.List.Elements.{All-head, All-tail, All-push}
use Rattle.wcv_core.specs.Names.{Name}
use Rattle.wcv_types.specs.Tree.{Extern_name}
use Rattle.wcv_types.specs.Unfold.{Type_tree}
use Rattle.wcv_types.proofs.Lists.{some-inj}
use Rattle.wcv_lower.specs.Context.{Side, importing, exporting, Space, Core_space, same_space, same_core_space, same_side, joined, at_distance, push, push_core, enlist, introduce, define, name_types, charge, type_slots, mark, name_start}
use Rattle.wcv_lower.specs.Owned.{AllEntries, Everywhere, IsOwn}
use Rattle.wcv_lower.specs.Step.{Change, appends, lists, introduces, defines, creates, core_appends, interns, charges, types_slots, marks_value, uses_value, names_start, Step, on_top, change_at, use_value, on_outer, change, apply}
use Rattle.wcv_lower.specs.Trees.{tree_reader, Tree_context, Tree_stack}
use Rattle.wcv_lower.proofs.Bringing.{Brings, AllBring}
use Rattle.wcv_lower.proofs.Members.{introduced_own, defines_own}

-- what stands at a position of a list that is changed at one stood there, or it is what that was changed to
pub change_at_cases : {A : Type 0} (k : ℕ) (f : A → A) (xs : List A) (j : ℕ) (y : A) → slice_get (change_at k f xs) j ≡ Some y → (x : A) × (slice_get xs j ≡ Some x) × ((x ≡ y) ⊎ (f x ≡ y))
change_at_cases k f [] j y e = (y, e, inl refl)
change_at_cases zero f (x ∷ xs) zero y e = (x, refl, inr (some-inj e))
change_at_cases zero f (x ∷ xs) (suc j) y e = (y, e, inl refl)
change_at_cases (suc k) f (x ∷ xs) zero y e = (x, refl, inl (some-inj e))
change_at_cases (suc k) f (x ∷ xs) (suc j) y e = change_at_cases k f xs j y e

all_joined : {A : Type 0} (Q : A → Type 0) (b : Bool) (xs : List A) (x : A) → All Q xs → Q x → All Q (joined b xs x)
all_joined Q true xs x a w = All-push Q xs x a w
all_joined Q false xs x a w = a

module _ (P : Type_tree → Type 0) (New : Name → Type 0) where
  -- ## Entries

  push_has : (k : Space) (x : Type_tree) (c : Tree_context) → AllEntries P c → P x → AllEntries P (push {X = tree_reader} k x c)
  push_has k x c h w = record { core = h.core; space = λ j. all_joined P (same_space j k) (c.space j) x (h.space j) w; side = h.side }

  push_core_has : (k : Core_space) (x : Type_tree) (c : Tree_context) → AllEntries P c → P x → AllEntries P (push_core {X = tree_reader} k x c)
  push_core_has k x c h w = record { core = λ j. all_joined P (same_core_space j k) (c.core j) x (h.core j) w; space = h.space; side = h.side }

  enlist_has : (d : Side) (n : Extern_name) (x : Type_tree) (c : Tree_context) → AllEntries P c → P x → AllEntries P (enlist {X = tree_reader} d n x c)
  enlist_has d n x c h w = record { core = h.core; space = h.space; side = λ j. all_joined (λ (e : Extern_name × Type_tree). P e.1) (same_side j d) (c.side j) (n, x) (h.side j) w }

  -- where the lists are the same
  introduce_has : (d : Side) (rs : List (Name × List ℕ)) (c : Tree_context) → AllEntries P c → AllEntries P (introduce {X = tree_reader} d rs c)
  introduce_has importing rs c h = record { core = h.core; space = h.space; side = h.side }
  introduce_has exporting rs c h = record { core = h.core; space = h.space; side = h.side }

  charge_has : (n : ℕ) (c : Tree_context) → AllEntries P c → AllEntries P (charge {X = tree_reader} n c)
  charge_has n c h = record { core = h.core; space = h.space; side = h.side }

  top_has : (f : Tree_context → Tree_context) (s : Tree_stack) → Everywhere P s → AllEntries P (f s.top) → Everywhere P (on_top f s)
  top_has f s h w zero c e = subst (AllEntries P) (some-inj e) w
  top_has f s h w (suc j) c e = h (suc j) c e

  outer_has : (k n : ℕ) (s : Tree_stack) → Everywhere P s → Everywhere P (on_outer k (charge n) s)
  outer_has zero n s h j c e = top_has (charge n) s h (charge_has n s.top (h zero s.top refl)) j c e
  outer_has (suc k) n s h zero c e = h zero c e
  outer_has (suc k) n s h (suc j) c e =
      let w = change_at_cases k (charge {X = tree_reader} n) s.outer j c e in
      go w.0 (h (suc j) w.0 w.1) w.2
    where
      go : (d : Tree_context) → AllEntries P d → (d ≡ c) ⊎ (charge {X = tree_reader} n d ≡ c) → AllEntries P c
      go d a (inl q) = subst (AllEntries P) q a
      go d a (inr q) = subst (AllEntries P) q (charge_has n d a)

  change_has : (x : Change tree_reader) (s : Tree_stack) → Everywhere P s → Brings P New x → Everywhere P (change x s)
  change_has (appends k x) s h w = top_has (push k x) s h (push_has k x s.top (h zero s.top refl) w)
  change_has (lists d n x) s h w = top_has (enlist d n x) s h (enlist_has d n x s.top (h zero s.top refl) w)
  change_has (introduces d rs) s h w = top_has (introduce d rs) s h (introduce_has d rs s.top (h zero s.top refl))
  change_has (defines r v) s h w =
      let a = h zero s.top refl in
      top_has (define r v) s h (record { core = a.core; space = a.space; side = a.side })
  change_has (creates d is) s h w =
      let a = h zero s.top refl in
      top_has (name_types d is) s h (record { core = a.core; space = a.space; side = a.side })
  change_has (core_appends k x) s h w = top_has (push_core k x) s h (push_core_has k x s.top (h zero s.top refl) w)
  change_has (interns gs) s h w = h
  change_has (charges k n) s h w = outer_has k n s h
  change_has (types_slots v) s h w =
      let a = h zero s.top refl in
      top_has (type_slots v) s h (record { core = a.core; space = a.space; side = a.side })
  change_has (marks_value b) s h w =
      let a = h zero s.top refl in
      top_has (mark b) s h (record { core = a.core; space = a.space; side = a.side })
  change_has (uses_value k) s h w =
      let a = h zero s.top refl in
      top_has (use_value k) s h (record { core = a.core; space = a.space; side = a.side })
  change_has names_start s h w =
      let a = h zero s.top refl in
      top_has name_start s h (record { core = a.core; space = a.space; side = a.side })

  pub applied_has : (p : Step tree_reader) (s : Tree_stack) → Everywhere P s → AllBring P New p → Everywhere P (apply p s)
  applied_has [] s h a = h
  applied_has (x ∷ p) s h a = applied_has p (change x s) (change_has x s h (All-head (Brings P New) x p a)) (All-tail (Brings P New) x p a)

  -- ## Resources

  -- that context stood there too, with these resources, and the top may have new ones
  abbrev pub StoodAt : Tree_stack → ℕ → Tree_context → Type 0
  StoodAt s j d = (c : Tree_context) × (at_distance j s ≡ Some c) × ((r : Name) → IsOwn d r → IsOwn c r ⊎ ((j ≡ zero) × New r))

  top_own : (f : Tree_context → Tree_context) (s : Tree_stack) → ((r : Name) → IsOwn (f s.top) r → IsOwn s.top r ⊎ New r) → (j : ℕ) (d : Tree_context) → at_distance j (on_top f s) ≡ Some d → StoodAt s j d
  top_own f s h zero d e = (s.top, refl, λ r o. go r (h r (subst (λ (c : Tree_context). IsOwn c r) (sym (some-inj e)) o)))
    where
      go : (r : Name) → IsOwn s.top r ⊎ New r → IsOwn s.top r ⊎ ((zero ≡ zero) × New r)
      go r (inl o) = inl o
      go r (inr n) = inr (refl, n)
  top_own f s h (suc j) d e = (d, e, λ r o. inl o)

  outer_own : (k n : ℕ) (s : Tree_stack) (j : ℕ) (d : Tree_context) → at_distance j (on_outer k (charge n) s) ≡ Some d → StoodAt s j d
  outer_own zero n s j d e = top_own (charge n) s (λ r o. inl o) j d e
  outer_own (suc k) n s zero d e = (d, e, λ r o. inl o)
  outer_own (suc k) n s (suc j) d e =
      let w = change_at_cases k (charge {X = tree_reader} n) s.outer j d e in
      (w.0, w.1, λ r o. inl (go r w.0 w.2 o))
    where
      go : (r : Name) (c : Tree_context) → (c ≡ d) ⊎ (charge {X = tree_reader} n c ≡ d) → IsOwn d r → IsOwn c r
      go r c (inl q) o = subst (λ (x : Tree_context). IsOwn x r) (sym q) o
      go r c (inr q) o = subst (λ (x : Tree_context). IsOwn x r) (sym q) o

  change_own : (x : Change tree_reader) (s : Tree_stack) → Brings P New x → (j : ℕ) (d : Tree_context) → at_distance j (change x s) ≡ Some d → StoodAt s j d
  change_own (appends k x) s w j d e = top_own (push k x) s (λ r o. inl o) j d e
  change_own (lists i n x) s w j d e = top_own (enlist i n x) s (λ r o. inl o) j d e
  change_own (introduces i rs) s w j d e = top_own (introduce i rs) s (introduced_own New s.top i rs w) j d e
  change_own (defines r v) s w j d e = top_own (define r v) s (defines_own New s.top r v w) j d e
  change_own (creates i is) s w j d e = top_own (name_types i is) s (λ r o. inl o) j d e
  change_own (core_appends k x) s w j d e = top_own (push_core k x) s (λ r o. inl o) j d e
  change_own (interns gs) s w j d e = (d, e, λ r o. inl o)
  change_own (charges k n) s w j d e = outer_own k n s j d e
  change_own (types_slots v) s w j d e = top_own (type_slots v) s (λ r o. inl o) j d e
  change_own (marks_value b) s w j d e = top_own (mark b) s (λ r o. inl o) j d e
  change_own (uses_value k) s w j d e = top_own (use_value k) s (λ r o. inl o) j d e
  change_own names_start s w j d e = top_own name_start s (λ r o. inl o) j d e

  pub applied_own : (p : Step tree_reader) (s : Tree_stack) → AllBring P New p → (j : ℕ) (d : Tree_context) → at_distance j (apply p s) ≡ Some d → StoodAt s j d
  applied_own [] s a j d e = (d, e, λ r o. inl o)
  applied_own (x ∷ p) s a j d e =
      let w = applied_own p (change x s) (All-tail (Brings P New) x p a) j d e in
      let v = change_own x s (All-head (Brings P New) x p a) j w.0 w.1 in
      (v.0, v.1, λ r o. go r v.0 w.0 v.2 (w.2 r o))
    where
      go : (r : Name) (b c : Tree_context) → ((q : Name) → IsOwn c q → IsOwn b q ⊎ ((j ≡ zero) × New q)) → IsOwn c r ⊎ ((j ≡ zero) × New r) → IsOwn b r ⊎ ((j ≡ zero) × New r)
      go r b c f (inl o) = f r o
      go r b c f (inr n) = inr n
