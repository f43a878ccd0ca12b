-- A stack that is calm, and what keeps it so: contexts that open and close, and steps that bring no owner.
use Rattle.std.proofs.Common.{◌≡◌, ℕ, zero, suc, ◌≤◌, List, [], ◌∷◌, refl, sym, ◌∙◌, ap, subst, arith, suc-ne-zero, ◌⊎◌, inl, inr, Some}
use Rattle.std.specs.Prelude.{slice_get}
use Rattle.std.proofs.Math.Nat.{suc_inj}
use Rattle.std.proofs.lemmas.Bool.{false≢true}
use Rattle.std.proofs.lemmas.List.Elements.{All-nil, All-weaker}
use Rattle.wcv_core.specs.CoreForm.{Group}
use Rattle.wcv_core.specs.Names.{Name, number, stamp, base, at, stamped, aside}
use Rattle.wcv_types.specs.Unfold.{Type_tree}
use Rattle.wcv_types.proofs.Lists.{some-inj}
use Rattle.wcv_lower.specs.Context.{Kind, in_instances, at_distance, empty, type_at}
use Rattle.wcv_lower.specs.Declared.{inside, stack_of, around}
use Rattle.wcv_lower.specs.Even.{IsBalanced}
use Rattle.wcv_lower.specs.Given.{Numbers, AtMost}
use Rattle.wcv_lower.specs.Owned.{OwnsNot, OwnsApart, OwnApart, AllEntries, Everywhere, own_resources, IsOwn, IsGiven, AllOwn, IsCalm}
use Rattle.wcv_lower.specs.Step.{Step, apply}
use Rattle.wcv_lower.specs.Trees.{tree_reader, Tree_context, Tree_stack}
use Rattle.wcv_lower.proofs.Applied.{applied_has, StoodAt, applied_own}
use Rattle.wcv_lower.proofs.Bringing.{AllBring, of_some, any_at, type_has}
use Rattle.wcv_lower.proofs.Members.{all_member, all_from_members}
use Rattle.wcv_lower.proofs.Owning.{apart_outside, own_apart_inherited}

-- ## Given resources

pub given_later : (a b : Numbers) → AtMost a b → (r : Name) → IsGiven a r → IsGiven b r
given_later a b l (number k) h = let x = l.resources in omega (arith, x, h)
given_later a b l (stamp k) h = absurd h
given_later a b l (base p) h = absurd h
given_later a b l (at p x) h = absurd h
given_later a b l (stamped p) h = absurd h
given_later a b l (aside x) h = absurd h

-- it was not given by then
abbrev pub IsLate : Numbers → Name → Type 0
IsLate a (number k) = a.resources ≤ k
IsLate a _ = Unit {0}

pub not_both : (a : Numbers) (r : Name) → IsGiven a r → IsLate a r → ⊥
not_both a (number k) h l = omega (arith, h, l)
not_both a (stamp k) h l = h
not_both a (base p) h l = h
not_both a (at p x) h l = h
not_both a (stamped p) h l = h
not_both a (aside x) h l = h

-- ## Looking

module _ (a : Numbers) (s : Tree_stack) (h : IsCalm a s) where
  pub own_given : (j : ℕ) (c : Tree_context) (r : Name) → at_distance j s ≡ Some c → IsOwn c r → IsGiven a r
  own_given j c r e o = all_member (IsGiven a) (own_resources c) (h.given j c e) r o

  pub calm_opens : (k : ℕ) (t : Type_tree) → type_at s.top k ≡ Some t → OwnsApart t
  calm_opens k t e = apart_outside t (of_some OwnApart (type_at s.top k) t (type_has own_apart_inherited (λ r. ⊥) s.top (h.apart zero s.top refl) k) e)

  -- an instance that stands there owns apart
  pub calm_instance : (k : ℕ) (t : Type_tree) → slice_get (s.top.space in_instances) k ≡ Some t → OwnsApart t
  calm_instance k t e = apart_outside t (of_some OwnApart (slice_get (s.top.space in_instances) k) t (any_at OwnApart (s.top.space in_instances) k ((h.apart zero s.top refl).space in_instances)) e)

-- ## More is given

pub calm_later : (a b : Numbers) (s : Tree_stack) → AtMost a b → IsCalm a s → IsCalm b s
calm_later a b s l h = record {
  given = λ j c e. All-weaker (IsGiven a) (IsGiven b) (given_later a b l) (own_resources c) (h.given j c e);
  differ = h.differ;
  apart = h.apart;
  spared = h.spared;
  balanced = h.balanced;
  late = λ k m. h.late k (let x = l.resources in omega (arith, x, m));
}

-- ## A context opens

empty_entries : (P : Type_tree → Type 0) (k : Kind) → AllEntries P (empty tree_reader k)
empty_entries P k = record { core = λ j. All-nil P; space = λ j. All-nil P; side = λ d. All-nil (λ e. P e.1) }

module _ (k : Kind) (s : Tree_stack) where
  pub inside_has : (P : Type_tree → Type 0) → Everywhere P s → Everywhere P (inside k s)
  inside_has P h zero c e = subst (AllEntries P) (some-inj e) (empty_entries P k)
  inside_has P h (suc j) c e = h j c e

  -- what opens has no resources
  none_own : (c : Tree_context) (r : Name) → at_distance zero (inside k s) ≡ Some c → IsOwn c r → ⊥
  none_own c r e o = false≢true (subst (λ (x : Tree_context). IsOwn x r) (sym (some-inj e)) o)

pub calm_inside : (a : Numbers) (k : Kind) (s : Tree_stack) → IsCalm a s → IsCalm a (inside k s)
calm_inside a k s h = record { given = given; differ = differ; apart = inside_has k s OwnApart h.apart; spared = spared; late = λ n l. inside_has k s (OwnsNot (number n)) (h.late n l); balanced = (h.balanced.0, inside_has k s (IsBalanced h.balanced.0) h.balanced.1) }
  where
    given : (j : ℕ) (c : Tree_context) → at_distance j (inside k s) ≡ Some c → AllOwn a c
    given zero c e = subst (AllOwn a) (some-inj e) (All-nil (IsGiven a))
    given (suc j) c e = h.given j c e

    differ : (i j : ℕ) (c d : Tree_context) (r : Name) → at_distance i (inside k s) ≡ Some c → at_distance j (inside k s) ≡ Some d → IsOwn c r → IsOwn d r → i ≡ j
    differ zero j c d r e f o q = absurd (none_own k s c r e o)
    differ (suc i) zero c d r e f o q = absurd (none_own k s d r f q)
    differ (suc i) (suc j) c d r e f o q = ap suc (h.differ i j c d r e f o q)

    spared : (j : ℕ) (c : Tree_context) (r : Name) → at_distance j (inside k s) ≡ Some c → IsOwn c r → Everywhere (OwnsNot r) (inside k s)
    spared zero c r e o = absurd (none_own k s c r e o)
    spared (suc j) c r e o = inside_has k s (OwnsNot r) (h.spared j c r e o)

-- before the first item
abbrev start : Kind → List Group → Tree_stack
start k gs = record { top = empty tree_reader k; outer = []; groups = gs }

pub calm_start : (a : Numbers) (k : Kind) (gs : List Group) → IsCalm a (record { top = empty tree_reader k; outer = []; groups = gs })
calm_start a k gs = record { given = given; differ = λ i j c d r e f o q. absurd (none i c r e o); apart = has OwnApart; spared = λ j c r e o. absurd (none j c r e o); late = λ n l. has (OwnsNot (number n)); balanced = ((λ r. 0), has (IsBalanced (λ r. 0))) }
  where
    given : (j : ℕ) (c : Tree_context) → at_distance j (start k gs) ≡ Some c → AllOwn a c
    given zero c e = subst (AllOwn a) (some-inj e) (All-nil (IsGiven a))
    given (suc j) c e = cc

    none : (j : ℕ) (c : Tree_context) (r : Name) → at_distance j (start k gs) ≡ Some c → IsOwn c r → ⊥
    none zero c r e o = false≢true (subst (λ (x : Tree_context). IsOwn x r) (sym (some-inj e)) o)
    none (suc j) c r e o = cc

    has : (P : Type_tree → Type 0) → Everywhere P (start k gs)
    has P zero c e = subst (AllEntries P) (some-inj e) (empty_entries P k)
    has P (suc j) c e = cc

-- ## A context closes

pub stood_around : (u t : Tree_stack) → around u ≡ Some t → (j : ℕ) → at_distance j t ≡ at_distance (suc j) u
stood_around u t e j = go u.outer e
  where
    go : (cs : List Tree_context) → stack_of {X = tree_reader} cs u.groups ≡ Some t → at_distance j t ≡ slice_get cs j
    go [] e = cc
    go (c ∷ cs) e = ap (λ (x : Tree_stack). at_distance j x) (sym (some-inj e))

module _ (u t : Tree_stack) (w : around u ≡ Some t) where
  pub stood : (j : ℕ) (c : Tree_context) → at_distance j t ≡ Some c → at_distance (suc j) u ≡ Some c
  stood j c e = sym (stood_around u t w j) ∙ e

  pub around_has : (P : Type_tree → Type 0) → Everywhere P u → Everywhere P t
  around_has P h j c e = h (suc j) c (stood j c e)

  pub calm_around : (a : Numbers) → IsCalm a u → IsCalm a t
  calm_around a h = record {
    given = λ j c e. h.given (suc j) c (stood j c e);
    differ = λ i j c d r e f o q. suc_inj (h.differ (suc i) (suc j) c d r (stood i c e) (stood j d f) o q);
    apart = around_has OwnApart h.apart;
    spared = λ j c r e o. around_has (OwnsNot r) (h.spared (suc j) c r (stood j c e) o);
    late = λ n l. around_has (OwnsNot (number n)) (h.late n l);
    balanced = (h.balanced.0, around_has (IsBalanced h.balanced.0) h.balanced.1);
  }

-- ## A step

-- Resources that a step brings are late. What it brings owns apart, owns none of the open contexts' resources, and no late one, and is
-- balanced with what stands there.
pub record IsGentle (a : Numbers) (s : Tree_stack) (p : Step tree_reader) : Type 0 where
  pub apart : AllBring OwnApart (IsLate a) p
  pub spared : (j : ℕ) (c : Tree_context) (r : Name) → at_distance j s ≡ Some c → IsOwn c r → AllBring (OwnsNot r) (IsLate a) p
  pub late : (k : ℕ) → a.resources ≤ k → AllBring (OwnsNot (number k)) (IsLate a) p
  pub balanced : (v : Name → ℕ) × Everywhere (IsBalanced v) s × AllBring (IsBalanced v) (IsLate a) p

-- where it brings no owner of what nothing owns, and nothing that is not balanced
pub gentle : (a : Numbers) (s : Tree_stack) (p : Step tree_reader) → IsCalm a s → (Everywhere OwnApart s → AllBring OwnApart (IsLate a) p) → ((r : Name) → Everywhere (OwnsNot r) s → AllBring (OwnsNot r) (IsLate a) p) →
    ((v : Name → ℕ) → Everywhere (IsBalanced v) s → AllBring (IsBalanced v) (IsLate a) p) → IsGentle a s p
gentle a s p h x y z = record { apart = x h.apart; spared = λ j c r e o. y r (h.spared j c r e o); late = λ k l. y (number k) (h.late k l); balanced = (h.balanced.0, h.balanced.1, z h.balanced.0 h.balanced.1) }

module _ (a b : Numbers) (s : Tree_stack) (p : Step tree_reader) (l : AtMost a b) (h : IsCalm a s) (g : IsGentle a s p) (top : AllOwn b (apply p s).top) where
  abbrev t : Tree_stack
  t = apply p s

  stood_at : (j : ℕ) (d : Tree_context) → at_distance j t ≡ Some d → StoodAt OwnApart (IsLate a) s j d
  stood_at j d e = applied_own OwnApart (IsLate a) p s g.apart j d e

  all_given : (j : ℕ) (d : Tree_context) → at_distance j t ≡ Some d → AllOwn b d
  all_given zero d e = subst (AllOwn b) (some-inj e) top
  all_given (suc j) d e =
      let w = stood_at (suc j) d e in
      all_from_members (IsGiven b) (own_resources d) (λ r o. go r w.0 w.1 (w.2 r o))
    where
      go : (r : Name) (c : Tree_context) → at_distance (suc j) s ≡ Some c → IsOwn c r ⊎ ((suc j ≡ zero) × IsLate a r) → IsGiven b r
      go r c q (inl o) = given_later a b l r (own_given a s h (suc j) c r q o)
      go r c q (inr n) = absurd (suc-ne-zero j n.0)

  late_spared : (r : Name) → IsGiven b r → IsLate a r → Everywhere (OwnsNot r) t
  late_spared (number k) f n = applied_has (OwnsNot (number k)) (IsLate a) p s (h.late k n) (g.late k n)
  late_spared (stamp k) f n = absurd f
  late_spared (base q) f n = absurd f
  late_spared (at q x) f n = absurd f
  late_spared (stamped q) f n = absurd f
  late_spared (aside x) f n = absurd f

  all_spared : (j : ℕ) (d : Tree_context) (r : Name) → at_distance j t ≡ Some d → IsOwn d r → Everywhere (OwnsNot r) t
  all_spared j d r e o =
      let w = stood_at j d e in
      go w.0 w.1 (w.2 r o)
    where
      go : (c : Tree_context) → at_distance j s ≡ Some c → IsOwn c r ⊎ ((j ≡ zero) × IsLate a r) → Everywhere (OwnsNot r) t
      go c q (inl x) = applied_has (OwnsNot r) (IsLate a) p s (h.spared j c r q x) (g.spared j c r q x)
      go c q (inr n) = late_spared r (all_member (IsGiven b) (own_resources d) (all_given j d e) r o) n.1

  all_differ : (i j : ℕ) (c d : Tree_context) (r : Name) → at_distance i t ≡ Some c → at_distance j t ≡ Some d → IsOwn c r → IsOwn d r → i ≡ j
  all_differ i j c d r e f o q =
      let w = stood_at i c e in
      let v = stood_at j d f in
      go w.0 v.0 w.1 v.1 (w.2 r o) (v.2 r q)
    where
      go : (x y : Tree_context) → at_distance i s ≡ Some x → at_distance j s ≡ Some y → IsOwn x r ⊎ ((i ≡ zero) × IsLate a r) → IsOwn y r ⊎ ((j ≡ zero) × IsLate a r) → i ≡ j
      go x y u v (inl m) (inl n) = h.differ i j x y r u v m n
      go x y u v (inl m) (inr n) = absurd (not_both a r (own_given a s h i x r u m) n.1)
      go x y u v (inr m) (inl n) = absurd (not_both a r (own_given a s h j y r v n) m.1)
      go x y u v (inr m) (inr n) = m.0 ∙ sym n.0

  pub calm_applied : IsCalm b (apply p s)
  calm_applied = record {
    given = all_given;
    differ = all_differ;
    apart = applied_has OwnApart (IsLate a) p s h.apart g.apart;
    spared = all_spared;
    balanced = (g.balanced.0, applied_has (IsBalanced g.balanced.0) (IsLate a) p s g.balanced.1 g.balanced.2);
    late = λ k m.
        let n : a.resources ≤ k = let x = l.resources in omega (arith, x, m) in
        applied_has (OwnsNot (number k)) (IsLate a) p s (h.late k n) (g.late k n);
  }
