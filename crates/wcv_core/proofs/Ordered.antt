-- Supertypes that stand before their types, one after the other.
use Rattle.std.proofs.Common.{◌≡◌, ℕ, zero, suc, ◌+◌, ◌-◌, ◌<◌, ◌≤◌, List, [], ◌∷◌, length, take, map, get_or, slice_get, true, false, nat_lt, not, ◌⊎◌, inl, inr, Option, Some, None, refl, sym, ◌∙◌, ap, arith, subst, add-one}
use Rattle.std.proofs.lemmas.Option.{slice_get_cases}
use Rattle.wcv_core.specs.Checks.{Cause, IsFree, all_checks}
use Rattle.wcv_core.specs.CoreForm.{SubForm, Group, sub_form}
use Rattle.wcv_core.specs.CoreJoining.{is_late, order_checks}
use Rattle.wcv_core.specs.CoreWritten.{Core_entry, sub_entry, module_entry, is_module, form_checks, super_index_checks, index_checks, closed_index, heap_super, closed_super, closed_group}
use Rattle.wcv_core.specs.declared.core_types.SubType.{SubType}
use Rattle.wcv_core.specs.declared.core_types.SuperType.{SuperType}
use Rattle.wcv_core.specs.declared.core_types.SuperType.TheVariants as super
use Rattle.wcv_core.specs.declared.error.ErrorKind.TheVariants as kind
use Rattle.wcv_core.proofs.Causes.{free_left, free_right}
use Rattle.wcv_core.proofs.Rowing.{length-map, get_or-map, split, is_below, not_below}

late_cause : (k i m : ℕ) (g : Group) (s : SubForm) → i < length g → m ≡ k + i → is_late m (get_or g i s).supertype ≡ true → Cause (order_checks k g) kind.CoreType
late_cause k i m [] s h e l = Prim.absurd (omega arith)
late_cause k zero m (x ∷ g) s h e l = let z : m ≡ k = omega arith in inl (refl, subst (λ (j : ℕ). is_late j x.supertype ≡ true) z l)
late_cause k (suc i) m (x ∷ g) s h e l = inr (late_cause (suc k) i m g s (omega arith) (omega arith) l)

order_suc : (k i m : ℕ) (g : Group) (s : SubForm) → i < length g → m ≡ k + i → IsFree (order_checks k (take i g)) → is_late m (get_or g i s).supertype ≡ false → IsFree (order_checks k (take (suc i) g))
order_suc k i m [] s h e f l = Prim.absurd (omega arith)
order_suc k zero m (x ∷ g) s h e f l = let z : m ≡ k = omega arith in (subst (λ (j : ℕ). is_late j x.supertype ≡ false) z l, tt)
order_suc k (suc i) m (x ∷ g) s h e f l = (f.0, order_suc (suc k) i m g s (omega arith) (omega arith) f.1 l)

-- a loop over the types
pub order_fails : (xs : List SubType) (i : ℕ) (x : SubType) → i < length xs → is_late i (get_or xs i x).supertype ≡ true → Cause (order_checks 0 (map sub_form xs)) kind.CoreType
order_fails xs i x h l =
    late_cause 0 i i (map sub_form xs) (sub_form x) (omega (arith, length-map sub_form xs)) (omega arith) (ap (λ (s : SubForm). is_late i s.supertype) (get_or-map sub_form xs i x) ∙ l)

pub order_next : (xs : List SubType) (i : ℕ) (x : SubType) → i < length xs → IsFree (order_checks 0 (take i (map sub_form xs))) → is_late i (get_or xs i x).supertype ≡ false → IsFree (order_checks 0 (take (i + 1) (map sub_form xs)))
order_next xs i x h f l =
    subst (λ (j : ℕ). IsFree (order_checks 0 (take j (map sub_form xs)))) (sym (add-one i))
    (order_suc 0 i i (map sub_form xs) (sub_form x) (omega (arith, length-map sub_form xs)) (omega arith) f (ap (λ (s : SubForm). is_late i s.supertype) (get_or-map sub_form xs i x) ∙ l))

-- ## A written group whose indices are right, and its closed form

less-shifted : (m i k l : ℕ) → m ≤ i → l ≡ m + k → nat_lt (i - m) k ≡ nat_lt i l
less-shifted m i k l h e = go (split i l)
  where
    go : (i < l) ⊎ (l ≤ i) → nat_lt (i - m) k ≡ nat_lt i l
    go (inl b) = is_below (i - m) k (omega arith) ∙ sym (is_below i l b)
    go (inr b) = not_below (i - m) k (omega arith) ∙ sym (not_below i l b)

module _ (n len : ℕ) (es : List Core_entry) where
  abbrev IsSame : ℕ → ℕ → ℕ → Option Core_entry → Type 0
  IsSame k l i o = is_late k (heap_super (closed_index o (i - length es))) ≡ is_late l (Some (super.Index i))

  late-closed : (k l : ℕ) (o : Option SuperType) → l ≡ length es + k → IsFree (super_index_checks n es len o) → is_late k (closed_super es o) ≡ is_late l o
  late-closed k l None e f = refl
  late-closed k l (Some (super.Id i)) e f = refl
  late-closed k l (Some (super.Index i)) e f = go (slice_get_cases es i).1
    where
      entry : (x : Core_entry) → i < length es → is_module (Some x) ≡ false → IsSame k l i (Some x)
      entry (sub_entry j) b m = sym (ap not (is_below i l (omega arith)))
      entry module_entry b m = cc

      go : (((x : Core_entry) × (i < length es) × (slice_get es i ≡ Some x) × (get_or es i x ≡ x)) ⊎ ((length es ≤ i) × (slice_get es i ≡ None))) → IsSame k l i (slice_get es i)
      go (inl (x, b, s, t)) = subst (IsSame k l i) (sym s) (entry x b (ap is_module (sym s) ∙ f.1.0))
      go (inr (b, s)) = subst (IsSame k l i) (sym s) (ap not (less-shifted (length es) i k l b e))

  -- the same supertypes are late
  pub order-closed : (k l : ℕ) (w : Group) → l ≡ length es + k → IsFree (all_checks (index_checks n es len) w) → order_checks k (closed_group es w) ≡ order_checks l w
  order-closed k l [] e f = refl
  order-closed k l (s ∷ w) e f =
      let first : IsFree (index_checks n es len s) = free_left (index_checks n es len s) (all_checks (index_checks n es len) w) f in
      let late : is_late k (closed_super es s.supertype) ≡ is_late l s.supertype = late-closed k l s.supertype e (free_left (super_index_checks n es len s.supertype) (form_checks n es len s.inner) first) in
      let rest : order_checks (suc k) (closed_group es w) ≡ order_checks (suc l) w = order-closed (suc k) (suc l) w (omega arith) (free_right (index_checks n es len s) (all_checks (index_checks n es len) w) f) in
      λ j. (kind.CoreType, late j) ∷ rest j
