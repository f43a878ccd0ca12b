-- Supertypes keep the form of their types as groups join.
use Rattle.std.proofs.Common.{◌≡◌, ℕ, zero, suc, ◌+◌, ◌-◌, ◌<◌, ◌≤◌, ◌⊎◌, inl, inr, List, length, get_or, Option, Some, None, refl, sym, ◌∙◌, ap, arith, subst}
use Rattle.std.specs.List.{range_with_len}
use Rattle.std.specs.Option.{unwrap_or}
use Rattle.wcv_core.specs.Checks.{Checks, IsFree, all_checks}
use Rattle.wcv_core.specs.CoreForm.{Group}
use Rattle.wcv_core.specs.CoreGroups.{total, parents_from, id_of, IsClosed}
use Rattle.wcv_core.specs.CoreJoining.{first_id, group_ids}
use Rattle.wcv_core.specs.CoreMatching.{form_heap, type_at}
use Rattle.wcv_core.specs.CoreRules.{type_checks}
use Rattle.wcv_core.specs.CoreTable.{joined_to, with_group}
use Rattle.wcv_core.proofs.Causes.{free_left, free_right}
use Rattle.wcv_core.proofs.Rowing.{total-append, split}
use Rattle.wcv_core.proofs.Within.{parent_within}
use Rattle.wcv_closed.specs.ClosedMatching.{form_word, supertype, SupersKeepForm}
use Rattle.wcv_closed.specs.ClosedTable.{IsTable}
use Rattle.wcv_closed.specs.ClosedType.{Closed, closed}
use Rattle.wcv_closed.proofs.Interning.{table_joined, kept}
use Rattle.wcv_closed.proofs.MatchingIds.{rule_keeps_form}
use Rattle.wcv_closed.proofs.Shown.{word_shown, closed_parent, super_shown}

ranged_free : (f : ℕ → Checks) (a n k i : ℕ) → k < n → i ≡ a + k → IsFree (all_checks f (range_with_len a n)) → IsFree (f i)
ranged_free f a zero k i h e w = Prim.absurd (omega arith)
ranged_free f a (suc n) zero i h e w = let z : a ≡ i = omega arith in subst (λ (j : ℕ). IsFree (f j)) z (free_left (f a) (all_checks f (range_with_len (a + 1) n)) w)
ranged_free f a (suc n) (suc k) i h e w = ranged_free f (a + 1) n k i (omega arith) (omega arith) (free_right (f a) (all_checks f (range_with_len (a + 1) n)) w)

same_some : (c d : Closed) → Some c ≡ Some d → c ≡ d
same_some c d e = cc

-- a type that was there
older_keeps : (gs hs : List Group) (i p : ℕ) → IsTable gs → IsTable hs → SupersKeepForm gs → i < total gs → i < total hs → closed hs i ≡ closed gs i → get_or (parents_from 0 hs) i None ≡ Some p
    → form_heap (type_at hs p).inner ≡ form_heap (type_at hs i).inner
older_keeps gs hs i p t u s h k e f = go (get_or (parents_from 0 gs) i None) refl
  where
    q : Some (closed hs p) ≡ closed_parent gs (get_or (parents_from 0 gs) i None)
    q = sym (super_shown hs i u k ∙ ap (closed_parent hs) f) ∙ (ap supertype e ∙ super_shown gs i t h)

    go : (o : Option ℕ) → get_or (parents_from 0 gs) i None ≡ o → form_heap (type_at hs p).inner ≡ form_heap (type_at hs i).inner
    go None x = let c : Some (closed hs p) ≡ None = q ∙ ap (closed_parent gs) x in cc
    go (Some r) x =
        let c : closed hs p ≡ closed gs r = same_some (closed hs p) (closed gs r) (q ∙ ap (closed_parent gs) x) in
        sym (word_shown hs p u (parent_within hs i p u.closed k f)) ∙
        (ap form_word c ∙
        (word_shown gs r t (parent_within gs i r t.closed h x) ∙
        (s i r h x ∙
        (sym (word_shown gs i t h) ∙ (ap form_word (sym e) ∙ word_shown hs i u k)))))

-- a group joins of which each type that has a supertype has its form
pub joined_forms : (gs : List Group) (g : Group) → IsTable gs → SupersKeepForm gs → IsClosed (total gs) g
    → ((k p : ℕ) → k < length g → get_or (parents_from 0 (with_group gs g)) (first_id gs g + k) None ≡ Some p → form_heap (type_at (with_group gs g) p).inner ≡ form_heap (type_at (with_group gs g) (first_id gs g + k)).inner)
    → SupersKeepForm (with_group gs g)
joined_forms gs g t s c w i p h e = go (id_of gs g) refl (split i (total gs))
  where
    u : IsTable (with_group gs g)
    u = table_joined gs g t c

    old : i < total gs → form_heap (type_at (with_group gs g) p).inner ≡ form_heap (type_at (with_group gs g) i).inner
    old l = older_keeps gs (with_group gs g) i p t u s l h (kept gs g i l (id_of gs g)) e

    go : (r : Option ℕ) → id_of gs g ≡ r → (i < total gs) ⊎ (total gs ≤ i) → form_heap (type_at (with_group gs g) p).inner ≡ form_heap (type_at (with_group gs g) i).inner
    go r x (inl l) = old l
    go (Some m) x (inr l) =
        let z : total (with_group gs g) ≡ total gs = ap (λ (r : Option ℕ). total (joined_to r gs g)) x in
        old (omega arith)
    go None x (inr l) =
        let z : total (with_group gs g) ≡ total gs + length g = ap (λ (r : Option ℕ). total (joined_to r gs g)) x ∙ total-append gs g in
        let y : first_id gs g ≡ total gs = ap (λ (r : Option ℕ). unwrap_or r (total gs)) x in
        let q : i ≡ first_id gs g + (i - total gs) = omega arith in
        let f : get_or (parents_from 0 (with_group gs g)) (first_id gs g + (i - total gs)) None ≡ Some p = ap (λ (j : ℕ). get_or (parents_from 0 (with_group gs g)) j None) (sym q) ∙ e in
        w (i - total gs) p (omega arith) f ∙ ap (λ (j : ℕ). form_heap (type_at (with_group gs g) j).inner) (sym q)

pub joined_keeps : (gs : List Group) (g : Group) → IsTable gs → SupersKeepForm gs → IsClosed (total gs) g
    → IsFree (all_checks (type_checks (with_group gs g)) (group_ids gs g)) → SupersKeepForm (with_group gs g)
joined_keeps gs g t s c w =
    joined_forms gs g t s c (λ k p l e. rule_keeps_form (with_group gs g) (first_id gs g + k) p (ranged_free (type_checks (with_group gs g)) (first_id gs g) (length g) k (first_id gs g + k) l refl w) e)
