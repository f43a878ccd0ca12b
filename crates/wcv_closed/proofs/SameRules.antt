-- Types of two tables that have one closed form keep the same rules.
use Rattle.std.proofs.Common.{◌≡◌, ℕ, zero, suc, ◌+◌, ◌<◌, List, [], ◌∷◌, ◌++◌, length, get_or, Bool, true, false, not, ◌&&◌, nat_lt, Option, Some, None, IfSome, refl, sym, ◌∙◌, ap, arith, subst}
use Rattle.std.specs.List.{range_with_len}
use Rattle.wcv_core.specs.Checks.{Checks, all_checks}
use Rattle.wcv_core.specs.CoreForm.{SubForm, Group}
use Rattle.wcv_core.specs.CoreGroups.{total, parents_from, depth_after, depths_of, IsClosed}
use Rattle.wcv_core.specs.CoreJoining.{first_id, group_ids}
use Rattle.wcv_core.specs.CoreMatching.{type_at, same_bool}
use Rattle.wcv_core.specs.CoreRules.{form_at, form_matches, form_shared, super_checks, type_checks}
use Rattle.wcv_core.specs.CoreTable.{with_group}
use Rattle.wcv_core.specs.Limits.{max_supertypes}
use Rattle.wcv_core.specs.declared.error.ErrorKind.TheVariants as kind
use Rattle.wcv_core.proofs.Climbing.{before, depth_law}
use Rattle.wcv_core.proofs.TableLaws.{interned}
use Rattle.wcv_core.proofs.Within.{form_within}
use Rattle.wcv_closed.specs.ClosedForm.{Form, form_by, form_of, FormMatches, IsFormShared}
use Rattle.wcv_closed.specs.ClosedMatching.{own_form, is_shared, supertype}
use Rattle.wcv_closed.specs.ClosedTable.{IsTable}
use Rattle.wcv_closed.specs.ClosedType.{Closed, closed, closed_at}
use Rattle.wcv_closed.proofs.Forming.{form_shown}
use Rattle.wcv_closed.proofs.FormsMatch.{form_to, form_from, form_shared_to, form_shared_from}
use Rattle.wcv_closed.proofs.Interning.{table_joined, interned_unfolds}
use Rattle.wcv_closed.proofs.Shown.{Shown, shown, shared_shown, closed_parent, super_shown}
use Rattle.wcv_closed.proofs.Standing.{high, found_stands}

same_answers : (a b : Bool) → (a ≡ true → b ≡ true) → (b ≡ true → a ≡ true) → a ≡ b
same_answers true true f g = refl
same_answers false false f g = refl
same_answers true false f g = sym (f refl)
same_answers false true f g = g refl

same_some : (c d : Closed) → Some c ≡ Some d → c ≡ d
same_some c d e = cc

module _ (gs hs : List Group) (t : IsTable gs) (u : IsTable hs) where
  -- ## What one closed form shows in both

  same_final : (i j : ℕ) → i < total gs → j < total hs → closed gs i ≡ closed hs j → (type_at gs i).is_final ≡ (type_at hs j).is_final
  same_final i j h k e =
      let x : Shown gs i = shown gs i t h in
      let y : Shown hs j = shown hs j u k in
      sym (ap (λ (s : SubForm). s.is_final) x.own) ∙ (ap (λ (c : Closed). (own_form c).is_final) e ∙ ap (λ (s : SubForm). s.is_final) y.own)

  same_shared : (i j : ℕ) → i < total gs → j < total hs → closed gs i ≡ closed hs j → (type_at gs i).shared ≡ (type_at hs j).shared
  same_shared i j h k e = sym (shared_shown gs i t h) ∙ (ap is_shared e ∙ shared_shown hs j u k)

  same_form : (i j : ℕ) → i < total gs → j < total hs → closed gs i ≡ closed hs j → form_by (closed gs) (form_at gs i) ≡ form_by (closed hs) (form_at hs j)
  same_form i j h k e = form_shown gs i t h ∙ (ap form_of e ∙ sym (form_shown hs j u k))

  same_parents : (i j : ℕ) → i < total gs → j < total hs → closed gs i ≡ closed hs j → closed_parent gs (get_or (parents_from 0 gs) i None) ≡ closed_parent hs (get_or (parents_from 0 hs) j None)
  same_parents i j h k e = sym (super_shown gs i t h) ∙ (ap supertype e ∙ super_shown hs j u k)

  -- ## Rules

  same_form_shared : (i j : ℕ) → i < total gs → j < total hs → closed gs i ≡ closed hs j → form_shared gs (form_at gs i) ≡ form_shared hs (form_at hs j)
  same_form_shared i j h k e =
      let p : form_by (closed gs) (form_at gs i) ≡ form_by (closed hs) (form_at hs j) = same_form i j h k e in
      same_answers (form_shared gs (form_at gs i)) (form_shared hs (form_at hs j))
      (λ a. form_shared_from hs u (form_at hs j) (form_within hs j u.closed k) (subst IsFormShared p (form_shared_to gs t (form_at gs i) (form_within gs i t.closed h) a)))
      (λ a. form_shared_from gs t (form_at gs i) (form_within gs i t.closed h) (subst IsFormShared (sym p) (form_shared_to hs u (form_at hs j) (form_within hs j u.closed k) a)))

  same_form_matches : (i j p q : ℕ) → i < total gs → j < total hs → p < total gs → q < total hs → closed gs i ≡ closed hs j → closed gs p ≡ closed hs q
      → form_matches gs (form_at gs i) (form_at gs p) ≡ form_matches hs (form_at hs j) (form_at hs q)
  same_form_matches i j p q h k l m e f =
      let x : form_by (closed gs) (form_at gs i) ≡ form_by (closed hs) (form_at hs j) = same_form i j h k e in
      let y : form_by (closed gs) (form_at gs p) ≡ form_by (closed hs) (form_at hs q) = same_form p q l m f in
      same_answers (form_matches gs (form_at gs i) (form_at gs p)) (form_matches hs (form_at hs j) (form_at hs q))
      (λ a. form_from hs u (form_at hs j) (form_at hs q) (form_within hs j u.closed k) (form_within hs q u.closed m)
      (subst (λ (z : Form Closed). FormMatches z (form_by (closed hs) (form_at hs q))) x (subst (FormMatches (form_by (closed gs) (form_at gs i))) y
      (form_to gs t (form_at gs i) (form_at gs p) (form_within gs i t.closed h) (form_within gs p t.closed l) a))))
      (λ a. form_from gs t (form_at gs i) (form_at gs p) (form_within gs i t.closed h) (form_within gs p t.closed l)
      (subst (λ (z : Form Closed). FormMatches z (form_by (closed gs) (form_at gs p))) (sym x) (subst (FormMatches (form_by (closed hs) (form_at hs j))) (sym y)
      (form_to hs u (form_at hs j) (form_at hs q) (form_within hs j u.closed k) (form_within hs q u.closed m) a))))

  same_depths : (b i j : ℕ) → i < b → i < total gs → j < total hs → closed gs i ≡ closed hs j → get_or (depths_of gs) i 0 ≡ get_or (depths_of hs) j 0
  same_depths zero i j l h k e = Prim.absurd (omega arith)
  same_depths (suc b) i j l h k e =
      depth_law gs i t.closed h ∙
      (go (get_or (parents_from 0 gs) i None) (get_or (parents_from 0 hs) j None) (before 0 gs t.closed i) (before 0 hs u.closed j) (same_parents i j h k e)
      (λ p q x y f. same_depths b p q (omega arith) (omega arith) (omega arith) f) ∙
      sym (depth_law hs j u.closed k))
    where
      go : (o r : Option ℕ) → IfSome o (λ p. p < 0 + i) → IfSome r (λ p. p < 0 + j) → closed_parent gs o ≡ closed_parent hs r
          → ((p q : ℕ) → p < 0 + i → q < 0 + j → closed gs p ≡ closed hs q → get_or (depths_of gs) p 0 ≡ get_or (depths_of hs) q 0) → depth_after (depths_of gs) o ≡ depth_after (depths_of hs) r
      go None None x y f rec = refl
      go (Some p) (Some q) x y f rec = ap (λ (d : ℕ). d + 1) (rec p q x y (same_some (closed gs p) (closed hs q) f))
      go None (Some q) x y f rec = cc
      go (Some p) None x y f rec = cc

  same_super : (i j : ℕ) → i < total gs → j < total hs → closed gs i ≡ closed hs j → super_checks gs i (get_or (parents_from 0 gs) i None) ≡ super_checks hs j (get_or (parents_from 0 hs) j None)
  same_super i j h k e = go (get_or (parents_from 0 gs) i None) (get_or (parents_from 0 hs) j None) (before 0 gs t.closed i) (before 0 hs u.closed j) (same_parents i j h k e)
    where
      go : (o r : Option ℕ) → IfSome o (λ p. p < 0 + i) → IfSome r (λ p. p < 0 + j) → closed_parent gs o ≡ closed_parent hs r → super_checks gs i o ≡ super_checks hs j r
      go None None x y f = refl
      go (Some p) (Some q) x y f =
          let c : closed gs p ≡ closed hs q = same_some (closed gs p) (closed hs q) f in
          let l : p < total gs = omega (arith, x) in
          let m : q < total hs = omega (arith, y) in
          let final : (type_at gs p).is_final ≡ (type_at hs q).is_final = same_final p q l m c in
          let own : (type_at gs i).shared ≡ (type_at hs j).shared = same_shared i j h k e in
          let its : (type_at gs p).shared ≡ (type_at hs q).shared = same_shared p q l m c in
          let form : form_matches gs (form_at gs i) (form_at gs p) ≡ form_matches hs (form_at hs j) (form_at hs q) = same_form_matches i j p q h k l m e c in
          let deep : get_or (depths_of gs) i 0 ≡ get_or (depths_of hs) j 0 = same_depths (suc i) i j (omega arith) h k e in
          λ n. (kind.CoreType, final n) ∷ (kind.CoreType, not (same_bool (own n) (its n))) ∷ (kind.CoreType, not (form n)) ∷ (kind.Limit, nat_lt max_supertypes (deep n)) ∷ []
      go None (Some q) x y f = cc
      go (Some p) None x y f = cc

  pub same_rules : (i j : ℕ) → i < total gs → j < total hs → closed gs i ≡ closed hs j → type_checks gs i ≡ type_checks hs j
  same_rules i j h k e =
      let own : (type_at gs i).shared ≡ (type_at hs j).shared = same_shared i j h k e in
      let form : form_shared gs (form_at gs i) ≡ form_shared hs (form_at hs j) = same_form_shared i j h k e in
      let rest : super_checks gs i (get_or (parents_from 0 gs) i None) ≡ super_checks hs j (get_or (parents_from 0 hs) j None) = same_super i j h k e in
      λ n. (kind.CoreType, own n && not (form n)) ∷ rest n

-- ## Groups that join two tables

ranges : (f h : ℕ → Checks) (a b n : ℕ) → ((k : ℕ) → k < n → f (a + k) ≡ h (b + k)) → all_checks f (range_with_len a n) ≡ all_checks h (range_with_len b n)
ranges f h a b zero e = refl
ranges f h a b (suc n) e =
    let x : a + 0 ≡ a = omega arith in
    let y : b + 0 ≡ b = omega arith in
    let z : f a ≡ h b = ap f (sym x) ∙ (e 0 (omega arith) ∙ ap h y) in
    let r : all_checks f (range_with_len (a + 1) n) ≡ all_checks h (range_with_len (b + 1) n) =
    ranges f h (a + 1) (b + 1) n (λ k l. let p : a + 1 + k ≡ a + suc k = omega arith in let q : b + suc k ≡ b + 1 + k = omega arith in ap f p ∙ (e (suc k) (omega arith) ∙ ap h q)) in
    λ j. z j ++ r j

room : (gs : List Group) (g : Group) (k : ℕ) → k < length g → first_id gs g + k < total (with_group gs g)
room gs g k l = omega (arith, high 0 (with_group gs g) (first_id gs g) g (found_stands 0 (with_group gs g) (first_id gs g) g (interned gs g)))

pub same_joining : (gs hs : List Group) (g h : Group) → IsTable gs → IsTable hs → IsClosed (total gs) g → IsClosed (total hs) h
    → length g ≡ length h → ((k : ℕ) → k < length g → closed_at gs g k ≡ closed_at hs h k)
    → all_checks (type_checks (with_group gs g)) (group_ids gs g) ≡ all_checks (type_checks (with_group hs h)) (group_ids hs h)
same_joining gs hs g h t u c d l e =
    ranges (type_checks (with_group gs g)) (type_checks (with_group hs h)) (first_id gs g) (first_id hs h) (length g)
    (λ k m.
    let n : k < length h = omega arith in
    same_rules (with_group gs g) (with_group hs h) (table_joined gs g t c) (table_joined hs h u d) (first_id gs g + k) (first_id hs h + k) (room gs g k m) (room hs h k n)
    (interned_unfolds gs g k t c m ∙ (e k m ∙ sym (interned_unfolds hs h k u d n)))) ∙
    ap (λ (n : ℕ). all_checks (type_checks (with_group hs h)) (range_with_len (first_id hs h) n)) l
