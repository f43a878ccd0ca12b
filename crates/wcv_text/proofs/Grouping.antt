-- The lines of core groups: a visit is the visits of the older groups that the group names, and then its line.
use Rattle.std.proofs.Common.{◌≡◌, ℕ, zero, suc, ◌+◌, ◌<◌, ◌≤◌, List, [], ◌∷◌, ◌++◌, length, drop, codes, cond, nat_lt, Bool, true, false, refl, sym, ◌∙◌, ap, subst, append_assoc, arith}
use Rattle.std.specs.Prelude.{slice_get, Some, ◌-◌, sum_by}
use Rattle.std.specs.List.{fold, filter}
use Rattle.std.proofs.lemmas.Bool.Decides.{nat_tests}
use Rattle.std.proofs.lemmas.List.{drop_more}
use Rattle.std.proofs.lemmas.List.Sums.{sum_by-cons, sum_by-append}
use Rattle.std.proofs.lemmas.Option.{get_or_from_slice_get, slice_get_within}
use Rattle.wcv_core.specs.CoreForm.{Group}
use Rattle.wcv_core.specs.CoreGroups.{place_from}
use Rattle.wcv_core.specs.declared.core_types.CoreTypeId.{CoreTypeId}
use Rattle.wcv_core.specs.CoreIds.{ids_in_group}
use Rattle.wcv_types.specs.CoreText.{group_text, group_first, group_at, older_ids}
use Rattle.wcv_types.specs.Text.{Written, line_text, has_group, with_group, with_new_group, write_group, write_groups}
use Rattle.wcv_types.specs.Tree.{Text}
use Rattle.wcv_text.specs.Numbers.{so_far, Shows}
use Rattle.wcv_text.specs.declared.numbers.Numbers.{Numbers}
use Rattle.wcv_text.specs.Groups.{done, all_done, visit_steps, steps_of, all_steps}
use Rattle.wcv_text.proofs.Folds.{piece_shown}
use Rattle.wcv_text.specs.declared.groups.Step.{Step}
use Rattle.wcv_text.specs.declared.groups.Step.TheVariants as step

-- ## Steps

pub done_append : (xs ys : List Step) (w : Written) → all_done (xs ++ ys) w ≡ all_done xs (all_done ys w)
done_append [] ys w = refl
done_append (x ∷ xs) ys w = ap (done x) (done_append xs ys w)

pub steps_append : (gs : List Group) (xs ys : List Step) → all_steps gs (xs ++ ys) ≡ all_steps gs xs + all_steps gs ys
steps_append gs xs ys = sum_by-append (steps_of gs) xs ys

-- ## Older types

-- all numbers are below the bound
abbrev AllBelow : ℕ → List ℕ → Type 0
AllBelow m [] = Unit {0}
AllBelow m (x ∷ xs) = (x < m) × AllBelow m xs

below_more : (m n : ℕ) (xs : List ℕ) → m ≤ n → AllBelow m xs → AllBelow n xs
below_more m n [] l h = tt
below_more m n (x ∷ xs) l h = let a = h.0 in (omega (arith, a, l), below_more m n xs l h.1)

less : (x m : ℕ) → nat_lt x m ≡ true → x < m
less x m e = grind (arith, nat_tests)

not_less : (x m : ℕ) → nat_lt x m ≡ false → m ≤ x
not_less x m e = grind (arith, nat_tests)

filtered_below : (m : ℕ) (xs : List ℕ) → AllBelow m (filter (λ j. nat_lt j m) xs)
filtered_below m [] = tt
filtered_below m (x ∷ xs) = go (nat_lt x m) refl (filtered_below m xs)
  where
    go : (b : Bool) → nat_lt x m ≡ b → AllBelow m (filter (λ j. nat_lt j m) xs) → AllBelow m (cond b (x ∷ filter (λ j. nat_lt j m) xs) (filter (λ j. nat_lt j m) xs))
    go true e h = (less x m e, h)
    go false e h = h

-- a group begins with a type that is not behind
first_before : (n : ℕ) (gs : List Group) (i : ℕ) → n ≤ i → (place_from n gs i).0 ≤ i
first_before n [] i h = h
first_before n (g ∷ gs) i h = go (nat_lt i (n + length g)) refl (first_before (n + length g) gs i)
  where
    go : (b : Bool) → nat_lt i (n + length g) ≡ b → (n + length g ≤ i → (place_from (n + length g) gs i).0 ≤ i) → (cond b (n, length g) (place_from (n + length g) gs i)).0 ≤ i
    go true e later = h
    go false e later = later (not_less i (n + length g) e)

older_below : (gs : List Group) (i : ℕ) → AllBelow i (older_ids gs i)
older_below gs i = below_more (group_first gs i) i (older_ids gs i) (first_before 0 gs i (omega arith)) (filtered_below (group_first gs i) (ids_in_group (group_at gs i)))

-- ## Depth

-- two ways to go on that agree below the bound
fold_agrees : (m : ℕ) (f g : Written → ℕ → Written) → ((w : Written) (j : ℕ) → j < m → f w j ≡ g w j) → (xs : List ℕ) → AllBelow m xs → (w : Written) → fold f w xs ≡ fold g w xs
fold_agrees m f g same [] h w = refl
fold_agrees m f g same (x ∷ xs) h w = ap (λ (v : Written). fold f v xs) (same w x h.0) ∙ fold_agrees m f g same xs h.1 (g w x)

sum_agrees : (m : ℕ) (f g : ℕ → ℕ) → ((j : ℕ) → j < m → f j ≡ g j) → (xs : List ℕ) → AllBelow m xs → sum_by f xs ≡ sum_by g xs
sum_agrees m f g same [] h = refl
sum_agrees m f g same (x ∷ xs) h =
    let a : f x ≡ g x = same x h.0 in
    let b : sum_by f xs ≡ sum_by g xs = sum_agrees m f g same xs h.1 in
    let c : sum_by f (x ∷ xs) ≡ f x + sum_by f xs = sum_by-cons f x xs in
    let d : sum_by g (x ∷ xs) ≡ g x + sum_by g xs = sum_by-cons g x xs in
    omega (arith, a, b, c, d)

-- more depth than the id changes nothing
deep_enough : (k m : ℕ) (w : Written) (i : ℕ) → i < k → i < m → write_group k w i ≡ write_group m w i
deep_enough zero m w i h l = absurd (omega (arith, h))
deep_enough (suc k) zero w i h l = absurd (omega (arith, l))
deep_enough (suc k) (suc m) w i h l =
    ap (λ (v : Written). cond (has_group w i) w (with_new_group v i))
    (fold_agrees i (write_group k) (write_group m) (λ v j q. deep_enough k m v j (omega (arith, q, h)) (omega (arith, q, l))) (older_ids w.core i) (older_below w.core i) w)

steps_enough : (k m : ℕ) (gs : List Group) (i : ℕ) → i < k → i < m → visit_steps k gs i ≡ visit_steps m gs i
steps_enough zero m gs i h l = absurd (omega (arith, h))
steps_enough (suc k) zero gs i h l = absurd (omega (arith, l))
steps_enough (suc k) (suc m) gs i h l =
    ap (λ (n : ℕ). suc (suc n))
    (sum_agrees i (visit_steps k gs) (visit_steps m gs) (λ j q. steps_enough k m gs j (omega (arith, q, h)) (omega (arith, q, l))) (older_ids gs i) (older_below gs i))

-- ## Visits

-- of a type whose group has no line
pub visit_new : (w : Written) (i : ℕ) → has_group w i ≡ false → write_group (suc i) w i ≡ with_new_group (write_groups w (older_ids w.core i)) i
visit_new w i e =
    ap (λ (b : Bool). cond b w (with_new_group (fold (write_group i) w (older_ids w.core i)) i)) e ∙
    ap (λ (v : Written). with_new_group v i)
    (fold_agrees i (write_group i) (λ v j. write_group (suc j) v j) (λ v j q. deep_enough i (suc j) v j q (omega arith)) (older_ids w.core i) (older_below w.core i) w)

-- it takes more steps than what it consists of
pub visit_longer : (gs : List Group) (i : ℕ) → visit_steps (suc i) gs i ≡ suc (suc (sum_by (λ j. visit_steps (suc j) gs j) (older_ids gs i)))
visit_longer gs i =
    ap (λ (n : ℕ). suc (suc n)) (sum_agrees i (visit_steps i gs) (λ j. visit_steps (suc j) gs j) (λ j q. steps_enough i (suc j) gs j q (omega arith)) (older_ids gs i) (older_below gs i))

-- ## The line of a group

-- it is appended
pub group_shown : (old new : Numbers) (before : Text × Text) (text next : Text) (w : Written) (i : ℕ) →
    ((x : Text) → next ≡ text ++ (codes "g" ++ line_text (length (so_far old x).groups) (group_text (so_far old x).core (so_far old x).groups (group_at (so_far old x).core i)))) →
    ((x : Text) → so_far new x ≡ record (so_far old x) { groups = (so_far old x).groups ++ group_first (so_far old x).core i ∷ [] }) →
    Shows old before text w → Shows new before next (with_group w i)
group_shown old new before text next w i said added h =
    let x : Text = w.text in
    let line : Written → Text = λ v. line_text (length v.groups) (group_text v.core v.groups (group_at v.core i)) in
    let u : Written = so_far old x in
    subst (λ (z : Written). Shows new before next (with_group z i)) (sym h.numbers_are) (record {
      text_is = piece_shown before.0 before.1 text next x (codes "g" ++ line u) (said x) h.text_is ∙ ap (λ (y : Text). before.1 ++ y) (sym (append_assoc x (codes "g") (line u)));
      numbers_are = sym (added (x ++ codes "g" ++ line u));
    })

-- ## Turns

-- the next type from the end of a list
from_end : (ids : List ℕ) (k i : ℕ) → k < length ids → slice_get ids (length ids - 1 - k) ≡ Some i → i ∷ drop (length ids - k) ids ≡ drop (length ids - (k + 1)) ids
from_end ids k i h g =
    let at : length ids - 1 - k ≡ length ids - (k + 1) = omega arith in
    let more : (length ids - (k + 1)) + 1 ≡ length ids - k = omega (arith, h) in
    let e : slice_get ids (length ids - (k + 1)) ≡ Some i = sym (ap (λ (j : ℕ). slice_get ids j) at) ∙ g in
    sym (drop_more ids (length ids - (k + 1)) i (slice_get_within ids (length ids - (k + 1)) i e) ∙ ap (λ (x : ℕ). x ∷ drop ((length ids - (k + 1)) + 1) ids) (get_or_from_slice_get ids (length ids - (k + 1)) i i e) ∙ ap (λ (j : ℕ). i ∷ drop j ids) more)

-- a visit of it behind the steps
pub more_done : (old steps next : List Step) (ids : List ℕ) (k : ℕ) (i : CoreTypeId) (w : Written) → k < length ids → slice_get ids (length ids - 1 - k) ≡ Some i.index → next ≡ steps ++ step.Visit i ∷ [] →
    ((v : Written) → all_done steps v ≡ all_done old (write_groups v (drop (length ids - k) ids))) → all_done next w ≡ all_done old (write_groups w (drop (length ids - (k + 1)) ids))
more_done old steps next ids k i w h g e f =
    ap (λ (ss : List Step). all_done ss w) e ∙ done_append steps (step.Visit i ∷ []) w ∙ f (write_group (suc i.index) w i.index) ∙
    ap (λ (js : List ℕ). all_done old (write_groups w js)) (from_end ids k i.index h g)

pub more_steps : (gs : List Group) (old steps next : List Step) (ids : List ℕ) (k : ℕ) (i : CoreTypeId) → k < length ids → slice_get ids (length ids - 1 - k) ≡ Some i.index → next ≡ steps ++ step.Visit i ∷ [] →
    all_steps gs steps ≡ all_steps gs old + sum_by (λ j. visit_steps (suc j) gs j) (drop (length ids - k) ids) → all_steps gs next ≡ all_steps gs old + sum_by (λ j. visit_steps (suc j) gs j) (drop (length ids - (k + 1)) ids)
more_steps gs old steps next ids k i h g e f =
    let f' : ℕ → ℕ = λ j. visit_steps (suc j) gs j in
    let a : all_steps gs next ≡ all_steps gs steps + all_steps gs (step.Visit i ∷ []) = ap (λ (ss : List Step). all_steps gs ss) e ∙ steps_append gs steps (step.Visit i ∷ []) in
    let b : sum_by f' (i.index ∷ drop (length ids - k) ids) ≡ sum_by f' (drop (length ids - (k + 1)) ids) = ap (λ (js : List ℕ). sum_by f' js) (from_end ids k i.index h g) in
    let c : all_steps gs (step.Visit i ∷ []) ≡ visit_steps (suc i.index) gs i.index + 0 = sum_by-cons (steps_of gs) (step.Visit i) [] in
    let d : sum_by f' (i.index ∷ drop (length ids - k) ids) ≡ visit_steps (suc i.index) gs i.index + sum_by f' (drop (length ids - k) ids) = sum_by-cons f' i.index (drop (length ids - k) ids) in
    omega (arith, a, b, c, d, f)

-- what a visit consists of
pub unfolded_done : (old mid next : List Step) (ids : List ℕ) (i : CoreTypeId) (w : Written) → has_group w i.index ≡ false → ids ≡ older_ids w.core i.index → mid ≡ old ++ step.Line i ∷ [] →
    all_done next w ≡ all_done mid (write_groups w ids) → all_done next w ≡ all_done old (done (step.Visit i) w)
unfolded_done old mid next ids i w none e m h =
    h ∙ ap (λ (ss : List Step). all_done ss (write_groups w ids)) m ∙ done_append old (step.Line i ∷ []) (write_groups w ids) ∙
    ap (λ (js : List ℕ). all_done old (with_new_group (write_groups w js) i.index)) e ∙ ap (all_done old) (sym (visit_new w i.index none))

pub unfolded_steps : (gs : List Group) (old mid next : List Step) (ids : List ℕ) (i : CoreTypeId) → ids ≡ older_ids gs i.index → mid ≡ old ++ step.Line i ∷ [] →
    all_steps gs next ≡ all_steps gs mid + sum_by (λ j. visit_steps (suc j) gs j) ids → all_steps gs next < all_steps gs old + steps_of gs (step.Visit i)
unfolded_steps gs old mid next ids i e m h =
    let f : ℕ → ℕ = λ j. visit_steps (suc j) gs j in
    let a : all_steps gs mid ≡ all_steps gs old + all_steps gs (step.Line i ∷ []) = ap (λ (ss : List Step). all_steps gs ss) m ∙ steps_append gs old (step.Line i ∷ []) in
    let one : all_steps gs (step.Line i ∷ []) ≡ 1 + 0 = sum_by-cons (steps_of gs) (step.Line i) [] in
    let b : sum_by f ids ≡ sum_by f (older_ids gs i.index) = ap (λ (js : List ℕ). sum_by f js) e in
    let c : steps_of gs (step.Visit i) ≡ suc (suc (sum_by f (older_ids gs i.index))) = visit_longer gs i.index in
    omega (arith, a, one, b, c, h)

-- the last step is taken off
pub popped_done : (all rest : List Step) (s : Step) (w : Written) → all ≡ rest ++ s ∷ [] → all_done all w ≡ all_done rest (done s w)
popped_done all rest s w e = ap (λ (ss : List Step). all_done ss w) e ∙ done_append rest (s ∷ []) w

pub popped_steps : (gs : List Group) (all rest : List Step) (s : Step) → all ≡ rest ++ s ∷ [] → all_steps gs all ≡ all_steps gs rest + steps_of gs s
popped_steps gs all rest s e =
    let a : all_steps gs all ≡ all_steps gs rest + all_steps gs (s ∷ []) = ap (λ (ss : List Step). all_steps gs ss) e ∙ steps_append gs rest (s ∷ []) in
    let b : all_steps gs (s ∷ []) ≡ steps_of gs s + 0 = sum_by-cons (steps_of gs) s [] in
    omega (arith, a, b)
