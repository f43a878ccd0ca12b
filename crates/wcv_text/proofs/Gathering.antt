-- The ids that a list of types names, one type after another.
use Rattle.std.proofs.Common.{◌≡◌, ℕ, ◌+◌, ◌<◌, List, ◌++◌, length, get_or, drop, sym, ◌∙◌, ap, append_assoc}
use Rattle.std.proofs.lemmas.List.{drop_more}
use Rattle.wcv_core.specs.CoreIds.{all_ids}

-- one more
pub next_ids : {A : Type 0} (f : A → List ℕ) (ids next all : List ℕ) (i : ℕ) (x : A) (xs : List A) → i < length xs → next ≡ ids ++ f (get_or xs i x) →
    ids ++ all_ids f (drop i xs) ≡ all → next ++ all_ids f (drop (i + 1) xs) ≡ all
next_ids {A} f ids next all i x xs within p h =
    ap (λ (y : List ℕ). y ++ all_ids f (drop (i + 1) xs)) p ∙ append_assoc ids (f (get_or xs i x)) (all_ids f (drop (i + 1) xs)) ∙
    sym (ap (λ (ys : List A). ids ++ all_ids f ys) (drop_more xs i x within)) ∙ h
