use Rattle.std.proofs.Common.{◌≡◌, ◌+◌, ◌++◌, ◌∷◌, [], ◌∙◌, nat_lt, cond, Bool, List, ℕ, take, ap, sym, rules}
use Rattle.std.specs.Prelude.{slice_get, Some}
use Rattle.std.specs.List.{filter}
use Rattle.std.proofs.lemmas.List.Elements.{filter_more}
use Rattle.std.proofs.lemmas.Option.{get_or_from_slice_get, slice_get_within}
use Rattle.wcv_core.specs.CoreIds.{ids_in_group}
use Rattle.wcv_types.specs.CoreText.{group_at}
use Rattle.wcv_text.proofs.core_ids.older_in.Goals as goal
use Rattle.wcv_text.proofs.core_ids.older_in.Goals.{then-named-first+in_ok-push, else-named-first}

next_older : (p : ℕ → Bool) (ids next xs : List ℕ) (k x : ℕ) → slice_get xs k ≡ Some x → ids ≡ filter p (take k xs) → next ≡ ids ++ cond (p x) (x ∷ []) [] → next ≡ filter p (take (k + 1) xs)
next_older p ids next xs k x g h e =
    e ∙ ap (λ (is : List ℕ). is ++ cond (p x) (x ∷ []) []) h ∙
    sym (filter_more p xs k x (slice_get_within xs k x g) ∙ ap (λ (y : ℕ). filter p (take k xs) ++ cond (p y) (y ∷ []) []) (get_or_from_slice_get xs k x x g))

pub loop-k-preserved : goal.loop-k-preserved
loop-k-preserved c =
    let p : ℕ → Bool = λ j. nat_lt j c.place.result.0.index in
    let xs : List ℕ = ids_in_group (group_at c.args.core.now c.args.id.index) in
    let found : slice_get xs c.loop-k.k ≡ Some c.get-named.result.index = search rules in
    let turn : c.if-named-first.older ≡ c.loop-k.older ++ cond (p c.get-named.result.index) (c.get-named.result.index ∷ []) [] = elim c.if-named-first.branch [
      | then-named-first+in_ok-push w ↦ search rules
      | else-named-first w ↦ search rules
    ] in
    next_older p c.loop-k.older c.if-named-first.older xs c.loop-k.k c.get-named.result.index found c.loop-k.invariant turn
