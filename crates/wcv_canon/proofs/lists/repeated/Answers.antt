use Rattle.std.proofs.Common.{◌≡◌, ℕ, ◌+◌, List, [], ◌∷◌, ◌++◌, map, take, true, sym, ◌∙◌, ap, subst, arith, slice_set}
use Rattle.std.proofs.lemmas.List.{length-set}
use Rattle.wcv_lower.specs.CanonOptions.{number_of, repeats}
use Rattle.wcv_canon.proofs.OptionLists.{Seen, seen_push, repeats_more, mapped_push}
use Rattle.wcv_canon.proofs.lists.repeated.Goals as goal

pub loop-option-preserved : goal.loop-option-preserved
loop-option-preserved c =
    let k : ℕ = c.number_of-number.result in
    let ns : List ℕ = map number_of (take c.loop-option.option-index c.args.options.now) in
    let e : map number_of (take (c.loop-option.option-index + 1) c.args.options.now) ≡ ns ++ k ∷ [] = mapped_push number_of c.args.options.now c.loop-option.option-index _ c.loop-option-test.true ∙ ap (λ (m : ℕ). ns ++ m ∷ []) (sym c.number_of-number.ensures.number) in
    record {
      seen = subst (Seen (slice_set c.loop-option.seen k true)) (sym e) (seen_push c.loop-option.seen ns k (omega (arith, c.number_of-number.ensures.within, c.loop-option.invariant.length)) c.loop-option.invariant.seen);
      length = length-set c.loop-option.seen k true ∙ c.loop-option.invariant.length;
      repeated = repeats_more _ _ c.loop-option.seen ns k _ c.loop-option.invariant.length c.number_of-number.ensures.within c.loop-option.invariant.seen c.once_more-repeated.ensures c.loop-option.invariant.repeated ∙ ap repeats (sym e);
    }
