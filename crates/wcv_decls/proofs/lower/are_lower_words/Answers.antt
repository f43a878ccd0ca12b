use Rattle.std.proofs.Common.{◌∙◌, ◌≡◌, arith}
use Rattle.std.proofs.lemmas.Bool.Decides.{nat_tests}
use Rattle.wcv_core.specs.LabelSet.{word}
use Rattle.wcv_decls.proofs.Eight.{eight_follow}
use Rattle.wcv_decls.proofs.LowerWords.{are_words, none_left}
use Rattle.wcv_decls.proofs.lower.are_lower_words.Goals as goal

pub loop-rest-preserved : goal.loop-rest-preserved
loop-rest-preserved c =
    let none : c.from_le_bytes-slips.result ≡ 0 = grind (arith, nat_tests, c.if-slips-ne0.false) in
    λ k. c.loop-rest.invariant (
    eight_follow c.loop-rest.before c.from_le_bytes-slips.result c.loop-rest.rest.now c.in-len8-up.len_at_least (
    c.from_le_bytes-slips.ensures ∙
    (λ j. word (c.slip.ensures j) (c.slip-in-len8-up.ensures j) (c.slip-in-len8-up-2.ensures j) (c.slip-in-len8-up-3.ensures j)
    (c.slip-in-len8-up-4.ensures j) (c.slip-in-len8-up-5.ensures j) (c.slip-in-len8-up-6.ensures j) (c.slip-in-len8-up-7.ensures j))
    ) none k
    )

pub returns : goal.returns
returns c = λ e. are_words c.args.bytes.now (c.loop-rest-2.invariant (none_left c.loop-rest-2.before c.loop-rest-2.rest.now c.in_default-rest.len_below e))
