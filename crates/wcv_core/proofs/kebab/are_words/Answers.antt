use Rattle.std.proofs.Common.{◌+◌, ◌&&◌, ◌∙◌, sym, ap, Bool, drop, refl}
use Rattle.std.specs.List.{list_all}
use Rattle.wcv_core.specs.Label.{words, is_word}
use Rattle.wcv_core.proofs.Words.{words_from, words_rest, dash_within}
use Rattle.wcv_core.proofs.kebab.are_words.Goals as goal

pub returns-then-not-is_word : goal.returns-then-not-is_word
returns-then-not-is_word c =
    let at = words_from c.args.bytes.now c.loop-width.start c.in-Some.width c.in-Some.ensures.found in
    let off = sym c.if-not-is_word.true ∙ c.is_word.ensures in
    sym (ap (λ (b : Bool). b && list_all is_word (words (drop (c.loop-width.start + (c.in-Some.width + 1)) c.args.bytes.now))) (sym off)) ∙ sym at ∙ c.loop-width.invariant.rest

pub loop-width-preserved : goal.loop-width-preserved
loop-width-preserved c =
    let at = words_from c.args.bytes.now c.loop-width.start c.in-Some.width c.in-Some.ensures.found in
    let off = sym c.if-not-is_word.false ∙ c.is_word.ensures in
    record {
      within = dash_within c.args.bytes.now c.loop-width.start c.in-Some.width c.in-Some.ensures.found c.loop-width.invariant.within;
      rest = ap (λ (b : Bool). b && list_all is_word (words (drop (c.loop-width.start + (c.in-Some.width + 1)) c.args.bytes.now))) off ∙ sym at ∙ c.loop-width.invariant.rest;
    }

pub returns : goal.returns
returns c = c.is_word-2.ensures ∙ sym (words_rest c.args.bytes.now c.loop-width.start (c.in_default.ensures.none refl)) ∙ c.loop-width.invariant.rest
