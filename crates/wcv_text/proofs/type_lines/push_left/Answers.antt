use Rattle.std.proofs.Common.{◌≡◌, [], nat_lt, sym, arith, string_bytes, false, ◌∙◌}
use Rattle.std.proofs.lemmas.Bool.Decides.{nat_tests}
use Rattle.wcv_text.specs.TypeLines.{lines_left}
use Rattle.wcv_text.proofs.Growing.{leads_to_end}
use Rattle.wcv_text.proofs.type_lines.push_left.Goals as goal

pub loop-lines-preserved : goal.loop-lines-preserved
loop-lines-preserved c = record {
  stand = c.in_ok-push_next.ensures.stand;
  leads = λ whole h. c.in_ok-push_next.ensures.leads [] whole (c.loop-lines.invariant.leads whole h);
}

pub returns : goal.returns
returns c = λ whole h.
    let left : nat_lt 0 (lines_left c.loop-lines.lines) ≡ false = sym c.is_left.ensures ∙ c.loop-lines-test.false in
    let none : lines_left c.loop-lines.lines ≡ 0 = grind (arith, nat_tests) in
    sym (leads_to_end c.loop-lines.lines (string_bytes c.loop-lines.text) whole none (c.loop-lines.invariant.leads whole h))
