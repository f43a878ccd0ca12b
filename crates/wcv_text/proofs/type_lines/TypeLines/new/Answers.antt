use Rattle.std.proofs.Common.{◌≡◌, ◌++◌, ◌∙◌, [], ap, sym, append-nil}
use Rattle.wcv_types.specs.Arena.{Arena}
use Rattle.wcv_types.specs.Text.{nothing_written}
use Rattle.wcv_types.specs.Tree.{Text}
use Rattle.wcv_text.specs.Numbers.{so_far}
use Rattle.wcv_text.proofs.type_lines.TypeLines.new.Goals as goal

pub returns-clause-leads : goal.returns-clause-leads
returns-clause-leads c = λ before.
    let a : Arena = c.args.types.now in
    let none : so_far c.new.result [] ≡ nothing_written a.core = c.new.ensures ∙ ap nothing_written c.core_types.ensures in
    record {
      before = before;
      lines = [];
      said_is = sym (append-nil before);
      whole_is = ap (λ (t : Text). before ++ t) (c.in_ok-list_all.ensures.whole c.new.result none);
    }

pub returns-clause-stand : goal.returns-clause-stand
returns-clause-stand c = record {
  type = c.requires;
  lines = c.in_ok-list_all.ensures.stand;
}
