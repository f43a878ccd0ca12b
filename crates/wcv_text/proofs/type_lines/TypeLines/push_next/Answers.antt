use Rattle.std.proofs.Common.{◌++◌, ◌∙◌, List, ℕ, ap, refl, rules, string_bytes}
use Rattle.wcv_types.specs.Arena.{Arena}
use Rattle.wcv_types.specs.Tree.{Text}
use Rattle.wcv_types.specs.declared.component_type.ComponentType.{ComponentType}
use Rattle.wcv_text.specs.LineList.{say}
use Rattle.wcv_text.specs.Numbers.{so_far, Shows}
use Rattle.wcv_text.specs.declared.line_list.Line.{Line}
use Rattle.wcv_text.specs.declared.numbers.Numbers.{Numbers}
use Rattle.wcv_text.proofs.Whole.{next_left}
use Rattle.wcv_text.proofs.type_lines.TypeLines.push_next.Goals as goal

pub returns-clause-leads : goal.returns-clause-leads
returns-clause-leads c = λ sent whole h.
    let a : Arena = c.args.self.now.types.now in
    let ty : ComponentType = c.args.self.now.ty.now in
    let lines : List Line = c.args.self.now.lines.items in
    let at : ℕ = c.args.self.now.at in
    let x : Line = c.index-line.result.now in
    let old : Numbers = c.args.self.now.numbers in
    let new : Numbers = c.push_line.new.numbers in
    let shown : Shows new (sent, h.before) (string_bytes c.push_line.new.text) (say a ty x (so_far old h.lines)) =
    c.in_ok-push_line.ensures (sent, h.before) (so_far old h.lines) (record { text_is = h.said_is; numbers_are = refl }) in
    record {
      before = h.before;
      lines = (say a ty x (so_far old h.lines)).text;
      said_is = shown.text_is;
      whole_is = h.whole_is ∙ ap (λ (t : Text). h.before ++ t) (next_left a ty lines at x old new h.lines (search rules) c.index-line.ensures shown.numbers_are);
    }
