use Rattle.std.proofs.Common.{◌≡◌, ◌∙◌, [], List, ap, subst, sym}
use Rattle.std.proofs.lemmas.Result.{on_ok_weaker}
use Rattle.wcv_types.specs.Arena.{Arena}
use Rattle.wcv_types.specs.Text.{nothing_written}
use Rattle.wcv_types.specs.declared.component_type.ComponentType.{ComponentType}
use Rattle.wcv_text.specs.Entries.{write_lines}
use Rattle.wcv_text.specs.LineList.{Adds, Lists}
use Rattle.wcv_text.specs.Numbers.{so_far}
use Rattle.wcv_text.specs.declared.line_list.Line.{Line}
use Rattle.wcv_text.proofs.Whole.{all_stand, all_left}
use Rattle.wcv_text.proofs.type_lines.list_all.Goals as goal

pub returns-clause-whole : goal.returns-clause-whole
returns-clause-whole c =
    let a : Arena = c.args.types.now in
    let ty : ComponentType = c.args.ty.now in
    let seen : so_far c.new-seen.result [] ≡ nothing_written a.core = c.new-seen.ensures ∙ ap nothing_written c.core_types.ensures in
    on_ok_weaker c.list_lines.result
    (λ said numbers none.
    let listed : Adds a ty c.new-seen.result [] c.list_lines.new.seen c.list_lines.new.lines.items (write_lines a ty) =
    λ start w h. said start w (subst (λ (ls : List Line). Lists a ty c.new-seen.result ls start w) (sym c.requires.none) h) in
    all_left a ty c.list_lines.new.lines.items c.new-seen.result c.list_lines.new.seen seen listed numbers none)
    c.list_lines.ensures

pub returns-clause-stand : goal.returns-clause-stand
returns-clause-stand c =
    let a : Arena = c.args.types.now in
    let ty : ComponentType = c.args.ty.now in
    let seen : so_far c.new-seen.result [] ≡ nothing_written a.core = c.new-seen.ensures ∙ ap nothing_written c.core_types.ensures in
    on_ok_weaker c.list_lines.result
    (λ said.
    let listed : Adds a ty c.new-seen.result [] c.list_lines.new.seen c.list_lines.new.lines.items (write_lines a ty) =
    λ start w h. said start w (subst (λ (ls : List Line). Lists a ty c.new-seen.result ls start w) (sym c.requires.none) h) in
    all_stand a ty c.list_lines.new.lines.items c.new-seen.result c.list_lines.new.seen seen listed)
    c.list_lines.ensures
