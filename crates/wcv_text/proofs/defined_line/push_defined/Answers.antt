use Rattle.std.proofs.Common.{◌++◌, ◌∙◌, ap, sym, string_bytes}
use Rattle.std.proofs.lemmas.Result.{on_ok_weaker}
use Rattle.wcv_types.specs.declared.shapes.ComponentDefinedType.{ComponentDefinedType}
use Rattle.wcv_text.specs.DefinedLine.{defined_said}
use Rattle.wcv_text.specs.Numbers.{so_far}
use Rattle.wcv_text.proofs.defined_line.push_defined.Goals as goal

pub returns-in-Primitive : goal.returns-in-Primitive
returns-in-Primitive c =
    on_ok_weaker c.push_one.result
    (λ said t. said t ∙ ap (λ (s : ComponentDefinedType). string_bytes c.args.text.now ++ defined_said (so_far c.args.numbers.now t) s) (sym c.in-Primitive.is))
    c.push_one.ensures

pub returns-in-FixedLengthList : goal.returns-in-FixedLengthList
returns-in-FixedLengthList c =
    on_ok_weaker c.push_fixed_list.result
    (λ said t. said t ∙ ap (λ (s : ComponentDefinedType). string_bytes c.args.text.now ++ defined_said (so_far c.args.numbers.now t) s) (sym c.in-FixedLengthList.is))
    c.push_fixed_list.ensures

pub returns-in-Own : goal.returns-in-Own
returns-in-Own c =
    on_ok_weaker c.push_mention.result
    (λ said t. said t ∙ ap (λ (s : ComponentDefinedType). string_bytes c.args.text.now ++ defined_said (so_far c.args.numbers.now t) s) (sym c.in-Own.is))
    c.push_mention.ensures

pub returns-in-Borrow : goal.returns-in-Borrow
returns-in-Borrow c =
    on_ok_weaker c.push_mention-in-Borrow.result
    (λ said t. said t ∙ ap (λ (s : ComponentDefinedType). string_bytes c.args.text.now ++ defined_said (so_far c.args.numbers.now t) s) (sym c.in-Borrow.is))
    c.push_mention-in-Borrow.ensures
