use Rattle.std.proofs.Common.{◌++◌, ◌∙◌, ap, sym, string_bytes}
use Rattle.std.proofs.lemmas.Result.{on_ok_weaker}
use Rattle.wcv_core.specs.declared.core_types.SuperType.{SuperType}
use Rattle.wcv_types.specs.CoreText.{super_type_text}
use Rattle.wcv_text.specs.Numbers.{so_far}
use Rattle.wcv_text.proofs.core_line.push_super_type.Goals as goal

pub returns-in-Id : goal.returns-in-Id
returns-in-Id c =
    on_ok_weaker c.push_id.result
    (λ said t. said t ∙ ap (λ (x : SuperType). string_bytes c.args.text.now ++ super_type_text (so_far c.args.numbers.now t).core (so_far c.args.numbers.now t).groups x) (sym c.in-Id.is))
    c.push_id.ensures
