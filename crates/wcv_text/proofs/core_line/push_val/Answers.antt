use Rattle.std.proofs.Common.{◌++◌, ◌∙◌, ap, sym, string_bytes}
use Rattle.std.proofs.lemmas.Result.{on_ok_weaker}
use Rattle.wcv_core.specs.declared.core_types.ValType.{ValType}
use Rattle.wcv_types.specs.CoreText.{val_text}
use Rattle.wcv_text.specs.Numbers.{so_far}
use Rattle.wcv_text.proofs.core_line.push_val.Goals as goal

pub returns-in-Ref : goal.returns-in-Ref
returns-in-Ref c =
    on_ok_weaker c.push_ref.result
    (λ said t. said t ∙ ap (λ (x : ValType). string_bytes c.args.text.now ++ val_text (so_far c.args.numbers.now t).core (so_far c.args.numbers.now t).groups x) (sym c.in-Ref.is))
    c.push_ref.ensures
