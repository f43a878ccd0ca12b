use Rattle.std.proofs.Common.{◌++◌, ◌∙◌, ap, sym, string_bytes}
use Rattle.std.proofs.lemmas.Result.{on_ok_weaker}
use Rattle.wcv_core.specs.declared.core_types.StorageType.{StorageType}
use Rattle.wcv_types.specs.CoreText.{storage_text}
use Rattle.wcv_text.specs.Numbers.{so_far}
use Rattle.wcv_text.proofs.core_line.push_storage.Goals as goal

pub returns-in-Val : goal.returns-in-Val
returns-in-Val c =
    on_ok_weaker c.push_val.result
    (λ said t. said t ∙ ap (λ (x : StorageType). string_bytes c.args.text.now ++ storage_text (so_far c.args.numbers.now t).core (so_far c.args.numbers.now t).groups x) (sym c.in-Val.is))
    c.push_val.ensures
