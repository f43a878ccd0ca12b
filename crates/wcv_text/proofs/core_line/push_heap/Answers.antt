use Rattle.std.proofs.Common.{◌++◌, ◌∙◌, ap, sym, string_bytes}
use Rattle.std.proofs.lemmas.Result.{on_ok_weaker}
use Rattle.wcv_core.specs.declared.core_types.HeapType.{HeapType}
use Rattle.wcv_types.specs.CoreText.{heap_text}
use Rattle.wcv_text.specs.Numbers.{so_far}
use Rattle.wcv_text.proofs.core_line.push_heap.Goals as goal

pub returns-in-Id : goal.returns-in-Id
returns-in-Id c =
    on_ok_weaker c.push_id.result
    (λ said t. said t ∙ ap (λ (x : HeapType). string_bytes c.args.text.now ++ heap_text (so_far c.args.numbers.now t).core (so_far c.args.numbers.now t).groups x) (sym c.in-Id.is))
    c.push_id.ensures
