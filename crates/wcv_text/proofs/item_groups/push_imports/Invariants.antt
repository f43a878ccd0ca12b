use Rattle.std.proofs.Common.{take, string_bytes}
use Rattle.std.specs.List.{fold}
use Rattle.wcv_types.specs.CoreText.{item_ids}
use Rattle.wcv_types.specs.Text.{write_groups}
use Rattle.wcv_text.specs.Numbers.{Writes}
use Rattle.wcv_text.proofs.item_groups.push_imports.Given as goal

abbrev pub invariant-loop-k : goal.invariant-loop-k
invariant-loop-k l =
    Writes l.initial.numbers (string_bytes l.initial.text) l.numbers (string_bytes l.text) (λ w. fold (λ v x. write_groups v (item_ids x.1)) w (take l.k l.imports))
