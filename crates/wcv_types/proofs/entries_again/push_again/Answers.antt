use Rattle.std.proofs.Common.{refl}
use Rattle.std.proofs.lemmas.Result.{on_ok_weaker}
use Rattle.wcv_types.proofs.EntriesRefilled.{one_more}
use Rattle.wcv_types.proofs.entries_again.push_again.Goals as goal

pub returns-clause-slots : goal.returns-clause-slots
returns-clause-slots c =
    on_ok_weaker c.push_copy.result
    (λ m. one_more c.args.entry.now (c.args.entry.now.0, record c.args.entry.now.1 { ty = c.entity-ty.result }) c.args.again.now c.push_copy.new.self c.args.parts.now m refl refl refl refl c.entity-ty.ensures.slot)
    c.push_copy.ensures
