use Rattle.std.proofs.Common.{refl}
use Rattle.wcv_types.proofs.Totals.{total_push}
use Rattle.wcv_types.proofs.entry_facts.Total.add.Goals as goal

pub returns : goal.returns
returns c ts ss s h m = total_push c.args.self _ c.args.more ts ss s h m c.saturating_add.ensures c.max.ensures refl
