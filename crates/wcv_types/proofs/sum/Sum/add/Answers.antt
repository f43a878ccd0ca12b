use Rattle.std.proofs.Common.{refl}
use Rattle.wcv_types.proofs.Sums.{sum_push}
use Rattle.wcv_types.proofs.sum.Sum.add.Goals as goal

pub returns : goal.returns
returns c ts ss s h f v =
    sum_push c.args.self.now _ c.args.part ts ss s h f v c.saturating_add-self.ensures c.max-self.ensures refl refl refl refl refl c.add.ensures c.add-2.ensures c.append.ensures c.joined-self.ensures
