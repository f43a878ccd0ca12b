use Rattle.std.proofs.Common.{codes}
use Rattle.std.proofs.lemmas.Result.{on_ok_weaker}
use Rattle.wcv_write.specs.Types.{resource_data}
use Rattle.wcv_write.proofs.Lists.{under_written}
use Rattle.wcv_write.proofs.types.write_resource_item.Goals as goal

pub returns : goal.returns
returns g c =
    on_ok_weaker c.end_object.result
    (under_written (codes "resource") (resource_data (g.I.Indices.written c.args.indices.now) c.args.rep.now c.args.dtor) c.args.out.now c.open.new.self c.write_resource.new.out _ c.in_ok-open.ensures c.in_ok-write_resource.ensures)
    c.end_object.ensures
