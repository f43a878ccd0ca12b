use Rattle.std.proofs.Common.{codes, map}
use Rattle.std.proofs.lemmas.Result.{on_ok_weaker}
use Rattle.serde_json.specs.Data.{array}
use Rattle.wcv_syntax.specs.View.{decls_of, instance_decl_view}
use Rattle.wcv_write.specs.Types.{decl_items}
use Rattle.wcv_write.proofs.Lists.{under_written}
use Rattle.wcv_write.proofs.types.+types.Goals as goal

pub write_instance_type-returns : goal.write_instance_type-returns
write_instance_type-returns t c =
    on_ok_weaker c.end_object.result
    (under_written (codes "instance") (array (decl_items (decls_of (map instance_decl_view c.args.decls.now.items)))) c.args.out.now c.open.new.self c.write_instance_decls.new.out _ c.in_ok-open.ensures c.in_ok-write_instance_decls.ensures)
    c.end_object.ensures
