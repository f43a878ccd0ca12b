use Rattle.std.proofs.Common.{drop, sym, ap, ◌∙◌}
use Rattle.wcv_listing.proofs.Seen.{is_null_data}
use Rattle.wcv_listing.specs.Tape.{json_of}
use Rattle.wcv_listing.proofs.Shapes.{shape_at, node_null, node_null_is, node_null_else}
use Rattle.wcv_listing.proofs.value.is_null.Goals as goal

pub returns-in-Null : goal.returns-in-Null
returns-in-Null c =
    let here = drop c.args.value.at c.args.value.tape.now in
    let j = json_of here in
    ap node_null (sym c.in-Null.is) ∙ node_null_is c.node.result j (shape_at c.node.result _ here c.node.ensures.first c.args.value.stands) ∙ sym (is_null_data j)

pub returns-in_default : goal.returns-in_default
returns-in_default c =
    let here = drop c.args.value.at c.args.value.tape.now in
    let j = json_of here in
    node_null_else c.node.result c.in_default.not-Null ∙ node_null_is c.node.result j (shape_at c.node.result _ here c.node.ensures.first c.args.value.stands) ∙ sym (is_null_data j)
