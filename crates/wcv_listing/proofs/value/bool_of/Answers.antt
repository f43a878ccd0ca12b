use Rattle.std.proofs.Common.{drop, sym, ap, ◌∙◌}
use Rattle.wcv_listing.proofs.Seen.{as_bool_data}
use Rattle.wcv_listing.specs.Tape.{json_of}
use Rattle.wcv_listing.proofs.Shapes.{shape_at, node_bool, node_bool_is, node_bool_else}
use Rattle.wcv_listing.proofs.value.bool_of.Goals as goal

pub returns-in-Bool : goal.returns-in-Bool
returns-in-Bool c =
    let here = drop c.args.value.at c.args.value.tape.now in
    let j = json_of here in
    ap node_bool (sym c.in-Bool.is) ∙ node_bool_is c.node.result j (shape_at c.node.result _ here c.node.ensures.first c.args.value.stands) ∙ sym (as_bool_data j)

pub returns-in_default : goal.returns-in_default
returns-in_default c =
    let here = drop c.args.value.at c.args.value.tape.now in
    let j = json_of here in
    node_bool_else c.node.result c.in_default.not-Bool ∙ node_bool_is c.node.result j (shape_at c.node.result _ here c.node.ensures.first c.args.value.stands) ∙ sym (as_bool_data j)
