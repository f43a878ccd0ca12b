use Rattle.std.proofs.Common.{drop, sym, ap, ◌∙◌}
use Rattle.wcv_listing.specs.Tape.{json_of}
use Rattle.wcv_listing.proofs.Shapes.{shape_at, node_number, node_number_is, node_number_else}
use Rattle.wcv_listing.proofs.value.number_of.Goals as goal

pub returns-in-Number : goal.returns-in-Number
returns-in-Number c =
    let here = drop c.args.value.at c.args.value.tape.now in
    let j = json_of here in
    ap node_number (sym c.in-Number.is) ∙ node_number_is c.node.result j (shape_at c.node.result _ here c.node.ensures.first c.args.value.stands)

pub returns-in_default : goal.returns-in_default
returns-in_default c =
    let here = drop c.args.value.at c.args.value.tape.now in
    let j = json_of here in
    node_number_else c.node.result c.in_default.not-Number ∙ node_number_is c.node.result j (shape_at c.node.result _ here c.node.ensures.first c.args.value.stands)
