use Rattle.std.proofs.Common.{◌+◌, ◌∷◌, drop, ap, ◌∙◌, subst}
use Rattle.json.specs.Json.{array, no_items}
use Rattle.json.specs.Find.{as_array}
use Rattle.wcv_listing.specs.Grown.{node_token}
use Rattle.wcv_listing.specs.Tape.{or_else, json_of}
use Rattle.wcv_listing.proofs.Shapes.{Shape, shape_at, array_is, no_array}
use Rattle.wcv_listing.proofs.node.Node.items.Goals as goal

pub returns-in-Array : goal.returns-in-Array
returns-in-Array c =
    let toks = c.args.self.tape.now in
    let behind = drop (c.args.self.at + 1) toks in
    let here = drop c.args.self.at toks in
    let shape = subst (λ n. Shape n (json_of here)) c.in-Array.is (shape_at c.node.result behind here c.node.ensures.first c.args.self.stands) in
    array_is (json_of here) shape.0 shape.1 ∙ ap (λ x. array (or_else no_items (as_array (json_of x)))) (c.node.ensures.first ∙ ap (λ n. node_token n ∷ behind) c.in-Array.is)

pub returns-in_default : goal.returns-in_default
returns-in_default c =
    let here = drop c.args.self.at c.args.self.tape.now in
    no_array c.node.result (json_of here) c.in_default.not-Array (shape_at c.node.result _ here c.node.ensures.first c.args.self.stands)
