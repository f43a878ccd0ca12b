use Rattle.std.proofs.Common.{◌+◌, ◌∷◌, drop, ap, ◌∙◌, subst}
use Rattle.json.specs.Json.{object, no_members}
use Rattle.json.specs.Find.{as_object}
use Rattle.wcv_listing.specs.Grown.{node_token}
use Rattle.wcv_listing.specs.Tape.{or_else, json_of}
use Rattle.wcv_listing.proofs.Shapes.{Shape, shape_at, object_is, no_object}
use Rattle.wcv_listing.proofs.node.Node.members.Goals as goal

pub returns-in-Object : goal.returns-in-Object
returns-in-Object c =
    let toks = c.args.self.tape.now in
    let behind = drop (c.args.self.at + 1) toks in
    let here = drop c.args.self.at toks in
    let shape = subst (λ n. Shape n (json_of here)) c.in-Object.is (shape_at c.node.result behind here c.node.ensures.first c.args.self.stands) in
    object_is (json_of here) shape.0 shape.1 ∙ ap (λ x. object (or_else no_members (as_object (json_of x)))) (c.node.ensures.first ∙ ap (λ n. node_token n ∷ behind) c.in-Object.is)

pub returns-in_default : goal.returns-in_default
returns-in_default c =
    let here = drop c.args.self.at c.args.self.tape.now in
    no_object c.node.result (json_of here) c.in_default.not-Object (shape_at c.node.result _ here c.node.ensures.first c.args.self.stands)
