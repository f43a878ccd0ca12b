use Rattle.std.proofs.Common.{◌<◌, length, drop, ap, arith}
use Rattle.std.proofs.lemmas.List.{length-map}
use Rattle.wcv_listing.specs.Grown.{node_token}
use Rattle.wcv_listing.proofs.Places.{within, node_there, object_passed, array_passed}
use Rattle.wcv_listing.proofs.Shapes.{passed_at}
use Rattle.wcv_listing.proofs.tape.Tape.after.Goals as goal

pub index-requires : goal.index-requires
index-requires c =
    let inside : c.args.at < length c.args.self.now = within c.args.self.now c.args.at c.requires in
    omega (arith, inside, length-map c.self.inside.nodes.items node_token, ap length c.self.view_is)

pub overflow_add-result : goal.overflow_add-result
overflow_add-result c =
    let inside : c.args.at < length c.args.self.now = within c.args.self.now c.args.at c.requires in
    omega (arith, inside, length-map c.self.inside.nodes.items node_token, ap length c.self.view_is, c.self.inside.nodes.ok, c.self.inside.nodes.small)

pub returns-in_default : goal.returns-in_default
returns-in_default c =
    let ns = c.self.inside.nodes.items in
    let inside : c.args.at < length c.args.self.now = within c.args.self.now c.args.at c.requires in
    let first = node_there ns c.args.at c.index.result.now c.args.self.now c.self.view_is (omega (arith, inside, length-map ns node_token, ap length c.self.view_is)) c.index.ensures in
    passed_at c.index.result.now _ (drop c.args.at c.args.self.now) first c.in_default.not-Object c.in_default.not-Array c.requires

pub returns-in-Object : goal.returns-in-Object
returns-in-Object c =
    let ns = c.self.inside.nodes.items in
    let inside : c.args.at < length c.args.self.now = within c.args.self.now c.args.at c.requires in
    object_passed ns c.args.at c.index.result.now c.args.self.now c.self.view_is (omega (arith, inside, length-map ns node_token, ap length c.self.view_is)) c.index.ensures c.in-Object.end c.self.invariant c.in-Object.is c.requires

pub returns-in-Array : goal.returns-in-Array
returns-in-Array c =
    let ns = c.self.inside.nodes.items in
    let inside : c.args.at < length c.args.self.now = within c.args.self.now c.args.at c.requires in
    array_passed ns c.args.at c.index.result.now c.args.self.now c.self.view_is (omega (arith, inside, length-map ns node_token, ap length c.self.view_is)) c.index.ensures c.in-Array.end _ c.self.invariant c.in-Array.is c.requires
