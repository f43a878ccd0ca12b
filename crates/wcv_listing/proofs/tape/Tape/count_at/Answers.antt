use Rattle.std.proofs.Common.{◌<◌, length, drop, ap, sym, subst, arith}
use Rattle.std.proofs.lemmas.List.{length-map}
use Rattle.json.specs.Json.{no_items}
use Rattle.wcv_listing.specs.Grown.{node_token}
use Rattle.wcv_listing.specs.Tape.{or_else, items_count, json_of}
use Rattle.wcv_listing.proofs.Places.{within, node_there, array_counted}
use Rattle.wcv_listing.proofs.Shapes.{Shape, shape_at, no_array}
use Rattle.wcv_listing.proofs.tape.Tape.count_at.Goals as goal

pub index-requires : goal.index-requires
index-requires c =
    let inside : c.args.at < length c.args.self.now = within c.args.self.now c.args.at c.requires in
    omega (arith, inside, length-map c.self.inside.nodes.items node_token, ap length c.self.view_is)

pub returns-in-Array : goal.returns-in-Array
returns-in-Array c =
    let ns = c.self.inside.nodes.items in
    let here = drop c.args.at c.args.self.now in
    let inside : c.args.at < length c.args.self.now = within c.args.self.now c.args.at c.requires in
    let there : c.args.at < length ns = omega (arith, inside, length-map ns node_token, ap length c.self.view_is) in
    let first = node_there ns c.args.at c.index.result.now c.args.self.now c.self.view_is there c.index.ensures in
    let shape = subst (λ n. Shape n (json_of here)) c.in-Array.is (shape_at c.index.result.now _ here first c.requires) in
    array_counted ns c.args.at c.index.result.now c.args.self.now c.self.view_is there c.index.ensures _ c.in-Array.count shape.0 c.self.invariant c.in-Array.is c.requires shape.1

pub returns-in_default : goal.returns-in_default
returns-in_default c =
    let ns = c.self.inside.nodes.items in
    let here = drop c.args.at c.args.self.now in
    let inside : c.args.at < length c.args.self.now = within c.args.self.now c.args.at c.requires in
    let there : c.args.at < length ns = omega (arith, inside, length-map ns node_token, ap length c.self.view_is) in
    let first = node_there ns c.args.at c.index.result.now c.args.self.now c.self.view_is there c.index.ensures in
    sym (ap (λ found. items_count (or_else no_items found)) (no_array c.index.result.now (json_of here) c.in_default.not-Array (shape_at c.index.result.now _ here first c.requires)))
