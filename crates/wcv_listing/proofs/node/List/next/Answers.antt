use Rattle.std.proofs.Common.{◌+◌, ◌∷◌, drop, is_some, ap, ◌∙◌}
use Rattle.json.specs.Json.{after_end_array}
use Rattle.wcv_listing.specs.Grown.{node_token}
use Rattle.wcv_listing.specs.Tape.{items_of}
use Rattle.wcv_listing.proofs.Places.{items_within, next_item, item_there, no_item, shorter}
use Rattle.wcv_listing.proofs.Shapes.{no_close}
use Rattle.wcv_listing.proofs.node.List.next.Goals as goal

pub node_at-requires : goal.node_at-requires
node_at-requires c = items_within c.args.self.tape.now c.args.self.at c.args.self.stand

pub returns-in-EndArray-clause-value : goal.returns-in-EndArray-clause-value
returns-in-EndArray-clause-value c =
    let behind = drop (c.args.self.at + 1) c.args.self.tape.now in
    ap items_of (c.node_at.ensures.first ∙ ap (λ n. node_token n ∷ behind) c.in-EndArray.is) ∙ no_item behind

pub after-requires : goal.after-requires
after-requires c =
    let here = drop c.args.self.at c.args.self.tape.now in
    let going = ap after_end_array c.node_at.ensures.first ∙ no_close c.node_at.result _ c.in_default.not-EndArray in
    ap is_some (next_item here c.args.self.stand going).1

pub invariant_of-result-2 : goal.invariant_of-result-2
invariant_of-result-2 c =
    let here = drop c.args.self.at c.args.self.tape.now in
    let going = ap after_end_array c.node_at.ensures.first ∙ no_close c.node_at.result _ c.in_default.not-EndArray in
    record { stand = (item_there here _ c.args.self.stand going c.after.ensures).1 }

pub returns : goal.returns
returns c =
    let here = drop c.args.self.at c.args.self.tape.now in
    let going = ap after_end_array c.node_at.ensures.first ∙ no_close c.node_at.result _ c.in_default.not-EndArray in
    record { value = (item_there here _ c.args.self.stand going c.after.ensures).0; shorter = shorter here _ _ c.after.ensures }
