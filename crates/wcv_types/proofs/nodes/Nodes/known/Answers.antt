use Rattle.std.proofs.Common.{rules, length, ◌<◌}
use Rattle.wcv_types.proofs.Sharing.{position_within, node_is, facts_are}
use Rattle.wcv_types.proofs.nodes.Nodes.known.Goals as goal

pub index-requires-2 : goal.index-requires-2
index-requires-2 c =
    let w : c.index.result.now < length c.self.inside.known.items = position_within c.self.inside.known.items c.self.inside.positions.items c.args.self.now c.args.place c.index.result.now c.self.view_is c.self.invariant.0 c.requires c.index.ensures in
    search rules

pub returns-clause-node : goal.returns-clause-node
returns-clause-node c =
    node_is c.self.inside.known.items c.self.inside.positions.items c.args.self.now c.args.place c.index.result.now c.index-2.result.now c.self.view_is c.self.invariant.0 c.requires c.index.ensures c.index-2.ensures

pub returns-clause-facts : goal.returns-clause-facts
returns-clause-facts c =
    facts_are c.self.inside.known.items c.self.inside.positions.items c.args.self.now c.args.place c.index.result.now c.index-2.result.now c.self.view_is c.self.invariant.0 c.requires c.index.ensures c.index-2.ensures
