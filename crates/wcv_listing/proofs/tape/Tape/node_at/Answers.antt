use Rattle.std.proofs.Common.{length, ap, arith}
use Rattle.std.proofs.lemmas.List.{length-map}
use Rattle.wcv_listing.specs.Grown.{node_token}
use Rattle.wcv_listing.proofs.Places.{node_there}
use Rattle.wcv_listing.proofs.tape.Tape.node_at.Goals as goal

pub returns-clause-small : goal.returns-clause-small
returns-clause-small c =
    omega (arith, c.requires, length-map c.self.inside.nodes.items node_token, ap length c.self.view_is, c.self.inside.nodes.ok, c.self.inside.nodes.small)

pub returns-clause-first : goal.returns-clause-first
returns-clause-first c =
    let ns = c.self.inside.nodes.items in
    node_there ns c.args.at c.index.result.now c.args.self.now c.self.view_is (omega (arith, c.requires, length-map ns node_token, ap length c.self.view_is)) c.index.ensures
