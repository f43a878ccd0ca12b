use Rattle.wcv_listing.proofs.Places.{within}
use Rattle.wcv_listing.proofs.node.Node.node.Goals as goal

pub node_at-requires : goal.node_at-requires
node_at-requires c = within c.args.self.tape.now c.args.self.at c.args.self.stands
