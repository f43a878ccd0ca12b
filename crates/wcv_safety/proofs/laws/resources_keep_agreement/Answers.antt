use Rattle.std.proofs.Common.{length}
use Rattle.wcv_lower.specs.Names.{introduced, stamp_at}
use Rattle.wcv_lower.specs.Trees.{tree_maker}
use Rattle.wcv_lower.specs.Types.{resource_step}
use Rattle.wcv_world.specs.Reading.{token_maker}
use Rattle.wcv_safety.specs.Standing.{with_token}
use Rattle.wcv_safety.proofs.Agreeing.{grown-follows}
use Rattle.wcv_safety.proofs.Resources.{resource-follows}
use Rattle.wcv_safety.proofs.laws.resources_keep_agreement.Goals as goal

pub returns : goal.returns
returns c fs n names other R p q args g v s u rep dtor k a new e =
    grown-follows (with_token g (names.resource (introduced p)) (n.token (length v.top.defined))) v s u (resource_step (token_maker other (n.token (length v.top.defined)) q) v.top rep dtor) (resource_step (tree_maker names p) s.top rep dtor)
    (λ y l m. resource-follows g v s a (names.resource (introduced p)) (n.token (length v.top.defined)) (other.identity (stamp_at q)) (names.identity (stamp_at p)) new rep dtor y k l) e
