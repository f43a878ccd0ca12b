use Rattle.std.proofs.Common.{◌≡◌}
use Rattle.wcv_types.specs.Sets.{identities}
use Rattle.wcv_types.specs.Unfold.{trees}
use Rattle.wcv_types.proofs.NamedBySet.{value_rank, named_from}
use Rattle.wcv_walks.proofs.named_types.+is_named_value.Given as goal

abbrev pub decreases-is_named_value : goal.decreases-is_named_value
decreases-is_named_value l = value_rank l.ty

-- those before are named
abbrev pub invariant-loop-k : goal.invariant-loop-k
invariant-loop-k l = named_from (identities l.set) (trees l.types.nodes) l.shape 0 ≡ named_from (identities l.set) (trees l.types.nodes) l.shape l.k
