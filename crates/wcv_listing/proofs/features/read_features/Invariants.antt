use Rattle.std.proofs.Common.{◌≡◌, length, drop}
use Rattle.wcv_listing.specs.Features.{union_of, features_of}
use Rattle.wcv_listing.specs.Seen.{view, list_view}
use Rattle.wcv_listing.proofs.Unions.{joined}
use Rattle.wcv_listing.proofs.features.read_features.Given as goal

abbrev pub invariant-loop-name : goal.invariant-loop-name
invariant-loop-name l = joined l.features.0 (union_of (list_view l.list)) ≡ features_of (view l.value)

abbrev pub decreases-loop-name : goal.decreases-loop-name
decreases-loop-name l = length (drop l.list.at l.list.tape.now)
