use Rattle.std.proofs.Common.{◌≡◌, ◌++◌, length, drop, map, option_map}
use Rattle.wcv_listing.specs.Fields.{all_of, array_of}
use Rattle.wcv_listing.specs.Seen.{view, list_view}
use Rattle.wcv_listing.proofs.list.read_list.Given as goal

abbrev pub invariant-loop-item : goal.invariant-loop-item
invariant-loop-item g l =
    let element = g.T.FromValue in
    option_map (λ xs. map element.seen l.list.items ++ xs) (all_of element.meant (list_view l.values)) ≡ array_of element.meant (view l.value)

abbrev pub decreases-loop-item : goal.decreases-loop-item
decreases-loop-item g l = length (drop l.values.at l.values.tape.now)
