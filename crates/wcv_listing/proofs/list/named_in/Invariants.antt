use Rattle.std.proofs.Common.{◌≡◌, drop, map}
use Rattle.wcv_listing.specs.Fields.{named}
use Rattle.wcv_listing.proofs.list.named_in.Given as goal

abbrev pub invariant-loop-known : goal.invariant-loop-known
invariant-loop-known g l = named (map (λ row. (row.0.now, row.1)) (drop l.known-index l.table)) l.name ≡ named (map (λ row. (row.0.now, row.1)) l.table) l.name
