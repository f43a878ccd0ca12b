use Rattle.std.proofs.Common.{◌≡◌, map, min, take}
use Rattle.wcv_types.specs.Standing.{entity_sizes}
use Rattle.wcv_types.proofs.core_sizes.core_items_size.Given as goal

abbrev pub invariant-loop-item : goal.invariant-loop-item
invariant-loop-item g l = l.size ≡ min (entity_sizes l.core (map (λ e. e.1) (take l.item-index l.items))) 18446744073709551615
