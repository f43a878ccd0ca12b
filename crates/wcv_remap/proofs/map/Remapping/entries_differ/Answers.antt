use Rattle.std.proofs.Common.{subst}
use Rattle.std.specs.List.{IsDistinct}
use Rattle.std.specs.Map.{keys_of}
use Rattle.wcv_types.specs.contracts.ids.ComponentAnyTypeIdPartialEq.TheImpl.{eq-value}
use Rattle.wcv_remap.specs.Map.{Map, same_part}
use Rattle.wcv_remap.proofs.Sending.{as_parts, sent_distinct}
use Rattle.wcv_remap.proofs.map.Remapping.entries_differ.Goals as goal

pub returns : goal.returns
returns c = subst (λ (m : Map). IsDistinct same_part (keys_of m.types)) c.self.view_is (sent_distinct eq-value.it as_parts c.self.inside.types c.len.ensures.unique)
