use Rattle.std.proofs.Common.{◌≡◌, List, length, map, ◌∙◌, ap, arith}
use Rattle.wcv_core.specs.CoreForm.{Group, group_form}
use Rattle.wcv_core.specs.CoreGroups.{total}
use Rattle.wcv_core.proofs.Kept.{places_len}
use Rattle.wcv_core.proofs.core_rows.Rows.len.Goals as goal

pub returns-clause-value : goal.returns-clause-value
returns-clause-value c =
    let gs : List Group = map group_form c.self.inside.groups.items in
    let pl : length c.self.inside.places.items ≡ total gs = places_len gs c.self.inside.places.items c.self.inside.depths.items c.self.invariant in
    let e : c.len.result ≡ length c.self.inside.places.items = omega (arith, c.len.ensures) in
    e ∙ (pl ∙ ap total c.self.view_is)
