use Rattle.std.proofs.Common.{List, map, get_or, ◌∙◌, ap, None, arith}
use Rattle.wcv_core.specs.CoreForm.{Group, group_form}
use Rattle.wcv_core.specs.CoreGroups.{parents_from}
use Rattle.wcv_core.proofs.Kept.{Told, told, Stored, stored}
use Rattle.wcv_core.proofs.core_rows.Rows.parent.Goals as goal

pub index-requires : goal.index-requires
index-requires c =
    let gs : List Group = map group_form c.self.inside.groups.items in
    let s : Stored gs c.self.inside.places.items c.self.inside.depths.items c.args.id.index = stored gs c.args.self.now c.self.inside.places.items c.self.inside.depths.items c.args.id.index c.self.view_is c.self.invariant c.requires in
    omega (arith, s.placed)

pub returns-clause-value : goal.returns-clause-value
returns-clause-value c =
    let gs : List Group = map group_form c.self.inside.groups.items in
    let s : Stored gs c.self.inside.places.items c.self.inside.depths.items c.args.id.index = stored gs c.args.self.now c.self.inside.places.items c.self.inside.depths.items c.args.id.index c.self.view_is c.self.invariant c.requires in
    let t : Told gs c.args.id.index c.index.result.now = told gs c.self.inside.places.items c.self.inside.depths.items c.args.id.index c.index.result.now c.self.invariant s.low c.index.ensures in
    t.parent_is ∙ ap (λ (xs : List Group). get_or (parents_from 0 xs) c.args.id.index None) c.self.view_is
