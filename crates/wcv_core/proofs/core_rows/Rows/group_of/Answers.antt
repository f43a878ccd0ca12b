use Rattle.std.proofs.Common.{◌≡◌, List, [], length, map, get_or, sym, ◌∙◌, ap, arith}
use Rattle.wcv_core.specs.declared.core_rows.Row.{Row}
use Rattle.wcv_core.specs.CoreForm.{Group, group_form}
use Rattle.wcv_core.specs.CoreGroups.{place_from}
use Rattle.wcv_core.proofs.Kept.{Told, told, Stored, stored, in_groups, Held, held}
use Rattle.wcv_core.proofs.core_rows.Rows.group_of.Goals as goal

pub index-place-requires : goal.index-place-requires
index-place-requires c =
    let gs : List Group = map group_form c.self.inside.groups.items in
    let s : Stored gs c.self.inside.places.items c.self.inside.depths.items c.args.id.index = stored gs c.args.self.now c.self.inside.places.items c.self.inside.depths.items c.args.id.index c.self.view_is c.self.invariant c.requires in
    omega (arith, s.placed)

pub index-group-requires : goal.index-group-requires
index-group-requires c =
    let gs : List Group = map group_form c.self.inside.groups.items in
    let s : Stored gs c.self.inside.places.items c.self.inside.depths.items c.args.id.index = stored gs c.args.self.now c.self.inside.places.items c.self.inside.depths.items c.args.id.index c.self.view_is c.self.invariant c.requires in
    let p : Row = c.index-place.result.now in
    let t : Told gs c.args.id.index p = told gs c.self.inside.places.items c.self.inside.depths.items c.args.id.index p c.self.invariant s.low c.index-place.ensures in
    omega (arith, in_groups c.self.inside.groups.items c.args.id.index p t)

pub returns-clause-place : goal.returns-clause-place
returns-clause-place c =
    let gs : List Group = map group_form c.self.inside.groups.items in
    let s : Stored gs c.self.inside.places.items c.self.inside.depths.items c.args.id.index = stored gs c.args.self.now c.self.inside.places.items c.self.inside.depths.items c.args.id.index c.self.view_is c.self.invariant c.requires in
    let p : Row = c.index-place.result.now in
    let t : Told gs c.args.id.index p = told gs c.self.inside.places.items c.self.inside.depths.items c.args.id.index p c.self.invariant s.low c.index-place.ensures in
    let r = c.index-group.result.now in
    let k : Held c.self.inside.groups.items p r = held c.self.inside.groups.items c.args.id.index p r t c.index-group.ensures in
    let e : c.len.result ≡ length (get_or gs p.group []) = omega (arith, c.len.ensures, k.count) in
    (λ j. (p.first, e j)) ∙ (sym t.place_is ∙ ap (λ (xs : List Group). place_from 0 xs c.args.id.index) c.self.view_is)
