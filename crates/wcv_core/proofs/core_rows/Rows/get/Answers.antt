use Rattle.std.proofs.Common.{◌≡◌, ℕ, ◌-◌, ◌<◌, List, length, map, get_or, sym, ◌∙◌, ap, arith}
use Rattle.wcv_core.specs.declared.core_rows.Row.{Row}
use Rattle.wcv_core.specs.CoreForm.{Group, group_form, sub_form}
use Rattle.wcv_core.specs.CoreGroups.{types_of}
use Rattle.wcv_core.proofs.Rowing.{length-map, get_or-any, item}
use Rattle.wcv_core.proofs.Kept.{Told, told, Stored, stored, in_groups, Held, held}
use Rattle.wcv_core.proofs.core_rows.Rows.get.Goals as goal

pub index-place-requires : goal.index-place-requires
index-place-requires c =
    let gs : List Group = map group_form c.self.inside.groups.items in
    let s : Stored gs c.self.inside.places.items c.self.inside.depths.items c.args.id.index = stored gs c.args.self.now c.self.inside.places.items c.self.inside.depths.items c.args.id.index c.self.view_is c.self.invariant c.requires in
    omega (arith, s.placed)

pub index-group-requires : goal.index-group-requires
index-group-requires c =
    let gs : List Group = map group_form c.self.inside.groups.items in
    let s : Stored gs c.self.inside.places.items c.self.inside.depths.items c.args.id.index = stored gs c.args.self.now c.self.inside.places.items c.self.inside.depths.items c.args.id.index c.self.view_is c.self.invariant c.requires in
    let p : Row = c.index-place.result.now in
    let t : Told gs c.args.id.index p = told gs c.self.inside.places.items c.self.inside.depths.items c.args.id.index p c.self.invariant s.low c.index-place.ensures in
    omega (arith, in_groups c.self.inside.groups.items c.args.id.index p t)

pub overflow_sub-id : goal.overflow_sub-id
overflow_sub-id c =
    let gs : List Group = map group_form c.self.inside.groups.items in
    let s : Stored gs c.self.inside.places.items c.self.inside.depths.items c.args.id.index = stored gs c.args.self.now c.self.inside.places.items c.self.inside.depths.items c.args.id.index c.self.view_is c.self.invariant c.requires in
    let p : Row = c.index-place.result.now in
    let t : Told gs c.args.id.index p = told gs c.self.inside.places.items c.self.inside.depths.items c.args.id.index p c.self.invariant s.low c.index-place.ensures in
    t.first

pub index-requires : goal.index-requires
index-requires c =
    let gs : List Group = map group_form c.self.inside.groups.items in
    let s : Stored gs c.self.inside.places.items c.self.inside.depths.items c.args.id.index = stored gs c.args.self.now c.self.inside.places.items c.self.inside.depths.items c.args.id.index c.self.view_is c.self.invariant c.requires in
    let p : Row = c.index-place.result.now in
    let t : Told gs c.args.id.index p = told gs c.self.inside.places.items c.self.inside.depths.items c.args.id.index p c.self.invariant s.low c.index-place.ensures in
    let r = c.index-group.result.now in
    let k : Held c.self.inside.groups.items p r = held c.self.inside.groups.items c.args.id.index p r t c.index-group.ensures in
    omega (arith, t.within, t.first, k.count)

pub returns : goal.returns
returns c d =
    let gs : List Group = map group_form c.self.inside.groups.items in
    let s : Stored gs c.self.inside.places.items c.self.inside.depths.items c.args.id.index = stored gs c.args.self.now c.self.inside.places.items c.self.inside.depths.items c.args.id.index c.self.view_is c.self.invariant c.requires in
    let p : Row = c.index-place.result.now in
    let t : Told gs c.args.id.index p = told gs c.self.inside.places.items c.self.inside.depths.items c.args.id.index p c.self.invariant s.low c.index-place.ensures in
    let r = c.index-group.result.now in
    let k : Held c.self.inside.groups.items p r = held c.self.inside.groups.items c.args.id.index p r t c.index-group.ensures in
    let i : ℕ = c.args.id.index - p.first in
    let x = c.index.result.now in
    let w : i < length r.types.items = omega (arith, t.within, t.first, k.count) in
    let l : length (map sub_form r.types.items) ≡ length r.types.items = length-map sub_form r.types.items in
    sym (item sub_form r.types.items i x c.index.ensures) ∙
    (get_or-any (map sub_form r.types.items) i (sub_form x) d (omega arith) ∙
    (ap (λ (g : Group). get_or g i d) (sym k.group) ∙ (t.type_is d ∙ ap (λ (xs : List Group). get_or (types_of xs) c.args.id.index d) c.self.view_is)))
