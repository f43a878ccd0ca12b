use Rattle.std.proofs.Common.{List, map, get_or, ◌∙◌, ap, arith}
use Rattle.wcv_core.specs.CoreForm.{Group, group_form}
use Rattle.wcv_core.specs.CoreGroups.{depths_of}
use Rattle.wcv_core.proofs.Rowing.{get_or-any}
use Rattle.wcv_core.proofs.Kept.{Stored, stored}
use Rattle.wcv_core.proofs.core_rows.Rows.depth.Goals as goal

pub index-requires : goal.index-requires
index-requires c =
    let gs : List Group = map group_form c.self.inside.groups.items in
    let s : Stored gs c.self.inside.places.items c.self.inside.depths.items c.args.id.index = stored gs c.args.self.now c.self.inside.places.items c.self.inside.depths.items c.args.id.index c.self.view_is c.self.invariant c.requires in
    omega (arith, s.deep)

pub returns-clause-value : goal.returns-clause-value
returns-clause-value c =
    let gs : List Group = map group_form c.self.inside.groups.items in
    let s : Stored gs c.self.inside.places.items c.self.inside.depths.items c.args.id.index = stored gs c.args.self.now c.self.inside.places.items c.self.inside.depths.items c.args.id.index c.self.view_is c.self.invariant c.requires in
    c.index.ensures ∙ (get_or-any c.self.inside.depths.items c.args.id.index c.index.result.now 0 s.deep ∙ λ j. get_or ((c.self.invariant.depths_are ∙ ap depths_of c.self.view_is) j) c.args.id.index 0)
