use Rattle.std.proofs.Common.{sym, ◌∙◌, ap}
use Rattle.wcv_types.specs.Unfold.{trees}
use Rattle.wcv_matching.specs.NamedPaths.{entry}
use Rattle.wcv_atoms.proofs.PassIds.{found_stands}
use Rattle.wcv_atoms.proofs.PassSteps.{found_tree, no_tree}
use Rattle.wcv_counterparts.proofs.counterparts.Exports.find.Goals as goal

pub returns-in-Some-get-2-clause-stands : goal.returns-in-Some-get-2-clause-stands
returns-in-Some-get-2-clause-stands g c =
    let w = c.in_ok-keep.ensures.maps c.args.ty c.in-Some.place c.in-Some-get.map.now c.requires.stands (sym c.place_of.ensures ∙ c.in-Some.is) (sym c.in-Some-get.ensures.value) in
    found_stands c.args.types.now c.in-Some-get.map.now c.args.name.now c.in-Some-get-2.item.now w.1 (sym c.in-Some-get-2.ensures)

pub returns-in-Some-get-2-clause-found : goal.returns-in-Some-get-2-clause-found
returns-in-Some-get-2-clause-found g c =
    let w = c.in_ok-keep.ensures.maps c.args.ty c.in-Some.place c.in-Some-get.map.now c.requires.stands (sym c.place_of.ensures ∙ c.in-Some.is) (sym c.in-Some-get.ensures.value) in
    sym (ap (λ es. entry c.args.name.now es) w.0 ∙ found_tree (trees c.args.types.now.nodes) c.in-Some-get.map.now c.args.name.now c.in-Some-get-2.item.now (sym c.in-Some-get-2.ensures))

pub returns-in-None-get-2-clause-found : goal.returns-in-None-get-2-clause-found
returns-in-None-get-2-clause-found g c =
    let w = c.in_ok-keep.ensures.maps c.args.ty c.in-Some.place c.in-Some-get.map.now c.requires.stands (sym c.place_of.ensures ∙ c.in-Some.is) (sym c.in-Some-get.ensures.value) in
    sym (ap (λ es. entry c.args.name.now es) w.0 ∙ no_tree (trees c.args.types.now.nodes) c.in-Some-get.map.now c.args.name.now (sym c.in-None-get-2.ensures))
