use Rattle.std.proofs.Common.{◌≡◌, ◌∙◌, List, [], sym, subst, arith, refl}
use Rattle.wcv_types.proofs.Grown.{extends_refl, stands_more}
use Rattle.wcv_types.specs.Unfold.{parts_at, rank}
use Rattle.wcv_types.specs.declared.ids.Part.{Part}
use Rattle.wcv_remap.specs.Map.{Map}
use Rattle.wcv_remap.specs.Remap.{Rebuilding, Remapped}
use Rattle.wcv_remap.proofs.Looping.{no_parts_yet, items_are, ready, one_more, all_parts, parts_now, refits_now, all_settled}
use Rattle.wcv_remap.proofs.Maps.{still_none}
use Rattle.wcv_remap.proofs.Rebuilding.{remapped_found, is_new}
use Rattle.wcv_remap.proofs.Sparing.{remapped_stays}
use Rattle.wcv_remap.proofs.remap.+remap_part.Goals as goal

pub returns-then-stays-clause-grown : goal.returns-then-stays-clause-grown
returns-then-stays-clause-grown g t c = extends_refl _

pub returns-then-stays-clause-done : goal.returns-then-stays-clause-done
returns-then-stays-clause-done g t c = remapped_stays _ _ _ _ c.requires.stands c.requires.sound (sym c.stays.ensures ∙ c.if-stays.true)

pub returns-in-Some-clause-grown : goal.returns-in-Some-clause-grown
returns-in-Some-clause-grown g t c = extends_refl _

pub returns-in-Some-clause-done : goal.returns-in-Some-clause-done
returns-in-Some-clause-done g t c = remapped_found _ _ _ _ _ _ c.requires.stands c.requires.inside c.requires.sound c.found.ensures c.in-Some.is

pub returns-in_err-parts_into-clause-grown : goal.returns-in_err-parts_into-clause-grown
returns-in_err-parts_into-clause-grown g t c = extends_refl _

pub loop-p-init : goal.loop-p-init
loop-p-init g t c =
    subst (λ (x : List Part). Rebuilding (g.N.NodeStore.arena c.args.types.now) (g.N.NodeStore.arena c.args.types.now) c.args.map.now c.args.map.now c.parts_into.new.steps c.parts_into.new.steps (rank c.args.part) [] x)
    (sym c.no_parts-tos.ensures) (no_parts_yet _ _ _ _ c.requires.sound)

pub remap_part-requires : goal.remap_part-requires
remap_part-requires g t c κs within =
    let items : c.as_slice-p-items.result.now ≡ parts_at (g.N.NodeStore.arena c.args.types.now) c.args.part = items_are _ _ _ _ c.as_slice-p-items.ensures c.in_ok-parts_into.ensures.read c.no_parts-parts.ensures in
    let n = is_new c.args.map.now c.args.part c.found.result c.found.ensures c.in_default.is in
    let r =
    ready _ _ _ _ _ _ c.args.part c.as_slice-p-items.result.now c.loop-p.tos c.loop-p.p-index _ n.node c.requires.stands c.parts_into.ensures.unfolds c.requires.sound c.requires.hygienic items c.loop-p-test.true c.loop-p.invariant in
    (omega (arith, r.before, c.decreases), (within.0, (within.1, (r.stands, (r.inside, (r.sound, r.hygienic))))))

pub loop-p-preserved : goal.loop-p-preserved
loop-p-preserved g t c =
    let items : c.as_slice-p-items.result.now ≡ parts_at (g.N.NodeStore.arena c.args.types.now) c.args.part = items_are _ _ _ _ c.as_slice-p-items.ensures c.in_ok-parts_into.ensures.read c.no_parts-parts.ensures in
    one_more _ _ _ _ _ _ _ _ _ c.args.part c.in_ok-to.to c.as_slice-p-items.result.now c.loop-p.tos c.push.new.self c.loop-p.p-index _ c.parts_into.ensures.unfolds items c.loop-p-test.true c.in_ok-push.ensures.ok c.loop-p.invariant c.in_ok-to.ensures.done

pub settle-requires-clause-stands : goal.settle-requires-clause-stands
settle-requires-clause-stands g t c = stands_more _ _ c.args.part c.loop-p.invariant.grown c.requires.stands

pub settle-requires-clause-old : goal.settle-requires-clause-old
settle-requires-clause-old g t c = parts_now _ _ c.args.part _ c.loop-p.invariant.grown c.requires.stands (items_are _ _ _ _ refl c.in_ok-parts_into.ensures.read c.no_parts-parts.ensures)

pub settle-requires-clause-refits : goal.settle-requires-clause-refits
settle-requires-clause-refits g t c =
    let items : c.as_slice-p-items.result.now ≡ parts_at (g.N.NodeStore.arena c.args.types.now) c.args.part = items_are _ _ _ _ c.as_slice-p-items.ensures c.in_ok-parts_into.ensures.read c.no_parts-parts.ensures in
    let n = is_new c.args.map.now c.args.part c.found.result c.found.ensures c.in_default.is in
    refits_now _ _ _ _ _ _ c.args.part c.loop-p.tos n.node c.requires.stands c.parts_into.ensures.unfolds c.parts_into.ensures.led c.requires.sound c.requires.hygienic
    (all_parts _ _ _ _ _ _ _ c.as_slice-p-items.result.now _ c.loop-p.p-index items c.loop-p-test.false c.loop-p.invariant)

pub keep-requires-clause-new : goal.keep-requires-clause-new
keep-requires-clause-new g t c = still_none c.args.map.now c.loop-p.map c.args.part c.loop-p.invariant.visits (is_new c.args.map.now c.args.part c.found.result c.found.ensures c.in_default.is).absent

pub returns-clause-done : goal.returns-clause-done
returns-clause-done g t c =
    let items : c.as_slice-p-items.result.now ≡ parts_at (g.N.NodeStore.arena c.args.types.now) c.args.part = items_are _ _ _ _ c.as_slice-p-items.ensures c.in_ok-parts_into.ensures.read c.no_parts-parts.ensures in
    let n = is_new c.args.map.now c.args.part c.found.result c.found.ensures c.in_default.is in
    let w = all_parts _ _ _ _ _ _ _ c.as_slice-p-items.result.now c.loop-p.tos c.loop-p.p-index items c.loop-p-test.false c.loop-p.invariant in
    subst (λ (m : Map). Remapped (g.N.NodeStore.arena c.args.types.now) (g.N.NodeStore.arena c.settle.new.types) c.args.map.now m c.args.steps.now c.loop-p.steps c.args.part c.in_ok-to-2.to) (sym c.in_ok-keep.ensures.ok)
    (all_settled _ (g.N.NodeStore.arena c.loop-p.types) _ _ c.loop-p.map _ c.parts_into.new.steps _ c.args.part c.in_ok-to-2.to c.loop-p.tos n.absent n.node c.requires.stands c.parts_into.ensures.unfolds c.parts_into.ensures.counted w c.in_ok-to-2.ensures.settled)
