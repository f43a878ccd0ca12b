use Rattle.std.proofs.Common.{ℕ, List, [], ◌∷◌, ◌++◌, map, arith, sym, ◌∙◌, ap}
use Rattle.wcv_matching.specs.NamedPaths.{follow}
use Rattle.wcv_types.specs.Unfold.{trees}
use Rattle.wcv_matching.proofs.ByName.{is_there}
use Rattle.wcv_atoms.specs.Extent.{walk}
use Rattle.wcv_atoms.specs.IdPasses.{named_trees}
use Rattle.wcv_counterparts.specs.IdCounterparts.{lands_on}
use Rattle.wcv_types.specs.declared.ids.ResourceId.{ResourceId}
use Rattle.wcv_atoms.proofs.Extents.{walks_next}
use Rattle.wcv_counterparts.proofs.OwnPaths.{all_landed, next_lands}
use Rattle.wcv_counterparts.proofs.counterparts.push_counterparts.Goals as goal

pub loop-k-init : goal.loop-k-init
loop-k-init g c = record { maps = c.requires.seen; found = ap (λ (fs : List (ResourceId × ResourceId)). map lands_on fs) c.requires.none; counted = omega arith }

pub unreachable-requires : goal.unreachable-requires
unreachable-requires g c = is_there c.args.paths.now c.loop-k.k (omega (arith, c.len-k-end.ensures.value)) c.in-None.ensures

pub loop-k-preserved : goal.loop-k-preserved
loop-k-preserved g c = record {
  maps = c.in_ok-other-in-Some.ensures.maps;
  found = next_lands c.args.paths.now (named_trees (trees c.args.types.now.nodes) c.args.entries.now) (named_trees (trees c.args.types.now.nodes) c.args.others.now) c.loop-k.found.items c.push.new.self.items c.loop-k.k (c.in-Some.resource.now, c.in-Some.path.now) c.in_ok-other-in-Some.other
      c.len-k-end.ensures.unique (sym c.in-Some.ensures)
      (c.in_ok-other-in-Some.ensures.found ∙ ap (λ (path : List ℕ). follow path (named_trees (trees c.args.types.now.nodes) c.args.entries.now) (named_trees (trees c.args.types.now.nodes) c.args.others.now)) c.positions.ensures)
      (c.in_ok-push-in-Some.ensures.items ∙ ap (λ (r : ResourceId). c.loop-k.found.items ++ (c.in-Some.resource.now, r) ∷ []) c.unwrap_or.ensures) c.loop-k.invariant.found;
  counted =
      let n = walks_next c.args.paths.now c.loop-k.k (c.in-Some.resource.now, c.in-Some.path.now) (sym c.in-Some.ensures) in
      let w = ap walk c.positions.ensures in
      omega (arith, n, w, c.in_ok-other-in-Some.ensures.counted, c.loop-k.invariant.counted);
}

pub returns-clause-found : goal.returns-clause-found
returns-clause-found g c = all_landed c.args.paths.now (named_trees (trees c.args.types.now.nodes) c.args.entries.now) (named_trees (trees c.args.types.now.nodes) c.args.others.now) c.loop-k.found.items c.loop-k.k (omega (arith, c.len-k-end.ensures.value)) c.loop-k.invariant.found

pub returns-in_err-other-in-Some-clause-counted : goal.returns-in_err-other-in-Some-clause-counted
returns-in_err-other-in-Some-clause-counted g c =
    let n = walks_next c.args.paths.now c.loop-k.k (c.in-Some.resource.now, c.in-Some.path.now) (sym c.in-Some.ensures) in
    let w = ap walk c.positions.ensures in
    omega (arith, n, w, c.in_err-other-in-Some.ensures.counted, c.loop-k.invariant.counted)

pub returns-in_err-push-in-Some-clause-counted : goal.returns-in_err-push-in-Some-clause-counted
returns-in_err-push-in-Some-clause-counted g c =
    let n = walks_next c.args.paths.now c.loop-k.k (c.in-Some.resource.now, c.in-Some.path.now) (sym c.in-Some.ensures) in
    let w = ap walk c.positions.ensures in
    omega (arith, n, w, c.in_ok-other-in-Some.ensures.counted, c.loop-k.invariant.counted)
