use Rattle.std.proofs.Common.{◌≡◌, ◌<◌, ◌≤◌, List, Some, sym, subst}
use Rattle.std.specs.Prelude.{ℕ, Option, slice_get}
use Rattle.std.proofs.lemmas.List.Elements.{All-nil}
use Rattle.std.proofs.lemmas.Result.{err_from_is_err_and}
use Rattle.wcv_core.specs.declared.core_types.ValType.{ValType}
use Rattle.wcv_types.specs.ComponentTrees.{ResourceStands}
use Rattle.wcv_types.specs.Entities.{entry_trees}
use Rattle.wcv_types.specs.Unfold.{trees}
use Rattle.wcv_types.specs.declared.ids.ResourceId.{ResourceId}
use Rattle.wcv_lower.specs.Trees.{Entries}
use Rattle.wcv_spaces.proofs.Walks.{found_holds, none_within}
use Rattle.wcv_resources.proofs.KeptPaths.{KeptBefore, Left, AllOfArena, kept_start, left_start, kept_next, kept_none, kept_all, kept_stand, left_here, left_next, scope_caused}
use Rattle.wcv_resources.proofs.kept.keep_all.Goals as goal

pub loop-k-init : goal.loop-k-init
loop-k-init c =
    let es : Entries = entry_trees (trees c.args.types.now.nodes) c.args.exports.now in
    record {
      kept = subst (KeptBefore c.args.defined.now es 0) (sym c.requires.empty) (kept_start c.args.defined.now es);
      left = subst (Left c.args.defined.now 0) (sym c.requires.empty) (left_start c.args.defined.now c.len-k-end.ensures.unique);
      stand = subst (AllOfArena c.args.types.now) (sym c.requires.empty) (All-nil (λ (p : ResourceId × List ℕ). ResourceStands c.args.types.now p.0));
    }

pub unreachable-requires : goal.unreachable-requires
unreachable-requires c = none_within c.args.defined.now c.loop-k.k c.in-None.ensures (subst (λ (n : ℕ). c.loop-k.k < n) c.len-k-end.ensures.value c.loop-k-test.true)

pub keep-requires : goal.keep-requires
keep-requires c = left_here c.args.defined.now c.loop-k.k (c.in-Some.resource.now, c.in-Some.field-0-1.now) c.loop-k.paths (sym c.in-Some.ensures) c.loop-k.invariant.left

pub loop-k-preserved : goal.loop-k-preserved
loop-k-preserved c =
    let es : Entries = entry_trees (trees c.args.types.now.nodes) c.args.exports.now in
    let d : ResourceId × Option ValType = (c.in-Some.resource.now, c.in-Some.field-0-1.now) in
    let found : slice_get c.args.defined.now c.loop-k.k ≡ Some d = sym c.in-Some.ensures in
    let kept = c.in_ok-keep-in-Some.ensures.ok in
    record {
      kept = kept_next c.args.defined.now es c.loop-k.k d _ _ c.loop-k.paths c.keep.new.paths found (c.requires.free d.0) (c.requires.first d.0) kept c.loop-k.invariant.kept;
      left = left_next c.args.defined.now c.loop-k.k d _ _ c.loop-k.paths c.keep.new.paths found kept c.loop-k.invariant.left;
      stand = kept_stand c.args.types.now d.0 _ _ c.loop-k.paths c.keep.new.paths kept (found_holds (λ (d : ResourceId × Option ValType). ResourceStands c.args.types.now d.0) c.args.defined.now c.loop-k.k d c.requires.defined found) c.loop-k.invariant.stand;
    }

pub returns-in_err-keep-in-Some-clause-err : goal.returns-in_err-keep-in-Some-clause-err
returns-in_err-keep-in-Some-clause-err c =
    let es : Entries = entry_trees (trees c.args.types.now.nodes) c.args.exports.now in
    let d : ResourceId × Option ValType = (c.in-Some.resource.now, c.in-Some.field-0-1.now) in
    let found : slice_get c.args.defined.now c.loop-k.k ≡ Some d = sym c.in-Some.ensures in
    let p = err_from_is_err_and c.from_residual.result c.from_residual.ensures.1 in
    rw (p.1, p.2) (scope_caused _ _ c.args.offset c.in_err-keep-in-Some.field-0.0
    (λ e. kept_none c.args.defined.now es c.loop-k.k d _ _ c.loop-k.paths found (c.requires.free d.0) (c.requires.first d.0) e c.loop-k.invariant.kept) c.in_err-keep-in-Some.ensures.err)

pub returns-clause-ok : goal.returns-clause-ok
returns-clause-ok c =
    kept_all c.args.defined.now (entry_trees (trees c.args.types.now.nodes) c.args.exports.now) c.loop-k.k c.loop-k.paths (subst (λ (n : ℕ). n ≤ c.loop-k.k) c.len-k-end.ensures.value c.loop-k-test.false) c.loop-k.invariant.kept
