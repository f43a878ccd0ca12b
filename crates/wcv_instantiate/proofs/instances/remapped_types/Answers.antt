use Rattle.std.proofs.Common.{◌<◌, ◌≤◌, [], sym, subst}
use Rattle.std.specs.Prelude.{ℕ}
use Rattle.wcv_types.proofs.Grown.{extends_trans}
use Rattle.wcv_instantiate.proofs.ExportsAnew.{Types, next_is_hygienic, next_stands, types_all, types_next, types_none}
use Rattle.wcv_spaces.proofs.Walks.{found_holds, none_within}
use Rattle.wcv_types.specs.Entities.{EntryStands}
use Rattle.wcv_instantiate.specs.Opening.{TypesRemapped}
use Rattle.wcv_instantiate.proofs.instances.remapped_types.Goals as goal

pub loop-k-init : goal.loop-k-init
loop-k-init g c = subst (λ (ts : Types). TypesRemapped c.args.types.now c.args.types.now c.args.map.now c.args.map.now [] ts) (sym c.new-tys.ensures.items) (types_none c.args.types.now c.args.map.now c.requires.sound)

pub unreachable-requires : goal.unreachable-requires
unreachable-requires g c = none_within c.args.exports.now c.loop-k.k c.in-None.ensures (subst (λ (n : ℕ). c.loop-k.k < n) c.len-k-end.ensures c.loop-k-test.true)

pub push_type-requires-clause-stands : goal.push_type-requires-clause-stands
push_type-requires-clause-stands g c = next_stands c.args.types.now c.loop-k.types c.args.exports.now c.loop-k.k c.in-Some.entry.now c.loop-k.invariant.exports.grown c.requires.stand (sym c.in-Some.ensures)

pub push_type-requires-clause-hygienic : goal.push_type-requires-clause-hygienic
push_type-requires-clause-hygienic g c =
    next_is_hygienic c.args.types.now c.loop-k.types c.args.map.now c.loop-k.map c.args.exports.now _ c.loop-k.k c.in-Some.entry.now c.requires.sound c.requires.stand c.requires.hygienic (sym c.in-Some.ensures) c.loop-k.invariant.exports

pub loop-k-preserved : goal.loop-k-preserved
loop-k-preserved g c =
    types_next c.args.types.now c.loop-k.types c.push_type.new.types c.args.map.now c.loop-k.map c.push_type.new.map c.args.exports.now c.loop-k.tys.items c.push_type.new.tys.items c.loop-k.k c.in-Some.entry.now (sym c.in-Some.ensures)
    (found_holds (EntryStands c.args.types.now) c.args.exports.now c.loop-k.k c.in-Some.entry.now c.requires.stand (sym c.in-Some.ensures)) c.push_type.ensures.grown c.loop-k.invariant c.in_ok-push_type-in-Some.ensures.ok

pub returns-in_err-push_type-in-Some-clause-grown : goal.returns-in_err-push_type-in-Some-clause-grown
returns-in_err-push_type-in-Some-clause-grown g c = extends_trans _ _ _ c.loop-k.invariant.exports.grown c.push_type.ensures.grown

pub returns-clause-ok : goal.returns-clause-ok
returns-clause-ok g c = types_all _ _ _ _ c.args.exports.now c.loop-k.tys.items c.loop-k.k (subst (λ (n : ℕ). n ≤ c.loop-k.k) c.len-k-end.ensures c.loop-k-test.false) c.loop-k.invariant
