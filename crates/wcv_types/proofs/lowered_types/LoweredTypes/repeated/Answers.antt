use Rattle.std.proofs.Common.{◌≡◌, ◌-◌, ℕ, List, [], take, sym, ◌∙◌, ap, arith}
use Rattle.std.proofs.lemmas.List.{length-take}
use Rattle.wcv_types.specs.Flat.{repeated}
use Rattle.wcv_types.specs.Open.{listed}
use Rattle.wcv_types.specs.declared.flat_type.FlatType.{FlatType}
use Rattle.wcv_types.proofs.Cutting.{cut_full, list_last, repeated_next, repeated_none}
use Rattle.wcv_types.proofs.lowered_types.LoweredTypes.repeated.Goals as goal

pub returns-then-self-eq0 : goal.returns-then-self-eq0
returns-then-self-eq0 c =
    let none : listed c.args.self.now ≡ [] = ap (λ (j : ℕ). take j c.args.self.now.types) c.if-self-eq0.true in
    c.new-list.ensures ∙ sym (ap (λ (xs : List FlatType). take 17 (repeated c.args.times xs)) none ∙ ap (take 17) (repeated_none {X = FlatType} c.args.times))

pub returns-then-is_full : goal.returns-then-is_full
returns-then-is_full c =
    sym (cut_full 17 (listed c.loop-k.list) (repeated (c.args.times - c.loop-k.k) (listed c.args.self.now)) (c.is_full.ensures.full c.if-is_full.true)) ∙ c.loop-k.invariant

pub loop-k-preserved : goal.loop-k-preserved
loop-k-preserved c =
    repeated_next 17 c.loop-k.k c.args.times (listed c.loop-k.list) (listed c.args.self.now) (listed c.append.new.self) c.loop-k-test.true c.append.ensures ∙ c.loop-k.invariant

pub returns : goal.returns
returns c =
    let left : c.args.times - c.loop-k.k ≡ 0 = omega arith in
    sym (list_last 17 (listed c.loop-k.list) (repeated (c.args.times - c.loop-k.k) (listed c.args.self.now)) (omega (arith, length-take c.loop-k.list.len c.loop-k.list.types))
    (ap (λ (j : ℕ). repeated j (listed c.args.self.now)) left)) ∙ c.loop-k.invariant
