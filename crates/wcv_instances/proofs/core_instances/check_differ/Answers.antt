use Rattle.std.proofs.Common.{◌≡◌, ◌∙◌, arith, inl, inr, take, true, false}
use Rattle.wcv_types.specs.ByName.{texts_in}
use Rattle.wcv_lower.specs.Checks.{is_among}
use Rattle.wcv_core.specs.TextSet.{with_text}
use Rattle.wcv_instances.proofs.Differing.{name_at, repeats_here, apart_more, seen_more}
use Rattle.wcv_instances.proofs.core_instances.check_differ.Goals as goal

pub returns-then-is_some-clause-err : goal.returns-then-is_some-clause-err
returns-then-is_some-clause-err g c =
    let x = c.index-entries-k.result in
    let at = name_at c.args.entries.now c.loop-k.k x (omega arith) c.index-entries-k.is in
    let here : is_among x.0 (take c.loop-k.k (texts_in c.args.entries.now)) ≡ true = cc (c.in_ok-insert.ensures.stood, c.in_ok-copy.ensures.ok, c.as_str-name.ensures, c.is_some.ensures, c.if-is_some.true, c.loop-k.invariant.seen) in
    inr (inl (c.from.ensures.0 ∙ c.new.ensures.kind, repeats_here (texts_in c.args.entries.now) c.loop-k.k x.0 at here), c.from.ensures.1 ∙ c.new.ensures.offset)

pub loop-k-preserved : goal.loop-k-preserved
loop-k-preserved g c =
    let x = c.index-entries-k.result in
    let at = name_at c.args.entries.now c.loop-k.k x (omega arith) c.index-entries-k.is in
    let apart : is_among x.0 c.loop-k.seen ≡ false = cc (c.in_ok-insert.ensures.stood, c.in_ok-copy.ensures.ok, c.as_str-name.ensures, c.is_some.ensures, c.if-is_some.false) in
    let here : is_among x.0 (take c.loop-k.k (texts_in c.args.entries.now)) ≡ false = cc (apart, c.loop-k.invariant.seen) in
    let new : c.insert.new.self ≡ with_text x.0 c.loop-k.seen = cc (c.in_ok-insert.ensures.ok, c.in_ok-copy.ensures.ok, c.as_str-name.ensures) in
    record {
      seen = seen_more (texts_in c.args.entries.now) c.loop-k.k x.0 at c.loop-k.seen c.insert.new.self c.loop-k.invariant.seen new apart;
      apart = apart_more (texts_in c.args.entries.now) c.loop-k.k x.0 at here c.loop-k.invariant.apart;
    }
