use Rattle.std.proofs.Common.{◌∙◌, ap, arith, sym, nat_cmp, option_map, unwrap_or}
use Rattle.std.specs.BTreeMap.{get_by}
use Rattle.std.specs.Map.{lookup}
use Rattle.wcv_core.specs.Names.{number}
use Rattle.wcv_types.specs.Sets.{same_resource}
use Rattle.wcv_atoms.proofs.Walking.{there_told}
use Rattle.wcv_counterparts.proofs.OneToOne.{each_first, left-first, left-skipped, seen-first, seen-skipped, two_go}
use Rattle.wcv_counterparts.proofs.own_resources.one_to_one.Goals as goal
use Rattle.wcv_counterparts.proofs.own_resources.one_to_one.Goals.{then-is_none+else-first-resource+in_ok-insert, else-is_none}

pub returns-then-first-resource : goal.returns-then-first-resource
returns-then-first-resource c to rs e =
    two_go c.args.skipped.now c.args.pairs.now to rs e c.loop-pair.pair-index _ (omega arith) (there_told c.get.result _ c.get.ensures c.if-is_none.ensures)
    c.loop-pair.firsts (c.loop-pair.invariant.seen to rs e) c.copied.result (c.copied.ensures ∙ c.get-then-is_none.ensures.value) c.unwrap_or-first.result c.unwrap_or-first.ensures c.if-first-resource.true (c.loop-pair.invariant.left to rs e)

pub loop-pair-preserved : goal.loop-pair-preserved
loop-pair-preserved c = elim c.if-is_none.branch [
  | then-is_none+else-first-resource+in_ok-insert w ↦ record {
    seen = λ to rs e q. ap (λ m. option_map number (get_by (λ x. nat_cmp q x) m)) w.firsts-is ∙ seen-first c.args.skipped.now c.args.pairs.now to rs e c.loop-pair.pair-index _ (omega arith) (there_told c.get.result _ c.get.ensures w.if-is_none.ensures)
        c.loop-pair.firsts (c.loop-pair.invariant.seen to rs e) w.copied.result (w.copied.ensures ∙ w.get-then-is_none.ensures.value) w.unwrap_or-first.result w.unwrap_or-first.ensures w.if-first-resource.false w.insert.new.self w.in_ok-insert.ensures.updates q;
    left = λ to rs e. left-first c.args.skipped.now c.args.pairs.now to rs e c.loop-pair.pair-index _ (omega arith) (there_told c.get.result _ c.get.ensures w.if-is_none.ensures)
        c.loop-pair.firsts (c.loop-pair.invariant.seen to rs e) w.copied.result (w.copied.ensures ∙ w.get-then-is_none.ensures.value) w.unwrap_or-first.result w.unwrap_or-first.ensures w.if-first-resource.false (c.loop-pair.invariant.left to rs e);
  }
  | else-is_none w ↦ record {
    seen = λ to rs e q. ap (λ m. option_map number (get_by (λ x. nat_cmp q x) m)) w.firsts-is ∙ seen-skipped c.args.skipped.now c.args.pairs.now to rs e c.loop-pair.pair-index _ (omega arith) c.loop-pair.firsts (there_told c.get.result _ c.get.ensures w.if-is_none.ensures) (c.loop-pair.invariant.seen to rs e) q;
    left = λ to rs e. left-skipped c.args.skipped.now c.args.pairs.now to rs e c.loop-pair.pair-index _ (omega arith) (there_told c.get.result _ c.get.ensures w.if-is_none.ensures) (c.loop-pair.invariant.left to rs e);
  }
]

pub returns : goal.returns
returns c to rs e = each_first c.args.skipped.now c.args.pairs.now to rs e c.loop-pair.pair-index (omega arith) (c.loop-pair.invariant.left to rs e)
