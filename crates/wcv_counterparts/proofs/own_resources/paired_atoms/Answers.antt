use Rattle.std.proofs.Common.{◌++◌, ◌&&◌, ◌∙◌, ap, map}
use Rattle.wcv_types.specs.Tree.{firsts, imported}
use Rattle.wcv_types.specs.Unfold.{resource_path, tree_at}
use Rattle.wcv_types.specs.declared.ids.Part.TheVariants as p
use Rattle.wcv_core.specs.Names.{member}
use Rattle.wcv_matching.specs.OnePass.{defined_in, imported_in, one_to_one}
use Rattle.wcv_matching.specs.SameTypes.{defined_by}
use Rattle.wcv_counterparts.specs.IdCounterparts.{lands_on}
use Rattle.wcv_counterparts.proofs.ComponentIds.{pair_no, pair_told, paired_exports, paired_left, right_over}
use Rattle.wcv_counterparts.proofs.own_resources.paired_atoms.Goals as goal

pub returns-then-not-branch-clause-paired : goal.returns-then-not-branch-clause-paired
returns-then-not-branch-clause-paired g c =
    let x = tree_at c.args.types.now (p.Component c.args.a) in
    let y = tree_at c.args.types.now (p.Component c.args.b) in
    pair_no x y c.in_ok-one_to_one.field-0
    (c.in_ok-one_to_one.ensures (imported_in x y) (imported x) (ap (map lands_on) c.deref.ensures.value ∙ c.in_ok-imported.ensures.found) ∙
    (λ l. one_to_one (λ r. member r (firsts (map resource_path (c.new.ensures l)))) (imported_in x y) (imported x))) c.if-not-branch.true

pub returns-then-not-branch-2-clause-paired : goal.returns-then-not-branch-2-clause-paired
returns-then-not-branch-2-clause-paired g c =
    let x = tree_at c.args.types.now (p.Component c.args.a) in
    let y = tree_at c.args.types.now (p.Component c.args.b) in
    pair_told c.args.types.now c.args.a.index c.get-x.result.now x c.get-x.ensures.unfolds y c.in_ok-one_to_one.field-0 c.in_ok-one_to_one-2.field-0
    (c.in_ok-one_to_one.ensures (imported_in x y) (imported x) (ap (map lands_on) c.deref.ensures.value ∙ c.in_ok-imported.ensures.found) ∙
    (λ l. one_to_one (λ r. member r (firsts (map resource_path (c.new.ensures l)))) (imported_in x y) (imported x)))
    (c.in_ok-one_to_one-2.ensures (defined_in x y) (defined_by x) (ap (map lands_on) c.deref-2.ensures.value ∙ c.in_ok-defined.ensures.found)) ∙
    (λ l. c.if-not-branch.false l && c.if-not-branch-2.true l)

pub returns-clause-paired : goal.returns-clause-paired
returns-clause-paired g c =
    let x = tree_at c.args.types.now (p.Component c.args.a) in
    let y = tree_at c.args.types.now (p.Component c.args.b) in
    record {
      pair_up = pair_told c.args.types.now c.args.a.index c.get-x.result.now x c.get-x.ensures.unfolds y c.in_ok-one_to_one.field-0 c.in_ok-one_to_one-2.field-0
          (c.in_ok-one_to_one.ensures (imported_in x y) (imported x) (ap (map lands_on) c.deref.ensures.value ∙ c.in_ok-imported.ensures.found) ∙
          (λ l. one_to_one (λ r. member r (firsts (map resource_path (c.new.ensures l)))) (imported_in x y) (imported x)))
          (c.in_ok-one_to_one-2.ensures (defined_in x y) (defined_by x) (ap (map lands_on) c.deref-2.ensures.value ∙ c.in_ok-defined.ensures.found)) ∙
          (λ l. c.if-not-branch.false l && c.if-not-branch-2.false l);
      left = λ f. paired_left c.args.types.now c.args.a.index c.get-x.result.now x c.get-x.ensures.unfolds y c.args.level f _ _
          (ap (map lands_on) c.deref-3.ensures.value ∙ c.in_ok-imported.ensures.found) c.in_ok-own.ensures.left;
      right = λ g. right_over c.args.types.now c.args.b.index c.get-y.result.now y c.get-y.ensures.unfolds c.args.level g _ c.in_ok-own.ensures.right;
      exports = λ f. paired_exports c.args.types.now c.args.a.index c.get-x.result.now x c.get-x.ensures.unfolds y c.args.level f _ _ _
          (ap (map lands_on) c.deref-3.ensures.value ∙ c.in_ok-imported.ensures.found) (ap (map lands_on) c.deref-4.ensures.value ∙ c.in_ok-defined.ensures.found) c.in_ok-own.ensures.exports;
    }
