use Rattle.std.proofs.Common.{◌≡◌, ℕ, ◌+◌, ◌<◌, ◌≤◌, List, Option, Some, None, IfSome, false, eqb, get_or, sym, ◌∙◌, arith, subst}
use Rattle.wcv_core.specs.CoreForm.{Group}
use Rattle.wcv_core.specs.CoreGroups.{parents_from, depths_of, AreClosed}
use Rattle.wcv_core.proofs.Climbing.{before, climb_step, climb_over, apart_depths, climb_end}
use Rattle.wcv_core.proofs.core_rows.Rows.is_declared_subtype.Goals as goal

pub loop-at-smaller : goal.loop-at-smaller
loop-at-smaller c =
    let gs : List Group = c.args.self.now in
    let cl : AreClosed 0 gs = c.parent.ensures.closed in
    let e : get_or (parents_from 0 gs) c.loop-at.at None ≡ Some c.in-Some.parent = sym c.parent.ensures.value ∙ c.in-Some.is in
    let b : IfSome (Some c.in-Some.parent) (λ p. p < 0 + c.loop-at.at) = subst (λ (o : Option ℕ). IfSome o (λ p. p < 0 + c.loop-at.at)) e (before 0 gs cl c.loop-at.at) in
    omega (arith, b)

pub loop-at-preserved : goal.loop-at-preserved
loop-at-preserved c =
    let gs : List Group = c.args.self.now in
    let cl : AreClosed 0 gs = c.parent.ensures.closed in
    let e : get_or (parents_from 0 gs) c.loop-at.at None ≡ Some c.in-Some.parent = sym c.parent.ensures.value ∙ c.in-Some.is in
    let b : IfSome (Some c.in-Some.parent) (λ p. p < 0 + c.loop-at.at) = subst (λ (o : Option ℕ). IfSome o (λ p. p < 0 + c.loop-at.at)) e (before 0 gs cl c.loop-at.at) in
    let d : get_or (depths_of gs) c.args.b.index 0 < get_or (depths_of gs) c.loop-at.at 0 = omega (arith, c.depth-least.ensures.value, c.depth.ensures.value) in
    let n : eqb c.loop-at.at c.args.b.index ≡ false = apart_depths (depths_of gs) c.loop-at.at c.args.b.index d in
    record {
      stands = omega (arith, b);
      same = c.loop-at.invariant.same ∙ climb_step gs c.loop-at.at c.in-Some.parent c.args.b.index cl e n;
    }

pub returns : goal.returns
returns c =
    let gs : List Group = c.args.self.now in
    let cl : AreClosed 0 gs = c.depth.ensures.closed in
    let d : get_or (depths_of gs) c.loop-at.at 0 ≤ get_or (depths_of gs) c.args.b.index 0 = omega (arith, c.depth-least.ensures.value, c.depth.ensures.value) in
    sym (c.loop-at.invariant.same ∙ climb_over gs c.loop-at.at c.args.b.index cl c.loop-at.invariant.stands d)

pub returns-in-None : goal.returns-in-None
returns-in-None c =
    let gs : List Group = c.args.self.now in
    let e : get_or (parents_from 0 gs) c.loop-at.at None ≡ None = sym c.parent.ensures.value ∙ c.in-None.is in
    let d : get_or (depths_of gs) c.args.b.index 0 < get_or (depths_of gs) c.loop-at.at 0 = omega (arith, c.depth-least.ensures.value, c.depth.ensures.value) in
    sym (c.loop-at.invariant.same ∙ (climb_end gs c.loop-at.at c.args.b.index e ∙ apart_depths (depths_of gs) c.loop-at.at c.args.b.index d))
