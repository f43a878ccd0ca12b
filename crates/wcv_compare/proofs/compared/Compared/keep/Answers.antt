use Rattle.std.proofs.Common.{Bool, List, true, false, sym, subst}
use Rattle.std.specs.Prelude.{All}
use Rattle.wcv_compare.specs.Compared.{IsPassed, Pass}
use Rattle.wcv_compare.specs.declared.compared.LevelPair.{LevelPair}
use Rattle.wcv_compare.proofs.Comparing.{on_ok, passes_kept, pushed}
use Rattle.wcv_compare.proofs.compared.Compared.keep.Goals as goal

pub returns-then-exact : goal.returns-then-exact
returns-then-exact c = on_ok c.push.result
    (λ e t f g w m. record {
      same = subst (λ (ps : List LevelPair). All (IsPassed t true f g) ps) (sym e) (pushed (IsPassed t true f g) c.args.self.now.same c.in-Some.pair w.same
          (passes_kept t true c.args.level f g c.args.a c.args.b c.in-Some.pair c.in-Some.ensures (subst (λ (b : Bool). Pass t b c.args.level f g c.args.a c.args.b) c.if-exact.true m)));
      matching = w.matching;
      same_flipped = w.same_flipped;
      matching_flipped = w.matching_flipped;
    })
    c.push.ensures.ok

pub returns-else-exact : goal.returns-else-exact
returns-else-exact c = on_ok c.push-else-exact.result
    (λ e t f g w m. record {
      same = w.same;
      matching = subst (λ (ps : List LevelPair). All (IsPassed t false f g) ps) (sym e) (pushed (IsPassed t false f g) c.args.self.now.matching c.in-Some.pair w.matching
          (passes_kept t false c.args.level f g c.args.a c.args.b c.in-Some.pair c.in-Some.ensures (subst (λ (b : Bool). Pass t b c.args.level f g c.args.a c.args.b) c.if-exact.false m)));
      same_flipped = w.same_flipped;
      matching_flipped = w.matching_flipped;
    })
    c.push-else-exact.ensures.ok

pub returns-in-None : goal.returns-in-None
returns-in-None c t f g w m = w
