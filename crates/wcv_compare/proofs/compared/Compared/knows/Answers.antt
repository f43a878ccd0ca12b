use Rattle.std.proofs.Common.{Bool, true, false, sym, ◌∙◌, subst}
use Rattle.wcv_compare.specs.Compared.{IsPassed}
use Rattle.wcv_compare.proofs.Comparing.{has_passed, passes_known}
use Rattle.wcv_compare.proofs.compared.Compared.knows.Goals as goal

pub returns-then-exact : goal.returns-then-exact
returns-then-exact c h t f g w =
    passes_known t c.args.exact c.args.level f g c.args.a c.args.b c.in-Some.pair c.in-Some.ensures
    (subst (λ (b : Bool). IsPassed t b f g c.in-Some.pair) (sym c.if-exact.true) (has_passed (IsPassed t true f g) c.args.self.now.same c.in-Some.pair w.same (sym c.contains.ensures ∙ h)))

pub returns-else-exact : goal.returns-else-exact
returns-else-exact c h t f g w =
    passes_known t c.args.exact c.args.level f g c.args.a c.args.b c.in-Some.pair c.in-Some.ensures
    (subst (λ (b : Bool). IsPassed t b f g c.in-Some.pair) (sym c.if-exact.false) (has_passed (IsPassed t false f g) c.args.self.now.matching c.in-Some.pair w.matching (sym c.contains-else-exact.ensures ∙ h)))
