use Rattle.std.proofs.Common.{◌∙◌, ap, subst, sym}
use Rattle.std.specs.List.{IsDistinct}
use Rattle.std.specs.Map.{keys_of}
use Rattle.wcv_types.specs.Boxed.{in_box}
use Rattle.wcv_types.specs.Sets.{same_resource}
use Rattle.wcv_types.proofs.paths.Paths.len.Goals as goal

pub returns-in-None-clause-unique : goal.returns-in-None-clause-unique
unfolding IsDistinct
returns-in-None-clause-unique c = subst (λ ps. IsDistinct same_resource (keys_of ps)) (sym (ap in_box c.in-None.is) ∙ c.self.view_is) tt
