use Rattle.std.proofs.Common.{◌∙◌, ap, subst, sym}
use Rattle.std.specs.List.{IsDistinct}
use Rattle.wcv_types.specs.Boxed.{keys_in_box}
use Rattle.wcv_types.specs.Sets.{same_resource}
use Rattle.wcv_types.proofs.resource_set.ResourceSet.len.Goals as goal

pub returns-in-None-clause-unique : goal.returns-in-None-clause-unique
unfolding IsDistinct
returns-in-None-clause-unique c = subst (λ ks. IsDistinct same_resource ks) (sym (ap keys_in_box c.in-None.is) ∙ c.self.view_is) tt
