use Rattle.std.proofs.Common.{refl}
use Rattle.wcv_lower.proofs.laws.a_component_imports_by_a_type_of_its_root.Goals as goal

pub returns : goal.returns
returns c = record { types = λ fs f. refl; components = λ fs f. refl; charged = λ fs f. refl; spared = λ fs f. refl }
