use Rattle.wcv_lower.proofs.CoreExports.{counted, exports_of_module, exports_listed, imports_of_module}
use Rattle.wcv_lower.proofs.laws.a_core_instance_exports_what_it_is_made_of.Goals as goal

pub returns : goal.returns
returns c = record { made = exports_of_module; counted = counted; listed = exports_listed; imports = imports_of_module }
