use Rattle.wcv_link.proofs.ModuleCalls.{types_said, import_said, export_said, export_free, alias_said}
use Rattle.wcv_link.proofs.module_laws.a_call_on_a_module_is_its_declaration.Goals as goal

pub returns : goal.returns
returns c = record { types = types_said; imports = import_said; exports = export_said; exports_free = export_free; aliases = alias_said }
