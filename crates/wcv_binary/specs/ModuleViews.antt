-- What contracts see of a core module that is being read.
use Rattle.std.specs.Prelude.{map}
use Rattle.wcv_core.specs.CoreForm.{group_form}
use Rattle.wcv_binary.specs.declared.module_export.Spaces.{Spaces}
use Rattle.wcv_binary.specs.declared.module_section.Module.{Module}
use Rattle.wcv_binary.specs.ModuleItems.{Module_form, Spaces_form}

abbrev pub module_form : Module → Module_form
module_form m = record {
  next = m.next;
  bodies = m.bodies;
  groups = map group_form m.groups.items;
  imports = m.imports.items;
  functions = m.functions.items;
  tables = m.tables.items;
  memories = m.memories.items;
  tags = m.tags.items;
  globals = m.globals.items;
  exports = m.exports.items;
}

abbrev pub spaces_form : Spaces → Spaces_form
spaces_form s = record { functions = s.functions.items; tables = s.tables.items; memories = s.memories.items; globals = s.globals.items; tags = s.tags.items }
