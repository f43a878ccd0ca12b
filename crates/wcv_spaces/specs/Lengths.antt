-- The lengths of the index spaces by the words of the code.
use Rattle.std.specs.Prelude.{ℕ, length}
use Rattle.wcv_spaces.specs.declared.kind.Space.{Space}
use Rattle.wcv_spaces.specs.declared.kind.Space.TheVariants as space
use Rattle.wcv_spaces.specs.Contents.{SpaceLists}

abbrev pub space_length : Space → SpaceLists → ℕ
space_length space.CoreTypes s = length s.core_types
space_length space.CoreFuncs s = length s.core_funcs
space_length space.CoreTags s = length s.core_tags
space_length space.CoreModules s = length s.core_modules
space_length space.CoreInstances s = length s.core_instances
space_length space.CoreMemories s = length s.core_memories
space_length space.CoreTables s = length s.core_tables
space_length space.CoreGlobals s = length s.core_globals
space_length space.Types s = length s.types
space_length space.Funcs s = length s.funcs
space_length space.Values s = length s.values
space_length space.Instances s = length s.instances
space_length space.Components s = length s.components
