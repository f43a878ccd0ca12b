-- Sorts of items.
use Rattle.std.specs.Prelude.{ℕ, List, [], ◌∷◌, Result, Ok, Err, ◌==◌, if◌then◌else◌}
use Rattle.wcv_syntax.specs.declared.core_section.ExternalKind.{ExternalKind}
use Rattle.wcv_syntax.specs.declared.core_section.ExternalKind.TheVariants as core
use Rattle.wcv_syntax.specs.declared.instance.ComponentExternalKind.{ComponentExternalKind}
use Rattle.wcv_syntax.specs.declared.instance.ComponentExternalKind.TheVariants as sort
use Rattle.wcv_bytes.specs.declared.fault.Fault.{Fault}
use Rattle.wcv_bytes.specs.declared.fault.Why.TheVariants.{NotSort, NotCoreSort}
use Rattle.wcv_bytes.specs.Reading.{◌>>=◌, fault, byte_at, under_byte, or_read}

-- the core sorts by their bytes
abbrev pub core_sorts : List (ℕ × ExternalKind)
core_sorts = (0x00, core.Func) ∷ (0x01, core.Table) ∷ (0x02, core.Memory) ∷ (0x03, core.Global) ∷ (0x04, core.Tag) ∷ []

unfoldable pub core_sort_at : List ℕ → Result (ExternalKind × List ℕ) Fault
core_sort_at bytes = do
  b ← byte_at bytes
  or_read (under_byte core_sorts b.0) b.1 (Err (fault NotCoreSort bytes))

-- the sorts by their bytes, but for the core module
abbrev pub sorts : List (ℕ × ComponentExternalKind)
sorts = (0x01, sort.Func) ∷ (0x02, sort.Value) ∷ (0x03, sort.Ty) ∷ (0x04, sort.Component) ∷ (0x05, sort.Instance) ∷ []

-- a core module, behind the byte 0 of core sorts
unfoldable pub module_sort_at : List ℕ → Result (ComponentExternalKind × List ℕ) Fault
module_sort_at bytes = do
  b ← byte_at bytes
  if b.0 == 0x11 then Ok (sort.Module, b.1) else Err (fault NotSort bytes)

unfoldable pub sort_at : List ℕ → Result (ComponentExternalKind × List ℕ) Fault
sort_at bytes = do
  b ← byte_at bytes
  if b.0 == 0x00 then module_sort_at b.1 else or_read (under_byte sorts b.0) b.1 (Err (fault NotSort bytes))
