-- Aliases.
use Rattle.std.specs.Prelude.{ℕ, List, [], ◌∷◌, ◌==◌, if◌then◌else◌, Result, Ok, Err}
use Rattle.wcv_syntax.specs.declared.core_section.ExternalKind.{ExternalKind}
use Rattle.wcv_syntax.specs.declared.instance.ComponentAlias.{ComponentAlias}
use Rattle.wcv_syntax.specs.declared.instance.ComponentAlias.TheVariants.{InstanceExport, CoreInstanceExport, Outer}
use Rattle.wcv_syntax.specs.declared.instance.ComponentOuterAliasKind.{ComponentOuterAliasKind}
use Rattle.wcv_syntax.specs.declared.instance.ComponentOuterAliasKind.TheVariants as outer
use Rattle.wcv_bytes.specs.declared.fault.Fault.{Fault}
use Rattle.wcv_bytes.specs.declared.fault.Why.TheVariants.{NotAlias, NotOuter, UnsupportedExact}
use Rattle.wcv_bytes.specs.Reading.{◌>>=◌, fault, byte_at, zero_at, u32_at, text_at, under_byte, or_read}
use Rattle.wcv_binary.specs.Sorts.{core_sort_at, sort_at}

-- what is behind a sort, which takes two bytes where the first is 0
unfoldable pub behind_sort_at : List ℕ → Result (List ℕ) Fault
behind_sort_at bytes = do
  b ← byte_at bytes
  if b.0 == 0 then (byte_at b.1 >>= λ second. Ok second.1) else Ok b.1

-- a core sort behind 0. The sort of exact functions has no form.
unfoldable pub aliased_core_sort_at : List ℕ → Result (ExternalKind × List ℕ) Fault
aliased_core_sort_at bytes = do
  rest ← zero_at bytes
  b ← byte_at rest
  if b.0 == 0x20 then Err (fault UnsupportedExact rest) else core_sort_at rest

-- the core sorts that may be aliased from further out
abbrev pub core_outers : List (ℕ × ComponentOuterAliasKind)
core_outers = (0x10, outer.CoreType) ∷ (0x11, outer.CoreModule) ∷ []

unfoldable pub core_outer_at : List ℕ → Result (ComponentOuterAliasKind × List ℕ) Fault
core_outer_at bytes = do
  b ← byte_at bytes
  or_read (under_byte core_outers b.0) b.1 (Err (fault NotOuter bytes))

-- the other sorts that may
abbrev pub outers : List (ℕ × ComponentOuterAliasKind)
outers = (0x03, outer.Ty) ∷ (0x04, outer.Component) ∷ []

unfoldable pub outer_sort_at : List ℕ → Result (ComponentOuterAliasKind × List ℕ) Fault
outer_sort_at bytes = do
  b ← byte_at bytes
  if b.0 == 0 then core_outer_at b.1 else or_read (under_byte outers b.0) b.1 (Err (fault NotOuter bytes))

-- an export of an instance, by its sort and what is behind the target: the instance and the name
unfoldable pub export_alias_at : List ℕ → List ℕ → Result (ComponentAlias × List ℕ) Fault
export_alias_at sort bytes = do
  kind ← sort_at sort
  instance ← u32_at bytes
  name ← text_at instance.1
  Ok (InstanceExport kind.0 instance.0 name.0, name.1)

-- so of a core instance
unfoldable pub core_export_alias_at : List ℕ → List ℕ → Result (ComponentAlias × List ℕ) Fault
core_export_alias_at sort bytes = do
  kind ← aliased_core_sort_at sort
  instance ← u32_at bytes
  name ← text_at instance.1
  Ok (CoreInstanceExport kind.0 instance.0 name.0, name.1)

-- an item of a component further out: how far, and the index there
unfoldable pub outer_alias_at : List ℕ → List ℕ → Result (ComponentAlias × List ℕ) Fault
outer_alias_at sort bytes = do
  kind ← outer_sort_at sort
  count ← u32_at bytes
  index ← u32_at count.1
  Ok (Outer kind.0 count.0 index.0, index.1)

-- a sort, a target, and what that asks for. Where they do not go together, the sort is at fault.
unfoldable pub alias_at : List ℕ → Result (ComponentAlias × List ℕ) Fault
alias_at bytes = do
  behind ← behind_sort_at bytes
  target ← byte_at behind
  if target.0 == 0 then export_alias_at bytes target.1
      else if target.0 == 1 then core_export_alias_at bytes target.1
      else if target.0 == 2 then outer_alias_at bytes target.1
      else Err (fault NotAlias behind)
