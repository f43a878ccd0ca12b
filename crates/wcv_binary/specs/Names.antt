-- Imports and exports with their names, and the instances that are made of them.
use Rattle.std.specs.Prelude.{ℕ, List, Option, Some, None, nat_lt, ◌==◌, if◌then◌else◌, Result, Ok, Err}
use Rattle.wcv_syntax.specs.declared.component_type.ComponentTypeRef.{ComponentTypeRef}
use Rattle.wcv_syntax.specs.declared.component_type.ComponentTypeRef.TheVariants as ref
use Rattle.wcv_syntax.specs.declared.component_type.TypeBounds.{TypeBounds}
use Rattle.wcv_syntax.specs.declared.component_type.TypeBounds.TheVariants as bounds
use Rattle.wcv_syntax.specs.declared.instance.ComponentExternalKind.{ComponentExternalKind}
use Rattle.wcv_syntax.specs.declared.instance.ComponentExternalKind.TheVariants as sort
use Rattle.wcv_syntax.specs.declared.instance.ComponentInstantiationArg.{ComponentInstantiationArg}
use Rattle.wcv_syntax.specs.declared.name.ComponentExport.{ComponentExport}
use Rattle.wcv_syntax.specs.declared.name.ComponentExternName.{ComponentExternName}
use Rattle.wcv_syntax.specs.declared.name.ComponentImport.{ComponentImport}
use Rattle.wcv_syntax.specs.Model.{Text, Instance_form, instantiate, bag}
use Rattle.wcv_bytes.specs.declared.fault.Fault.{Fault}
use Rattle.wcv_bytes.specs.declared.fault.Why.TheVariants.{NotName, UnsupportedName}
use Rattle.wcv_bytes.specs.Reading.{◌>>=◌, fault, byte_at, flag_at, u32_at, text_at, vec_at, of_one, of_two}
use Rattle.wcv_binary.specs.Sorts.{sort_at}
use Rattle.wcv_binary.specs.Values.{val_at}

-- ## Names

-- a name with nothing beside it
abbrev pub plain : Text → ComponentExternName
plain name = record { name = name; implements = None; version_suffix = None; external_id = None }

-- a text behind a byte 0 or 1, which mean the same
unfoldable pub name_at : List ℕ → Result (ComponentExternName × List ℕ) Fault
name_at bytes = do
  b ← byte_at bytes
  if nat_lt b.0 2 then of_one text_at plain b.1 else Err (fault (if b.0 == 2 then UnsupportedName else NotName) bytes)

-- ## Written types

-- 0 and the index of an equal type, or 1 for a new resource
unfoldable pub bounds_at : List ℕ → Result (TypeBounds × List ℕ) Fault
bounds_at bytes = do
  sub ← flag_at bytes
  if sub.0 then Ok (bounds.SubResource, sub.1) else of_one u32_at bounds.Eq sub.1

-- what is behind a sort
abbrev pub ref_of : ComponentExternalKind → List ℕ → Result (ComponentTypeRef × List ℕ) Fault
ref_of sort.Module rest = of_one u32_at ref.Module rest
ref_of sort.Func rest = of_one u32_at ref.Func rest
ref_of sort.Value rest = of_one val_at ref.Value rest
ref_of sort.Ty rest = of_one bounds_at ref.Ty rest
ref_of sort.Instance rest = of_one u32_at ref.Instance rest
ref_of sort.Component rest = of_one u32_at ref.Component rest

unfoldable pub ref_at : List ℕ → Result (ComponentTypeRef × List ℕ) Fault
ref_at bytes = do
  kind ← sort_at bytes
  ref_of kind.0 kind.1

-- 0 for none, or 1 and a written type
unfoldable pub optional_ref_at : List ℕ → Result (Option ComponentTypeRef × List ℕ) Fault
optional_ref_at bytes = do
  there ← flag_at bytes
  if there.0 then of_one ref_at Some there.1 else Ok (None, there.1)

-- ## Imports and exports

unfoldable pub import_at : List ℕ → Result (ComponentImport × List ℕ) Fault
import_at bytes = of_two name_at ref_at (λ name ty. record { name = name; ty = ty }) bytes

-- a sort and an index
unfoldable pub item_at : List ℕ → Result ((ComponentExternalKind × ℕ) × List ℕ) Fault
item_at bytes = of_two sort_at u32_at (λ kind index. (kind, index)) bytes

unfoldable pub export_at : List ℕ → Result (ComponentExport × List ℕ) Fault
export_at bytes = do
  name ← name_at bytes
  item ← item_at name.1
  ty ← optional_ref_at item.1
  Ok (record { name = name.0; kind = item.0.0; index = item.0.1; ty = ty.0 }, ty.1)

-- ## Instances

-- an export of an instance that lists its exports
unfoldable pub listed_at : List ℕ → Result (ComponentExport × List ℕ) Fault
listed_at bytes = of_two name_at item_at (λ name item. record { name = name; kind = item.0; index = item.1; ty = None }) bytes

unfoldable pub arg_at : List ℕ → Result (ComponentInstantiationArg × List ℕ) Fault
arg_at bytes = of_two text_at item_at (λ name item. record { name = name; kind = item.0; index = item.1 }) bytes

-- the index of a component and its arguments
unfoldable pub instantiated_at : List ℕ → Result (Instance_form × List ℕ) Fault
instantiated_at bytes = of_two u32_at (vec_at arg_at) instantiate bytes

-- 0 and that, or 1 and a list of exports
unfoldable pub instance_at : List ℕ → Result (Instance_form × List ℕ) Fault
instance_at bytes = do
  listed ← flag_at bytes
  if listed.0 then of_one (vec_at listed_at) bag listed.1 else instantiated_at listed.1
