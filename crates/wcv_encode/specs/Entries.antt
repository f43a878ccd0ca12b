-- Names, imports, exports, aliases and instances as bytes.
use Rattle.std.specs.Prelude.{ℕ, [], ◌∷◌, Option, Some, None}
use Rattle.wcv_syntax.specs.declared.component_type.ComponentTypeRef.{ComponentTypeRef}
use Rattle.wcv_syntax.specs.declared.component_type.ComponentTypeRef.TheVariants as ref
use Rattle.wcv_syntax.specs.declared.component_type.TypeBounds.{TypeBounds}
use Rattle.wcv_syntax.specs.declared.component_type.TypeBounds.TheVariants as bound
use Rattle.wcv_syntax.specs.declared.core_section.Export.{Export}
use Rattle.wcv_syntax.specs.declared.core_section.ExternalKind.{ExternalKind}
use Rattle.wcv_syntax.specs.declared.core_section.ExternalKind.TheVariants as code
use Rattle.wcv_syntax.specs.declared.core_section.InstantiationArg.{InstantiationArg}
use Rattle.wcv_syntax.specs.declared.instance.ComponentAlias.{ComponentAlias}
use Rattle.wcv_syntax.specs.declared.instance.ComponentAlias.TheVariants as alias
use Rattle.wcv_syntax.specs.declared.instance.ComponentExternalKind.{ComponentExternalKind}
use Rattle.wcv_syntax.specs.declared.instance.ComponentExternalKind.TheVariants as kind
use Rattle.wcv_syntax.specs.declared.instance.ComponentInstantiationArg.{ComponentInstantiationArg}
use Rattle.wcv_syntax.specs.declared.instance.ComponentOuterAliasKind.{ComponentOuterAliasKind}
use Rattle.wcv_syntax.specs.declared.instance.ComponentOuterAliasKind.TheVariants as outer
use Rattle.wcv_syntax.specs.declared.name.ComponentExport.{ComponentExport}
use Rattle.wcv_syntax.specs.declared.name.ComponentExternName.{ComponentExternName}
use Rattle.wcv_syntax.specs.declared.name.ComponentImport.{ComponentImport}
use Rattle.wcv_syntax.specs.Model.{Text, Core_instance_form, core_instantiate, core_bag, Instance_form, instantiate, bag}
use Rattle.wcv_encode.specs.Bytes.{Bytes, ◌⧺◌, byte, u32_bytes, text, vec, maybe}
use Rattle.wcv_encode.specs.Values.{value_bytes}

-- ## Sorts

unfoldable pub sort : ComponentExternalKind → Bytes
sort kind.Module = Some (0x00 ∷ 0x11 ∷ [])
sort kind.Func = byte 0x01
sort kind.Value = byte 0x02
sort kind.Ty = byte 0x03
sort kind.Component = byte 0x04
sort kind.Instance = byte 0x05

unfoldable pub core_sort : ExternalKind → ℕ
core_sort code.Func = 0x00
core_sort code.Table = 0x01
core_sort code.Memory = 0x02
core_sort code.Global = 0x03
core_sort code.Tag = 0x04

unfoldable pub outer_sort : ComponentOuterAliasKind → Bytes
outer_sort outer.CoreType = Some (0x00 ∷ 0x10 ∷ [])
outer_sort outer.CoreModule = Some (0x00 ∷ 0x11 ∷ [])
outer_sort outer.Ty = byte 0x03
outer_sort outer.Component = byte 0x04

-- ## Names, imports and exports

-- a name with something beside it has no bytes
unfoldable pub name_form : Text → (implements suffix id : Option Text) → Bytes
name_form n None None None = byte 0 ⧺ text n
name_form n implements suffix id = None

abbrev pub name_bytes : ComponentExternName → Bytes
name_bytes n = name_form n.name n.implements n.version_suffix n.external_id

unfoldable pub bounds : TypeBounds → Bytes
bounds (bound.Eq i) = byte 0 ⧺ u32_bytes i
bounds bound.SubResource = byte 1

unfoldable pub ref_of : ComponentTypeRef → Bytes
ref_of (ref.Module i) = Some (0x00 ∷ 0x11 ∷ []) ⧺ u32_bytes i
ref_of (ref.Func i) = byte 0x01 ⧺ u32_bytes i
ref_of (ref.Value v) = byte 0x02 ⧺ value_bytes v
ref_of (ref.Ty b) = byte 0x03 ⧺ bounds b
ref_of (ref.Component i) = byte 0x04 ⧺ u32_bytes i
ref_of (ref.Instance i) = byte 0x05 ⧺ u32_bytes i

unfoldable pub import_bytes : ComponentImport → Bytes
import_bytes i = name_bytes i.name ⧺ ref_of i.ty

-- the name of an export and the item that is exported
unfoldable pub exported : ComponentExport → Bytes
exported e = name_bytes e.name ⧺ sort e.kind ⧺ u32_bytes e.index

unfoldable pub export_bytes : ComponentExport → Bytes
export_bytes e = exported e ⧺ maybe ref_of e.ty

-- ## Aliases

unfoldable pub alias_bytes : ComponentAlias → Bytes
alias_bytes (alias.InstanceExport k i n) = sort k ⧺ byte 0x00 ⧺ u32_bytes i ⧺ text n
alias_bytes (alias.CoreInstanceExport k i n) = byte 0x00 ⧺ byte (core_sort k) ⧺ byte 0x01 ⧺ u32_bytes i ⧺ text n
alias_bytes (alias.Outer k n i) = outer_sort k ⧺ byte 0x02 ⧺ u32_bytes n ⧺ u32_bytes i

-- ## Instances

unfoldable pub core_arg : InstantiationArg → Bytes
core_arg a = text a.name ⧺ byte 0x12 ⧺ u32_bytes a.index

unfoldable pub core_export : Export → Bytes
core_export e = text e.name ⧺ byte (core_sort e.kind) ⧺ u32_bytes e.index

unfoldable pub core_instance_bytes : Core_instance_form → Bytes
core_instance_bytes (core_instantiate m args) = byte 0x00 ⧺ u32_bytes m ⧺ vec core_arg args
core_instance_bytes (core_bag es) = byte 0x01 ⧺ vec core_export es

unfoldable pub arg_bytes : ComponentInstantiationArg → Bytes
arg_bytes a = text a.name ⧺ sort a.kind ⧺ u32_bytes a.index

-- an export of an instance that is made of items is given no type
unfoldable pub untyped : Option ComponentTypeRef → Bytes → Bytes
untyped None b = b
untyped (Some t) b = None

abbrev pub bag_export : ComponentExport → Bytes
bag_export e = untyped e.ty (exported e)

unfoldable pub instance_bytes : Instance_form → Bytes
instance_bytes (instantiate c args) = byte 0x00 ⧺ u32_bytes c ⧺ vec arg_bytes args
instance_bytes (bag es) = byte 0x01 ⧺ vec bag_export es
