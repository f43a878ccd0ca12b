-- Groups of core types as plain data: lists in place of vectors.
use Rattle.std.specs.Prelude.{List, [], map, Bool, false, Option, None}
use Rattle.wcv_core.specs.declared.core_types.CompositeInnerType.{CompositeInnerType}
use Rattle.wcv_core.specs.declared.core_types.CompositeInnerType.TheVariants as inner
use Rattle.wcv_core.specs.declared.core_types.FieldType.{FieldType}
use Rattle.wcv_core.specs.declared.core_types.RecGroup.{RecGroup}
use Rattle.wcv_core.specs.declared.core_types.SubType.{SubType}
use Rattle.wcv_core.specs.declared.core_types.SuperType.{SuperType}
use Rattle.wcv_core.specs.declared.core_types.ValType.{ValType}

-- the form of a type
pub data CompositeForm : Type 0 where
  func_form : (params results : List ValType) → CompositeForm
  struct_form : (fields : List FieldType) → CompositeForm
  array_form : (field : FieldType) → CompositeForm

-- a type with its place among the others
pub record SubForm : Type 0 where
  pub is_final : Bool
  pub supertype : Option SuperType
  pub shared : Bool
  pub inner : CompositeForm

-- what stands past the end of a list of types
abbrev pub no_type : SubForm
no_type = record { is_final = false; supertype = None; shared = false; inner = struct_form [] }

abbrev pub Group : Type 0
Group = List SubForm

abbrev pub composite_form : CompositeInnerType → CompositeForm
composite_form (inner.Func f) = func_form f.params.items f.results.items
composite_form (inner.Struct s) = struct_form s.fields.items
composite_form (inner.Array a) = array_form a.field

abbrev pub sub_form : SubType → SubForm
sub_form s = record { is_final = s.is_final; supertype = s.supertype; shared = s.shared; inner = composite_form s.inner }

abbrev pub group_form : RecGroup → Group
group_form r = map sub_form r.types.items
