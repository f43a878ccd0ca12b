-- Why a text is refused as a name.
use Rattle.std.specs.Prelude.{not, ◌&&◌, Option, Some, None, if◌then◌else◌}
use Rattle.wcv_core.specs.Features.{cm_accessors, has_feature}
use Rattle.wcv_core.specs.declared.error.ErrorKind.{ErrorKind}
use Rattle.wcv_core.specs.declared.error.ErrorKind.TheVariants as kind
use Rattle.wcv_core.specs.declared.features.WasmFeatures.{WasmFeatures}
use Rattle.wcv_syntax.specs.ExternName.{Text, Form, is_accessor, access_of}
use Rattle.wcv_syntax.specs.FormOf.{form_of}

-- getters and setters need a feature
abbrev pub form_fault : WasmFeatures → Form → Option ErrorKind
form_fault fs f = if is_accessor (access_of f) && not (has_feature fs cm_accessors) then Some kind.Feature else None

abbrev pub fault_in : WasmFeatures → Option Form → Option ErrorKind
fault_in fs None = Some kind.Name
fault_in fs (Some f) = form_fault fs f

abbrev pub name_fault : WasmFeatures → Text → Option ErrorKind
name_fault fs t = fault_in fs (form_of t)
