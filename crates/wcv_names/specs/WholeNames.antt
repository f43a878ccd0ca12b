-- What is asked of a whole name: of the name and of what stands beside it.
use Rattle.std.specs.Prelude.{ℕ, length, Bool, true, false, not, ◌&&◌, ◌||◌, ◌==◌, ◌≡◌, ◌⊎◌, Option, Some, None, is_some, is_none}
use Rattle.wcv_core.specs.Features.{cm_canon_names, cm_implements, cm_accessors, has_feature}
use Rattle.wcv_core.specs.Refusal.{error_kind, error_offset}
use Rattle.wcv_core.specs.declared.error.Error.{Error}
use Rattle.wcv_core.specs.declared.error.ErrorKind.TheVariants as kind
use Rattle.wcv_core.specs.declared.features.WasmFeatures.{WasmFeatures}
use Rattle.wcv_syntax.specs.ExternName.{Form, item, interface, call, is_accessor, access_of}
use Rattle.wcv_syntax.specs.FormOf.{form_of}
use Rattle.wcv_syntax.specs.Versions.{is_versioned}
use Rattle.wcv_syntax.specs.declared.name.ComponentExternName.{ComponentExternName}
use Rattle.wcv_types.specs.Tree.{Text, Extern_name}

abbrev pub extern_name : ComponentExternName → Extern_name
extern_name n = record { name = n.name; implements = n.implements; version_suffix = n.version_suffix; external_id = n.external_id }

-- ## Forms

abbrev pub is_interface : Option Form → Bool
is_interface (Some (interface n p i v)) = true
is_interface o = false

-- a label with no mark
abbrev pub is_bare : Option Form → Bool
is_bare (Some (item call l)) = true
is_bare o = false

abbrev pub version_in : Option Form → Option Text
version_in (Some (interface n p i v)) = v
version_in o = None

-- ## Rules

-- a text that is there and has this
abbrev pub on_text : (Text → Bool) → Option Text → Bool
on_text f None = false
on_text f (Some t) = f t

-- the rest of a version stands at instances alone, is not empty, and stands beside an interface
abbrev pub bad_suffix : Bool → Extern_name → Bool
bad_suffix inst n = on_text (λ s. not inst || ((length s == 0) || not (is_some n.implements || is_interface (form_of n.name)))) n.version_suffix

-- what is implemented stands at instances alone, beside a label with no mark, and is an interface
abbrev pub bad_interface : Bool → Option Form → Text → Bool
bad_interface inst name t = not inst || (not (is_bare name) || not (is_interface (form_of t)))

abbrev pub bad_implements : Bool → Extern_name → Bool
bad_implements inst n = on_text (bad_interface inst (form_of n.name)) n.implements

-- the interface whose version is looked at: what is implemented, or else the name
abbrev pub text_or : Option Text → Text → Text
text_or None t = t
text_or (Some u) t = u

abbrev pub bad_version : Extern_name → Bool
bad_version n = not (is_versioned (version_in (form_of (text_or n.implements n.name))) n.version_suffix)

-- a rule of names is broken; whether the entry is an instance
abbrev pub is_bad_name : Bool → Extern_name → Bool
is_bad_name inst n = is_none (form_of n.name) || (bad_suffix inst n || (bad_implements inst n || bad_version n))

-- ## Features

abbrev pub lacks_accessors : WasmFeatures → Option Form → Bool
lacks_accessors fs None = false
lacks_accessors fs (Some f) = is_accessor (access_of f) && not (has_feature fs cm_accessors)

abbrev pub lacks_canon_names : WasmFeatures → Extern_name → Bool
lacks_canon_names fs n = is_some n.version_suffix && not (has_feature fs cm_canon_names)

-- it says what it implements, or has an id from outside
abbrev pub says_more : Extern_name → Bool
says_more n = is_some n.implements || is_some n.external_id

abbrev pub lacks_implements : WasmFeatures → Extern_name → Bool
lacks_implements fs n = says_more n && not (has_feature fs cm_implements)

-- a feature is missing that the name needs
abbrev pub lacks_feature : WasmFeatures → Extern_name → Bool
lacks_feature fs n = lacks_accessors fs (form_of n.name) || (lacks_canon_names fs n || lacks_implements fs n)

-- ## Refusals

-- a rule of names is broken, or a feature is missing
abbrev pub IsNameFault : {M : Type 0} → Bool → WasmFeatures → Extern_name → Error M → Type 0
IsNameFault inst fs n e = ((error_kind e ≡ kind.Name) × (is_bad_name inst n ≡ true)) ⊎ ((error_kind e ≡ kind.Feature) × (lacks_feature fs n ≡ true))

-- out of memory, or by such a fault at that offset
abbrev pub NameRefused : {M : Type 0} → Bool → WasmFeatures → Extern_name → ℕ → Error M → Type 0
NameRefused inst fs n offset e = (error_kind e ≡ kind.OutOfMemory) ⊎ (IsNameFault inst fs n e × (error_offset e ≡ offset))
