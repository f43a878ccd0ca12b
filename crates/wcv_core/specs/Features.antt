-- The features: of each its name in a listing, its name in Rust, and the bit that stands for it.
use Rattle.std.specs.Prelude.{ℕ, ◌+◌, List, [], ◌∷◌, map, codes, Bool, ◌==◌, if◌then◌else◌, bit_and}
use Rattle.wcv_core.specs.declared.features.WasmFeatures.{WasmFeatures}

-- ## Bits

abbrev pub simd : ℕ
simd = 1

abbrev pub threads : ℕ
threads = 2

abbrev pub function_references : ℕ
function_references = 4

abbrev pub gc : ℕ
gc = 8

abbrev pub exceptions : ℕ
exceptions = 16

abbrev pub memory64 : ℕ
memory64 = 32

abbrev pub custom_page_sizes : ℕ
custom_page_sizes = 64

abbrev pub shared_everything_threads : ℕ
shared_everything_threads = 128

abbrev pub cm_async : ℕ
cm_async = 256

abbrev pub cm_async_stackful : ℕ
cm_async_stackful = 512

abbrev pub cm_more_async_builtins : ℕ
cm_more_async_builtins = 1024

abbrev pub cm_forward : ℕ
cm_forward = 2048

abbrev pub cm_threading : ℕ
cm_threading = 4096

abbrev pub cm64 : ℕ
cm64 = 8192

abbrev pub cm_values : ℕ
cm_values = 16384

abbrev pub cm_map : ℕ
cm_map = 32768

abbrev pub cm_fixed_length_lists : ℕ
cm_fixed_length_lists = 65536

abbrev pub cm_error_context : ℕ
cm_error_context = 131072

abbrev pub cm_canon_names : ℕ
cm_canon_names = 262144

abbrev pub cm_implements : ℕ
cm_implements = 524288

abbrev pub cm_accessors : ℕ
cm_accessors = 1048576

-- ## Names

pub record Feature : Type 0 where
  pub name : List ℕ
  pub flag : List ℕ
  pub bit : ℕ

abbrev named : List ℕ → List ℕ → ℕ → Feature
named n f b = record { name = n; flag = f; bit = b }

-- all features, in the order of their bits
abbrev pub features : List Feature
features =
    named (codes "simd") (codes "SIMD") simd
    ∷ named (codes "threads") (codes "THREADS") threads
    ∷ named (codes "function-references") (codes "FUNCTION_REFERENCES") function_references
    ∷ named (codes "gc") (codes "GC") gc
    ∷ named (codes "exceptions") (codes "EXCEPTIONS") exceptions
    ∷ named (codes "memory64") (codes "MEMORY64") memory64
    ∷ named (codes "custom-page-sizes") (codes "CUSTOM_PAGE_SIZES") custom_page_sizes
    ∷ named (codes "shared-everything-threads") (codes "SHARED_EVERYTHING_THREADS") shared_everything_threads
    ∷ named (codes "cm-async") (codes "CM_ASYNC") cm_async
    ∷ named (codes "cm-async-stackful") (codes "CM_ASYNC_STACKFUL") cm_async_stackful
    ∷ named (codes "cm-more-async-builtins") (codes "CM_MORE_ASYNC_BUILTINS") cm_more_async_builtins
    ∷ named (codes "cm-forward") (codes "CM_FORWARD") cm_forward
    ∷ named (codes "cm-threading") (codes "CM_THREADING") cm_threading
    ∷ named (codes "cm64") (codes "CM64") cm64
    ∷ named (codes "cm-values") (codes "CM_VALUES") cm_values
    ∷ named (codes "cm-map") (codes "CM_MAP") cm_map
    ∷ named (codes "cm-fixed-length-lists") (codes "CM_FIXED_LENGTH_LISTS") cm_fixed_length_lists
    ∷ named (codes "cm-error-context") (codes "CM_ERROR_CONTEXT") cm_error_context
    ∷ named (codes "cm-canon-names") (codes "CM_CANON_NAMES") cm_canon_names
    ∷ named (codes "cm-implements") (codes "CM_IMPLEMENTS") cm_implements
    ∷ named (codes "cm-accessors") (codes "CM_ACCESSORS") cm_accessors ∷ []

-- by their names in Rust
abbrev pub feature_bits : List (List ℕ × ℕ)
feature_bits = map (λ f. (f.flag, f.bit)) features

-- by their names in a listing
abbrev pub feature_names : List (List ℕ × ℕ)
feature_names = map (λ f. (f.name, f.bit)) features

-- the name that stands beside the bit, or no text where none does
abbrev pub name_in : List (List ℕ × ℕ) → ℕ → List ℕ
name_in [] bit = []
name_in (row ∷ rows) bit = if row.1 == bit then row.0 else name_in rows bit

-- ## Sets

-- the set that holds where a listing names none
abbrev pub default_features : WasmFeatures
default_features = record { 0 = simd + threads + function_references + gc + exceptions + memory64 + cm_async }

-- the set has the feature, by its bit
abbrev pub has_feature : WasmFeatures → ℕ → Bool
has_feature fs bit = bit_and fs.0 bit == bit
