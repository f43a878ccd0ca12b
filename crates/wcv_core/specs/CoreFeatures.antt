-- The features that core types need, and the limits on their lists.
use Rattle.wcv_core.specs.Limits.{max_list, max_params}
use Rattle.std.specs.Prelude.{ℕ, List, [], ◌∷◌, ◌++◌, length, Bool, true, false, ◌&&◌, not, eqb, is_some, codes}
use Rattle.wcv_core.specs.Checks.{Checks, all_checks, too_many}
use Rattle.wcv_core.specs.CoreForm.{CompositeForm, func_form, struct_form, array_form, SubForm, Group}
use Rattle.wcv_core.specs.Features.{simd, function_references, gc, exceptions, shared_everything_threads, has_feature}
use Rattle.wcv_core.specs.declared.core_types.AbstractHeap.{AbstractHeap}
use Rattle.wcv_core.specs.declared.core_types.AbstractHeap.TheVariants as name
use Rattle.wcv_core.specs.declared.core_types.FieldType.{FieldType}
use Rattle.wcv_core.specs.declared.core_types.HeapType.{HeapType}
use Rattle.wcv_core.specs.declared.core_types.HeapType.TheVariants as heap
use Rattle.wcv_core.specs.declared.core_types.RefType.{RefType}
use Rattle.wcv_core.specs.declared.core_types.StorageType.{StorageType}
use Rattle.wcv_core.specs.declared.core_types.StorageType.TheVariants as storage
use Rattle.wcv_core.specs.declared.core_types.ValType.{ValType}
use Rattle.wcv_core.specs.declared.core_types.ValType.TheVariants as val
use Rattle.wcv_core.specs.declared.error.ErrorKind.TheVariants as kind
use Rattle.wcv_core.specs.declared.features.WasmFeatures.{WasmFeatures}

-- a feature is missing that something needs, if it is there
abbrev pub needs : WasmFeatures → ℕ → Bool → Checks
needs fs bit there = (kind.Feature, there && not (has_feature fs bit)) ∷ []

-- ## Value types

abbrev pub is_gc_name : AbstractHeap → Bool
is_gc_name name.Func = false
is_gc_name name.Extern = false
is_gc_name name.Exn = false
is_gc_name name.NoExn = false
is_gc_name _ = true

abbrev pub is_exn_name : AbstractHeap → Bool
is_exn_name name.Exn = true
is_exn_name name.NoExn = true
is_exn_name _ = false

-- a heap, and the own mark of the reference to it
abbrev pub heap_needs : WasmFeatures → Bool → HeapType → Checks
heap_needs fs shared (heap.Abstract a) = needs fs gc (is_gc_name a) ++ (needs fs exceptions (is_exn_name a) ++ needs fs shared_everything_threads shared)
heap_needs fs shared _ = needs fs function_references true

abbrev pub ref_needs : WasmFeatures → RefType → Checks
ref_needs fs r = needs fs function_references (not r.nullable) ++ heap_needs fs r.shared r.heap

abbrev pub val_needs : WasmFeatures → ValType → Checks
val_needs fs val.V128 = needs fs simd true
val_needs fs (val.Ref r) = ref_needs fs r
val_needs fs _ = []

-- ## Forms

abbrev pub storage_needs : WasmFeatures → StorageType → Checks
storage_needs fs (storage.Val v) = val_needs fs v
storage_needs fs _ = []

abbrev pub field_needs : WasmFeatures → FieldType → Checks
field_needs fs f = storage_needs fs f.storage

abbrev pub form_needs : WasmFeatures → CompositeForm → Checks
form_needs fs (func_form ps rs) = all_checks (val_needs fs) ps ++ all_checks (val_needs fs) rs
form_needs fs (struct_form ts) = needs fs gc true ++ all_checks (field_needs fs) ts
form_needs fs (array_form t) = needs fs gc true ++ field_needs fs t

abbrev pub sub_needs : WasmFeatures → SubForm → Checks
sub_needs fs s = needs fs gc (not s.is_final) ++ (needs fs gc (is_some s.supertype) ++ (needs fs shared_everything_threads s.shared ++ form_needs fs s.inner))

abbrev pub group_needs : WasmFeatures → Group → Checks
group_needs fs w = needs fs gc (not (eqb (length w) 1)) ++ all_checks (sub_needs fs) w

-- ## Limits on lists, which the interning of a group leaves to its caller

abbrev pub form_left : CompositeForm → Checks
form_left (func_form ps rs) = too_many max_params (length ps) ++ too_many max_params (length rs)
form_left (struct_form ts) = too_many max_list (length ts)
form_left (array_form t) = []

abbrev pub sub_left : SubForm → Checks
sub_left s = form_left s.inner

abbrev pub group_left : Group → Checks
group_left w = too_many max_list (length w) ++ all_checks sub_left w

-- ## Words

-- heaps that are named by words, as the program writes them
abbrev pub heap_word : AbstractHeap → List ℕ
heap_word name.Func = codes "func"
heap_word name.NoFunc = codes "nofunc"
heap_word name.Extern = codes "extern"
heap_word name.NoExtern = codes "noextern"
heap_word name.Any = codes "any"
heap_word name.Eq = codes "eq"
heap_word name.I31 = codes "i31"
heap_word name.Struct = codes "struct"
heap_word name.Array = codes "array"
heap_word name.None = codes "none"
heap_word name.Exn = codes "exn"
heap_word name.NoExn = codes "noexn"
