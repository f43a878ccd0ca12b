-- Core value types.
use Rattle.std.specs.Prelude.{ℕ, List, [], ◌∷◌, Bool, false, if◌then◌else◌, Option, None, option_map, option_and_then, codes}
use Rattle.serde_json.specs.Data.{Data}
use Rattle.serde_json.specs.Find.{as_str, get}
use Rattle.wcv_core.specs.declared.core_types.AbstractHeap.{AbstractHeap}
use Rattle.wcv_core.specs.declared.core_types.AbstractHeap.TheVariants as heap
use Rattle.wcv_core.specs.declared.core_types.HeapType.{HeapType}
use Rattle.wcv_core.specs.declared.core_types.HeapType.TheVariants.{Abstract, Index}
use Rattle.wcv_core.specs.declared.core_types.RefType.{RefType}
use Rattle.wcv_core.specs.declared.core_types.ValType.{ValType}
use Rattle.wcv_core.specs.declared.core_types.ValType.TheVariants as val
use Rattle.wcv_listing.specs.Fields.{both, named, has_only, index, text_or, mark}

-- those that are no references, by their names
abbrev pub number_names : List (List ℕ × ValType)
number_names =
    (codes "i32", val.I32) ∷ (codes "i64", val.I64) ∷ (codes "f32", val.F32) ∷ (codes "f64", val.F64) ∷ (codes "v128", val.V128) ∷ []

-- heap types by their names
abbrev pub heap_names : List (List ℕ × AbstractHeap)
heap_names =
    (codes "func", heap.Func)
    ∷ (codes "nofunc", heap.NoFunc)
    ∷ (codes "extern", heap.Extern)
    ∷ (codes "noextern", heap.NoExtern)
    ∷ (codes "any", heap.Any)
    ∷ (codes "eq", heap.Eq)
    ∷ (codes "i31", heap.I31)
    ∷ (codes "struct", heap.Struct)
    ∷ (codes "array", heap.Array)
    ∷ (codes "none", heap.None)
    ∷ (codes "exn", heap.Exn)
    ∷ (codes "noexn", heap.NoExn) ∷ []

abbrev pub named_heap : Data → Option HeapType
named_heap d = option_map Abstract (option_and_then (named heap_names) (as_str d))

-- a heap type by its name, or a core type by its index
abbrev pub heap_of : Data → Option HeapType
heap_of d = text_or (λ name. option_map Abstract (named heap_names name)) (option_map Index (index d)) (as_str d)

-- {"ref": heap, "null": Boolean}, or {"ref": heap name, "null": Boolean, "shared": Boolean}; a mark may be absent
abbrev pub ref_type_of : Data → Option RefType
ref_type_of d =
    if has_only (codes "ref" ∷ codes "null" ∷ []) d
    then both (λ (h : HeapType) (n : Bool). record { nullable = n; shared = false; heap = h }) (option_and_then heap_of (get (codes "ref") d)) (mark (get (codes "null") d))
    else if has_only (codes "ref" ∷ codes "null" ∷ codes "shared" ∷ []) d
    then both (λ (h : HeapType) (marks : Bool × Bool). record { nullable = marks.0; shared = marks.1; heap = h }) (option_and_then named_heap (get (codes "ref") d))
    (both (λ (n s : Bool). (n, s)) (mark (get (codes "null") d)) (mark (get (codes "shared") d)))
    else None

-- a core value type
abbrev pub core_value_of : Data → Option ValType
core_value_of d = text_or (named number_names) (option_map val.Ref (ref_type_of d)) (as_str d)
