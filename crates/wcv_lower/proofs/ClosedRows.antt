-- A function type that names no core type is its own closed form.
use Rattle.std.proofs.Common.{◌≡◌, List, [], ◌∷◌, map, refl, arith}
use Rattle.std.specs.Prelude.{All, Bool}
use Rattle.std.proofs.lemmas.List.Elements.{All-head, All-tail}
use Rattle.wcv_core.specs.CoreForm.{func_form}
use Rattle.wcv_core.specs.CoreGroups.{IsHeapWithin, IsValWithin}
use Rattle.wcv_core.specs.CoreWritten.{Core_entry, closed_mark, closed_heap, closed_val, closed_group}
use Rattle.wcv_core.specs.declared.core_types.HeapType.{HeapType}
use Rattle.wcv_core.specs.declared.core_types.HeapType.TheVariants as heap
use Rattle.wcv_core.specs.declared.core_types.ValType.{ValType}
use Rattle.wcv_core.specs.declared.core_types.ValType.TheVariants as val
use Rattle.wcv_flat.specs.RowTypes.{sole}
use Rattle.wcv_lower.specs.Canons.{alone}

val_stays : (es : List Core_entry) (v : ValType) → IsValWithin 0 0 v → closed_val es v ≡ v
val_stays es (val.Ref r) w = go r.heap w
  where
    go : (h : HeapType) → IsHeapWithin 0 0 h → val.Ref (record { nullable = r.nullable; shared = closed_mark h r.shared; heap = closed_heap es h }) ≡ val.Ref (record { nullable = r.nullable; shared = r.shared; heap = h })
    go (heap.Abstract a) w = refl
    go (heap.Index k) w = Prim.absurd (omega (arith, w))
    go (heap.Id i) w = Prim.absurd (omega (arith, w))
val_stays es val.I32 w = refl
val_stays es val.I64 w = refl
val_stays es val.F32 w = refl
val_stays es val.F64 w = refl
val_stays es val.V128 w = refl

vals_stay : (es : List Core_entry) (vs : List ValType) → All (IsValWithin 0 0) vs → map (closed_val es) vs ≡ vs
vals_stay es [] h = refl
vals_stay es (v ∷ vs) h = λ j. val_stays es v (All-head (IsValWithin 0 0) v vs h) j ∷ vals_stay es vs (All-tail (IsValWithin 0 0) v vs h) j

pub group_stays : (es : List Core_entry) (b : Bool) (ps rs : List ValType) → All (IsValWithin 0 0) ps → All (IsValWithin 0 0) rs → closed_group es (alone b (func_form ps rs)) ≡ alone b (func_form ps rs)
group_stays es b ps rs h i = λ j. sole b (func_form (vals_stay es ps h j) (vals_stay es rs i j)) ∷ []
