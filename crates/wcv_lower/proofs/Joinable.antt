-- A written group that can be closed has a closed form. With all features none is missing, so that does not go by features.
use Rattle.std.proofs.Common.{◌≡◌, ℕ, ◌<◌, List, [], ◌∷◌, ◌++◌, length, refl, ◌∙◌, ap, Bool, true, false}
use Rattle.std.specs.Prelude.{All, not, ◌&&◌, is_some, eqb}
use Rattle.wcv_core.specs.Checks.{all_checks}
use Rattle.wcv_core.specs.CoreFeatures.{needs, is_gc_name, is_exn_name, heap_needs, val_needs, storage_needs, field_needs, form_needs, sub_needs, group_needs}
use Rattle.wcv_core.specs.CoreForm.{CompositeForm, func_form, struct_form, array_form, SubForm, Group}
use Rattle.wcv_core.specs.CoreGroups.{total, IsClosed}
use Rattle.wcv_core.specs.CoreJoining.{is_free, order_checks}
use Rattle.wcv_core.specs.CoreWritten.{Core_entry, IsKnown, index_checks, closed_group}
use Rattle.wcv_core.specs.Features.{has_feature, simd, function_references, gc, exceptions, shared_everything_threads}
use Rattle.wcv_core.specs.declared.core_types.FieldType.{FieldType}
use Rattle.wcv_core.specs.declared.core_types.HeapType.{HeapType}
use Rattle.wcv_core.specs.declared.core_types.HeapType.TheVariants as heap
use Rattle.wcv_core.specs.declared.core_types.StorageType.{StorageType}
use Rattle.wcv_core.specs.declared.core_types.StorageType.TheVariants as storage
use Rattle.wcv_core.specs.declared.core_types.ValType.{ValType}
use Rattle.wcv_core.specs.declared.core_types.ValType.TheVariants as val
use Rattle.wcv_core.specs.declared.features.WasmFeatures.{WasmFeatures}
use Rattle.wcv_core.proofs.ClosedForms.{written_closed}
use Rattle.wcv_core.proofs.Names.{and_left, and_right}
use Rattle.wcv_lower.specs.Checks.{Checks, IsFree}
use Rattle.wcv_lower.specs.CoreItems.{is_closable}
use Rattle.wcv_lower.proofs.Causes.{free_both}

-- ## No feature is missing

abbrev all : WasmFeatures
all = record { 0 = 255 }

there_and_false : (b : Bool) → (b && false) ≡ false
there_and_false true = refl
there_and_false false = refl

none_missing : (bit : ℕ) (b : Bool) → has_feature all bit ≡ true → IsFree (needs all bit b)
none_missing bit b e = (ap (λ (x : Bool). b && not x) e ∙ there_and_false b, tt)

each_free : {A : Type 0} (f : A → Checks) → ((x : A) → IsFree (f x)) → (xs : List A) → IsFree (all_checks f xs)
each_free f h [] = tt
each_free f h (x ∷ xs) = free_both (f x) (all_checks f xs) (h x) (each_free f h xs)

heap_free : (b : Bool) (h : HeapType) → IsFree (heap_needs all b h)
heap_free b (heap.Abstract a) =
    free_both (needs all gc (is_gc_name a)) (needs all exceptions (is_exn_name a) ++ needs all shared_everything_threads b) (none_missing gc (is_gc_name a) refl)
    (free_both (needs all exceptions (is_exn_name a)) (needs all shared_everything_threads b) (none_missing exceptions (is_exn_name a) refl) (none_missing shared_everything_threads b refl))
heap_free b (heap.Index k) = none_missing function_references true refl
heap_free b (heap.Id i) = none_missing function_references true refl

val_free : (v : ValType) → IsFree (val_needs all v)
val_free val.V128 = none_missing simd true refl
val_free (val.Ref r) = free_both (needs all function_references (not r.nullable)) (heap_needs all r.shared r.heap) (none_missing function_references (not r.nullable) refl) (heap_free r.shared r.heap)
val_free val.I32 = tt
val_free val.I64 = tt
val_free val.F32 = tt
val_free val.F64 = tt

storage_free : (s : StorageType) → IsFree (storage_needs all s)
storage_free (storage.Val v) = val_free v
storage_free storage.I8 = tt
storage_free storage.I16 = tt

field_free : (f : FieldType) → IsFree (field_needs all f)
field_free f = storage_free f.storage

form_free : (f : CompositeForm) → IsFree (form_needs all f)
form_free (func_form ps rs) = free_both (all_checks (val_needs all) ps) (all_checks (val_needs all) rs) (each_free (val_needs all) val_free ps) (each_free (val_needs all) val_free rs)
form_free (struct_form fs) = free_both (needs all gc true) (all_checks (field_needs all) fs) (none_missing gc true refl) (each_free (field_needs all) field_free fs)
form_free (array_form f) = free_both (needs all gc true) (field_needs all f) (none_missing gc true refl) (field_free f)

sub_free : (s : SubForm) → IsFree (sub_needs all s)
sub_free s =
    let shared : Checks = needs all shared_everything_threads s.shared ++ form_needs all s.inner in
    free_both (needs all gc (not s.is_final)) (needs all gc (is_some s.supertype) ++ shared) (none_missing gc (not s.is_final) refl)
    (free_both (needs all gc (is_some s.supertype)) shared (none_missing gc (is_some s.supertype) refl)
    (free_both (needs all shared_everything_threads s.shared) (form_needs all s.inner) (none_missing shared_everything_threads s.shared refl) (form_free s.inner)))

group_free : (w : Group) → IsFree (group_needs all w)
group_free w = free_both (needs all gc (not (eqb (length w) 1))) (all_checks (sub_needs all) w) (none_missing gc (not (eqb (length w) 1)) refl) (each_free (sub_needs all) sub_free w)

-- ## Its closed form

no_cause : (b : Bool) → not b ≡ true → b ≡ false
no_cause false e = refl
no_cause true e = cc

pub told_free : (cs : Checks) → is_free cs ≡ true → IsFree cs
told_free [] e = tt
told_free (c ∷ cs) e = (no_cause c.1 (and_left (not c.1) (is_free cs) e), told_free cs (and_right (not c.1) (is_free cs) e))

pub closable_closed : (gs : List Group) (es : List Core_entry) (w : Group) → All (IsKnown (total gs)) es → 0 < length w → is_closable gs es w ≡ true → IsClosed (total gs) (closed_group es w)
closable_closed gs es w k l e =
    let named : Checks = all_checks (index_checks (total gs) es (length w)) w ++ order_checks (length es) w in
    written_closed all (total gs) es w k l (free_both (group_needs all w) named (group_free w) (told_free named e))
