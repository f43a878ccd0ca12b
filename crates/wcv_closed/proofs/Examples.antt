-- A table in which matching does not go on.
use Rattle.std.proofs.Common.{◌≡◌, ℕ, zero, suc, ◌<◌, List, [], ◌∷◌, true, false, Some, None, refl, arith, All}
use Rattle.wcv_core.specs.CoreAbove.{is_declared}
use Rattle.wcv_core.specs.CoreForm.{func_form, struct_form, SubForm, Group}
use Rattle.wcv_core.specs.CoreGroups.{IsValWithin, IsFieldWithin, IsFormWithin}
use Rattle.wcv_core.specs.CoreMatching.{heap_matches}
use Rattle.wcv_core.specs.declared.core_types.AbstractHeap.TheVariants as name
use Rattle.wcv_core.specs.declared.core_types.HeapType.{HeapType}
use Rattle.wcv_core.specs.declared.core_types.HeapType.TheVariants as heap
use Rattle.wcv_core.specs.declared.core_types.SuperType.{SuperType}
use Rattle.wcv_core.specs.declared.core_types.SuperType.TheVariants as super
use Rattle.wcv_closed.specs.ClosedTable.{IsTable}

abbrev open_func : SubForm
open_func = record { is_final = false; supertype = None; shared = false; inner = func_form [] [] }

abbrev struct_below : SuperType → SubForm
struct_below s = record { is_final = false; supertype = Some s; shared = false; inner = struct_form [] }

abbrev at_id : ℕ → HeapType
at_id i = heap.Id (record { index = i })

-- a struct type that declares a function type as its supertype
abbrev mixed_forms : List Group
mixed_forms = (open_func ∷ []) ∷ (struct_below (super.Id (record { index = 0 })) ∷ []) ∷ []

no_elements : {A : Type 0} (P : A → Type 0) → All P []
no_elements P k d l = Prim.absurd (omega arith)

one_element : {A : Type 0} (P : A → Type 0) (x : A) → P x → All P (x ∷ [])
one_element P x p zero d l = p
one_element P x p (suc k) d l = Prim.absurd (omega arith)

abbrev IsWithin : ℕ → ℕ → SubForm → Type 0
IsWithin n len s = IsFormWithin n len s.inner

pub mixed_table : IsTable mixed_forms
mixed_table = record {
  closed = (
    record {
      some = omega arith;
      older = no_elements (λ i. i < 0);
      ordered = (tt, tt);
      within = one_element (IsWithin 0 1) open_func (no_elements (IsValWithin 0 1), no_elements (IsValWithin 0 1));
    },
    (
      record {
        some = omega arith;
        older = one_element (λ i. i < 1) 0 (omega arith);
        ordered = (omega arith, tt);
        within = one_element (IsWithin 1 1) (struct_below (super.Id (record { index = 0 }))) (no_elements (IsFieldWithin 1 1));
      },
      tt,
    ),
  );
  distinct = (refl, (refl, tt));
}

pub mixed_first : heap_matches mixed_forms (at_id 1) (at_id 0) ≡ true
unfolding is_declared
mixed_first = refl

pub mixed_second : heap_matches mixed_forms (at_id 0) (heap.Abstract name.Func) ≡ true
mixed_second = refl

pub mixed_both : heap_matches mixed_forms (at_id 1) (heap.Abstract name.Func) ≡ false
mixed_both = refl

pub mixed_example : (gs : List Group) × (a : HeapType) × (b : HeapType) × (c : HeapType) × IsTable gs × (heap_matches gs a b ≡ true) × (heap_matches gs b c ≡ true) × (heap_matches gs a c ≡ false)
mixed_example = (mixed_forms, at_id 1, at_id 0, heap.Abstract name.Func, mixed_table, mixed_first, mixed_second, mixed_both)
