-- A function type that takes and gives nothing is in closed form.
use Rattle.std.proofs.Common.{◌≡◌, ℕ, ◌<◌, refl, sym, subst, arith}
use Rattle.std.specs.Prelude.{[], ◌++◌, Option, None, All, true, false}
use Rattle.std.proofs.lemmas.List.Elements.{All-nil, All-cons}
use Rattle.wcv_core.specs.CoreForm.{CompositeForm, SubForm, func_form}
use Rattle.wcv_core.specs.CoreGroups.{IsClosed, IsValWithin, IsFormWithin}
use Rattle.wcv_core.specs.CoreIds.{composite_ids, super_ids}
use Rattle.wcv_core.specs.declared.core_types.FuncType.{FuncType}
use Rattle.wcv_core.specs.declared.core_types.SuperType.{SuperType}
use Rattle.wcv_types.specs.CoreCalls.{func_group}

empty_within : (n : ℕ) → IsFormWithin n 1 (func_form [] [])
empty_within n = (All-nil (IsValWithin n 1), All-nil (IsValWithin n 1))

form_within : (n : ℕ) (f : CompositeForm) → f ≡ func_form [] [] → IsFormWithin n 1 f
form_within n f e = subst (IsFormWithin n 1) (sym e) (empty_within n)

none_named : (n : ℕ) (o : Option SuperType) (f : CompositeForm) → o ≡ None → f ≡ func_form [] [] → All (λ (i : ℕ). i < n) ((super_ids o ++ composite_ids f) ++ [])
none_named n o f e q = subst (All (λ (i : ℕ). i < n)) (λ j. (super_ids (sym e j) ++ composite_ids (sym q j)) ++ []) (All-nil (λ (i : ℕ). i < n))

pub func_closed : (n : ℕ) (f : FuncType) → func_form f.params.items f.results.items ≡ func_form [] [] → IsClosed n (func_group f)
func_closed n f e = record {
  some = omega arith;
  older = none_named n None (func_form f.params.items f.results.items) refl e;
  ordered = (tt, tt);
  within = All-cons (λ (s : SubForm). IsFormWithin n 1 s.inner) (record { is_final = true; supertype = None; shared = false; inner = func_form f.params.items f.results.items }) []
      (form_within n (func_form f.params.items f.results.items) e) (All-nil (λ (s : SubForm). IsFormWithin n 1 s.inner));
}
