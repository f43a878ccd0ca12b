-- What is asked of the type of a slot is asked of the slot.
use Rattle.std.proofs.Common.{ℕ, [], ◌∷◌, ◌++◌, not, ⊎_elim}
use Rattle.std.specs.Prelude.{nat_lt}
use Rattle.wcv_core.specs.CoreFeatures.{needs, val_needs}
use Rattle.wcv_core.specs.CoreGroups.{total}
use Rattle.wcv_core.specs.CoreWritten.{val_checks}
use Rattle.wcv_core.specs.Refusal.{error_kind}
use Rattle.wcv_core.specs.declared.core_types.ValType.{ValType}
use Rattle.wcv_core.specs.declared.error.Error.{Error}
use Rattle.wcv_core.specs.declared.error.ErrorKind.{ErrorKind}
use Rattle.wcv_core.specs.declared.error.ErrorKind.TheVariants as error
use Rattle.wcv_core.proofs.Causes.{cause_left, cause_right, cause_either}
use Rattle.wcv_types.specs.Arena.{Arena}
use Rattle.wcv_matching.specs.ItemTests.{same_val}
use Rattle.wcv_flat.specs.Rows as row
use Rattle.wcv_lower.specs.Canons.{slot_type_checks}
use Rattle.wcv_lower.specs.Checks.{Checks, Cause}
use Rattle.wcv_lower.specs.CoreInstances.{test_found}
use Rattle.wcv_lower.specs.CoreItems.{core_entries}
use Rattle.wcv_core.specs.Features.{cm_threading}
use Rattle.wcv_spaces.specs.Contents.{Contents, context_of}
use Rattle.wcv_spaces.specs.Promises.{MemoryOrCausedBy}
use Rattle.wcv_spaces.proofs.Calls.{caused_more}
use Rattle.wcv_canon.specs.Operands.{asked}

inside : (xs ys zs more : Checks) (k : ErrorKind) → Cause (xs ++ (ys ++ zs)) k → Cause (xs ++ (ys ++ (zs ++ more))) k
inside xs ys zs more k c =
    ⊎_elim (λ d. cause_left xs (ys ++ (zs ++ more)) k d)
    (λ d. cause_right xs (ys ++ (zs ++ more)) k (⊎_elim (λ e. cause_left ys (zs ++ more) k e) (λ e. cause_right ys (zs ++ more) k (cause_left zs more k e)) (cause_either ys zs k d)))
    (cause_either xs (ys ++ zs) k c)

module _ (a : Arena) (s : Contents) (v : ValType) (n : ℕ) where
  abbrev looked : Checks
  looked = val_checks (total a.core) (core_entries (context_of a s)) 0 v

  abbrev said : Checks
  said = (error.Context, test_found (λ (w : ValType). not (same_val w v)) s.context_type) ∷ (needs s.features cm_threading (nat_lt 0 n) ++ (error.Context, nat_lt 1 n) ∷ [])

  pub slot_type_caused : {M : Type 0} (offset : ℕ) (e : Error M) → MemoryOrCausedBy (looked ++ (val_needs s.features v ++ slot_type_checks s.features v)) offset e → MemoryOrCausedBy (asked a s (row.slot_of v n)) offset e
  slot_type_caused offset e t =
      caused_more (looked ++ (val_needs s.features v ++ slot_type_checks s.features v)) (looked ++ (val_needs s.features v ++ (slot_type_checks s.features v ++ said))) offset e
      (λ c. inside looked (val_needs s.features v) (slot_type_checks s.features v) said (error_kind e) c) t
