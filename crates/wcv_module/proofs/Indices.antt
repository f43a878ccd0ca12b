-- Indices of the types of a module.
use Rattle.std.proofs.Common.{◌≡◌, ℕ, zero, suc, ◌<◌, ◌≤◌, List, [], ◌∷◌, length, ◌∙◌, ap, arith, subst, Some, slice_get, true, All}
use Rattle.std.specs.Option.{option_map}
use Rattle.std.proofs.lemmas.Bool.{false≢true}
use Rattle.std.proofs.lemmas.Option.{slice_get-map, slice_get_within, get_or_from_slice_get}
use Rattle.std.proofs.lemmas.List.Elements.{All-get_or}
use Rattle.wcv_core.specs.Checks.{is_none}
use Rattle.wcv_core.specs.CoreWritten.{sub_entry, module_entry, IsKnown}
use Rattle.wcv_core.specs.declared.core_types.CoreTypeId.{CoreTypeId}
use Rattle.wcv_syntax.specs.CoreItems.{type_entry, type_entries}

pub entry_found : (ts : List CoreTypeId) (i : ℕ) (t : CoreTypeId) → slice_get ts i ≡ Some t → slice_get (type_entries ts) i ≡ Some (sub_entry t.index)
entry_found ts i t e = slice_get-map type_entry ts i ∙ ap (option_map type_entry) e

-- each type of the module is one of the table
pub known_at : (n : ℕ) (ts : List CoreTypeId) (i : ℕ) (t : CoreTypeId) → slice_get ts i ≡ Some t → All (IsKnown n) (type_entries ts) → t.index < n
known_at n ts i t e a =
    let f : slice_get (type_entries ts) i ≡ Some (sub_entry t.index) = entry_found ts i t e in
    let h : i < length (type_entries ts) = slice_get_within (type_entries ts) i (sub_entry t.index) f in
    subst (IsKnown n) (get_or_from_slice_get (type_entries ts) i (sub_entry t.index) module_entry f) (All-get_or (IsKnown n) (type_entries ts) i module_entry h a)

pub none_past : {A : Type 0} (xs : List A) (i : ℕ) → is_none (slice_get xs i) ≡ true → length xs ≤ i
none_past [] i e = omega arith
none_past (x ∷ xs) zero e = Prim.absurd (false≢true e)
none_past (x ∷ xs) (suc i) e = omega (arith, none_past xs i e)
