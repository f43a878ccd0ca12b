-- The nodes of function types, from value types that were looked up.
use Rattle.std.proofs.Common.{◌≡◌, ℕ, List, [], ◌∷◌, ◌++◌, map, refl, sym, ◌∙◌, ap, subst, inl, inr}
use Rattle.std.specs.Prelude.{Option, ◌⊎◌}
use Rattle.wcv_core.specs.Refusal.{error_kind}
use Rattle.wcv_core.specs.declared.error.Error.{Error}
use Rattle.wcv_core.specs.declared.error.ErrorKind.{ErrorKind}
use Rattle.wcv_core.specs.declared.features.WasmFeatures.{WasmFeatures}
use Rattle.wcv_syntax.specs.Model.{Func_form}
use Rattle.wcv_types.specs.Arena.{Arena}
use Rattle.wcv_types.specs.Tree.{Text, here, label}
use Rattle.wcv_types.specs.Unfold.{Slots, value_slot, option_slot, value_slots, field_slots}
use Rattle.wcv_types.specs.declared.shapes.ComponentValType.{ComponentValType}
use Rattle.wcv_types.proofs.Knowing.{fields_behind}
use Rattle.wcv_lower.specs.Checks.{Checks, Cause, IsFree}
use Rattle.wcv_lower.specs.Trees.{Tree_context}
use Rattle.wcv_lower.specs.Types.{func_parts}
use Rattle.wcv_lower.specs.Values.{Written_parts, option_checks, parts_checks}
use Rattle.wcv_lower.proofs.Causes.{cause_left, cause_right, cause_either}
use Rattle.wcv_spaces.specs.Promises.{MemoryOrCausedBy}
use Rattle.wcv_spaces.proofs.Calls.{caused_more}
use Rattle.wcv_decls.specs.Resolved.{IsOption, AreSlots, written_field, field_part}
use Rattle.wcv_decls.proofs.Looking.{are_slots_push, free_push, cause_in}

fields_are : (fs : List (Text × ComponentValType)) → field_slots fs [] ≡ value_slots (map field_part fs)
fields_are [] = refl
fields_are (f ∷ fs) = ap (λ (ss : Slots). (label f.0, value_slot f.1) ∷ ss) (fields_are fs)

pub func_slots : (a : Arena) (c : Tree_context) (f : Func_form) (fs : List (Text × ComponentValType)) (v : Option ComponentValType) → AreSlots a c (map written_field f.params) (value_slots (map field_part fs)) → IsOption a c f.result v →
    AreSlots a c (func_parts f) (field_slots fs ((here, option_slot v) ∷ []))
func_slots a c f fs v h o =
    subst (AreSlots a c (func_parts f)) (sym (fields_behind fs (here, option_slot v) ∙ ap (λ (ss : Slots). ss ++ (here, option_slot v) ∷ []) (fields_are fs)))
    (are_slots_push a c (map written_field f.params) (value_slots (map field_part fs)) (here, f.result) v h o)

pub func_free : (fs : WasmFeatures) (c : Tree_context) (f : Func_form) → IsFree (parts_checks fs c (map written_field f.params)) → IsFree (option_checks fs c f.result) → IsFree (parts_checks fs c (func_parts f))
func_free fs c f h o = free_push fs c (map written_field f.params) (here, f.result) h o

cause_before : (fs : WasmFeatures) (c : Tree_context) (ps qs : Written_parts) (k : ErrorKind) → Cause (parts_checks fs c ps) k → Cause (parts_checks fs c (ps ++ qs)) k
cause_before fs c [] qs k h = absurd h
cause_before fs c (p ∷ ps) qs k h = go (cause_either (option_checks fs c p.1) (parts_checks fs c ps) k h) (cause_before fs c ps qs k)
  where
    go : Cause (option_checks fs c p.1) k ⊎ Cause (parts_checks fs c ps) k → (Cause (parts_checks fs c ps) k → Cause (parts_checks fs c (ps ++ qs)) k) → Cause (parts_checks fs c (p ∷ (ps ++ qs))) k
    go (inl x) more = cause_left (option_checks fs c p.1) (parts_checks fs c (ps ++ qs)) k x
    go (inr x) more = cause_right (option_checks fs c p.1) (parts_checks fs c (ps ++ qs)) k (more x)

pub params_caused : {M : Type 0} (fs : WasmFeatures) (c : Tree_context) (f : Func_form) (ds : Checks) (offset : ℕ) (e : Error M) → MemoryOrCausedBy (parts_checks fs c (map written_field f.params)) offset e → MemoryOrCausedBy (parts_checks fs c (func_parts f) ++ ds) offset e
params_caused fs c f ds offset e t =
    caused_more (parts_checks fs c (map written_field f.params)) (parts_checks fs c (func_parts f) ++ ds) offset e
    (λ k. cause_left (parts_checks fs c (func_parts f)) ds (error_kind e) (cause_before fs c (map written_field f.params) ((here, f.result) ∷ []) (error_kind e) k)) t

pub gives_caused : {M : Type 0} (fs : WasmFeatures) (c : Tree_context) (f : Func_form) (ds : Checks) (offset : ℕ) (e : Error M) → MemoryOrCausedBy (option_checks fs c f.result) offset e → MemoryOrCausedBy (parts_checks fs c (func_parts f) ++ ds) offset e
gives_caused fs c f ds offset e t =
    caused_more (option_checks fs c f.result) (parts_checks fs c (func_parts f) ++ ds) offset e
    (λ k. cause_left (parts_checks fs c (func_parts f)) ds (error_kind e) (cause_in fs c (map written_field f.params) (here, f.result) [] (error_kind e) k)) t

pub behind_caused : {M : Type 0} (fs : WasmFeatures) (c : Tree_context) (f : Func_form) (ds : Checks) (offset : ℕ) (e : Error M) → MemoryOrCausedBy ds offset e → MemoryOrCausedBy (parts_checks fs c (func_parts f) ++ ds) offset e
behind_caused fs c f ds offset e t = caused_more ds (parts_checks fs c (func_parts f) ++ ds) offset e (cause_right (parts_checks fs c (func_parts f)) ds (error_kind e)) t
