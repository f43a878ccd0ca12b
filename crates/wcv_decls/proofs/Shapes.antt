-- The nodes of defined types, from value types that were looked up.
use Rattle.std.proofs.Common.{◌≡◌, ℕ, List, [], ◌∷◌, ◌++◌, sym, subst, Some}
use Rattle.std.specs.Prelude.{Option}
use Rattle.wcv_core.specs.Refusal.{error_kind}
use Rattle.wcv_core.specs.declared.error.Error.{Error}
use Rattle.wcv_core.specs.declared.features.WasmFeatures.{WasmFeatures}
use Rattle.wcv_syntax.specs.declared.component_type.ComponentValType.{ComponentValType as Written_value}
use Rattle.wcv_types.specs.Arena.{Arena}
use Rattle.wcv_types.specs.Tree.{Role, here}
use Rattle.wcv_types.specs.Unfold.{option_slot}
use Rattle.wcv_types.specs.declared.shapes.ComponentValType.{ComponentValType}
use Rattle.wcv_lower.specs.Checks.{Checks, IsFree, if_found}
use Rattle.wcv_lower.specs.Trees.{Type_tree, Tree_context}
use Rattle.wcv_lower.specs.Values.{option_checks, parts_checks}
use Rattle.wcv_lower.proofs.Causes.{cause_left, cause_right, free_both}
use Rattle.wcv_spaces.specs.Promises.{MemoryOrCausedBy}
use Rattle.wcv_spaces.proofs.Calls.{caused_more}
use Rattle.wcv_decls.specs.Resolved.{IsOption, AreSlots}
use Rattle.wcv_decls.proofs.Looking.{are_no_slots, are_slots_push}

module _ (a : Arena) (c : Tree_context) (fs : WasmFeatures) where
  -- ## Slots

  pub one_slot : (o : Option Written_value) (v : Option ComponentValType) → IsOption a c o v → AreSlots a c ((here, o) ∷ []) ((here, option_slot v) ∷ [])
  one_slot o v h = are_slots_push a c [] [] (here, o) v (are_no_slots a c) h

  pub two_slots : (o p : Option Written_value) (v w : Option ComponentValType) → IsOption a c o v → IsOption a c p w → AreSlots a c ((here, o) ∷ (here, p) ∷ []) ((here, option_slot v) ∷ (here, option_slot w) ∷ [])
  two_slots o p v w h k = are_slots_push a c ((here, o) ∷ []) ((here, option_slot v) ∷ []) (here, p) w (one_slot o v h) k

  -- ## One value type, and two

  pub one_free : (o : Option Written_value) → IsFree (option_checks fs c o) → IsFree (parts_checks fs c ((here, o) ∷ []))
  one_free o h = free_both (option_checks fs c o) [] h tt

  pub two_free : (o p : Option Written_value) → IsFree (option_checks fs c o) → IsFree (option_checks fs c p) → IsFree (parts_checks fs c ((here, o) ∷ (here, p) ∷ []))
  two_free o p h k = free_both (option_checks fs c o) (option_checks fs c p ++ []) h (one_free p k)

  -- the looked-up checks of a list of parts, and what stands behind them
  pub looked_up : {M : Type 0} (ps : List (Role × Option Written_value)) (ds : Checks) (offset : ℕ) (e : Error M) → MemoryOrCausedBy (parts_checks fs c ps) offset e → MemoryOrCausedBy (parts_checks fs c ps ++ ds) offset e
  looked_up ps ds offset e t = caused_more (parts_checks fs c ps) (parts_checks fs c ps ++ ds) offset e (cause_left (parts_checks fs c ps) ds (error_kind e)) t

  pub one_caused : {M : Type 0} (o : Option Written_value) (offset : ℕ) (e : Error M) → MemoryOrCausedBy (option_checks fs c o) offset e → MemoryOrCausedBy (parts_checks fs c ((here, o) ∷ [])) offset e
  one_caused o offset e t = caused_more (option_checks fs c o) (parts_checks fs c ((here, o) ∷ [])) offset e (cause_left (option_checks fs c o) [] (error_kind e)) t

  pub first_caused : {M : Type 0} (o p : Option Written_value) (offset : ℕ) (e : Error M) → MemoryOrCausedBy (option_checks fs c o) offset e → MemoryOrCausedBy (parts_checks fs c ((here, o) ∷ (here, p) ∷ [])) offset e
  first_caused o p offset e t =
      caused_more (option_checks fs c o) (parts_checks fs c ((here, o) ∷ (here, p) ∷ [])) offset e (cause_left (option_checks fs c o) (parts_checks fs c ((here, p) ∷ [])) (error_kind e)) t

  pub second_caused : {M : Type 0} (o p : Option Written_value) (offset : ℕ) (e : Error M) → MemoryOrCausedBy (option_checks fs c p) offset e → MemoryOrCausedBy (parts_checks fs c ((here, o) ∷ (here, p) ∷ [])) offset e
  second_caused o p offset e t =
      caused_more (parts_checks fs c ((here, p) ∷ [])) (parts_checks fs c ((here, o) ∷ (here, p) ∷ [])) offset e (cause_right (option_checks fs c o) (parts_checks fs c ((here, p) ∷ [])) (error_kind e)) (one_caused p offset e t)

  -- ## What was found

  pub found_free : (cs : Type_tree → Checks) (o : Option Type_tree) (t : Type_tree) → o ≡ Some t → IsFree (cs t) → IsFree (if_found cs o)
  found_free cs o t e h = subst (λ (p : Option Type_tree). IsFree (if_found cs p)) (sym e) h

  pub found_caused : {M : Type 0} (cs : Type_tree → Checks) (o : Option Type_tree) (t : Type_tree) (offset : ℕ) (e : Error M) → o ≡ Some t → MemoryOrCausedBy (cs t) offset e → MemoryOrCausedBy (if_found cs o) offset e
  found_caused cs o t offset e q h = subst (λ (p : Option Type_tree). MemoryOrCausedBy (if_found cs p) offset e) (sym q) h
