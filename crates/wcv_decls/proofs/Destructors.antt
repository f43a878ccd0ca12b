-- Destructors: core functions that take one value and give nothing.
use Rattle.std.proofs.Common.{◌≡◌, ℕ, List, [], ◌∷◌, ◌++◌, length, refl, sym, ◌∙◌, ap, subst, Bool, true, false, not, ◌&&◌, Some, None, inl, inr}
use Rattle.std.specs.Prelude.{slice_get, Option}
use Rattle.std.specs.Option.{option_map}
use Rattle.wcv_core.specs.CoreForm.{func_form}
use Rattle.wcv_core.specs.Refusal.{error_kind, error_offset}
use Rattle.wcv_core.specs.declared.core_types.CoreTypeId.{CoreTypeId}
use Rattle.wcv_core.specs.declared.core_types.EntityType.{EntityType}
use Rattle.wcv_core.specs.declared.core_types.EntityType.TheVariants as entity
use Rattle.wcv_core.specs.declared.core_types.ValType.{ValType}
use Rattle.wcv_core.specs.declared.error.Error.{Error}
use Rattle.wcv_core.specs.declared.error.ErrorKind.TheVariants as kind
use Rattle.wcv_core.specs.declared.features.WasmFeatures.{WasmFeatures}
use Rattle.wcv_core.proofs.Causes.{cause_left, cause_right, free_both}
use Rattle.wcv_syntax.specs.declared.core_section.ExternalKind.TheVariants as core
use Rattle.wcv_types.specs.Arena.{Arena}
use Rattle.wcv_types.specs.Unfold.{Type_tree}
use Rattle.wcv_lower.specs.Checks.{Checks, Cause, IsFree, missing}
use Rattle.wcv_lower.specs.Context.{is_concrete}
use Rattle.wcv_lower.specs.CoreInstances.{core_item_at, test_found}
use Rattle.wcv_lower.specs.Trees.{Tree_context, tree_reader}
use Rattle.wcv_lower.specs.Types.{same_vals, form_takes_and_gives, takes_and_gives, rep_checks, dtor_checks, resource_checks}
use Rattle.wcv_spaces.specs.Contents.{Contents, kind_of, context_of, stack_of}
use Rattle.wcv_spaces.specs.Promises.{MemoryOrCausedBy}
use Rattle.wcv_spaces.proofs.Calls.{caused_more}
use Rattle.wcv_spaces.proofs.CoreItems.{item_tree, item_here, missing_mapped}

-- ## One value and no result

pub some_results : (v : ValType) (qs ss : List ValType) → (length ss ≡ 0 → ⊥) → false ≡ form_takes_and_gives (v ∷ []) [] (func_form qs ss)
some_results v qs [] h = absurd (h refl)
some_results v qs (s ∷ ss) h = go (same_vals (v ∷ []) qs)
  where
    go : (b : Bool) → false ≡ (b && false)
    go true = refl
    go false = refl

-- ## Causes

module _ (a : Arena) (s : Contents) (rep : ValType) (i : ℕ) (outer : List Tree_context) where
  abbrev at_index : Option CoreTypeId
  at_index = slice_get s.spaces.core_funcs i

  abbrev all : Checks
  all = dtor_checks (stack_of a s outer) rep (Some i)

  abbrev serves : EntityType → Bool
  serves e = takes_and_gives a.core (rep ∷ []) [] e

  func_here : core_item_at (context_of a s) core.Func i ≡ option_map (λ (t : CoreTypeId). item_tree (entity.Func t)) at_index
  func_here = item_here a s core.Func i ∙ go at_index
    where
      go : (o : Option CoreTypeId) → option_map item_tree (option_map entity.Func o) ≡ option_map (λ (t : CoreTypeId). item_tree (entity.Func t)) o
      go None = refl
      go (Some t) = refl

  abbrev checked : Option Type_tree → Checks
  checked o = missing o ++ (kind.Signature, test_found (λ (x : Type_tree). not (test_found serves (tree_reader.item x))) o) ∷ []

  checks_at : (t : CoreTypeId) → at_index ≡ Some t → all ≡ checked (Some (item_tree (entity.Func t)))
  checks_at t e = ap checked (func_here ∙ ap (option_map (λ (t : CoreTypeId). item_tree (entity.Func t))) e)

  pub dtor_free : (t : CoreTypeId) → at_index ≡ Some t → serves (entity.Func t) ≡ true → IsFree all
  dtor_free t e h = subst IsFree (sym (checks_at t e)) (refl, (ap not h, tt))

  module _ {M : Type 0} (offset : ℕ) (e : Error M) where
    pub dtor_missing : MemoryOrCausedBy (missing at_index) offset e → MemoryOrCausedBy all offset e
    dtor_missing t =
        caused_more (missing at_index) all offset e
        (λ c. cause_left (missing (core_item_at (context_of a s) core.Func i)) ((kind.Signature, test_found (λ (x : Type_tree). not (test_found serves (tree_reader.item x))) (core_item_at (context_of a s) core.Func i)) ∷ []) (error_kind e)
        (subst (λ cs. Cause cs (error_kind e)) (sym (missing_mapped (λ (t : CoreTypeId). item_tree (entity.Func t)) at_index) ∙ ap missing (sym func_here)) c)) t

    pub dtor_other : (t : CoreTypeId) → at_index ≡ Some t → serves (entity.Func t) ≡ false → error_kind e ≡ kind.Signature → error_offset e ≡ offset → MemoryOrCausedBy all offset e
    dtor_other t w h k o = subst (λ cs. MemoryOrCausedBy cs offset e) (sym (checks_at t w)) (inr (inr (inl (k, ap not h)), o))

-- ## The resource

module _ (a : Arena) (s : Contents) (fs : WasmFeatures) (rep : ValType) (dtor : Option ℕ) (outer : List Tree_context) where
  abbrev scope : Checks
  scope = (kind.ResourceScope, not (is_concrete (kind_of s.kind))) ∷ []

  abbrev behind : Checks
  behind = rep_checks fs rep ++ dtor_checks (stack_of a s outer) rep dtor

  pub resource_free : IsFree scope → IsFree (rep_checks fs rep) → IsFree (dtor_checks (stack_of a s outer) rep dtor) → IsFree (resource_checks fs (stack_of a s outer) rep dtor)
  resource_free f g h = free_both scope behind f (free_both (rep_checks fs rep) (dtor_checks (stack_of a s outer) rep dtor) g h)

  module _ {M : Type 0} (offset : ℕ) (e : Error M) where
    pub scope_caused : MemoryOrCausedBy scope offset e → MemoryOrCausedBy (resource_checks fs (stack_of a s outer) rep dtor) offset e
    scope_caused t = caused_more scope (scope ++ behind) offset e (cause_left scope behind (error_kind e)) t

    pub rep_caused : MemoryOrCausedBy (rep_checks fs rep) offset e → MemoryOrCausedBy (resource_checks fs (stack_of a s outer) rep dtor) offset e
    rep_caused t =
        caused_more (rep_checks fs rep) (scope ++ behind) offset e
        (λ c. cause_right scope behind (error_kind e) (cause_left (rep_checks fs rep) (dtor_checks (stack_of a s outer) rep dtor) (error_kind e) c)) t

    pub dtor_caused : MemoryOrCausedBy (dtor_checks (stack_of a s outer) rep dtor) offset e → MemoryOrCausedBy (resource_checks fs (stack_of a s outer) rep dtor) offset e
    dtor_caused t =
        caused_more (dtor_checks (stack_of a s outer) rep dtor) (scope ++ behind) offset e
        (λ c. cause_right scope behind (error_kind e) (cause_right (rep_checks fs rep) (dtor_checks (stack_of a s outer) rep dtor) (error_kind e) c)) t
