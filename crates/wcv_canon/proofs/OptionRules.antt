-- Lists of options that are looked at one option after the other: what is asked looks at no context further out.
use Rattle.std.proofs.Common.{◌≡◌, ℕ, List, ◌++◌, refl, subst, ⊎_elim}
use Rattle.wcv_core.specs.Checks.{all_checks}
use Rattle.wcv_core.specs.Refusal.{error_kind}
use Rattle.wcv_core.specs.declared.core_types.ValType.{ValType}
use Rattle.wcv_core.specs.declared.error.Error.{Error}
use Rattle.wcv_core.proofs.Causes.{cause_left, cause_right, free_both}
use Rattle.wcv_syntax.specs.declared.canonical.CanonicalOption.{CanonicalOption}
use Rattle.wcv_syntax.specs.declared.canonical.CanonicalOption.TheVariants as option
use Rattle.wcv_types.specs.Arena.{Arena}
use Rattle.wcv_lower.specs.CanonOptions.{option_found, option_rules, list_rules, pointer_of, options_checks}
use Rattle.wcv_lower.specs.Checks.{Checks, Cause, IsFree}
use Rattle.wcv_lower.specs.Trees.{Tree_context}
use Rattle.wcv_spaces.specs.Contents.{Contents, context_of, stack_of}
use Rattle.wcv_spaces.specs.Promises.{MemoryOrCausedBy}
use Rattle.wcv_spaces.proofs.Calls.{caused_more}
use Rattle.wcv_canon.specs.Options.{option_asked}
use Rattle.wcv_canon.proofs.Rows.{free_pairs, cause_pairs, all_same}

module _ (a : Arena) (s : Contents) (outer : List Tree_context) (os : List CanonicalOption) where
  abbrev pointer : ValType
  pointer = pointer_of (context_of a s) os

  abbrev found : CanonicalOption → Checks
  found = option_found (context_of a s)

  abbrev rules : CanonicalOption → Checks
  rules = option_rules s.features (stack_of a s outer) pointer

  option_same : (o : CanonicalOption) → option_asked a s pointer o ≡ found o ++ rules o
  option_same option.UTF8 = refl
  option_same option.UTF16 = refl
  option_same option.CompactUTF16 = refl
  option_same (option.Memory i) = refl
  option_same (option.Realloc i) = refl
  option_same (option.PostReturn i) = refl
  option_same option.Async = refl
  option_same (option.Callback i) = refl
  option_same (option.CoreType i) = refl
  option_same option.Gc = refl

  each_same : all_checks (option_asked a s pointer) os ≡ all_checks (λ o. found o ++ rules o) os
  each_same = all_same (option_asked a s pointer) (λ o. found o ++ rules o) option_same os

  abbrev all : Checks
  all = options_checks s.features (stack_of a s outer) os

  pub options_free : IsFree (all_checks (option_asked a s pointer) os) → IsFree (list_rules os) → IsFree all
  options_free f g =
      let p = free_pairs found rules os (subst IsFree each_same f) in
      free_both (all_checks found os) (all_checks rules os ++ list_rules os) p.0 (free_both (all_checks rules os) (list_rules os) p.1 g)

  module _ {M : Type 0} (offset : ℕ) (e : Error M) where
    pub each_caused : MemoryOrCausedBy (all_checks (option_asked a s pointer) os) offset e → MemoryOrCausedBy all offset e
    each_caused t =
        caused_more (all_checks (option_asked a s pointer) os) all offset e
        (λ c. ⊎_elim (λ d. cause_left (all_checks found os) (all_checks rules os ++ list_rules os) (error_kind e) d)
        (λ d. cause_right (all_checks found os) (all_checks rules os ++ list_rules os) (error_kind e) (cause_left (all_checks rules os) (list_rules os) (error_kind e) d))
        (cause_pairs found rules os (error_kind e) (subst (λ (cs : Checks). Cause cs (error_kind e)) each_same c))) t

    pub list_caused : MemoryOrCausedBy (list_rules os) offset e → MemoryOrCausedBy all offset e
    list_caused t =
        caused_more (list_rules os) all offset e (λ c. cause_right (all_checks found os) (all_checks rules os ++ list_rules os) (error_kind e) (cause_right (all_checks rules os) (list_rules os) (error_kind e) c)) t
