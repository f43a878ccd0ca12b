-- What is looked at before the core type of a row is made, one after the other.
use Rattle.std.proofs.Common.{ℕ, List, ◌++◌}
use Rattle.wcv_core.specs.Refusal.{error_kind}
use Rattle.wcv_core.specs.declared.error.Error.{Error}
use Rattle.wcv_core.proofs.Causes.{cause_left, cause_right, free_both}
use Rattle.wcv_syntax.specs.Model.{Canon_form}
use Rattle.wcv_types.specs.Arena.{Arena}
use Rattle.wcv_types.specs.Tree.{is_func}
use Rattle.wcv_flat.specs.Rows.{canon_row}
use Rattle.wcv_lower.specs.CanonOptions.{options_checks}
use Rattle.wcv_lower.specs.Canons.{options_in, appends_found}
use Rattle.wcv_lower.specs.Checks.{Checks, IsFree, if_found, no_room}
use Rattle.wcv_lower.specs.Context.{counts}
use Rattle.wcv_lower.specs.Trees.{Tree_context}
use Rattle.wcv_spaces.specs.Contents.{Contents, context_of, stack_of}
use Rattle.wcv_spaces.specs.Promises.{MemoryOrCausedBy}
use Rattle.wcv_spaces.proofs.Calls.{caused_more}
use Rattle.wcv_canon.specs.Facts.{early_checks}
use Rattle.wcv_canon.specs.Operands.{operand_checks}

module _ (a : Arena) (s : Contents) (f : Canon_form) (outer : List Tree_context) where
  abbrev operands : Checks
  operands = operand_checks s.features (stack_of a s outer) f

  abbrev listed : Checks
  listed = if_found (options_checks s.features (stack_of a s outer)) (options_in f)

  abbrev there : Checks
  there = appends_found (context_of a s) (canon_row f).appends

  abbrev room : Checks
  room = no_room (counts (context_of a s)) is_func

  abbrev All_early : Checks
  All_early = early_checks s.features (stack_of a s outer) f

  pub early_free : IsFree operands → IsFree listed → IsFree there → IsFree room → IsFree All_early
  early_free o l t r = free_both operands (listed ++ (there ++ room)) o (free_both listed (there ++ room) l (free_both there room t r))

  module _ {M : Type 0} (offset : ℕ) (e : Error M) where
    pub operands_caused : MemoryOrCausedBy operands offset e → MemoryOrCausedBy All_early offset e
    operands_caused m = caused_more operands All_early offset e (cause_left operands (listed ++ (there ++ room)) (error_kind e)) m

    pub listed_caused : MemoryOrCausedBy listed offset e → MemoryOrCausedBy All_early offset e
    listed_caused m = caused_more listed All_early offset e (λ c. cause_right operands (listed ++ (there ++ room)) (error_kind e) (cause_left listed (there ++ room) (error_kind e) c)) m

    pub there_caused : MemoryOrCausedBy there offset e → MemoryOrCausedBy All_early offset e
    there_caused m =
        caused_more there All_early offset e
        (λ c. cause_right operands (listed ++ (there ++ room)) (error_kind e) (cause_right listed (there ++ room) (error_kind e) (cause_left there room (error_kind e) c))) m

    pub room_caused : MemoryOrCausedBy room offset e → MemoryOrCausedBy All_early offset e
    room_caused m =
        caused_more room All_early offset e
        (λ c. cause_right operands (listed ++ (there ++ room)) (error_kind e) (cause_right listed (there ++ room) (error_kind e) (cause_right there room (error_kind e) c))) m
