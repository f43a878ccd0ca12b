use Rattle.std.proofs.Common.{◌≡◌, ◌⊎◌, ℕ, inl, inr, Some}
use Rattle.std.specs.Option.{option_or}
use Rattle.wcv_core.specs.declared.core_types.ValType.{ValType}
use Rattle.wcv_syntax.specs.Model.{builtin}
use Rattle.wcv_syntax.specs.declared.canonical.CanonicalFunction.TheVariants as canon
use Rattle.wcv_lower.specs.Canons.{canon_step}
use Rattle.wcv_lower.specs.Step.{Step, apply}
use Rattle.wcv_lower.specs.Trees.{tree_reader, Tree_stack}
use Rattle.wcv_lower.proofs.Appended.{core_appended, func_appended, get_types, set_types, id_stays, type_there}
use Rattle.wcv_lower.proofs.ClosedRows.{group_stays}
use Rattle.wcv_lower.proofs.canon_laws.a_canonical_function_appends_the_type_of_its_row.Goals as goal

typed : (s : Tree_stack) (v : ValType) (n : ℕ) (p : Step tree_reader) → (canon_step s (builtin (canon.ContextGet v n)) ≡ Some p) ⊎ (canon_step s (builtin (canon.ContextSet v n)) ≡ Some p) → (apply p s).top.context_type ≡ option_or s.top.context_type (Some v)
typed s v n p (inl e) = get_types s v n p e
typed s v n p (inr e) = set_types s v n p e

pub returns : goal.returns
returns c = record { core = core_appended; lifted = func_appended; slots = typed; id = id_stays; closed = group_stays; ty = type_there }
