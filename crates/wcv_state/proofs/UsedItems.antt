-- Exported items whose value is used: the causes of that, and what is found with none.
use Rattle.std.proofs.Common.{◌≡◌, ℕ, ◌++◌, sym, ◌∙◌, subst, ◌⊎◌, inr, ⊎_elim}
use Rattle.std.specs.Prelude.{slice_get}
use Rattle.wcv_core.specs.Names.{Place}
use Rattle.wcv_core.specs.Refusal.{error_kind, error_offset}
use Rattle.wcv_core.specs.declared.error.Error.{Error}
use Rattle.wcv_core.specs.declared.error.ErrorKind.{ErrorKind}
use Rattle.wcv_syntax.specs.declared.instance.ComponentExternalKind.{ComponentExternalKind}
use Rattle.wcv_syntax.specs.declared.instance.ComponentExternalKind.TheVariants as kind
use Rattle.wcv_syntax.specs.declared.name.ComponentExport.{ComponentExport}
use Rattle.wcv_types.specs.Arena.{Arena}
use Rattle.wcv_lower.specs.Checks.{Checks, Cause, IsFree, missing}
use Rattle.wcv_lower.specs.Entries.{exported_values}
use Rattle.wcv_lower.specs.Given.{names_of}
use Rattle.wcv_lower.specs.Marks.{value_index, use_checks}
use Rattle.wcv_lower.specs.Readers.{Maker}
use Rattle.wcv_lower.specs.Trees.{tree_reader, tree_maker}
use Rattle.wcv_lower.proofs.Causes.{cause_either, free_both, free_right}
use Rattle.wcv_spaces.specs.Bringing.{Found}
use Rattle.wcv_spaces.specs.Contents.{Contents, SpaceLists, context_of, StateStands}
use Rattle.wcv_spaces.specs.Looking.{item_id_checks}
use Rattle.wcv_spaces.specs.Promises.{CausedBy, ItemCaused}
use Rattle.wcv_spaces.specs.Values.{use_id_checks, uses_id_checks}
use Rattle.wcv_spaces.specs.declared.new_entity.NewEntity.{NewEntity}
use Rattle.wcv_spaces.proofs.Found.{Brings}
use Rattle.wcv_state.proofs.ItemCalls.{item_absent, item_used}
use Rattle.wcv_spaces.proofs.UsedValues.{use_checks_same}

-- the same refusal with another message
pub same_cause : {M N : Type 0} (cs : Checks) (offset : ℕ) (e : Error M) (other : Error N) → error_kind other ≡ error_kind e → error_offset other ≡ error_offset e → CausedBy cs offset e → CausedBy cs offset other
same_cause cs offset e other k o t = (subst (Cause cs) (sym k) t.0, o ∙ t.1)

-- the value does not stand, or is used
use_or_absent : (s : SpaceLists) (w : ComponentExternalKind) (i : ℕ) (k : ErrorKind) → Cause (uses_id_checks s.values (value_index w i)) k → Cause (item_id_checks s w i) k ⊎ Cause (use_id_checks s.values (value_index w i)) k
use_or_absent s kind.Value i k c = cause_either (missing (slice_get s.values i)) (use_id_checks s.values (value_index kind.Value i)) k c
use_or_absent s kind.Module i k c = inr c
use_or_absent s kind.Func i k c = inr c
use_or_absent s kind.Ty i k c = inr c
use_or_absent s kind.Instance i k c = inr c
use_or_absent s kind.Component i k c = inr c

-- a cause of its use is one of the item
pub item_use_caused : (a b : Arena) (s : Contents) (p : Place) (e : ComponentExport) {M : Type 0} (offset : ℕ) (er : Error M) → StateStands a s → CausedBy (uses_id_checks s.spaces.values (exported_values e)) offset er → ItemCaused a b p s e offset er
item_use_caused a b s p e offset er h t =
    ⊎_elim (λ c. item_absent a b s p e offset er h (inr (c, t.1)))
    (λ c. item_used a b s p e offset er (inr (subst (λ (cs : Checks). Cause cs (error_kind er)) (sym (use_checks_same a s (exported_values e))) c, t.1)))
    (use_or_absent s.spaces e.kind e.index (error_kind er) t.0)

-- where its use has no cause over ids, it has none as the rules have it
pub uses_alone : (a : Arena) (s : Contents) (e : ComponentExport) → IsFree (uses_id_checks s.spaces.values (exported_values e)) → IsFree (use_checks (context_of a s) (exported_values e))
uses_alone a s e f = subst IsFree (sym (use_checks_same a s (exported_values e))) (free_right _ (use_id_checks s.spaces.values (exported_values e)) f)

-- what was found has no further cause
pub found_free : (a b : Arena) (n : NewEntity) (looked : Maker tree_reader → Checks) (brings : Brings) (cs : Checks) → IsFree cs → Found a b n looked brings → Found a b n (λ k. cs ++ looked k) brings
found_free a b n looked brings cs f w = record {
  grown = w.grown;
  core = w.core;
  given_names = w.given_names;
  given = w.given;
  brought = w.brought;
  free = λ p. free_both cs (looked (tree_maker (names_of (w.given_names p)) p)) f (w.free p);
  may_join = w.may_join;
  fresh = w.fresh;
  stamped = w.stamped;
}
