-- What a module takes from the states that are open around it.
use Rattle.std.proofs.Common.{◌≡◌, List, [], ◌∷◌, ◌++◌, map, refl, sym, ◌∙◌, ap, subst, All}
use Rattle.std.specs.Prelude.{reverse}
use Rattle.std.proofs.lemmas.List.{map-append, reverse-append}
use Rattle.std.proofs.lemmas.List.Elements.{All-nil, All-head, All-tail, All-push}
use Rattle.wcv_core.specs.CoreGroups.{total}
use Rattle.wcv_core.specs.CoreWritten.{IsKnown}
use Rattle.wcv_types.specs.Arena.{Arena}
use Rattle.wcv_lower.specs.CoreItems.{core_entries, outer_entries}
use Rattle.wcv_spaces.specs.Contents.{Contents, context_of, core_entries_of}
use Rattle.wcv_state.proofs.CoreTypes.{entries_same, entries_known}
use Rattle.wcv_state.proofs.Stacks.{open_split}
use Rattle.wcv_decls.specs.Stack.{IsOpen, stack_on}

module _ (a : Arena) where
  pub around_known : (ss : List Contents) → All (IsOpen a) ss → All (All (IsKnown (total a.core))) (reverse (map core_entries_of ss))
  around_known [] h = All-nil (All (IsKnown (total a.core)))
  around_known (s ∷ ss) h =
      subst (All (All (IsKnown (total a.core)))) (sym (reverse-append (core_entries_of s ∷ []) (map core_entries_of ss)))
      (All-push (All (IsKnown (total a.core))) (reverse (map core_entries_of ss)) (core_entries_of s) (around_known ss (All-tail (IsOpen a) s ss h)) (entries_known a s (All-head (IsOpen a) s ss h).stands))

  outer_same : (ss : List Contents) → All (IsOpen a) ss → map core_entries (reverse (map (context_of a) ss)) ≡ reverse (map core_entries_of ss)
  outer_same [] h = refl
  outer_same (s ∷ ss) h =
      let e : core_entries (context_of a s) ≡ core_entries_of s = entries_same a s (All-head (IsOpen a) s ss h).stands in
      let es : map core_entries (reverse (map (context_of a) ss)) ≡ reverse (map core_entries_of ss) = outer_same ss (All-tail (IsOpen a) s ss h) in
      ap (map core_entries) (reverse-append (context_of a s ∷ []) (map (context_of a) ss)) ∙ map-append core_entries (reverse (map (context_of a) ss)) (context_of a s ∷ []) ∙
      (λ j. es j ++ e j ∷ []) ∙ sym (reverse-append (core_entries_of s ∷ []) (map core_entries_of ss))

  last_first : (outer : List Contents) (s : Contents) → reverse (map core_entries_of (outer ++ s ∷ [])) ≡ core_entries_of s ∷ reverse (map core_entries_of outer)
  last_first outer s = ap reverse (map-append core_entries_of outer (s ∷ [])) ∙ reverse-append (map core_entries_of outer) (core_entries_of s ∷ [])

  -- the spaces of the states are those of their contexts, the nearest first
  pub spaces_same : (ss outer : List Contents) (s : Contents) → ss ≡ outer ++ s ∷ [] → All (IsOpen a) ss → reverse (map core_entries_of ss) ≡ outer_entries (stack_on a outer s)
  spaces_same ss outer s e h =
      let r = open_split a outer s (subst (All (IsOpen a)) e h) in
      let own : core_entries (context_of a s) ≡ core_entries_of s = entries_same a s r.1.stands in
      let others : map core_entries (reverse (map (context_of a) outer)) ≡ reverse (map core_entries_of outer) = outer_same outer r.0 in
      ap (λ (xs : List Contents). reverse (map core_entries_of xs)) e ∙ last_first outer s ∙ λ j. sym own j ∷ sym others j
