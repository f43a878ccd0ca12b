-- What stands in the space of core types, and groups that join it.
use Rattle.std.proofs.Common.{◌≡◌, ℕ, ◌<◌, List, [], ◌∷◌, map, refl, ◌∙◌, ap}
use Rattle.std.specs.Prelude.{All}
use Rattle.std.proofs.lemmas.List.Elements.{All-nil, All-cons, All-head, All-tail}
use Rattle.wcv_core.specs.CoreForm.{Group}
use Rattle.wcv_core.specs.CoreGroups.{total}
use Rattle.wcv_core.specs.CoreJoining.{with_types}
use Rattle.wcv_core.specs.CoreWritten.{IsKnown}
use Rattle.wcv_types.specs.Arena.{Arena}
use Rattle.wcv_types.specs.Standing.{Stands}
use Rattle.wcv_types.specs.Unfold.{trees}
use Rattle.wcv_types.specs.declared.arena.Node.TheVariants as n
use Rattle.wcv_types.specs.declared.ids.ComponentCoreTypeId.{ComponentCoreTypeId}
use Rattle.wcv_types.specs.declared.ids.ComponentCoreTypeId.TheVariants as core_id
use Rattle.wcv_types.proofs.Grown.{extends_refl}
use Rattle.wcv_types.proofs.Unfolding.{head_in}
use Rattle.wcv_lower.specs.Context.{core_types}
use Rattle.wcv_lower.specs.CoreItems.{core_entries, types_join}
use Rattle.wcv_lower.specs.Step.{apply}
use Rattle.wcv_lower.specs.Trees.{Tree_context, Tree_stack, tree_reader, head_entry, core_entry}
use Rattle.wcv_spaces.specs.Contents.{Contents, context_of, core_tree, core_type_part, CoreIdStands, StateStands, core_entry_of, core_entries_of, with_sub}
use Rattle.wcv_spaces.specs.Promises.{Keeps}
use Rattle.wcv_spaces.proofs.Keeping.{keeps_grown, keeps_trans, keeps_with_core, with_core_context}

module _ (a : Arena) where
  entry_same : (x : ComponentCoreTypeId) → Stands a (core_type_part x) → core_entry (core_tree (trees a.nodes) core_types x) ≡ core_entry_of x
  entry_same (core_id.Sub i) p = refl
  entry_same (core_id.Module i) p = ap head_entry (head_in a.nodes i.index (n.Module p.0) p.1)

  all_same : (xs : List ComponentCoreTypeId) → All (CoreIdStands a core_types) xs → map core_entry (map (core_tree (trees a.nodes) core_types) xs) ≡ map core_entry_of xs
  all_same [] h = refl
  all_same (x ∷ xs) h =
      let e : core_entry (core_tree (trees a.nodes) core_types x) ≡ core_entry_of x = entry_same x (All-head (CoreIdStands a core_types) x xs h) in
      let e' : map core_entry (map (core_tree (trees a.nodes) core_types) xs) ≡ map core_entry_of xs = all_same xs (All-tail (CoreIdStands a core_types) x xs h) in
      λ j. e j ∷ e' j

  -- they are those of the context
  pub entries_same : (s : Contents) → StateStands a s → core_entries (context_of a s) ≡ core_entries_of s
  entries_same s h = all_same s.spaces.core_types (h.core core_types)

  one_known : (x : ComponentCoreTypeId) → Stands a (core_type_part x) → IsKnown (total a.core) (core_entry_of x)
  one_known (core_id.Sub i) p = p
  one_known (core_id.Module i) p = tt

  all_known : (xs : List ComponentCoreTypeId) → All (CoreIdStands a core_types) xs → All (IsKnown (total a.core)) (map core_entry_of xs)
  all_known [] h = All-nil (IsKnown (total a.core))
  all_known (x ∷ xs) h =
      All-cons (IsKnown (total a.core)) (core_entry_of x) (map core_entry_of xs) (one_known x (All-head (CoreIdStands a core_types) x xs h)) (all_known xs (All-tail (CoreIdStands a core_types) x xs h))

  -- they are of the table
  pub entries_known : (s : Contents) → StateStands a s → All (IsKnown (total a.core)) (core_entries_of s)
  entries_known s h = all_known s.spaces.core_types (h.core core_types)

  -- ## Types that join

  -- over any groups
  abbrev over : List Group → List Tree_context → Tree_context → Tree_stack
  over gs outer c = record { top = c; outer = outer; groups = gs }

  pub joined_types : (gs : List Group) (outer : List Tree_context) (s : Contents) (is : List ℕ) → over gs outer (context_of a (with_types with_sub s is)) ≡ apply (types_join tree_reader is) (over gs outer (context_of a s))
  joined_types gs outer s [] = refl
  joined_types gs outer s (i ∷ is) =
      joined_types gs outer (with_sub s i) is ∙ ap (λ (c : Tree_context). apply (types_join tree_reader is) (over gs outer c)) (with_core_context a core_types (core_id.Sub (record { index = i })) s)

  pub keeps_types : (s : Contents) (is : List ℕ) → StateStands a s → All (λ i. i < total a.core) is → Keeps a a s (with_types with_sub s is)
  keeps_types s [] h w = keeps_grown a a s (extends_refl a) h
  keeps_types s (i ∷ is) h w =
      let one = keeps_with_core a core_types (core_id.Sub (record { index = i })) s h (All-head (λ i. i < total a.core) i is w) in
      keeps_trans a a a s (with_sub s i) (with_types with_sub s (i ∷ is)) one (keeps_types (with_sub s i) is one.stands (All-tail (λ i. i < total a.core) i is w))
