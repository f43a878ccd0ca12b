-- A table stands behind what steps do, where each change leaves it or brings what is of it.
use Rattle.std.proofs.Common.{◌≡◌, ℕ, zero, suc, List, [], ◌∷◌, map, refl, sym, subst}
use Rattle.std.specs.Prelude.{All}
use Rattle.std.proofs.lemmas.List.Elements.{All-nil, All-cons, All-head, All-tail, All-append}
use Rattle.wcv_core.specs.CoreGroups.{total}
use Rattle.wcv_core.specs.CoreWritten.{Core_entry, IsKnown}
use Rattle.wcv_types.proofs.Each.{map-push}
use Rattle.wcv_lower.specs.Context.{core_types, core_funcs, core_tags, core_modules, core_instances, core_memories, core_tables, core_globals, importing, exporting, charge}
use Rattle.wcv_lower.specs.CoreItems.{core_entries, outer_entries}
use Rattle.wcv_lower.specs.Step.{Change, appends, lists, introduces, defines, creates, core_appends, interns, charges, types_slots, marks_value, uses_value, names_start, Step, change_at, change, apply}
use Rattle.wcv_lower.specs.Tables.{StandsOver, TableStands}
use Rattle.wcv_lower.specs.Trees.{Type_tree, Tree_context, Tree_stack, tree_reader, core_entry}

-- ## Changes

-- the groups that were read are a table over which the contexts stand, and a core type is of the table
abbrev pub Good : Change tree_reader → Tree_stack → Type 0
Good (interns gs) s = StandsOver gs (outer_entries s)
Good (core_appends core_types x) s = IsKnown (total s.groups) (core_entry x)
Good _ s = Unit {0}

abbrev pub AllGood : Step tree_reader → Tree_stack → Type 0
AllGood [] s = Unit {0}
AllGood (x ∷ p) s = Good x s × AllGood p (change x s)

charged_same : (k n : ℕ) (cs : List Tree_context) → map core_entries (change_at k (charge {X = tree_reader} n) cs) ≡ map core_entries cs
charged_same k n [] = refl
charged_same zero n (c ∷ cs) = refl
charged_same (suc k) n (c ∷ cs) = λ j. core_entries c ∷ charged_same k n cs j

-- a core type joins its space
typed_stands : (x : Type_tree) (s : Tree_stack) → TableStands s → IsKnown (total s.groups) (core_entry x) → TableStands (change (core_appends core_types x) s)
typed_stands x s h k = record { table = h.table; forms = h.forms; known = All-cons Each (core_entries (change (core_appends core_types x) s).top) (map core_entries s.outer) top (All-tail Each (core_entries s.top) (map core_entries s.outer) h.known) }
  where
    Known : Core_entry → Type 0
    Known = IsKnown (total s.groups)

    Each : List Core_entry → Type 0
    Each es = All Known es

    top : Each (core_entries (change (core_appends core_types x) s).top)
    top =
        subst Each (sym (map-push core_entry (s.top.core core_types) x))
        (All-append Known (core_entries s.top) (core_entry x ∷ []) (All-head Each (core_entries s.top) (map core_entries s.outer) h.known) (All-cons Known (core_entry x) [] k (All-nil Known)))

change_stands : (x : Change tree_reader) (s : Tree_stack) → TableStands s → Good x s → TableStands (change x s)
change_stands (appends k x) s h g = h
change_stands (lists d n x) s h g = h
change_stands (introduces d rs) s h g = intro d
  where
    intro : (d : _) → TableStands (change (introduces d rs) s)
    intro importing = h
    intro exporting = h
change_stands (defines r v) s h g = h
change_stands (creates d is) s h g = h
change_stands (core_appends core_types x) s h g = typed_stands x s h g
change_stands (core_appends core_funcs x) s h g = h
change_stands (core_appends core_tags x) s h g = h
change_stands (core_appends core_modules x) s h g = h
change_stands (core_appends core_instances x) s h g = h
change_stands (core_appends core_memories x) s h g = h
change_stands (core_appends core_tables x) s h g = h
change_stands (core_appends core_globals x) s h g = h
change_stands (interns gs) s h g = g
change_stands (charges zero n) s h g = h
change_stands (charges (suc k) n) s h g = subst (λ (xs : List (List Core_entry)). StandsOver s.groups (core_entries s.top ∷ xs)) (sym (charged_same k n s.outer)) h
change_stands (types_slots v) s h g = h
change_stands (marks_value b) s h g = h
change_stands (uses_value k) s h g = h
change_stands names_start s h g = h

pub step_stands : (p : Step tree_reader) (s : Tree_stack) → TableStands s → AllGood p s → TableStands (apply p s)
step_stands [] s h g = h
step_stands (x ∷ p) s h g = step_stands p (change x s) (change_stands x s h g.0) g.1

-- ## Changes that bring no core type and no group

abbrev IsQuiet : Change tree_reader → Type 0
IsQuiet (interns gs) = ⊥
IsQuiet (core_appends core_types x) = ⊥
IsQuiet _ = Unit {0}

abbrev pub AllQuiet : Step tree_reader → Type 0
AllQuiet [] = Unit {0}
AllQuiet (x ∷ p) = IsQuiet x × AllQuiet p

quiet_one : (x : Change tree_reader) (s : Tree_stack) → IsQuiet x → Good x s
quiet_one (interns gs) s q = absurd q
quiet_one (core_appends core_types x) s q = absurd q
quiet_one (core_appends core_funcs x) s q = tt
quiet_one (core_appends core_tags x) s q = tt
quiet_one (core_appends core_modules x) s q = tt
quiet_one (core_appends core_instances x) s q = tt
quiet_one (core_appends core_memories x) s q = tt
quiet_one (core_appends core_tables x) s q = tt
quiet_one (core_appends core_globals x) s q = tt
quiet_one (appends k x) s q = tt
quiet_one (lists d n x) s q = tt
quiet_one (introduces d rs) s q = tt
quiet_one (defines r v) s q = tt
quiet_one (creates d is) s q = tt
quiet_one (charges k n) s q = tt
quiet_one (types_slots v) s q = tt
quiet_one (marks_value b) s q = tt
quiet_one (uses_value k) s q = tt
quiet_one names_start s q = tt

pub quiet_good : (p : Step tree_reader) (s : Tree_stack) → AllQuiet p → AllGood p s
quiet_good [] s q = tt
quiet_good (x ∷ p) s q = (quiet_one x s q.0, quiet_good p (change x s) q.1)
