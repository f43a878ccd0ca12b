-- The tests of the pass, where core modules are told by the ids of a table.
use Rattle.std.specs.Prelude.{List, Bool, false, ◌&&◌, bytes_eq, None, Some}
use Rattle.std.specs.List.{list_all}
use Rattle.std.specs.Map.{lookup}
use Rattle.wcv_core.specs.CoreForm.{Group}
use Rattle.wcv_core.specs.declared.core_types.EntityType.{EntityType}
use Rattle.wcv_closed.specs.CoreModules.{Module_items, same_pair}
use Rattle.wcv_matching.specs.ItemTests.{item_matches}
use Rattle.wcv_matching.specs.ModuleItems.{module_items}
use Rattle.wcv_matching.specs.OnePass.{Seen_tree, Tests}

-- the first entry of the key in xs passes with y
abbrev pub found : {K X : Type 0} → (K → K → Bool) → (X → X → Bool) → List (K × X) → K × X → Bool
found same test xs e = elim (lookup (same e.0) xs) [ None ↦ false | Some x ↦ test x e.1 ]

abbrev pub each_found : {K X : Type 0} → (K → K → Bool) → (X → X → Bool) → List (K × X) → List (K × X) → Bool
each_found same test xs ys = list_all (found same test xs) ys

abbrev pub modules_match : List Group → Module_items EntityType → Module_items EntityType → Bool
modules_match gs m n = each_found same_pair (item_matches gs) n.imports m.imports && each_found bytes_eq (item_matches gs) m.exports n.exports

-- with that test of values
abbrev pub tests_by_ids : List Group → (Seen_tree → Seen_tree → Bool) → Tests
tests_by_ids gs same_seen = record { same_seen = same_seen; modules = λ a b. modules_match gs (module_items a) (module_items b) }
