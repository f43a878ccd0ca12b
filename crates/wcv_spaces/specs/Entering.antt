-- An entry that joins, over the parts of a state.
use Rattle.wcv_core.specs.Limits.{max_entries}
use Rattle.std.specs.Prelude.{List, [], ◌∷◌, ◌++◌, map, length, Bool, ◌≡◌, ◌⊎◌}
use Rattle.wcv_core.specs.declared.features.WasmFeatures.{WasmFeatures}
use Rattle.wcv_syntax.specs.declared.name.ComponentExternName.{ComponentExternName}
use Rattle.wcv_types.specs.Entities.{entry_trees}
use Rattle.wcv_types.specs.Tree.{Text, Extern_name}
use Rattle.wcv_types.specs.declared.info.TypeInfo.{TypeInfo}
use Rattle.wcv_types.specs.declared.shapes.ComponentEntityType.{ComponentEntityType}
use Rattle.wcv_names.specs.FuncTrees.{names_in}
use Rattle.wcv_names.specs.KeySet.{HasKeys}
use Rattle.wcv_lower.specs.Checks.{Checks, Counts, full_if, bad_entity}
use Rattle.wcv_lower.specs.Context.{Side}
use Rattle.wcv_lower.specs.Entries.{lent}
use Rattle.wcv_lower.specs.EntryNames.{name_checks}
use Rattle.wcv_lower.specs.Readers.{weight}
use Rattle.wcv_lower.specs.Trees.{Type_tree, tree_reader}
use Rattle.wcv_spaces.specs.Contents.{SpaceLists, Listed, counts_in}
use Rattle.wcv_spaces.specs.Parts.{AreKeys}
use Rattle.wcv_spaces.specs.Looking.{created_reference, entered, entry_of, with_entry}
use Rattle.wcv_spaces.specs.declared.entries.Entries.{Entries}

-- the entry's key and its reference stand, and its size and depth are added
pub record Admitted (e e' : Entries) (i i' : TypeInfo) (n : ComponentExternName) (x : ComponentEntityType) (t : Type_tree) : Type 0 where
  pub keys : HasKeys e'.names (names_in e.items ++ n.name ∷ [])
  pub references : e'.resources.references ≡ e.resources.references ++ map (λ q. (q, n.name)) (created_reference x)
  pub names : (ks : List Text) → AreKeys e.resources.names ks → AreKeys e'.resources.names (ks ++ map (λ q. n.name) (created_reference x))
  pub info : i' ≡ with_entry i t

-- the entry stands in the list and in its space
pub record Joined (used : Bool) (s s' : SpaceLists) (es es' : Listed) (i i' : TypeInfo) (n : ComponentExternName) (x : ComponentEntityType) (t : Type_tree) : Type 0 where
  pub spaces : s' ≡ entered used x s
  pub items : es' ≡ es ++ entry_of n x ∷ []
  pub info : i' ≡ with_entry i t

-- what stands in the spaces where the entry did not join its list: nothing of it, or its part
abbrev pub Partly : Bool → SpaceLists → SpaceLists → ComponentEntityType → Type 0
Partly used s s' x = (s' ≡ s) ⊎ (s' ≡ entered used x s)

-- the causes of an entry of that side, types that have to be named aside
abbrev pub entry_checks : Bool → WasmFeatures → Side → List Type_tree → SpaceLists → Listed → TypeInfo → Extern_name → Type_tree → Checks
entry_checks limited fs d ts s es info n t =
    full_if limited max_entries (length es) ++ (name_checks fs (entry_trees ts es) n t ++ (bad_entity (counts_in s (λ d. es) info) (weight tree_reader t) ++ lent tree_reader d t))

-- the spaces alone
abbrev pub room_counts : SpaceLists → Counts
room_counts s = counts_in s (λ d. []) (record { size = 0; depth = 0 })
