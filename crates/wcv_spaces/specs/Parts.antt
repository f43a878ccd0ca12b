-- What the parts of a state show, and what ties each together.
use Rattle.std.specs.Prelude.{List, map, ◌≡◌}
use Rattle.wcv_types.specs.ByName.{NamesDiffer}
use Rattle.wcv_types.specs.Tree.{Text}
use Rattle.wcv_types.specs.declared.ids.ComponentAnyTypeId.{ComponentAnyTypeId}
use Rattle.wcv_names.specs.FuncTrees.{names_in}
use Rattle.wcv_names.specs.KeySet.{HasKeys}
use Rattle.wcv_lower.specs.Checks.{is_among}
use Rattle.wcv_lower.specs.Context.{Side}
use Rattle.wcv_spaces.specs.declared.entries.Entries.{Entries}
use Rattle.wcv_spaces.specs.declared.naming.NamedTypes.{NamedTypes}
use Rattle.wcv_spaces.specs.declared.spaces.Spaces.{Spaces}
use Rattle.wcv_spaces.specs.Contents.{SpaceLists, both_sides}
use Rattle.wcv_spaces.specs.Looking.{named_ids}

abbrev pub lists : Spaces → SpaceLists
lists s = record {
  core_types = s.core_types;
  core_funcs = s.core_funcs.items;
  core_tags = s.core_tags.items;
  core_modules = s.core_modules.items;
  core_instances = s.core_instances.items;
  core_memories = s.core_memories.items;
  core_tables = s.core_tables.items;
  core_globals = s.core_globals.items;
  types = s.types.items;
  funcs = s.funcs.items;
  values = s.values.items;
  instances = s.instances.items;
  components = s.components.items;
}

-- the types that are named for a side
abbrev pub set_of : NamedTypes → Side → List ComponentAnyTypeId
set_of n = both_sides n.imports n.exports

-- the set holds exactly these texts
abbrev pub AreKeys : List Text → List Text → Type 0
AreKeys set keys = (t : Text) → is_among t set ≡ is_among t keys

-- the keys are those of the names, which differ, and the names of resources are those that the entries give
pub record NamesAgree (e : Entries) : Type 0 where
  pub keys : HasKeys e.names (names_in e.items)
  pub references : e.resources.references ≡ named_ids e.items
  pub names : AreKeys e.resources.names (map (λ p. p.1) (named_ids e.items))
  pub apart : NamesDiffer e.items
