-- What stands in an arena.
use Rattle.std.proofs.Common.{◌≡◌, sym, subst}
use Rattle.std.specs.Prelude.{List, [], ◌∷◌, ◌++◌, All}
use Rattle.std.proofs.lemmas.List.Elements.{All-nil, All-push}
use Rattle.wcv_types.specs.Arena.{Arena}
use Rattle.wcv_types.specs.Entities.{EntityStands, EntryStands}
use Rattle.wcv_types.specs.Tree.{Text}
use Rattle.wcv_types.specs.declared.item_map.ComponentItem.{ComponentItem}
use Rattle.wcv_types.specs.declared.shapes.ComponentEntityType.{ComponentEntityType}
use Rattle.wcv_syntax.specs.declared.name.ComponentExternName.{ComponentExternName}
use Rattle.wcv_names.specs.Externs.{entry_of}

abbrev Entry : Type 0
Entry = Text × ComponentItem

-- one entry behind none
pub one_stands : (a : Arena) (es later : List Entry) (n : ComponentExternName) (x : ComponentEntityType) → es ≡ [] → later ≡ es ++ entry_of n x ∷ [] → EntityStands a x → All (EntryStands a) later
one_stands a es later n x e q h = subst (All (EntryStands a)) (sym q) (All-push (EntryStands a) es (entry_of n x) (subst (All (EntryStands a)) (sym e) (All-nil (EntryStands a))) h)
