use Rattle.std.proofs.Common.{◌∙◌, [], List, Option, ap, refl, subst, sym}
use Rattle.std.specs.Prelude.{All}
use Rattle.std.specs.Option.{option_map_or}
use Rattle.wcv_types.specs.Entities.{entry_trees, EntryStands}
use Rattle.wcv_types.specs.Exported.{items_of}
use Rattle.wcv_types.specs.Tree.{Text, export, exports}
use Rattle.wcv_walks.proofs.FreeBelow.{entries_ready}
use Rattle.wcv_types.specs.Unfold.{Type_tree, trees}
use Rattle.wcv_types.specs.declared.arena.Node.{Node}
use Rattle.wcv_types.specs.declared.item_map.ComponentItem.{ComponentItem}
use Rattle.wcv_state.proofs.ExportAliases.{exports_are}
use Rattle.wcv_state.proofs.export_aliases.exports_of.Goals as goal

pub returns-clause-is : goal.returns-clause-is
returns-clause-is c = sym (ap (λ (o : Option Node). option_map_or items_of o []) c.get.ensures.found)

pub returns-clause-trees : goal.returns-clause-trees
returns-clause-trees c =
    ap (λ (t : Type_tree). exports t) c.get.ensures.unfolds ∙ exports_are c.args.types.now c.get.result.now.exports ∙
    ap (λ (es : List (Text × ComponentItem)). entry_trees (trees c.args.types.now.nodes) es) (returns-clause-is c)

pub returns-clause-stand : goal.returns-clause-stand
returns-clause-stand c =
    subst (λ (es : List (Text × ComponentItem)). All (EntryStands c.args.types.now) es) (returns-clause-is c)
    (entries_ready c.args.types.now c.args.id.index export c.get.result.now.exports c.get.result.now.exports refl c.get.ensures.before).1
