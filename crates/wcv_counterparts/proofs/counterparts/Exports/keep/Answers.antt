use Rattle.std.proofs.Common.{List, sym, ◌∙◌, ap, subst}
use Rattle.std.specs.Prelude.{All}
use Rattle.wcv_types.specs.Entities.{EntryStands}
use Rattle.wcv_types.specs.Tree.{Text}
use Rattle.wcv_types.specs.Unfold.{trees}
use Rattle.wcv_types.specs.declared.item_map.ComponentItem.{ComponentItem}
use Rattle.wcv_atoms.specs.IdPasses.{named_trees}
use Rattle.wcv_counterparts.proofs.Exporting.{exports_kept}
use Rattle.wcv_counterparts.proofs.counterparts.Exports.keep.Goals as goal

pub returns-clause-maps : goal.returns-clause-maps
returns-clause-maps g c =
    exports_kept c.args.types.now c.args.self.now.maps c.insert.new.self c.args.ty c.args.place c.in_ok-map-in-Some.map c.requires.maps c.requires.place c.in_ok-insert-in-Some.ensures.updates
    (c.in-Some.ensures.exports ∙ ap (named_trees (trees c.args.types.now.nodes)) (sym c.in_ok-map-in-Some.ensures))
    (subst (λ (es : List (Text × ComponentItem)). All (EntryStands c.args.types.now) es) (sym c.in_ok-map-in-Some.ensures) c.in-Some.ensures.stand)
