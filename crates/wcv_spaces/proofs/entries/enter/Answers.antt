use Rattle.std.proofs.Common.{refl}
use Rattle.wcv_types.specs.Entities.{entity_tree}
use Rattle.wcv_types.specs.Unfold.{trees}
use Rattle.wcv_lower.specs.Entries.{extern_name}
use Rattle.wcv_spaces.specs.Parts.{lists}
use Rattle.wcv_spaces.specs.Naming.{side_of}
use Rattle.wcv_spaces.proofs.EntryNames.{admitted_agree, entry_new}
use Rattle.wcv_spaces.proofs.entries.enter.Goals as goal

pub returns-clause-names : goal.returns-clause-names
returns-clause-names c = admitted_agree c.args.side.now c.admit.new.side _ _ _ c.args.name c.args.ty _ c.requires.names c.in_ok-admit.ensures.admitted c.in_ok-admit.ensures.items c.in_ok-join.ensures.items refl refl
    (entry_new c.args.types.now c.args.limited c.args.features.now (side_of c.args.which) (lists c.args.spaces.now) c.args.side.now c.args.info.now (extern_name c.args.name) (entity_tree (trees c.args.types.now.nodes) c.args.ty) c.requires.entries c.requires.names c.in_ok-admit.ensures.ok)
