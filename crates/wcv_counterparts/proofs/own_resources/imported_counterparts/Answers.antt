use Rattle.std.proofs.Common.{◌∙◌}
use Rattle.wcv_types.specs.Unfold.{tree_at}
use Rattle.wcv_types.specs.declared.ids.Part.TheVariants as p
use Rattle.wcv_counterparts.proofs.ComponentIds.{imported_go, imports_stand}
use Rattle.wcv_counterparts.proofs.own_resources.imported_counterparts.Goals as goal

pub counterparts-requires-clause-entries : goal.counterparts-requires-clause-entries
counterparts-requires-clause-entries g c = imports_stand c.args.types.now c.args.a.index c.get-x.result.now c.get-x.ensures.before

pub counterparts-requires-clause-others : goal.counterparts-requires-clause-others
counterparts-requires-clause-others g c = imports_stand c.args.types.now c.args.b.index c.get-y.result.now c.get-y.ensures.before

pub returns-clause-found : goal.returns-clause-found
returns-clause-found g c = c.in_ok-found.ensures.found ∙ imported_go c.args.types.now c.args.a.index c.get-x.result.now (tree_at c.args.types.now (p.Component c.args.a)) c.get-x.ensures.unfolds c.args.b.index c.get-y.result.now (tree_at c.args.types.now (p.Component c.args.b)) c.get-y.ensures.unfolds
