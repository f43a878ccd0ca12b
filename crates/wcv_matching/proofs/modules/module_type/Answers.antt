use Rattle.std.proofs.Common.{sym}
use Rattle.std.specs.Prelude.{OnOk, IfErr}
use Rattle.wcv_core.specs.declared.core_types.EntityType.{EntityType}
use Rattle.wcv_types.specs.Unfold.{tree_at}
use Rattle.wcv_types.specs.declared.arena.Node.TheVariants as n
use Rattle.wcv_types.specs.declared.ids.Part.TheVariants as p
use Rattle.wcv_closed.specs.CoreModules.{ModuleMatches, Module_items}
use Rattle.wcv_matching.specs.ModuleItems.{ItemsMatch}
use Rattle.wcv_matching.specs.Refusals.{MemoryOrMismatch}
use Rattle.wcv_matching.proofs.Found.{both_carried}
use Rattle.wcv_matching.proofs.ModuleTrees.{module_seen}
use Rattle.wcv_matching.proofs.modules.module_type.Goals as goal

abbrev Items : Type 0
Items = Module_items EntityType

pub shapes_match-requires-clause-a : goal.shapes_match-requires-clause-a
shapes_match-requires-clause-a c = c.modules_within.ensures c.args.a.index (n.Module c.get.result.now) c.get.ensures.found

pub shapes_match-requires-clause-b : goal.shapes_match-requires-clause-b
shapes_match-requires-clause-b c = c.modules_within.ensures c.args.b.index (n.Module c.get-2.result.now) c.get-2.ensures.found

pub returns-clause-ok : goal.returns-clause-ok
returns-clause-ok c =
    let left = module_seen c.args.types.now (tree_at c.args.types.now (p.Module c.args.a)) c.get.result.now (p.Module c.args.a) c.get.ensures.unfolds in
    let right = module_seen c.args.types.now (tree_at c.args.types.now (p.Module c.args.b)) c.get-2.result.now (p.Module c.args.b) c.get-2.ensures.unfolds in
    both_carried (λ (x y : Items). OnOk c.shapes_match.result (ModuleMatches (ItemsMatch c.args.types.now.core) x y)) _ _ _ _ (sym left) (sym right) c.shapes_match.ensures.ok

pub returns-clause-err : goal.returns-clause-err
returns-clause-err c =
    let left = module_seen c.args.types.now (tree_at c.args.types.now (p.Module c.args.a)) c.get.result.now (p.Module c.args.a) c.get.ensures.unfolds in
    let right = module_seen c.args.types.now (tree_at c.args.types.now (p.Module c.args.b)) c.get-2.result.now (p.Module c.args.b) c.get-2.ensures.unfolds in
    both_carried (λ (x y : Items). IfErr c.shapes_match.result (MemoryOrMismatch c.args.offset (ModuleMatches (ItemsMatch c.args.types.now.core) x y))) _ _ _ _ (sym left) (sym right) c.shapes_match.ensures.err
