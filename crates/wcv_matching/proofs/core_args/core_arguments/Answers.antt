use Rattle.std.proofs.Common.{List, ap, subst, sym}
use Rattle.std.specs.Prelude.{OnOk, IfErr}
use Rattle.wcv_core.specs.CoreGroups.{total}
use Rattle.wcv_core.specs.CoreSizes.{IsEntityWithin}
use Rattle.wcv_core.specs.declared.core_types.EntityType.{EntityType}
use Rattle.wcv_types.specs.Tree.{Text}
use Rattle.wcv_types.specs.Unfold.{tree_at}
use Rattle.wcv_types.specs.declared.arena.Node.TheVariants as n
use Rattle.wcv_types.specs.declared.ids.Part.TheVariants as p
use Rattle.wcv_closed.specs.CoreModules.{AllServed, Module_items}
use Rattle.wcv_matching.specs.CoreArguments.{argument_exports}
use Rattle.wcv_matching.specs.ModuleItems.{ItemsMatch}
use Rattle.wcv_matching.specs.Refusals.{MemoryOrMismatch}
use Rattle.wcv_matching.proofs.ModuleTrees.{module_seen, module_imports_all}
use Rattle.wcv_matching.proofs.core_args.core_arguments.Goals as goal

pub imports_served-requires-clause-imports : goal.imports_served-requires-clause-imports
imports_served-requires-clause-imports c =
    module_imports_all (IsEntityWithin (total c.args.types.now.core)) c.get.result.now.imports c.get.result.now.exports (c.modules_within.ensures c.args.id.index (n.Module c.get.result.now) c.get.ensures.found)

pub returns-clause-ok : goal.returns-clause-ok
returns-clause-ok c =
    let q = p.Module c.args.id in
    let seen = ap (λ (m : Module_items EntityType). m.imports) (module_seen c.args.types.now (tree_at c.args.types.now q) c.get.result.now q c.get.ensures.unfolds) in
    subst (λ (is : List ((Text × Text) × EntityType)). OnOk c.imports_served.result (AllServed (ItemsMatch c.args.types.now.core) (argument_exports c.args.types.now c.args.args.now) is)) (sym seen) c.imports_served.ensures.ok

pub returns-clause-err : goal.returns-clause-err
returns-clause-err c =
    let q = p.Module c.args.id in
    let seen = ap (λ (m : Module_items EntityType). m.imports) (module_seen c.args.types.now (tree_at c.args.types.now q) c.get.result.now q c.get.ensures.unfolds) in
    subst (λ (is : List ((Text × Text) × EntityType)). IfErr c.imports_served.result (MemoryOrMismatch c.args.offset (AllServed (ItemsMatch c.args.types.now.core) (argument_exports c.args.types.now c.args.args.now) is)))
    (sym seen) c.imports_served.ensures.err
