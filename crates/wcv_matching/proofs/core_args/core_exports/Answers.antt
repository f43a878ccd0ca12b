use Rattle.wcv_core.specs.CoreGroups.{total}
use Rattle.wcv_core.specs.CoreSizes.{IsEntityWithin}
use Rattle.wcv_types.specs.Standing.{StandsBefore}
use Rattle.wcv_types.specs.Unfold.{rank, tree_at}
use Rattle.wcv_types.specs.declared.arena.Node.TheVariants as n
use Rattle.wcv_types.specs.declared.ids.Part.TheVariants as p
use Rattle.wcv_matching.proofs.ModuleTrees.{module_part, module_seen, exports_listed, exports_of_module, listed_all, module_exports_all}
use Rattle.wcv_matching.proofs.core_args.core_exports.Goals as goal

pub get-requires-in-Instantiated : goal.get-requires-in-Instantiated
get-requires-in-Instantiated c = (module_part (StandsBefore c.args.types.now (rank (p.CoreInstance c.args.id))) c.get.result.now c.in-Instantiated.module c.in-Instantiated.is c.get.ensures.before).stands

pub returns-in-Exports-clause-exports : goal.returns-in-Exports-clause-exports
returns-in-Exports-clause-exports c =
    exports_listed c.args.types.now (tree_at c.args.types.now (p.CoreInstance c.args.id)) c.get.result.now (p.CoreInstance c.args.id) c.in-Exports.exports c.get.ensures.unfolds c.in-Exports.is

pub returns-in-Exports-clause-within : goal.returns-in-Exports-clause-within
returns-in-Exports-clause-within c =
    listed_all (IsEntityWithin (total c.args.types.now.core)) c.get.result.now c.in-Exports.exports c.in-Exports.is (c.modules_within.ensures c.args.id.index (n.CoreInstance c.get.result.now) c.get.ensures.found)

pub returns-in-Instantiated-clause-exports : goal.returns-in-Instantiated-clause-exports
returns-in-Instantiated-clause-exports c =
    let q = p.Module c.in-Instantiated.module in
    exports_of_module c.args.types.now (tree_at c.args.types.now (p.CoreInstance c.args.id)) c.get.result.now (p.CoreInstance c.args.id) c.in-Instantiated.module c.get-in-Instantiated.result.now c.get.ensures.unfolds
    c.in-Instantiated.is (module_seen c.args.types.now (tree_at c.args.types.now q) c.get-in-Instantiated.result.now q c.get-in-Instantiated.ensures.unfolds)

pub returns-in-Instantiated-clause-within : goal.returns-in-Instantiated-clause-within
returns-in-Instantiated-clause-within c =
    module_exports_all (IsEntityWithin (total c.args.types.now.core)) c.get-in-Instantiated.result.now.imports c.get-in-Instantiated.result.now.exports
    (c.modules_within.ensures c.in-Instantiated.module.index (n.Module c.get-in-Instantiated.result.now) c.get-in-Instantiated.ensures.found)
