use Rattle.wcv_core.specs.CoreGroups.{total}
use Rattle.wcv_core.specs.CoreSizes.{IsEntityWithin}
use Rattle.wcv_matching.proofs.ModuleTrees.{module_imports_all, module_exports_all}
use Rattle.wcv_matching.proofs.modules.shapes_match.Goals as goal

pub imports_match-requires-clause-a : goal.imports_match-requires-clause-a
imports_match-requires-clause-a c = module_imports_all (IsEntityWithin (total c.args.types.now.core)) c.args.a.now.imports c.args.a.now.exports c.requires.a

pub imports_match-requires-clause-b : goal.imports_match-requires-clause-b
imports_match-requires-clause-b c = module_imports_all (IsEntityWithin (total c.args.types.now.core)) c.args.b.now.imports c.args.b.now.exports c.requires.b

pub exports_match-requires-clause-a : goal.exports_match-requires-clause-a
exports_match-requires-clause-a c = module_exports_all (IsEntityWithin (total c.args.types.now.core)) c.args.a.now.imports c.args.a.now.exports c.requires.a

pub exports_match-requires-clause-b : goal.exports_match-requires-clause-b
exports_match-requires-clause-b c = module_exports_all (IsEntityWithin (total c.args.types.now.core)) c.args.b.now.imports c.args.b.now.exports c.requires.b
