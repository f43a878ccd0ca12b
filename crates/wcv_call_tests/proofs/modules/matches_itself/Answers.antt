use Rattle.wcv_lower.specs.Context.{core_modules}
use Rattle.wcv_spaces.proofs.Found.{core_stands_at}
use Rattle.wcv_call_tests.proofs.modules.matches_itself.Goals as goal

pub module_type-requires-clause-a : goal.module_type-requires-clause-a
module_type-requires-clause-a c = core_stands_at c.args.types.now c.args.state.now c.requires.stands core_modules 0 c.in-Ok.id c.in-Ok.ensures.ok

pub module_type-requires-clause-b : goal.module_type-requires-clause-b
module_type-requires-clause-b c = core_stands_at c.args.types.now c.args.state.now c.requires.stands core_modules 0 c.in-Ok.id c.in-Ok.ensures.ok
