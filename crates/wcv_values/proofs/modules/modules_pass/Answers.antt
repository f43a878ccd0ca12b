use Rattle.std.proofs.Common.{arith}
use Rattle.wcv_atoms.proofs.Extents.{module_extent}
use Rattle.wcv_values.proofs.modules.modules_pass.Goals as goal

pub returns-in_err-module_matches-clause-counted : goal.returns-in_err-module_matches-clause-counted
returns-in_err-module_matches-clause-counted g c =
    let x = module_extent c.args.types.now c.args.a.index c.visited.result.now _ c.nodes_fit.ensures.all c.visited.ensures.found c.visited.ensures.unfolds in
    let y = module_extent c.args.types.now c.args.b.index c.visited-2.result.now _ c.nodes_fit.ensures.all c.visited-2.ensures.found c.visited-2.ensures.unfolds in
    omega (arith, x, y, c.visited.ensures.counted, c.visited-2.ensures.counted)

pub returns-in_err-module_matches-2-clause-counted : goal.returns-in_err-module_matches-2-clause-counted
returns-in_err-module_matches-2-clause-counted g c =
    let x = module_extent c.args.types.now c.args.a.index c.visited.result.now _ c.nodes_fit.ensures.all c.visited.ensures.found c.visited.ensures.unfolds in
    let y = module_extent c.args.types.now c.args.b.index c.visited-2.result.now _ c.nodes_fit.ensures.all c.visited-2.ensures.found c.visited-2.ensures.unfolds in
    omega (arith, x, y, c.visited.ensures.counted, c.visited-2.ensures.counted)

pub returns-in_ok-module_matches-2-clause-counted : goal.returns-in_ok-module_matches-2-clause-counted
returns-in_ok-module_matches-2-clause-counted g c =
    let x = module_extent c.args.types.now c.args.a.index c.visited.result.now _ c.nodes_fit.ensures.all c.visited.ensures.found c.visited.ensures.unfolds in
    let y = module_extent c.args.types.now c.args.b.index c.visited-2.result.now _ c.nodes_fit.ensures.all c.visited-2.ensures.found c.visited-2.ensures.unfolds in
    omega (arith, x, y, c.visited.ensures.counted, c.visited-2.ensures.counted)

pub returns-else-branch-clause-counted : goal.returns-else-branch-clause-counted
returns-else-branch-clause-counted g c =
    let x = module_extent c.args.types.now c.args.a.index c.visited.result.now _ c.nodes_fit.ensures.all c.visited.ensures.found c.visited.ensures.unfolds in
    let y = module_extent c.args.types.now c.args.b.index c.visited-2.result.now _ c.nodes_fit.ensures.all c.visited-2.ensures.found c.visited-2.ensures.unfolds in
    omega (arith, x, y, c.visited.ensures.counted, c.visited-2.ensures.counted)

pub returns-else-exact-clause-counted : goal.returns-else-exact-clause-counted
returns-else-exact-clause-counted g c =
    let x = module_extent c.args.types.now c.args.a.index c.visited.result.now _ c.nodes_fit.ensures.all c.visited.ensures.found c.visited.ensures.unfolds in
    let y = module_extent c.args.types.now c.args.b.index c.visited-2.result.now _ c.nodes_fit.ensures.all c.visited-2.ensures.found c.visited-2.ensures.unfolds in
    omega (arith, x, y, c.visited.ensures.counted, c.visited-2.ensures.counted)
