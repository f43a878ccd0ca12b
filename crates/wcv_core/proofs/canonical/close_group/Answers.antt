use Rattle.std.proofs.Common.{rules, arith, ◌≡◌, List, length, map, subst}
use Rattle.wcv_core.specs.Checks.{IsFree, CausedBy, all_checks}
use Rattle.wcv_core.specs.CoreFeatures.{group_needs}
use Rattle.wcv_core.specs.CoreForm.{Group, sub_form, group_form}
use Rattle.wcv_core.specs.CoreJoining.{order_checks}
use Rattle.wcv_core.specs.CoreWritten.{Core_entry, index_checks, closed_group}
use Rattle.wcv_core.specs.declared.features.WasmFeatures.{WasmFeatures}
use Rattle.wcv_core.proofs.Rowing.{length-map}
use Rattle.wcv_core.proofs.Joining.{needs_caused, index_caused, order_caused, written_free}
use Rattle.wcv_core.proofs.canonical.close_group.Goals as goal

pub returns-in-Err-close_subs-clause-err : goal.returns-in-Err-close_subs-clause-err
returns-in-Err-close_subs-clause-err g c =
    let es : List Core_entry = g.G.InternRecGroup.entries c.args.group.now in
    let fs : WasmFeatures = g.G.InternRecGroup.allowed c.args.group.now in
    let w : Group = group_form c.args.rec in
    let m : length w ≡ length c.args.rec.types.items = length-map sub_form c.args.rec.types.items in
    let l : c.len.result ≡ length w = omega (arith, c.len.ensures) in
    let b : CausedBy (all_checks (index_checks c.args.known es c.len.result) w) c.args.offset c.in-Err-close_subs.err = search rules in
    index_caused fs c.args.known es w c.len.result c.args.offset c.in-Err-close_subs.err l b

pub returns-clause-free : goal.returns-clause-free
returns-clause-free g c =
    let es : List Core_entry = g.G.InternRecGroup.entries c.args.group.now in
    let fs : WasmFeatures = g.G.InternRecGroup.allowed c.args.group.now in
    let w : Group = group_form c.args.rec in
    let m : length w ≡ length c.args.rec.types.items = length-map sub_form c.args.rec.types.items in
    let l : c.len.result ≡ length w = omega (arith, c.len.ensures) in
    let xs : Group = map sub_form c.as_slice.result.now in
    let k : xs ≡ closed_group es w = search rules in
    let a : IsFree (group_needs fs w) = search rules in
    let b : IsFree (all_checks (index_checks c.args.known es c.len.result) w) = search rules in
    let o : IsFree (order_checks 0 xs) = search rules in
    written_free fs c.args.known es w c.len.result xs l k a b o

pub returns-in-Err-clause-err : goal.returns-in-Err-clause-err
returns-in-Err-clause-err g c =
    let es : List Core_entry = g.G.InternRecGroup.entries c.args.group.now in
    let fs : WasmFeatures = g.G.InternRecGroup.allowed c.args.group.now in
    let w : Group = group_form c.args.rec in
    let a : CausedBy (group_needs c.features.result.now w) c.args.offset c.in-Err.err = search rules in
    let b : CausedBy (group_needs fs w) c.args.offset c.in-Err.err = subst (λ (f : WasmFeatures). CausedBy (group_needs f w) c.args.offset c.in-Err.err) c.features.ensures a in
    needs_caused fs c.args.known es w c.args.offset c.in-Err.err b

pub returns-in-Err-check_order-clause-err : goal.returns-in-Err-check_order-clause-err
returns-in-Err-check_order-clause-err g c =
    let es : List Core_entry = g.G.InternRecGroup.entries c.args.group.now in
    let fs : WasmFeatures = g.G.InternRecGroup.allowed c.args.group.now in
    let w : Group = group_form c.args.rec in
    let xs : Group = map sub_form c.as_slice.result.now in
    let k : xs ≡ closed_group es w = search rules in
    let f : IsFree (all_checks (index_checks c.args.known es c.len.result) w) = search rules in
    let b : CausedBy (order_checks 0 xs) c.args.offset c.in-Err-check_order.err = search rules in
    order_caused fs c.args.known es w c.len.result xs c.args.offset c.in-Err-check_order.err k f b
