use Rattle.std.proofs.Common.{rules, List}
use Rattle.wcv_core.specs.Checks.{Checks, IsFree, CausedBy, all_checks}
use Rattle.wcv_core.specs.CoreWritten.{Core_entry, val_checks}
use Rattle.wcv_core.proofs.Causes.{free_both}
use Rattle.wcv_core.proofs.Closing.{caused_left, caused_right}
use Rattle.wcv_core.proofs.core_closing.close_func.Goals as goal

pub returns-in-Ok-close_vals-clause-free : goal.returns-in-Ok-close_vals-clause-free
returns-in-Ok-close_vals-clause-free g c =
    let es : List Core_entry = g.G.InternRecGroup.entries c.args.group.now in
    let ps : Checks = all_checks (val_checks c.args.site.known es c.args.site.len) c.args.func.now.params.items in
    let rs : Checks = all_checks (val_checks c.args.site.known es c.args.site.len) c.args.func.now.results.items in
    let p : IsFree ps = search rules in
    let r : IsFree rs = search rules in
    free_both ps rs p r

pub returns-in-Err-close_vals-clause-err : goal.returns-in-Err-close_vals-clause-err
returns-in-Err-close_vals-clause-err g c =
    let es : List Core_entry = g.G.InternRecGroup.entries c.args.group.now in
    let ps : Checks = all_checks (val_checks c.args.site.known es c.args.site.len) c.args.func.now.params.items in
    let rs : Checks = all_checks (val_checks c.args.site.known es c.args.site.len) c.args.func.now.results.items in
    let r : CausedBy rs c.args.site.offset c.in-Err-close_vals.err = search rules in
    caused_right ps rs c.args.site.offset c.in-Err-close_vals.err r

pub returns-in-Err-clause-err : goal.returns-in-Err-clause-err
returns-in-Err-clause-err g c =
    let es : List Core_entry = g.G.InternRecGroup.entries c.args.group.now in
    let ps : Checks = all_checks (val_checks c.args.site.known es c.args.site.len) c.args.func.now.params.items in
    let rs : Checks = all_checks (val_checks c.args.site.known es c.args.site.len) c.args.func.now.results.items in
    let p : CausedBy ps c.args.site.offset c.in-Err.err = search rules in
    caused_left ps rs c.args.site.offset c.in-Err.err p
