use Rattle.std.proofs.Common.{sym, ap, ◌∙◌, List, ℕ}
use Rattle.wcv_syntax.specs.NameFaults.{name_fault}
use Rattle.wcv_names.specs.WholeNames.{extern_name}
use Rattle.wcv_names.proofs.NameRules.{by_checked}
use Rattle.wcv_names.proofs.whole_name.check_whole_name.Goals as goal

pub returns-in-Err-clause-err : goal.returns-in-Err-clause-err
returns-in-Err-clause-err c =
    let h = c.in-Err.ensures.err in
    by_checked c.args.is_instance c.args.features.now (extern_name c.args.name.now) c.args.offset c.in-Err.error
    (ap (λ (t : List ℕ). name_fault c.args.features.now t) (sym c.as_str.ensures) ∙ h.0) h.1
