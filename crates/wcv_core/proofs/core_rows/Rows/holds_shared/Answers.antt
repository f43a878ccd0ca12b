use Rattle.wcv_core.specs.CoreForm.{sub_form}
use Rattle.wcv_core.proofs.Within.{seen_within}
use Rattle.wcv_core.proofs.core_rows.Rows.holds_shared.Goals as goal

pub form_shared-requires : goal.form_shared-requires
form_shared-requires c = seen_within c.args.self.now c.args.id.index c.first_of.result (sub_form c.get.result.now) c.first_of.ensures.closed c.requires c.first_of.ensures.first c.get.ensures
