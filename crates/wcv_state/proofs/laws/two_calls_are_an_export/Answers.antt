use Rattle.wcv_state.proofs.BothCalls.{export_by_both, written_by_both}
use Rattle.wcv_state.proofs.laws.two_calls_are_an_export.Goals as goal

pub returns : goal.returns
returns c = record { item = export_by_both; entity = written_by_both }
