use Rattle.wcv_growth.proofs.NestedListed.{nested_lead}
use Rattle.wcv_growth.proofs.PathsLead.{root_lead}
use Rattle.wcv_growth.proofs.kept_laws.each_recorded_path_leads.Goals as goal

pub returns : goal.returns
returns c = record { root = root_lead; nested = nested_lead }
