use Rattle.wcv_types.proofs.FirstPath.{first_path-leads}
use Rattle.wcv_types.proofs.the_first_path_leads_to_its_resource.Goals as goal

pub returns : goal.returns
returns c = first_path-leads
