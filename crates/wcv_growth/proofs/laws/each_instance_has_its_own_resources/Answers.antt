use Rattle.wcv_growth.proofs.Instanced.{introduced_are, introduced_apart, shared_free}
use Rattle.wcv_growth.proofs.laws.each_instance_has_its_own_resources.Goals as goal

pub returns : goal.returns
returns c = record { made = introduced_are; apart = introduced_apart; shared = shared_free }
