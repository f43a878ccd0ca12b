use Rattle.wcv_instantiate.proofs.Opened.{instance_opened}
use Rattle.wcv_instantiate.proofs.opening.open_instance.Goals as goal

pub returns-clause-ok : goal.returns-clause-ok
returns-clause-ok c = instance_opened c.args.types.now c.instance_of.new.types c.args.id c.in_ok-made.made c.in_ok-made.ensures.grown c.requires.stands c.in_ok-made.ensures.ok
