use Rattle.wcv_spaces.proofs.Listed.{has_no_value}
use Rattle.wcv_resources.proofs.kept.keep.Goals as goal

pub insert-requires : goal.insert-requires
insert-requires c = has_no_value c.args.resource c.args.paths.now c.requires
