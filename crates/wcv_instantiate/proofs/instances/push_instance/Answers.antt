use Rattle.wcv_instantiate.proofs.OpenedType.{entries_parts}
use Rattle.wcv_instantiate.proofs.instances.push_instance.Goals as goal

pub over-shape-requires-clause-stand : goal.over-shape-requires-clause-stand
over-shape-requires-clause-stand c = entries_parts c.args.types.now c.args.exports c.requires.stand
