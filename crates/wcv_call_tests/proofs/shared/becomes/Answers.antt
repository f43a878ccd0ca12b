use Rattle.wcv_types.specs.declared.ids.Part.TheVariants as p
use Rattle.wcv_call_tests.proofs.shared.becomes.Goals as goal

pub is_as_due-before-requires : goal.is_as_due-before-requires
is_as_due-before-requires c = c.requires.made.stand (p.Func c.args.id) c.requires.made.itself
