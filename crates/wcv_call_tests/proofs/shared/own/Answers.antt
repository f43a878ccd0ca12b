use Rattle.wcv_call_tests.proofs.MadeOf.{own_fits, own_made}
use Rattle.wcv_call_tests.proofs.shared.own.Goals as goal

pub push_ty-requires : goal.push_ty-requires
push_ty-requires c = own_fits c.args.types.now c.args.id c.requires

pub returns : goal.returns
returns c = let e = c.in_ok-made.ensures in own_made c.args.types.now c.push_ty.new.self c.args.id c.in_ok-made.made c.requires e.added e.last e.stands e.tree
