use Rattle.wcv_call_tests.proofs.MadeOf.{tuple_fits, tuple_made}
use Rattle.wcv_call_tests.proofs.shared.twice.Goals as goal

pub push_ty-requires : goal.push_ty-requires
push_ty-requires c = tuple_fits c.args.types.now c.args.id c.in_ok-elements.elements c.in_ok-elements.ensures.items c.requires

pub returns : goal.returns
returns c = let e = c.in_ok-made.ensures in tuple_made c.args.types.now c.args.id c.in_ok-elements.elements c.in_ok-elements.ensures.items c.push_ty.new.self c.in_ok-made.made e.added e.last e.stands e.tree
