use Rattle.std.proofs.Common.{sym, ap, ◌∙◌}
use Rattle.std.specs.Prelude.{option_copied}
use Rattle.wcv_types.specs.Resources.{Free}
use Rattle.wcv_types.specs.Unfold.{tree_in, trees}
use Rattle.wcv_types.proofs.Gaining.{gains_all}
use Rattle.wcv_types.proofs.Gathered.{known_gains}
use Rattle.wcv_walks.proofs.free_variables.join_known.Goals as goal

pub returns-in_ok-join-in-Some-clause-known : goal.returns-in_ok-join-in-Some-clause-known
returns-in_ok-join-in-Some-clause-known c e =
    gains_all (λ r. Free r (tree_in (trees c.args.types.now.nodes) c.args.place)) c.in-Some.set.now c.args.free.now c.join.new.free
    (known_gains c.args.types.now c.args.known.now c.args.place c.in-Some.set.now c.requires (sym c.get.ensures ∙ ap option_copied c.in-Some.is))
    c.in_ok-join-in-Some.ensures.ok
