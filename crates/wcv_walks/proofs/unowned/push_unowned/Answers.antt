use Rattle.std.proofs.Common.{sym, ◌∙◌}
use Rattle.std.proofs.lemmas.Result.{on_ok_weaker}
use Rattle.wcv_types.specs.Resources as resources
use Rattle.wcv_types.specs.Tree.{head}
use Rattle.wcv_types.specs.Unfold.{tree_at}
use Rattle.wcv_types.proofs.Gaining.{unowned_held, unowned_push}
use Rattle.wcv_walks.proofs.unowned.push_unowned.Goals as goal

pub returns-then-owns-clause-ok : goal.returns-then-owns-clause-ok
returns-then-owns-clause-ok c = unowned_held (resources.owns (head (tree_at c.args.types.now c.args.part))) c.args.free.now c.args.id (sym c.owns.ensures ∙ c.if-owns.true)

pub returns-clause-ok : goal.returns-clause-ok
returns-clause-ok c =
    on_ok_weaker c.push.result (λ w. unowned_push (resources.owns (head (tree_at c.args.types.now c.args.part))) c.args.free.now c.push.new.self c.args.id (sym c.owns.ensures ∙ c.if-owns.false) w) c.push.ensures.ok
