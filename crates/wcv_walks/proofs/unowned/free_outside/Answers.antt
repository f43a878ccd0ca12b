use Rattle.std.proofs.Common.{sym, ap, ◌∙◌}
use Rattle.std.specs.Prelude.{option_copied}
use Rattle.wcv_types.specs.Resources as resources
use Rattle.wcv_types.specs.Tree.{head}
use Rattle.wcv_types.specs.Unfold.{tree_at}
use Rattle.wcv_types.proofs.Gaining.{outside_next}
use Rattle.wcv_walks.proofs.unowned.free_outside.Goals as goal

pub loop-k-preserved : goal.loop-k-preserved
loop-k-preserved c =
    outside_next (resources.owns (head (tree_at c.args.types.now c.args.part))) c.args.inside.now c.loop-k.k c.in-Some.id.now c.args.free.now c.loop-k.free c.push_unowned.new.free (sym c.get_index.ensures ∙ ap option_copied c.in-Some.is)
    c.loop-k.invariant c.in_ok-push_unowned-in-Some.ensures.ok
