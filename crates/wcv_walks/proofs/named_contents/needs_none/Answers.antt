use Rattle.std.proofs.Common.{ap, ◌∙◌, eqb}
use Rattle.wcv_types.specs.Entities.{any_part}
use Rattle.wcv_types.specs.Unfold.{tree_at}
use Rattle.wcv_walks.proofs.Needing.{passes_where_none, none_seen}
use Rattle.wcv_walks.proofs.named_contents.needs_none.Goals as goal

pub need_type-requires-clause-seen : goal.need_type-requires-clause-seen
need_type-requires-clause-seen c = none_seen c.args.types.now c.args.created.now c.args.set.now c.args.needed.now c.args.seen.now c.requires.seen

pub returns : goal.returns
returns c =
    ap (λ k. eqb k 0) c.len.ensures ∙
    passes_where_none c.args.types.now (tree_at c.args.types.now (any_part c.args.id)) c.args.set.now c.args.created.now c.args.needed.now c.need_type.new.needed c.requires.created c.requires.needed c.in_ok-need_type.ensures.needed
