use Rattle.std.proofs.Common.{sym, ◌∙◌}
use Rattle.wcv_types.specs.Entities.{any_part}
use Rattle.wcv_types.specs.Unfold.{tree_at}
use Rattle.wcv_values.proofs.IdPasses.{owned_both, owned_left, owned_right, and_told, and_refused}
use Rattle.wcv_values.proofs.owned.same_owned.Goals as goal

pub returns-then-all_among : goal.returns-then-all_among
returns-then-all_among c = c.all_among-then-all_among.ensures ∙ sym (owned_both (tree_at c.args.types.now (any_part c.args.a)) (tree_at c.args.types.now (any_part c.args.b)) c.in-Some.x.now c.in-Some-owned_resources.y.now c.in-Some.ensures c.in-Some-owned_resources.ensures ∙ and_told _ _ (sym c.all_among.ensures ∙ c.if-all_among.true))

pub returns-else-all_among : goal.returns-else-all_among
returns-else-all_among c = c.if-all_among.false ∙ sym (owned_both (tree_at c.args.types.now (any_part c.args.a)) (tree_at c.args.types.now (any_part c.args.b)) c.in-Some.x.now c.in-Some-owned_resources.y.now c.in-Some.ensures c.in-Some-owned_resources.ensures ∙ and_refused _ _ (sym c.all_among.ensures ∙ c.if-all_among.false))

pub returns-in-None-owned_resources : goal.returns-in-None-owned_resources
returns-in-None-owned_resources c = owned_left (tree_at c.args.types.now (any_part c.args.a)) (tree_at c.args.types.now (any_part c.args.b)) c.in-Some.x.now c.len.result c.in-Some.ensures c.in-None-owned_resources.ensures c.len.ensures.value

pub returns-in-Some-owned_resources-2 : goal.returns-in-Some-owned_resources-2
returns-in-Some-owned_resources-2 c = owned_right (tree_at c.args.types.now (any_part c.args.a)) (tree_at c.args.types.now (any_part c.args.b)) c.in-Some-owned_resources-2.y.now c.len-in-Some-owned_resources-2.result c.in-None.ensures c.in-Some-owned_resources-2.ensures c.len-in-Some-owned_resources-2.ensures.value
