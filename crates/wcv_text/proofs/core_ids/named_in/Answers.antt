use Rattle.std.proofs.Common.{◌≡◌, ◌++◌, ◌∙◌, ◌<◌, length, get_or, ap, subst, sym, rules}
use Rattle.wcv_core.specs.CoreForm.{SubForm, sub_form}
use Rattle.wcv_core.specs.CoreIds.{sub_ids, ids_in_group}
use Rattle.wcv_types.specs.CoreText.{group_at}
use Rattle.wcv_text.proofs.Firsts.{group_length, group_get}
use Rattle.wcv_text.proofs.Gathering.{next_ids}
use Rattle.wcv_text.proofs.core_ids.named_in.Goals as goal

pub loop-k-preserved : goal.loop-k-preserved
loop-k-preserved c =
    let d : SubForm = sub_form c.get.result.now in
    let turn : c.loop-k.k < c.place-len.result.1 = search rules in
    let all : length (group_at c.args.core.now c.args.id.index) ≡ c.place-len.result.1 = group_length c.args.core.now c.args.id.index c.place-len.result.0.index c.place-len.result.1 c.place-len.ensures.place in
    let within : c.loop-k.k < length (group_at c.args.core.now c.args.id.index) = subst (λ n. c.loop-k.k < n) (sym all) turn in
    let found : sub_form c.get.result.now ≡ get_or (group_at c.args.core.now c.args.id.index) c.loop-k.k d =
    c.get.ensures d ∙ group_get c.args.core.now c.args.id.index c.place-len.result.0.index c.place-len.result.1 c.loop-k.k d c.place-len.ensures.place turn in
    next_ids sub_ids c.loop-k.ids c.push_sub.new.ids (ids_in_group (group_at c.args.core.now c.args.id.index)) c.loop-k.k d (group_at c.args.core.now c.args.id.index) within
    (c.in_ok-push_sub.ensures ∙ ap (λ s. c.loop-k.ids ++ sub_ids s) found) c.loop-k.invariant
