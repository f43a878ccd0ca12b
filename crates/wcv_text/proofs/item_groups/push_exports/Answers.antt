use Rattle.std.proofs.Common.{◌≡◌, ◌∙◌, ap, List, Some, sym, subst, take, take_all, rules, string_bytes}
use Rattle.std.specs.Prelude.{slice_get}
use Rattle.std.specs.List.{fold}
use Rattle.wcv_core.specs.declared.core_types.EntityType.{EntityType}
use Rattle.wcv_types.specs.CoreText.{item_ids}
use Rattle.wcv_types.specs.Text.{Written, write_groups}
use Rattle.wcv_types.specs.Tree.{Text}
use Rattle.wcv_text.specs.Numbers.{Shows}
use Rattle.wcv_text.proofs.Folds.{fold_step}
use Rattle.wcv_text.proofs.Items.{items_fold}
use Rattle.wcv_text.proofs.item_groups.push_exports.Goals as goal

pub loop-k-preserved : goal.loop-k-preserved
loop-k-preserved c = λ before w h.
    let f : Written → Text × EntityType → Written = λ v x. write_groups v (item_ids x.1) in
    let found : slice_get c.args.exports.now c.loop-k.k ≡ Some c.in-Some.entry.now = search rules in
    subst (Shows c.push_groups.new.numbers before (string_bytes c.push_groups.new.text)) (sym (fold_step f w c.args.exports.now c.loop-k.k c.in-Some.entry.now found))
    (c.in_ok-push_groups-in-Some.ensures.shows before _ (c.loop-k.invariant before w h))

pub returns : goal.returns
returns c = λ before w h.
    let f : Written → Text × EntityType → Written = λ v x. write_groups v (item_ids x.1) in
    let all : take c.loop-k.k c.args.exports.now ≡ c.args.exports.now = take_all c.loop-k.k c.args.exports.now (search rules) in
    subst (Shows c.loop-k.numbers before (string_bytes c.loop-k.text)) (ap (λ (xs : List (Text × EntityType)). fold f w xs) all ∙ items_fold (λ (x : Text × EntityType). x.1) c.args.exports.now w) (c.loop-k.invariant before w h)
