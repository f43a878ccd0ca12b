use Rattle.std.proofs.Common.{[], ◌≤◌, ◌∙◌, length, sym, subst}
use Rattle.wcv_core.specs.CoreCode.{sub_code}
use Rattle.wcv_core.specs.CoreForm.{sub_form}
use Rattle.wcv_core.proofs.Coding.{pushed_item, pushed_all, all_codes-map}
use Rattle.wcv_core.proofs.core_codes.group_code.Goals as goal

pub loop-ty-preserved : goal.loop-ty-preserved
loop-ty-preserved c =
    pushed_item (λ t. sub_code (sub_form t)) [] c.args.group.now.types.items c.deref-ty-items.result.now c.loop-ty.ty-index c.ty-item.result c.deref-ty-items.ensures.value c.loop-ty-test.true c.ty-item.is c.loop-ty.invariant c.in_ok-push_sub.ensures

pub returns : goal.returns
returns c =
    let end : length c.args.group.now.types.items ≤ c.loop-ty.ty-index = subst (λ ts. length ts ≤ c.loop-ty.ty-index) c.deref-ty-items.ensures.value c.loop-ty-test.false in
    pushed_all (λ t. sub_code (sub_form t)) [] c.args.group.now.types.items c.loop-ty.ty-index end c.loop-ty.invariant ∙ sym (all_codes-map sub_code sub_form c.args.group.now.types.items)
