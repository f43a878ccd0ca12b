use Rattle.std.proofs.Common.{◌||◌, nat_lt, false, ◌∙◌}
use Rattle.wcv_types.specs.Open.{listed}
use Rattle.wcv_types.specs.Unfold.{Type_tree, option_slot, slot_tree, trees}
use Rattle.wcv_flat.specs.Options.{use_checks}
use Rattle.wcv_flat.specs.RowTypes.{sync}
use Rattle.wcv_flat.specs.declared.options.Abi.TheVariants as abi
use Rattle.wcv_flat.proofs.Signing.{value_uses}
use Rattle.wcv_flat.proofs.lowering.passed_value.Goals as goal

pub returns-clause-uses : goal.returns-clause-uses
returns-clause-uses c o =
    let t : Type_tree = slot_tree (trees c.args.types.now.nodes) (option_slot c.args.ty) in
    (λ i. use_checks (sync o) abi.Lower (nat_lt 16 (c.len.ensures.len i) || c.value_points.ensures i) false false) ∙
    value_uses t (listed c.flat_types-params.result) c.flat_types-params.ensures o
