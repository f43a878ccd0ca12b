use Rattle.std.proofs.Common.{sym, subst, arith}
use Rattle.std.proofs.lemmas.List.Elements.{All-get_or}
use Rattle.wcv_core.specs.CoreGroups.{total}
use Rattle.wcv_core.specs.CoreSizes.{IsEntityWithin}
use Rattle.wcv_types.proofs.CoreSizes.{known, sized_more}
use Rattle.wcv_types.proofs.core_sizes.core_items_size.Goals as goal

pub core_item_size-requires : goal.core_item_size-requires
core_item_size-requires g c =
    let x = c.item-item.result in
    record { known = known (total c.args.core.now) x.1 (subst (λ y. IsEntityWithin (total c.args.core.now) y.1) (sym c.item-item.is) (All-get_or (λ y. IsEntityWithin (total c.args.core.now) y.1) c.args.items.now c.loop-item.item-index x (omega arith) c.requires)) }

pub loop-item-preserved : goal.loop-item-preserved
loop-item-preserved g c =
    sized_more c.args.core.now c.args.items.now c.loop-item.item-index c.item-item.result c.loop-item.size _ c.core_item_size.result (omega arith) c.item-item.is c.loop-item.invariant c.core_item_size.ensures c.saturating_add-size.ensures
