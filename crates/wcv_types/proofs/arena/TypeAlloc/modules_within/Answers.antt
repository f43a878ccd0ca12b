use Rattle.std.proofs.Common.{◌≡◌, ℕ, Some, subst}
use Rattle.std.specs.Prelude.{slice_get, All}
use Rattle.wcv_core.specs.CoreGroups.{total}
use Rattle.wcv_core.specs.CoreSizes.{IsEntityWithin}
use Rattle.wcv_types.specs.Arena.{Arena}
use Rattle.wcv_types.specs.Standing.{core_items}
use Rattle.wcv_types.specs.declared.arena.Node.{Node}
use Rattle.wcv_types.proofs.CoreGrown.{items_within}
use Rattle.wcv_types.proofs.arena.TypeAlloc.modules_within.Goals as goal

pub returns : goal.returns
returns c =
    subst (λ (a : Arena). (k : ℕ) (x : Node) → slice_get a.nodes k ≡ Some x → All (IsEntityWithin (total a.core)) (core_items x)) c.self.view_is (items_within _ c.self.invariant)
