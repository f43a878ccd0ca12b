-- An item that is there is not missing.
use Rattle.std.proofs.Common.{◌≡◌, ℕ, refl, Some, None, option_map}
use Rattle.std.specs.Prelude.{Option, slice_get}
use Rattle.wcv_core.specs.Checks.{IsFree, missing}
use Rattle.wcv_syntax.specs.declared.instance.ComponentExternalKind.{ComponentExternalKind}
use Rattle.wcv_syntax.specs.declared.instance.ComponentExternalKind.TheVariants as kind
use Rattle.wcv_types.specs.declared.shapes.ComponentEntityType.{ComponentEntityType}
use Rattle.wcv_types.specs.declared.shapes.ComponentEntityType.TheVariants as entity
use Rattle.wcv_spaces.specs.Contents.{SpaceLists}
use Rattle.wcv_spaces.specs.Looking.{item_id, item_id_checks}

there : {I : Type 0} (to : I → ComponentEntityType) (o : Option I) (x : ComponentEntityType) → option_map to o ≡ Some x → IsFree (missing o)
there to None x e = cc
there to (Some i) x e = (refl, tt)

pub item_free : (s : SpaceLists) (w : ComponentExternalKind) (k : ℕ) (x : ComponentEntityType) → item_id s w k ≡ Some x → IsFree (item_id_checks s w k)
item_free s kind.Module k x e = there entity.Module (slice_get s.core_modules k) x e
item_free s kind.Func k x e = there entity.Func (slice_get s.funcs k) x e
item_free s kind.Ty k x e = there (λ r. entity.Ty r r) (slice_get s.types k) x e
item_free s kind.Instance k x e = there entity.Instance (slice_get s.instances k) x e
item_free s kind.Component k x e = there entity.Component (slice_get s.components k) x e
item_free s kind.Value k x e = there (λ v. entity.Value v.0) (slice_get s.values k) x e
