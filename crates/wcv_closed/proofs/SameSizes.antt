-- What a core function counts is read off the closed form.
use Rattle.std.proofs.Common.{◌≡◌, ℕ, ◌+◌, ◌<◌, List, length, refl, sym, ◌∙◌, ap}
use Rattle.wcv_core.specs.CoreForm.{CompositeForm, func_form, struct_form, array_form, SubForm, Group}
use Rattle.wcv_core.specs.CoreGroups.{total}
use Rattle.wcv_core.specs.CoreIds.{all_ids, val_ids}
use Rattle.wcv_core.specs.CoreMatching.{type_at}
use Rattle.wcv_core.specs.CoreSizes.{IsEntityWithin, form_size, entity_size}
use Rattle.wcv_core.specs.declared.core_types.EntityType.{EntityType}
use Rattle.wcv_core.specs.declared.core_types.EntityType.TheVariants as entity
use Rattle.wcv_closed.specs.ClosedMatching.{own_form}
use Rattle.wcv_closed.specs.ClosedTable.{IsTable}
use Rattle.wcv_closed.specs.ClosedType.{Closed, closed}
use Rattle.wcv_closed.specs.ClosedValue.{func, tag, closed_item}
use Rattle.wcv_closed.specs.NumberedIds.{numbered_each, numbered_val, numbered_form}
use Rattle.wcv_closed.proofs.Numbering.{length-numbered}
use Rattle.wcv_closed.proofs.Shown.{Shown, shown}

size_numbered : (n : ℕ) (x : CompositeForm) → form_size (numbered_form n x) ≡ form_size x
size_numbered n (func_form ps rs) =
    let a : length (numbered_each val_ids numbered_val n ps) ≡ length ps = length-numbered val_ids numbered_val n ps in
    let b : length (numbered_each val_ids numbered_val (n + length (all_ids val_ids ps)) rs) ≡ length rs = length-numbered val_ids numbered_val (n + length (all_ids val_ids ps)) rs in
    λ j. 1 + a j + b j
size_numbered n (struct_form fs) = refl
size_numbered n (array_form f) = refl

size_shown : (gs : List Group) (i : ℕ) → IsTable gs → i < total gs → form_size (own_form (closed gs i)).inner ≡ form_size (type_at gs i).inner
size_shown gs i t h = let s : Shown gs i = shown gs i t h in ap (λ (x : SubForm). form_size x.inner) s.own ∙ size_numbered _ (type_at gs i).inner

same_types : (gs hs : List Group) (i j : ℕ) → IsTable gs → IsTable hs → i < total gs → j < total hs → closed gs i ≡ closed hs j → form_size (type_at gs i).inner ≡ form_size (type_at hs j).inner
same_types gs hs i j t u h k e = sym (size_shown gs i t h) ∙ (ap (λ (c : Closed). form_size (own_form c).inner) e ∙ size_shown hs j u k)

same_funcs : (c d : Closed) → func c ≡ func d → c ≡ d
same_funcs c d e = cc

same_tags : (c d : Closed) → tag c ≡ tag d → c ≡ d
same_tags c d e = cc

pub same_sizes : (gs hs : List Group) (a b : EntityType) → IsTable gs → IsTable hs → IsEntityWithin (total gs) a → IsEntityWithin (total hs) b → closed_item gs a ≡ closed_item hs b → entity_size gs a ≡ entity_size hs b
same_sizes gs hs (entity.Func x) (entity.Func y) t u v w e = same_types gs hs x.index y.index t u v w (same_funcs (closed gs x.index) (closed hs y.index) e)
same_sizes gs hs (entity.Tag x) (entity.Tag y) t u v w e = same_types gs hs x.index y.index t u v w (same_tags (closed gs x.index) (closed hs y.index) e)
same_sizes gs hs (entity.Table x) (entity.Table y) t u v w e = refl
same_sizes gs hs (entity.Memory x) (entity.Memory y) t u v w e = refl
same_sizes gs hs (entity.Global x) (entity.Global y) t u v w e = refl
same_sizes gs hs _ _ t u v w e = cc
