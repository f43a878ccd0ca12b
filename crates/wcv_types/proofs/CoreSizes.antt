-- What core items count: those that a core module has, and those that it exports.
use Rattle.std.proofs.Common.{◌≡◌, ◌<◌, ◌≤◌, ℕ, zero, suc, ◌+◌, ◌-◌, List, [], ◌∷◌, ◌++◌, length, map, min, take, slice_index_or, refl, sym, ◌∙◌, ap, subst, arith, add-one}
use Rattle.std.specs.Prelude.{All}
use Rattle.wcv_core.specs.CoreForm.{Group}
use Rattle.wcv_core.specs.CoreGroups.{total}
use Rattle.wcv_core.specs.CoreSizes.{IsEntityWithin, IsEntityKnown, entity_size}
use Rattle.wcv_core.specs.declared.core_types.EntityType.{EntityType}
use Rattle.wcv_core.specs.declared.core_types.EntityType.TheVariants as entity
use Rattle.wcv_types.specs.Arena.{Arena}
use Rattle.wcv_types.specs.CoreParts.{instance_exports_in, exported_items}
use Rattle.wcv_types.specs.Standing.{entity_sizes, own_size}
use Rattle.wcv_types.specs.Tree.{Text}
use Rattle.wcv_types.specs.Unfold.{Type_tree, core_import_slots, core_export_slots, slot_parts, tree_at, trees, unfolded}
use Rattle.wcv_types.specs.declared.arena.Node.TheVariants as n
use Rattle.wcv_types.specs.declared.core_shapes.ModuleType.{ModuleType}
use Rattle.wcv_types.specs.declared.ids.ComponentCoreModuleTypeId.{ComponentCoreModuleTypeId}
use Rattle.wcv_types.specs.declared.ids.Part.TheVariants as p
use Rattle.wcv_types.proofs.All.{all-mapped_back}
use Rattle.wcv_types.proofs.CoreGrown.{sizes-append}
use Rattle.wcv_types.proofs.Unfolding.{all_left, all_right}

pub known : (k : ℕ) (e : EntityType) → IsEntityWithin k e → IsEntityKnown k e
known k (entity.Func t) h = h
known k (entity.Tag t) h = h
known k (entity.Table t) h = tt
known k (entity.Memory m) h = tt
known k (entity.Global g) h = tt

-- ## One item after another

module _ {K : Type 0} (gs : List Group) where
  abbrev sizes : List (K × EntityType) → ℕ
  sizes es = entity_sizes gs (map (λ e. e.1) es)

  sizes_suc : (es : List (K × EntityType)) (k : ℕ) (x : K × EntityType) → k < length es → x ≡ slice_index_or es k x → sizes (take (suc k) es) ≡ sizes (take k es) + entity_size gs x.1
  sizes_suc [] k x h e = absurd (omega (arith, h))
  sizes_suc (y ∷ es) zero x h e = let same : entity_size gs x.1 ≡ entity_size gs y.1 = ap (λ (z : K × EntityType). entity_size gs z.1) e in omega (arith, same)
  sizes_suc (y ∷ es) (suc k) x h e = omega (arith, sizes_suc es k x (omega (arith, h)) e)

  -- one more item, up to the greatest number
  pub sized_more : (es : List (K × EntityType)) (k : ℕ) (x : K × EntityType) (s m w : ℕ) → k < length es → x ≡ slice_index_or es k x → s ≡ min (entity_sizes gs (map (λ e. e.1) (take k es))) 18446744073709551615 → w ≡ entity_size gs x.1 →
      m ≡ min (s + w) 18446744073709551615 → m ≡ min (entity_sizes gs (map (λ e. e.1) (take (k + 1) es))) 18446744073709551615
  sized_more es k x s m w h e f g i =
      let more : sizes (take (suc k) es) ≡ sizes (take k es) + entity_size gs x.1 = sizes_suc es k x h e in
      subst (λ (j : ℕ). m ≡ min (sizes (take j es)) 18446744073709551615) (sym (add-one k)) (omega (arith, more, f, g, i))

-- ## Of a core module

-- the size of the type is 1, that of its imports and that of its exports
pub module_sizes : (gs : List Group) (is : List ((Text × Text) × EntityType)) (es : List (Text × EntityType)) → entity_sizes gs (map (λ i. i.1) is ++ map (λ e. e.1) es) ≡ entity_sizes gs (map (λ i. i.1) is) + entity_sizes gs (map (λ e. e.1) es)
module_sizes gs is es = sizes-append gs (map (λ i. i.1) is) (map (λ e. e.1) es)

module _ (gs : List Group) (is : List ((Text × Text) × EntityType)) (es : List (Text × EntityType)) where
  abbrev all : List EntityType
  all = map (λ i. i.1) is ++ map (λ e. e.1) es

  pub imports_within : All (IsEntityWithin (total gs)) all → All (λ (i : (Text × Text) × EntityType). IsEntityWithin (total gs) i.1) is
  imports_within w =
      all-mapped_back (λ (i : (Text × Text) × EntityType). IsEntityWithin (total gs) i.1) (IsEntityWithin (total gs)) (λ (i : (Text × Text) × EntityType). i.1) (λ i h. h) is
      (all_left (IsEntityWithin (total gs)) (map (λ i. i.1) is) (map (λ e. e.1) es) w)

  pub exports_within : All (IsEntityWithin (total gs)) all → All (λ (e : Text × EntityType). IsEntityWithin (total gs) e.1) es
  exports_within w =
      all-mapped_back (λ (e : Text × EntityType). IsEntityWithin (total gs) e.1) (IsEntityWithin (total gs)) (λ (e : Text × EntityType). e.1) (λ e h. h) es
      (all_right (IsEntityWithin (total gs)) (map (λ i. i.1) is) (map (λ e. e.1) es) w)

  module _ (s : ℕ) (stated : s ≡ own_size gs all) where
    -- without what it imports
    pub without_imports : (k : ℕ) → s < 4294967295 → k ≡ min (entity_sizes gs (map (λ i. i.1) is)) 18446744073709551615 → (k ≤ s) × (s - k ≡ own_size gs (map (λ e. e.1) es))
    without_imports k h e = (omega (arith, stated, h, e, module_sizes gs is es), omega (arith, stated, h, e, module_sizes gs is es))

module _ (ts : List Type_tree) where
  pub listed_seen : (es : List (Text × EntityType)) → instance_exports_in (slot_parts ts (core_export_slots es)) ≡ es
  listed_seen [] = refl
  listed_seen (e ∷ es) = ap (λ (fs : List (Text × EntityType)). e ∷ fs) (listed_seen es)

  -- the parts of its tree export what it does
  exported_seen : (is : List ((Text × Text) × EntityType)) (es : List (Text × EntityType)) → instance_exports_in (slot_parts ts (core_import_slots is ++ core_export_slots es)) ≡ es
  exported_seen [] es = listed_seen es
  exported_seen (i ∷ is) es = exported_seen is es

pub exported_same : (a : Arena) (i : ComponentCoreModuleTypeId) (s : ModuleType) → tree_at a (p.Module i) ≡ unfolded a i.index (n.Module s) → exported_items (tree_at a (p.Module i)) ≡ map (λ e. e.1) s.exports
exported_same a i s u = ap exported_items u ∙ ap (λ (es : List (Text × EntityType)). map (λ e. e.1) es) (exported_seen (trees a.nodes) s.imports s.exports)
