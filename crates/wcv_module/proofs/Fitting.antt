-- The type that a module is fits the arena.
use Rattle.wcv_core.specs.Limits.{max_size}
use Rattle.std.proofs.Common.{◌≡◌, ℕ, suc, ◌<◌, ◌≤◌, List, [], ◌∷◌, ◌++◌, length, map, refl, sym, ◌∙◌, ap, arith, subst, All}
use Rattle.std.proofs.lemmas.List.Elements.{All-nil}
use Rattle.wcv_core.specs.CoreGroups.{total}
use Rattle.wcv_core.specs.CoreSizes.{IsEntityWithin}
use Rattle.wcv_core.specs.declared.core_types.EntityType.{EntityType}
use Rattle.wcv_syntax.specs.ModuleTypes.{Core_import, Core_export}
use Rattle.wcv_types.specs.Arena.{Arena}
use Rattle.wcv_types.specs.Measure.{depths}
use Rattle.wcv_types.specs.Standing.{Stands, GaveResource, Fits, core_items, entity_sizes}
use Rattle.wcv_types.specs.Unfold.{Type_tree, capped, core_import_slots, core_export_slots, parts_in, slot_parts, trees}
use Rattle.wcv_types.specs.declared.arena.Node.TheVariants as n
use Rattle.wcv_types.specs.declared.core_shapes.ModuleType.{ModuleType}
use Rattle.wcv_module.specs.Kept.{module_depth}

-- ## Depths

pub depth_none : (is : List Core_import) (es : List Core_export) → length is ≡ 0 → length es ≡ 0 → module_depth is es ≡ 1
depth_none [] [] h k = refl
depth_none [] (e ∷ es) h k = Prim.absurd (omega arith)
depth_none (i ∷ is) es h k = Prim.absurd (omega arith)

pub depth_imports : (is : List Core_import) (es : List Core_export) → 0 < length is → module_depth is es ≡ 2
depth_imports [] es h = Prim.absurd (omega arith)
depth_imports (i ∷ is) es h = refl

pub depth_exports : (is : List Core_import) (es : List Core_export) → 0 < length es → module_depth is es ≡ 2
depth_exports [] [] h = Prim.absurd (omega arith)
depth_exports [] (e ∷ es) h = refl
depth_exports (i ∷ is) es h = refl

-- entries have no parts
exports_flat : (ts : List Type_tree) (es : List Core_export) → depths (slot_parts ts (core_export_slots es)) ≤ 1
exports_flat ts [] = omega arith
exports_flat ts (e ∷ es) = omega (arith, exports_flat ts es)

imports_flat : (ts : List Type_tree) (is : List Core_import) (es : List Core_export) → depths (slot_parts ts (core_import_slots is ++ core_export_slots es)) ≤ 1
imports_flat ts [] es = exports_flat ts es
imports_flat ts (i ∷ is) es = omega (arith, imports_flat ts is es)

pub entries_depth : (ts : List Type_tree) (is : List Core_import) (es : List Core_export) → suc (depths (slot_parts ts (core_import_slots is ++ core_export_slots es))) ≡ module_depth is es
entries_depth ts [] [] = refl
entries_depth ts [] (e ∷ es) = omega (arith, exports_flat ts es)
entries_depth ts (i ∷ is) es = omega (arith, imports_flat ts is es)

pub depth_small : (is : List Core_import) (es : List Core_export) → module_depth is es ≤ 2
depth_small [] [] = omega arith
depth_small [] (e ∷ es) = omega arith
depth_small (i ∷ is) es = omega arith

-- ## Parts

exports_bare : (es : List Core_export) → parts_in (core_export_slots es) ≡ []
exports_bare [] = refl
exports_bare (e ∷ es) = exports_bare es

imports_bare : (is : List Core_import) (es : List Core_export) → parts_in (core_import_slots is ++ core_export_slots es) ≡ []
imports_bare [] es = exports_bare es
imports_bare (i ∷ is) es = imports_bare is es

-- ## Fitting

uncapped : (k : ℕ) → k ≤ max_size → k ≡ capped k
uncapped k h = omega arith

module_fits : (a : Arena) (s : ModuleType) → s.info.size ≤ max_size → s.info.size ≡ suc (entity_sizes a.core (core_items (n.Module s))) → s.info.depth ≡ module_depth s.imports s.exports
    → All (IsEntityWithin (total a.core)) (core_items (n.Module s)) → Fits a (n.Module s)
module_fits a s small size depth within = record {
  parts = subst (All (Stands a)) (sym (imports_bare s.imports s.exports)) (All-nil (Stands a));
  info = record {
    size = uncapped s.info.size small;
    depth =
        depth ∙ uncapped (module_depth s.imports s.exports) (omega (arith, depth_small s.imports s.exports))
        ∙ ap capped (sym (entries_depth (trees a.nodes) s.imports s.exports));
  };
  owned = All-nil (GaveResource a);
  led = tt;
  within = within;
  stated = uncapped s.info.size small ∙ ap capped size;
  apart = tt;
}

-- its entries are those of the module
pub type_fits : (a : Arena) (s : ModuleType) (k : ℕ) (is : List Core_import) (es : List Core_export) → s.info.size ≡ k → s.info.depth ≡ module_depth is es → s.imports ≡ is → s.exports ≡ es → k ≤ max_size
    → k ≡ suc (entity_sizes a.core (map (λ i. i.1) is ++ map (λ e. e.1) es)) → All (IsEntityWithin (total a.core)) (map (λ i. i.1) is ++ map (λ e. e.1) es) → Fits a (n.Module s)
type_fits a s k is es ek ed ei ee small size within =
    let items : map (λ i. i.1) s.imports ++ map (λ e. e.1) s.exports ≡ map (λ i. i.1) is ++ map (λ e. e.1) es = λ j. map (λ i. i.1) (ei j) ++ map (λ e. e.1) (ee j) in
    module_fits a s (omega arith) (ek ∙ size ∙ ap (λ (xs : List EntityType). suc (entity_sizes a.core xs)) (sym items)) (ed ∙ λ j. module_depth (sym ei j) (sym ee j)) (subst (All (IsEntityWithin (total a.core))) (sym items) within)
