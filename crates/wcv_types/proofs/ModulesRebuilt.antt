-- Core modules and core instances that are made again.
use Rattle.std.proofs.Common.{◌≡◌, suc, List, [], ◌∷◌, ◌++◌, length, refl, sym, ◌∙◌, ap, subst, arith, false, Some}
use Rattle.std.specs.Prelude.{Option, slice_get}
use Rattle.wcv_core.specs.Names.{number}
use Rattle.wcv_core.specs.declared.core_types.EntityType.{EntityType}
use Rattle.wcv_types.specs.Arena.{Arena}
use Rattle.wcv_types.specs.Rebuild.{refill, anew, types_in, MadeAgain}
use Rattle.wcv_types.specs.Resources.{mentions_in}
use Rattle.wcv_types.specs.Standing.{Stands, Fits, with_node}
use Rattle.wcv_types.specs.Tree.{Text, core_module, head}
use Rattle.wcv_types.specs.Unfold.{Type_tree, Slot, leaf, at, both, core, Slots, rank, core_import_slots, core_export_slots, module_slots, slots_if, slot_parts, parts_in, parts_at, tree_at, unfolded}
use Rattle.wcv_types.specs.declared.arena.Node.{Node}
use Rattle.wcv_types.specs.declared.arena.Node.TheVariants as n
use Rattle.wcv_types.specs.declared.core_shapes.ModuleType.{ModuleType}
use Rattle.wcv_types.specs.declared.ids.ComponentCoreModuleTypeId.{ComponentCoreModuleTypeId}
use Rattle.wcv_types.specs.declared.ids.Part.{Part}
use Rattle.wcv_types.specs.declared.ids.Part.TheVariants as p
use Rattle.wcv_types.specs.declared.info.TypeInfo.{TypeInfo}
use Rattle.wcv_types.proofs.Grown.{is_last}
use Rattle.wcv_types.proofs.Rebuilding.{made_again}

-- ## Items have no parts

-- nothing but items of core modules
abbrev AreItems : Slots → Type 0
AreItems [] = Unit {0}
AreItems (s ∷ ss) = (e : EntityType) × (s.1 ≡ core e) × AreItems ss

items_behind : (xs ys : Slots) → AreItems xs → AreItems ys → AreItems (xs ++ ys)
items_behind [] ys h i = i
items_behind (x ∷ xs) ys h i = (h.0, h.1, items_behind xs ys h.2 i)

imports_items : (is : List ((Text × Text) × EntityType)) → AreItems (core_import_slots is)
imports_items [] = tt
imports_items (i ∷ is) = (i.1, refl, imports_items is)

pub exports_items : (es : List (Text × EntityType)) → AreItems (core_export_slots es)
exports_items [] = tt
exports_items (e ∷ es) = (e.1, refl, exports_items es)

pub module_items : (s : ModuleType) → AreItems (module_slots s)
module_items s = items_behind (core_import_slots s.imports) (core_export_slots s.exports) (imports_items s.imports) (exports_items s.exports)

pub no_parts : (ss : Slots) → AreItems ss → parts_in ss ≡ []
no_parts [] h = refl
no_parts ((r, core e) ∷ ss) h = no_parts ss h.2
no_parts ((r, leaf o) ∷ ss) h = no_parts ss h.2
no_parts ((r, at q) ∷ ss) h = absurd (not_core q h.0 h.1)
  where
    not_core : (q : Part) (e : EntityType) → at q ≡ core e → ⊥
    not_core q e h = cc
no_parts ((r, both c d) ∷ ss) h = absurd (not_core c d h.0 h.1)
  where
    not_core : (c d : Part) (e : EntityType) → both c d ≡ core e → ⊥
    not_core c d e h = cc

pub no_mentions : (ts : List Type_tree) (ss : Slots) → AreItems ss → mentions_in (slot_parts ts ss) ≡ false
no_mentions ts [] h = refl
no_mentions ts (s ∷ ss) h = subst (λ (x : Slot). mentions_in (slot_parts ts ((s.0, x) ∷ ss)) ≡ false) (sym h.1) (no_mentions ts ss h.2)

pub refill_items : (ss : Slots) (qs : List Part) → AreItems ss → refill ss qs ≡ ss
refill_items [] qs h = refl
refill_items (s ∷ ss) qs h = subst (λ (x : Slot). refill ((s.0, x) ∷ ss) qs ≡ (s.0, x) ∷ ss) (sym h.1) (ap (λ (xs : Slots). (s.0, core h.0) ∷ xs) (refill_items ss qs h.2))

-- ## Modules

pub module_parts : (a : Arena) (i : ComponentCoreModuleTypeId) → Stands a (p.Module i) → parts_at a (p.Module i) ≡ []
module_parts a i s = ap (λ (x : Option Node). parts_in (slots_if x)) s.1 ∙ no_parts (module_slots s.0) (module_items s.0)

-- the core types that its declarations gave are no part of it
pub module_fits : (a : Arena) (s t : ModuleType) → t.info ≡ s.info → t.imports ≡ s.imports → t.exports ≡ s.exports → Fits a (n.Module s) → Fits a (n.Module t)
module_fits a s t i is es f =
    subst (λ (u : ModuleType). Fits a (n.Module u)) (λ j. record { info = sym i j; imports = sym is j; exports = sym es j; types = t.types })
    (record { parts = f.parts; info = record { size = f.info.size; depth = f.info.depth }; owned = f.owned; led = f.led; within = f.within; stated = f.stated; apart = tt })

module _ (a b : Arena) (i made : ComponentCoreModuleTypeId) (s t : ModuleType) (qs : List Part) (found : slice_get a.nodes i.index ≡ Some (n.Module s)) (tree : tree_at a (p.Module i) ≡ unfolded a i.index (n.Module s)) where
  pub module_made : t.info ≡ s.info → t.imports ≡ s.imports → t.exports ≡ s.exports → t.types.items ≡ s.types.items → b ≡ with_node a (n.Module t) → rank (p.Module made) ≡ suc (length a.nodes) → Stands b (p.Module made) → MadeAgain a b (p.Module i) qs (p.Module made)
  module_made info is es types e last st =
      let behind : suc made.index ≡ suc (length a.nodes) = last in
      let stored : slice_get b.nodes made.index ≡ Some (n.Module t) = is_last a.nodes b.nodes (n.Module t) made.index (ap (λ (c : Arena). c.nodes) e) (omega (arith, behind)) in
      made_again a b (p.Module i) (p.Module made) qs (n.Module t) e last st refl
      ((λ j. core_import_slots (is j) ++ core_export_slots (es j)) ∙ sym (refill_items (module_slots s) qs (module_items s)) ∙ ap (λ (x : Option Node). refill (slots_if x) qs) (sym found))
      (ap (λ (x : TypeInfo). core_module (number (length a.nodes)) x.size) info ∙ ap (λ (z : Type_tree). anew (number (length a.nodes)) (head z)) (sym tree))
      (ap types_in stored ∙ types ∙ ap types_in (sym found))
