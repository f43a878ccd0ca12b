-- Core instances that are made again with other parts.
use Rattle.std.proofs.Common.{◌≡◌, ◌+◌, ◌≤◌, ℕ, suc, min, List, [], ◌∷◌, length, map, refl, sym, ◌∙◌, ap, subst, arith, Bool, true, false, ◌||◌, Some}
use Rattle.std.specs.Prelude.{Option, All, slice_get}
use Rattle.std.proofs.lemmas.List.Elements.{All-nil, All-cons, All-head}
use Rattle.wcv_core.specs.CoreGroups.{total}
use Rattle.wcv_core.specs.CoreSizes.{IsEntityWithin}
use Rattle.wcv_core.specs.Names.{number}
use Rattle.wcv_core.specs.declared.core_types.EntityType.{EntityType}
use Rattle.wcv_types.specs.Arena.{Arena}
use Rattle.wcv_types.specs.CoreParts.{exported_items}
use Rattle.wcv_types.specs.Measure.{size}
use Rattle.wcv_types.specs.Rebuild.{SameSorts, refill, refill_slot, anew, HeadCounts, Refits, MadeAgain}
use Rattle.wcv_types.specs.Resources.{mentions_in}
use Rattle.wcv_types.specs.Standing.{Stands, GaveResource, Fits, own_size, with_node}
use Rattle.wcv_types.specs.Tree.{Text, here, label, import, export, core_import, core_export, core_instance, head}
use Rattle.wcv_types.specs.Unfold.{Type_tree, IsInfoOf, at, Slots, rank, core_export_slots, kind_slots, head_of, slots_of, slots_if, slot_parts, parts_in, parts_at, tree_at, trees, unfolded}
use Rattle.wcv_types.specs.declared.arena.Node.{Node}
use Rattle.wcv_types.specs.declared.arena.Node.TheVariants as n
use Rattle.wcv_types.specs.declared.core_shapes.CoreInstanceTypeKind.{CoreInstanceTypeKind}
use Rattle.wcv_types.specs.declared.core_shapes.CoreInstanceTypeKind.TheVariants as kind
use Rattle.wcv_types.specs.declared.core_shapes.InstanceType.{InstanceType}
use Rattle.wcv_types.specs.declared.core_shapes.ModuleType.{ModuleType}
use Rattle.wcv_types.specs.declared.ids.ComponentCoreInstanceTypeId.{ComponentCoreInstanceTypeId}
use Rattle.wcv_types.specs.declared.ids.ComponentCoreModuleTypeId.{ComponentCoreModuleTypeId}
use Rattle.wcv_types.specs.declared.ids.Part.{Part}
use Rattle.wcv_types.specs.declared.ids.Part.TheVariants as p
use Rattle.wcv_types.specs.declared.info.TypeInfo.{TypeInfo}
use Rattle.wcv_types.proofs.CoreSizes.{exported_same, module_sizes}
use Rattle.wcv_types.proofs.Unfolding.{all_right}
use Rattle.wcv_types.proofs.ModulesRebuilt.{exports_items, no_parts, no_mentions, refill_items}
use Rattle.wcv_types.proofs.Rebuilding.{refilled_stand, made_again}

-- one that was made of a module may be added to the arena. It counts what the module exports, and no more than the module
module _ (a : Arena) (m : ComponentCoreModuleTypeId) (s : ModuleType) (tree : tree_at a (p.Module m) ≡ unfolded a m.index (n.Module s)) (fits : Fits a (n.Module s)) where
  own_same : own_size a.core (map (λ e. e.1) s.exports) ≡ own_size a.core (exported_items (tree_at a (p.Module m)))
  own_same = ap (own_size a.core) (sym (exported_same a m s tree))

  items_within : All (IsEntityWithin (total a.core)) (exported_items (tree_at a (p.Module m)))
  items_within = subst (All (IsEntityWithin (total a.core))) (sym (exported_same a m s tree)) (all_right (IsEntityWithin (total a.core)) (map (λ i. i.1) s.imports) (map (λ e. e.1) s.exports) fits.within)

  pub made_fits : (i j : TypeInfo) → Stands a (p.Module m) → IsInfoOf i (tree_at a (p.Module m)) → j.size ≡ own_size a.core (map (λ e. e.1) s.exports) → j.depth ≡ min (i.depth + 1) 4294967295 → Fits a (n.CoreInstance (record { info = j; kind = kind.Instantiated m }))
  made_fits i j st h large deep = record {
    parts = All-cons (Stands a) (p.Module m) [] st (All-nil (Stands a));
    info = record { size = omega (arith, large); depth = omega (arith, deep, h.depth) };
    owned = All-nil (GaveResource a);
    led = tt;
    within = All-nil (IsEntityWithin (total a.core));
    stated = record { within = items_within; size_is = large ∙ own_same };
    apart = tt;
  }

  pub made_size : (k : ℕ) → k ≡ own_size a.core (map (λ e. e.1) s.exports) → k ≡ own_size a.core (exported_items (tree_at a (p.Module m)))
  made_size k large = large ∙ own_same

  pub made_small : (k : ℕ) → k ≡ own_size a.core (map (λ e. e.1) s.exports) → k ≤ size (tree_at a (p.Module m))
  made_small k large = omega (arith, large, fits.stated, module_sizes a.core s.imports s.exports, ap size tree)

pub core_instance_parts : (a : Arena) (i : ComponentCoreInstanceTypeId) (s : InstanceType) → slice_get a.nodes i.index ≡ Some (n.CoreInstance s) → parts_at a (p.CoreInstance i) ≡ parts_in (kind_slots s.kind)
core_instance_parts a i s found = ap (λ (x : Option Node). parts_in (slots_if x)) found

pub exports_parts : (c : CoreInstanceTypeKind) (es : List (Text × EntityType)) → c ≡ kind.Exports es → parts_in (kind_slots c) ≡ []
exports_parts c es e = ap (λ (k : CoreInstanceTypeKind). parts_in (kind_slots k)) e ∙ no_parts (kind_slots (kind.Exports es)) (exports_items es)

-- what stands in it
or_false : (b : Bool) → (b || false) ≡ b
or_false true = refl
or_false false = refl

pub mentions_none : (ts : List Type_tree) (c : CoreInstanceTypeKind) (es : List (Text × EntityType)) → c ≡ kind.Exports es → mentions_in (slot_parts ts (kind_slots c)) ≡ false
mentions_none ts c es e = ap (λ (k : CoreInstanceTypeKind). mentions_in (slot_parts ts (kind_slots k))) e ∙ no_mentions ts (kind_slots (kind.Exports es)) (exports_items es)

-- ## Made again

-- of another module
module _ (a : Arena) (s : InstanceType) (m m' : ComponentCoreModuleTypeId) (qs left : List Part) (is : s.kind ≡ kind.Instantiated m) (same : left ≡ qs) (slot : at (p.Module m') ≡ refill_slot (at (p.Module m)) left) where
  other_slots : kind_slots (kind.Instantiated m') ≡ refill (kind_slots s.kind) qs
  other_slots = (λ j. (here, (slot ∙ ap (refill_slot (at (p.Module m))) same) j) ∷ []) ∙ ap (λ (k : CoreInstanceTypeKind). refill (kind_slots k) qs) (sym is)

  pub other_stands : SameSorts (parts_in (kind_slots s.kind)) qs → All (Stands a) qs → Stands a (p.Module m')
  other_stands h st = All-head (Stands a) (p.Module m') [] (refilled_stand a (kind_slots s.kind) (kind_slots (kind.Instantiated m')) qs h st other_slots)

-- with its own exports
module _ (s : InstanceType) (es : List (Text × EntityType)) (is : s.kind ≡ kind.Exports es) where
  pub exports_same : (t : InstanceType) → (t.info ≡ s.info) × (t.kind ≡ kind.Exports es) → t ≡ s
  exports_same t w = λ j. record { info = w.0 j; kind = (w.1 ∙ sym is) j }

  pub exports_stay : (qs : List Part) → kind_slots s.kind ≡ refill (kind_slots s.kind) qs
  exports_stay qs = subst (λ (k : CoreInstanceTypeKind). kind_slots k ≡ refill (kind_slots k) qs) (sym is) (sym (refill_items (core_export_slots es) qs (exports_items es)))

module _ (a : Arena) (i : ComponentCoreInstanceTypeId) (s : InstanceType) (qs : List Part) (found : slice_get a.nodes i.index ≡ Some (n.CoreInstance s)) (tree : tree_at a (p.CoreInstance i) ≡ unfolded a i.index (n.CoreInstance s)) where
  pub core_instance_sorts : Refits a (p.CoreInstance i) qs → SameSorts (parts_in (kind_slots s.kind)) qs
  core_instance_sorts r = subst (λ (o : Option Node). SameSorts (parts_in (slots_if o)) qs) found r.same_sorts

  counts_anew : (k : ℕ) (ss : Slots) → HeadCounts a.core (head_of k (n.CoreInstance s)) (slot_parts (trees a.nodes) ss) → HeadCounts a.core (head_of 0 (n.CoreInstance s)) (slot_parts (trees a.nodes) ss)
  counts_anew k [] h = tt
  counts_anew k ((here, x) ∷ ss) h = h
  counts_anew k ((label l, x) ∷ ss) h = tt
  counts_anew k ((import l, x) ∷ ss) h = tt
  counts_anew k ((export l, x) ∷ ss) h = tt
  counts_anew k ((core_import l l', x) ∷ ss) h = tt
  counts_anew k ((core_export l, x) ∷ ss) h = tt

  pub core_instance_counts : Refits a (p.CoreInstance i) qs → HeadCounts a.core (head_of 0 (n.CoreInstance s)) (slot_parts (trees a.nodes) (refill (kind_slots s.kind) qs))
  core_instance_counts r =
      counts_anew i.index (refill (kind_slots s.kind) qs)
      (subst (λ (o : Option Node). HeadCounts a.core (head_of i.index (n.CoreInstance s)) (slot_parts (trees a.nodes) (refill (slots_if o) qs))) found
      (subst (λ (t : Type_tree). HeadCounts a.core (head t) (slot_parts (trees a.nodes) (refill (slots_if (slice_get a.nodes i.index)) qs))) tree r.counts))

  pub core_instance_made : (b : Arena) (made : ComponentCoreInstanceTypeId) (t : InstanceType) → slots_of (n.CoreInstance t) ≡ refill (slots_of (n.CoreInstance s)) qs → t.info.size ≡ s.info.size →
      b ≡ with_node a (n.CoreInstance t) → rank (p.CoreInstance made) ≡ suc (length a.nodes) → Stands b (p.CoreInstance made) → MadeAgain a b (p.CoreInstance i) qs (p.CoreInstance made)
  core_instance_made b made t slots large e last st =
      made_again a b (p.CoreInstance i) (p.CoreInstance made) qs (n.CoreInstance t) e last st refl (slots ∙ ap (λ (x : Option Node). refill (slots_if x) qs) (sym found))
      (ap (λ (k : ℕ). core_instance (number (length a.nodes)) k) large ∙ ap (λ (z : Type_tree). anew (number (length a.nodes)) (head z)) (sym tree)) refl
