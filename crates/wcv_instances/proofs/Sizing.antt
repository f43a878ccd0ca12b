-- What a core instance counts that lists items.
use Rattle.std.proofs.Common.{◌≡◌, ◌≤◌, ℕ, suc, List, [], refl, sym, ◌∙◌, ap, subst, arith}
use Rattle.std.specs.Prelude.{All}
use Rattle.std.proofs.lemmas.List.Elements.{All-nil, All-map}
use Rattle.wcv_core.specs.CoreGroups.{total}
use Rattle.wcv_core.specs.CoreSizes.{IsEntityWithin}
use Rattle.wcv_core.specs.Limits.{max_size}
use Rattle.wcv_core.specs.declared.core_types.EntityType.{EntityType}
use Rattle.wcv_module.specs.Kept.{module_depth}
use Rattle.wcv_module.proofs.Fitting.{entries_depth, depth_small}
use Rattle.wcv_types.specs.Arena.{Arena}
use Rattle.wcv_types.specs.Standing.{Stands, GaveResource, Fits, entity_sizes}
use Rattle.wcv_types.specs.Tree.{Text}
use Rattle.wcv_types.specs.Unfold.{capped, trees}
use Rattle.wcv_types.specs.declared.arena.Node.TheVariants as n
use Rattle.wcv_types.specs.declared.core_shapes.CoreInstanceTypeKind.TheVariants as kind
use Rattle.wcv_types.specs.declared.info.TypeInfo.{TypeInfo}
use Rattle.wcv_types.proofs.CoreInstancesRebuilt.{exports_parts}
use Rattle.wcv_instances.specs.CoreInstances.{items_of}

-- ## It may be added

uncapped : (k : ℕ) → k ≤ max_size → k ≡ capped k
uncapped k h = omega arith

pub listing_fits : (a : Arena) (es : List (Text × EntityType)) (i : TypeInfo) → All (λ (e : Text × EntityType). IsEntityWithin (total a.core) e.1) es → i.size ≡ suc (entity_sizes a.core (items_of es)) → i.size ≤ max_size → i.depth ≡ module_depth [] es →
    Fits a (n.CoreInstance (record { info = i; kind = kind.Exports es }))
listing_fits a es i within large small deep = record {
  parts = subst (All (Stands a)) (sym (exports_parts (kind.Exports es) es refl)) (All-nil (Stands a));
  info = record {
    size = uncapped i.size small;
    depth = deep ∙ uncapped (module_depth [] es) (omega (arith, depth_small [] es)) ∙ ap capped (sym (entries_depth (trees a.nodes) [] es));
  };
  owned = All-nil (GaveResource a);
  led = tt;
  within = mapped_within es within;
  stated = record { within = mapped_within es within; size_is = uncapped i.size small ∙ ap capped large };
  apart = tt;
}
  where
    mapped_within : (es : List (Text × EntityType)) → All (λ (e : Text × EntityType). IsEntityWithin (total a.core) e.1) es → All (IsEntityWithin (total a.core)) (items_of es)
    mapped_within es w = All-map (IsEntityWithin (total a.core)) (λ (e : Text × EntityType). e.1) es w
