-- An instance joins a state, and what is new in it is defined.
use Rattle.std.proofs.Common.{◌≡◌, ℕ, List, [], ◌++◌, refl, ◌∙◌, ap, Bool, false, inl, ◌⊎◌, take, map, None, All}
use Rattle.wcv_core.specs.declared.core_types.ValType.{ValType}
use Rattle.std.specs.Prelude.{Option}
use Rattle.wcv_types.specs.Arena.{Arena}
use Rattle.wcv_types.specs.ComponentTrees.{ResourceStands}
use Rattle.wcv_types.specs.Standing.{Stands}
use Rattle.wcv_types.specs.Tree.{Text}
use Rattle.wcv_types.specs.Unfold.{trees}
use Rattle.wcv_types.specs.declared.ids.ComponentInstanceTypeId.{ComponentInstanceTypeId}
use Rattle.wcv_types.specs.declared.ids.Part.TheVariants as p
use Rattle.wcv_types.specs.declared.ids.ResourceId.{ResourceId}
use Rattle.wcv_types.specs.declared.item_map.ComponentItem.{ComponentItem}
use Rattle.wcv_types.specs.declared.shapes.ComponentEntityType.TheVariants as entity
use Rattle.wcv_lower.specs.Context.{in_instances, unknown}
use Rattle.wcv_lower.specs.Instances.{instance_joins}
use Rattle.wcv_lower.specs.Step.{apply}
use Rattle.wcv_lower.specs.Trees.{Tree_context}
use Rattle.wcv_spaces.specs.Bringing.{Paths}
use Rattle.wcv_spaces.specs.Contents.{Contents, SpaceLists, context_of, core_tree, names, push_id, stack_of, StateStands}
use Rattle.wcv_instantiate.specs.Instantiations.{brought_of}
use Rattle.wcv_spaces.specs.Promises.{Keeps}
use Rattle.wcv_instantiate.specs.declared.instances.NewInstance.{NewInstance}
use Rattle.wcv_spaces.proofs.BroughtPaths.{brought_defined}
use Rattle.wcv_spaces.proofs.JoinedSides.{export_introduced}
use Rattle.wcv_spaces.proofs.Keeping.{keeps_entry, no_more, push_trees, same_imported}
use Rattle.wcv_spaces.proofs.Sides.{core_push, each_side}
use Rattle.wcv_state.proofs.Sizes.{same_sized}

abbrev pub Defined : Type 0
Defined = List (ResourceId × Option ValType)

-- the instance, as an entry of some name
abbrev instance_entry : ComponentInstanceTypeId → Text × ComponentItem
instance_entry i = ([], record { ty = entity.Instance i; implements = None; version_suffix = None; external_id = None })

-- a state with other spaces, and others that are defined
abbrev pub joined_state : Contents → SpaceLists → Defined → Bool → Contents
joined_state z sp ds b = record z { spaces = sp; defined_resources = ds; spent = b }

pub instance_keeps : (a : Arena) (s z : Contents) (sp : SpaceLists) (ds : Defined) (b : Bool) (i : ComponentInstanceTypeId) (new : Paths) (k : ℕ) → z ≡ s → StateStands a s → Stands a (p.Instance i) →
    All (λ (r : ResourceId × List ℕ). ResourceStands a r.0) new → (sp ≡ z.spaces) ⊎ (sp ≡ push_id in_instances i z.spaces) → ds ≡ z.defined_resources ++ unknown (take k new) → Keeps a a s (joined_state z sp ds b)
instance_keeps a s z sp ds b i new k e h st rs spaces made =
    let s' : Contents = joined_state z sp ds b in
    keeps_entry a false s z s' (instance_entry i) e h st spaces (each_side _ (inl refl) (inl refl)) (λ kept. same_imported a z kept _ _ (instance_entry i) refl (inl refl))
    (λ kept. brought_defined a z kept (instance_entry i) new rs ds k made) (λ kept d. (no_more (names z d), kept.named d)) (λ kept. same_sized (trees a.nodes) z s' refl (each_side _ refl refl) kept) refl refl refl

pub instance_joined : (a : Arena) (s z : Contents) (sp : SpaceLists) (m : NewInstance) (ds : Defined) (b : Bool) → z ≡ s → sp ≡ push_id in_instances m.ty z.spaces → ds ≡ z.defined_resources ++ unknown m.resources → (outer : List Tree_context) →
    stack_of a (joined_state z sp ds b) outer ≡ apply (instance_joins (brought_of a m)) (stack_of a s outer)
instance_joined a s z sp m ds b e spaces made outer =
    ap (λ (q : SpaceLists). stack_of a (joined_state z q ds b) outer) spaces ∙
    (λ j. record {
      top = record (context_of a z) {
        core = λ k. map (core_tree (trees a.nodes) k) (core_push in_instances m.ty z.spaces k j);
        space = λ k. push_trees (trees a.nodes) in_instances m.ty z.spaces k j;
        defined = export_introduced a z ds (record { ty = entity.Instance m.ty; resources = m.resources }) made j;
      };
      outer = outer;
      groups = a.core;
    }) ∙
    ap (λ (w : Contents). apply (instance_joins (brought_of a m)) (stack_of a w outer)) e
