-- An item of any sort, over ids and as the rules have it.
use Rattle.std.proofs.Common.{◌≡◌, ℕ, List, refl, ◌∙◌, ap, subst, Bool, Some, None}
use Rattle.std.specs.Prelude.{slice_get, Option}
use Rattle.std.specs.Option.{option_map}
use Rattle.wcv_syntax.specs.declared.instance.ComponentExternalKind.{ComponentExternalKind}
use Rattle.wcv_syntax.specs.declared.instance.ComponentExternalKind.TheVariants as kind
use Rattle.wcv_types.specs.Arena.{Arena}
use Rattle.wcv_types.specs.Entities.{entity_tree, EntityStands}
use Rattle.wcv_types.specs.Unfold.{trees}
use Rattle.wcv_types.specs.declared.ids.ComponentAnyTypeId.{ComponentAnyTypeId}
use Rattle.wcv_types.specs.declared.shapes.ComponentEntityType.{ComponentEntityType}
use Rattle.wcv_types.specs.declared.shapes.ComponentEntityType.TheVariants as entity
use Rattle.wcv_types.specs.declared.shapes.ComponentValType.{ComponentValType}
use Rattle.wcv_types.proofs.Lists.{some-inj}
use Rattle.wcv_lower.specs.Checks.{missing}
use Rattle.wcv_lower.specs.Context.{in_types, in_funcs, in_values, in_instances, in_components, core_modules}
use Rattle.wcv_lower.specs.Entries.{items_of}
use Rattle.wcv_lower.specs.Trees.{Type_tree}
use Rattle.wcv_spaces.specs.Contents.{Contents, context_of, id_tree, core_tree, StateStands}
use Rattle.wcv_spaces.specs.Looking.{item_id, item_id_checks}
use Rattle.wcv_spaces.proofs.CoreItems.{missing_mapped}
use Rattle.wcv_spaces.proofs.Found.{get_same, stands_at, core_same, core_stands_at}

-- an entity that was read from a list has what each of the list gives
pub read_as : {I : Type 0} (P : ComponentEntityType → Type 0) (to : I → ComponentEntityType) (o : Option I) (x : ComponentEntityType) → ((i : I) → o ≡ Some i → P (to i)) → option_map to o ≡ Some x → P x
read_as P to None x f e = absurd (cc)
read_as P to (Some i) x f e = subst P (some-inj e) (f i refl)

module _ (a : Arena) (s : Contents) (h : StateStands a s) where
  abbrev ts : List Type_tree
  ts = trees a.nodes

  tree_mapped : {I : Type 0} (to : I → ComponentEntityType) (tree : I → Type_tree) → ((i : I) → tree i ≡ entity_tree ts (to i)) → (o : Option I) → option_map tree o ≡ option_map (entity_tree ts) (option_map to o)
  tree_mapped to tree f None = refl
  tree_mapped to tree f (Some i) = ap Some (f i)

  pub items_same : (w : ComponentExternalKind) (k : ℕ) → slice_get (items_of (context_of a s) w) k ≡ option_map (entity_tree ts) (item_id s.spaces w k)
  items_same kind.Module k = core_same a s h core_modules k ∙ tree_mapped entity.Module (core_tree ts core_modules) (λ i. refl) (slice_get s.spaces.core_modules k)
  items_same kind.Func k = get_same a s h in_funcs k ∙ tree_mapped entity.Func (id_tree ts in_funcs) (λ i. refl) (slice_get s.spaces.funcs k)
  items_same kind.Value k = get_same a s h in_values k ∙ tree_mapped (λ (v : ComponentValType × Bool). entity.Value v.0) (id_tree ts in_values) (λ v. refl) (slice_get s.spaces.values k)
  items_same kind.Ty k = get_same a s h in_types k ∙ tree_mapped (λ (r : ComponentAnyTypeId). entity.Ty r r) (id_tree ts in_types) (λ i. refl) (slice_get s.spaces.types k)
  items_same kind.Instance k = get_same a s h in_instances k ∙ tree_mapped entity.Instance (id_tree ts in_instances) (λ i. refl) (slice_get s.spaces.instances k)
  items_same kind.Component k = get_same a s h in_components k ∙ tree_mapped entity.Component (id_tree ts in_components) (λ i. refl) (slice_get s.spaces.components k)

  pub items_missing : (w : ComponentExternalKind) (k : ℕ) → missing (slice_get (items_of (context_of a s) w) k) ≡ item_id_checks s.spaces w k
  items_missing kind.Module k = ap missing (core_same a s h core_modules k) ∙ missing_mapped (core_tree ts core_modules) (slice_get s.spaces.core_modules k)
  items_missing kind.Func k = ap missing (get_same a s h in_funcs k) ∙ missing_mapped (id_tree ts in_funcs) (slice_get s.spaces.funcs k)
  items_missing kind.Value k = ap missing (get_same a s h in_values k) ∙ missing_mapped (id_tree ts in_values) (slice_get s.spaces.values k)
  items_missing kind.Ty k = ap missing (get_same a s h in_types k) ∙ missing_mapped (id_tree ts in_types) (slice_get s.spaces.types k)
  items_missing kind.Instance k = ap missing (get_same a s h in_instances k) ∙ missing_mapped (id_tree ts in_instances) (slice_get s.spaces.instances k)
  items_missing kind.Component k = ap missing (get_same a s h in_components k) ∙ missing_mapped (id_tree ts in_components) (slice_get s.spaces.components k)

  -- what stands there, as the rules have it
  pub item_there : (w : ComponentExternalKind) (k : ℕ) (x : ComponentEntityType) → item_id s.spaces w k ≡ Some x → slice_get (items_of (context_of a s) w) k ≡ Some (entity_tree ts x)
  item_there w k x e = items_same w k ∙ ap (option_map (entity_tree ts)) e

  pub item_stands : (w : ComponentExternalKind) (k : ℕ) (x : ComponentEntityType) → item_id s.spaces w k ≡ Some x → EntityStands a x
  item_stands kind.Module k x e = read_as (EntityStands a) entity.Module (slice_get s.spaces.core_modules k) x (λ i f. core_stands_at a s h core_modules k i f) e
  item_stands kind.Func k x e = read_as (EntityStands a) entity.Func (slice_get s.spaces.funcs k) x (λ i f. stands_at a s h in_funcs k i f) e
  item_stands kind.Value k x e = read_as (EntityStands a) (λ (v : ComponentValType × Bool). entity.Value v.0) (slice_get s.spaces.values k) x (λ v f. stands_at a s h in_values k v f) e
  item_stands kind.Ty k x e = read_as (EntityStands a) (λ (r : ComponentAnyTypeId). entity.Ty r r) (slice_get s.spaces.types k) x (λ i f. stands_at a s h in_types k i f) e
  item_stands kind.Instance k x e = read_as (EntityStands a) entity.Instance (slice_get s.spaces.instances k) x (λ i f. stands_at a s h in_instances k i f) e
  item_stands kind.Component k x e = read_as (EntityStands a) entity.Component (slice_get s.spaces.components k) x (λ i f. stands_at a s h in_components k i f) e
