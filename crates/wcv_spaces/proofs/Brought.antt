-- What joins of an entity, by the sort of its tree.
use Rattle.std.proofs.Common.{◌≡◌, List, [], ◌∷◌, map, refl, sym, ◌∙◌, ap, Bool, true, false, ◌&&◌, cond, eqb, Some, None}
use Rattle.std.specs.Prelude.{ℕ}
use Rattle.std.proofs.lemmas.Bool.{false≢true}
use Rattle.wcv_core.specs.Names.{Name, number}
use Rattle.wcv_types.specs.Arena.{Arena}
use Rattle.wcv_types.specs.ComponentTrees.{resource_path}
use Rattle.wcv_types.specs.Entities.{any_part, entity_tree, EntityStands}
use Rattle.wcv_types.specs.Standing.{identity_of}
use Rattle.wcv_types.specs.Tree.{Sort, sort, is_nothing, is_value, is_resource, is_func, is_instance, is_component, is_type, is_module, is_core_instance, is_core_type, is_core_item}
use Rattle.wcv_types.specs.Unfold.{Type_tree, trees}
use Rattle.wcv_types.specs.declared.ids.ComponentAnyTypeId.{ComponentAnyTypeId}
use Rattle.wcv_types.specs.declared.ids.ComponentAnyTypeId.TheVariants as any
use Rattle.wcv_types.specs.declared.ids.ComponentInstanceTypeId.{ComponentInstanceTypeId}
use Rattle.wcv_types.specs.declared.ids.Part.TheVariants as part
use Rattle.wcv_types.specs.declared.shapes.ComponentEntityType.{ComponentEntityType}
use Rattle.wcv_types.specs.declared.shapes.ComponentEntityType.TheVariants as entity
use Rattle.wcv_types.specs.declared.shapes.ComponentValType.TheVariants as val
use Rattle.wcv_types.proofs.Unfolding.{sort_stands, known_any}
use Rattle.wcv_lower.specs.Readers.{Maker}
use Rattle.wcv_lower.specs.Step.{brought_by, brought_as, brought_at}
use Rattle.wcv_lower.specs.Trees.{tree_reader, introduced_by, own_resources}
use Rattle.wcv_spaces.specs.Bringing.{brought_new}
use Rattle.wcv_spaces.specs.Looking.{introduced_id, introduced_in}
use Rattle.wcv_spaces.specs.Looking as looking
use Rattle.wcv_spaces.specs.Looking.{entity_sort}
use Rattle.wcv_spaces.specs.Promises.{is_instance_entity}
use Rattle.wcv_spaces.specs.declared.new_entity.NewEntity.{NewEntity}

-- ## Sorts

pub entity_sorted : (a : Arena) (x : ComponentEntityType) → EntityStands a x → sort (entity_tree (trees a.nodes) x) ≡ entity_sort x
entity_sorted a (entity.Module i) h = sort_stands a (part.Module i) h
entity_sorted a (entity.Func i) h = sort_stands a (part.Func i) h
entity_sorted a (entity.Value (val.Primitive q)) h = refl
entity_sorted a (entity.Value (val.Ty i)) h = sort_stands a (part.Defined i) h
entity_sorted a (entity.Ty c r) h = refl
entity_sorted a (entity.Instance i) h = sort_stands a (part.Instance i) h
entity_sorted a (entity.Component i) h = sort_stands a (part.Component i) h

sort_apart : (x : ComponentEntityType) → is_instance_entity x ≡ false → entity_sort x ≡ is_instance → ⊥
sort_apart (entity.Module i) b e = cc
sort_apart (entity.Func i) b e = cc
sort_apart (entity.Value v) b e = cc
sort_apart (entity.Ty c r) b e = cc
sort_apart (entity.Instance i) b e = false≢true (sym b)
sort_apart (entity.Component i) b e = cc

pub not_instance : (x : ComponentEntityType) → ((i : ComponentInstanceTypeId) → x ≡ entity.Instance i → ⊥) → is_instance_entity x ≡ false
not_instance (entity.Module i) h = refl
not_instance (entity.Func i) h = refl
not_instance (entity.Value v) h = refl
not_instance (entity.Ty c r) h = refl
not_instance (entity.Instance i) h = absurd (h i refl)
not_instance (entity.Component i) h = refl

-- ## What joins

brought_bare : (mk : Maker tree_reader) (o : Sort) (t : Type_tree) → (o ≡ is_instance → ⊥) → brought_as mk o t ≡ brought_by tree_reader t
brought_bare mk is_instance t h = absurd (h refl)
brought_bare mk is_nothing t h = refl
brought_bare mk is_value t h = refl
brought_bare mk is_resource t h = refl
brought_bare mk is_func t h = refl
brought_bare mk is_component t h = refl
brought_bare mk is_type t h = refl
brought_bare mk is_module t h = refl
brought_bare mk is_core_instance t h = refl
brought_bare mk is_core_type t h = refl
brought_bare mk is_core_item t h = refl

-- what is no instance type joins as it is
pub as_it_is_at : (a : Arena) (mk : Maker tree_reader) (x : ComponentEntityType) → EntityStands a x → is_instance_entity x ≡ false → brought_at mk (entity_tree (trees a.nodes) x) ≡ brought_by tree_reader (entity_tree (trees a.nodes) x)
as_it_is_at a mk x h b =
    let t : Type_tree = entity_tree (trees a.nodes) x in
    brought_bare mk (sort t) t (λ e. sort_apart x b (sym (entity_sorted a x h) ∙ e))

-- of an instance type an instance does
pub instance_at : (a : Arena) (mk : Maker tree_reader) (i : ComponentInstanceTypeId) → EntityStands a (entity.Instance i) → brought_at mk (entity_tree (trees a.nodes) (entity.Instance i)) ≡ mk.instance_of (entity_tree (trees a.nodes) (entity.Instance i))
instance_at a mk i h = ap (λ (o : Sort). brought_as mk o (entity_tree (trees a.nodes) (entity.Instance i))) (sort_stands a (part.Instance i) h)

-- ## What it introduces as it is

abbrev pub as_new : ComponentEntityType → NewEntity
as_new x = record { ty = x; resources = introduced_in (introduced_id x) }

ids_introduced : (c r : ComponentAnyTypeId) → map resource_path (introduced_in (looking.introduced_by c r)) ≡ introduced_by (Some (identity_of (any_part c))) (Some (identity_of (any_part r)))
ids_introduced (any.Resource q) (any.Resource r) = go (eqb q.resource.index r.resource.index && eqb q.stamp r.stamp)
  where
    go : (b : Bool) → map resource_path (introduced_in (cond b (Some q.resource) None)) ≡ cond b ((number q.resource.index, []) ∷ []) []
    go true = refl
    go false = refl
ids_introduced (any.Resource q) (any.Defined j) = refl
ids_introduced (any.Resource q) (any.Func j) = refl
ids_introduced (any.Resource q) (any.Instance j) = refl
ids_introduced (any.Resource q) (any.Component j) = refl
ids_introduced (any.Defined i) r = refl
ids_introduced (any.Func i) r = refl
ids_introduced (any.Instance i) r = refl
ids_introduced (any.Component i) r = refl

module _ (a : Arena) where
  abbrev tree : ComponentEntityType → Type_tree
  tree x = entity_tree (trees a.nodes) x

  -- what has no type introduces none
  none_own : (x : ComponentEntityType) (o : Sort) → sort (tree x) ≡ o → own_resources o (tree x) ≡ [] → [] ≡ own_resources (sort (tree x)) (tree x)
  none_own x o e n = sym (ap (λ (o : Sort). own_resources o (tree x)) e ∙ n)

  own_same : (x : ComponentEntityType) → EntityStands a x → map resource_path (introduced_in (introduced_id x)) ≡ own_resources (sort (tree x)) (tree x)
  own_same (entity.Ty c r) h = ids_introduced c r ∙ sym (λ j. introduced_by (known_any a c h.0 j) (known_any a r h.1 j))
  own_same (entity.Func i) h = none_own (entity.Func i) is_func (entity_sorted a (entity.Func i) h) refl
  own_same (entity.Module i) h = none_own (entity.Module i) is_module (entity_sorted a (entity.Module i) h) refl
  own_same (entity.Value v) h = none_own (entity.Value v) is_value (entity_sorted a (entity.Value v) h) refl
  own_same (entity.Instance i) h = none_own (entity.Instance i) is_instance (entity_sorted a (entity.Instance i) h) refl
  own_same (entity.Component i) h = none_own (entity.Component i) is_component (entity_sorted a (entity.Component i) h) refl

  pub brought_same : (x : ComponentEntityType) → EntityStands a x → brought_by tree_reader (entity_tree (trees a.nodes) x) ≡ brought_new a (as_new x)
  brought_same x h = ap (λ (rs : List (Name × List ℕ)). record { entity = tree x; resources = rs }) (sym (own_same x h))
