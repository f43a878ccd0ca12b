-- Whether entities look as their names say.
use Rattle.std.proofs.Common.{◌≡◌, List, Bool, true, false, ◌&&◌, Option, Some, None, Decides, refl, sym, ap, ◌∙◌}
use Rattle.std.proofs.lemmas.Bool.Decides.{same_from_decides}
use Rattle.std.specs.Prelude.{bytes_eq, option_map}
use Rattle.std.specs.Map.{lookup}
use Rattle.wcv_syntax.specs.ExternName.{Access, call, get, set, Form, access_of, getter_of, spelled}
use Rattle.wcv_types.specs.Alike.{Alike}
use Rattle.wcv_types.specs.Arena.{Arena}
use Rattle.wcv_types.specs.Entities.{entity_tree, entry_trees, EntityStands}
use Rattle.wcv_types.specs.Tree.{Text, func, resource, defined, nothing, primitive, instance, component, type_entity, core_module, core_instance, core_type, core_item, node, Sort, sort, is_instance}
use Rattle.wcv_types.specs.Unfold.{Type_tree, tree_at, trees}
use Rattle.wcv_types.specs.declared.ids.ComponentFuncTypeId.{ComponentFuncTypeId}
use Rattle.wcv_types.specs.declared.ids.Part.TheVariants as p
use Rattle.wcv_types.specs.declared.item_map.ComponentItem.{ComponentItem}
use Rattle.wcv_types.specs.declared.shapes.ComponentEntityType.{ComponentEntityType}
use Rattle.wcv_types.specs.declared.shapes.ComponentEntityType.TheVariants as entity
use Rattle.wcv_types.specs.declared.shapes.ComponentFuncType.{ComponentFuncType}
use Rattle.wcv_types.specs.declared.shapes.ComponentValType.TheVariants as v
use Rattle.wcv_types.proofs.Unfolding.{sort_stands}
use Rattle.wcv_names.specs.Externs.{is_set, is_instance_tree}
use Rattle.wcv_names.specs.FuncTrees.{IsFunction, func_part, is_instance_id}
use Rattle.wcv_names.specs.ResourceNames.{Resource_names}
use Rattle.wcv_names.specs.Rules.{Entries, function_fits, is_for_any_sort, fits, gotten, taken, getter_in, is_given, is_paired_by, is_paired, follows}
use Rattle.wcv_names.specs.Shapes.{option_tree, param_trees}
use Rattle.wcv_names.proofs.FuncTrees.{function_looks, function_pairs, other_looks, other_pairs, entity_is_func}
use Rattle.wcv_types.specs.SameSeen.{alike}
use Rattle.wcv_types.proofs.SameSeen.{alike-decides}
use Rattle.wcv_names.proofs.Firsts.{first_tree}

-- ## Getters and setters

pub is_setter-set : (a : Access) → is_set a ≡ true → a ≡ set
is_setter-set call h = cc h
is_setter-set get h = cc h
is_setter-set set h = refl

module _ (ts : List Type_tree) (f : Form) (sets : access_of f ≡ set) (es : List (Text × ComponentItem)) where
  pair_is : (t : Type_tree) (o : Option ComponentItem) → o ≡ lookup (bytes_eq (spelled (getter_of f))) es → is_paired_by (access_of f) t (getter_in f (entry_trees ts es)) ≡ is_given t (option_map (λ (x : ComponentItem). entity_tree ts x.ty) o)
  pair_is t o h = ap (λ (a : Access). is_paired_by a t (getter_in f (entry_trees ts es))) sets ∙ ap (is_given t) (first_tree ts (spelled (getter_of f)) es ∙ ap (option_map (λ (x : ComponentItem). entity_tree ts x.ty)) (sym h))

  pub pair_none : (t : Type_tree) → None ≡ lookup (bytes_eq (spelled (getter_of f))) es → false ≡ is_paired_by (access_of f) t (getter_in f (entry_trees ts es))
  pair_none t h = sym (pair_is t None h)

  pub pair_some : (x : ComponentItem) (w g t : Type_tree) (b : Bool) → Some x ≡ lookup (bytes_eq (spelled (getter_of f))) es → g ≡ gotten (entity_tree ts x.ty) → w ≡ t → Decides b (Alike w g)
      → b ≡ is_paired_by (access_of f) t (getter_in f (entry_trees ts es))
  pair_some x w g t b h gives takes d = same_from_decides b (alike w g) d (alike-decides w g) ∙ (λ j. alike (takes j) (gives j)) ∙ sym (pair_is t (Some x) h)

-- ## Entities

module _ (a : Arena) (x : ComponentEntityType) (ns : Resource_names) (es : Entries) (f : Form) where
  pub func_not : (i : ComponentFuncTypeId) (s : ComponentFuncType) → func_part x ≡ Some i → IsFunction a (tree_at a (p.Func i)) s → function_fits ns f s.async_ (param_trees a s.params.items) (option_tree a s.result) ≡ false
      → false ≡ follows ns es f (entity_tree (trees a.nodes) x)
  func_not i s e h k =
      let t : Type_tree = entity_tree (trees a.nodes) x in
      sym (ap (λ (b : Bool). b && is_paired es f t) (function_looks a t s ns f (entity_is_func a x i s e h) ∙ k))

  pub func_yes : (i : ComponentFuncTypeId) (s : ComponentFuncType) (b : Bool) → func_part x ≡ Some i → IsFunction a (tree_at a (p.Func i)) s → function_fits ns f s.async_ (param_trees a s.params.items) (option_tree a s.result) ≡ true
      → b ≡ is_paired_by (access_of f) (taken f (param_trees a s.params.items)) (getter_in f es) → b ≡ follows ns es f (entity_tree (trees a.nodes) x)
  func_yes i s b e h k d =
      let t : Type_tree = entity_tree (trees a.nodes) x in
      let is = entity_is_func a x i s e h in
      d ∙ sym (function_pairs a t s es f is) ∙ sym (ap (λ (c : Bool). c && is_paired es f t) (function_looks a t s ns f is ∙ k))

  pub other_follows : (b : Bool) → EntityStands a x → func_part x ≡ None → b ≡ is_for_any_sort f → b ≡ follows ns es f (entity_tree (trees a.nodes) x)
  other_follows b st e k =
      let t : Type_tree = entity_tree (trees a.nodes) x in
      k ∙ sym (ap (λ (c : Bool). fits ns f t && c) (other_pairs a x es f st e) ∙ and_true (fits ns f t) ∙ other_looks a x ns f st e)
    where
      and_true : (c : Bool) → (c && true) ≡ c
      and_true true = refl
      and_true false = refl

-- ## Instances

-- the sort is that of instances
abbrev is_of_instance : Sort → Bool
is_of_instance is_instance = true
is_of_instance _ = false

instance_sorted : (t : Type_tree) → is_instance_tree t ≡ is_of_instance (sort t)
instance_sorted (node (func i b) ps) = refl
instance_sorted (node nothing ps) = refl
instance_sorted (node (primitive q) ps) = refl
instance_sorted (node (resource r s) ps) = refl
instance_sorted (node (defined i k) ps) = refl
instance_sorted (node (instance i own) ps) = refl
instance_sorted (node (component i x y) ps) = refl
instance_sorted (node type_entity ps) = refl
instance_sorted (node (core_module i k) ps) = refl
instance_sorted (node (core_instance i k) ps) = refl
instance_sorted (node (core_type k) ps) = refl
instance_sorted (node (core_item e) ps) = refl

-- an entity is an instance where its id is one
pub entity_instance : (a : Arena) (x : ComponentEntityType) → EntityStands a x → is_instance_id x ≡ is_instance_tree (entity_tree (trees a.nodes) x)
entity_instance a x h = go x h ∙ sym (instance_sorted (entity_tree (trees a.nodes) x))
  where
    go : (x : ComponentEntityType) → EntityStands a x → is_instance_id x ≡ is_of_instance (sort (entity_tree (trees a.nodes) x))
    go (entity.Func i) h = sym (ap is_of_instance (sort_stands a (p.Func i) h))
    go (entity.Module i) h = sym (ap is_of_instance (sort_stands a (p.Module i) h))
    go (entity.Value (v.Primitive q)) h = refl
    go (entity.Value (v.Ty i)) h = sym (ap is_of_instance (sort_stands a (p.Defined i) h))
    go (entity.Ty c r) h = refl
    go (entity.Instance i) h = sym (ap is_of_instance (sort_stands a (p.Instance i) h))
    go (entity.Component i) h = sym (ap is_of_instance (sort_stands a (p.Component i) h))
