-- Where a first path leads, by the forms of the arena, and the paths of a set in order.
use Rattle.std.proofs.Common.{◌≡◌, ℕ, zero, suc, ◌+◌, List, [], ◌∷◌, ◌++◌, take, refl, sym, ◌∙◌, ap, subst, add-one, append-nil, append_assoc, Bool, true, false, ◌||◌, cond, eqb, Some, None}
use Rattle.std.specs.Prelude.{Option, slice_get}
use Rattle.std.specs.List.{IsDistinct, AllByRecursion}
use Rattle.std.specs.Map.{lookup}
use Rattle.std.specs.Option.{option_map}
use Rattle.std.proofs.lemmas.Bool.{false≢true, eqb-true}
use Rattle.wcv_core.specs.Names.{Name, number, member}
use Rattle.wcv_types.specs.Arena.{Arena}
use Rattle.wcv_types.specs.Entities.{any_part, entity_tree, entry_trees, EntityStands}
use Rattle.wcv_walks.specs.ExplicitPaths.{is_type_of, ends_at, with_path, explicit_paths}
use Rattle.wcv_types.specs.FirstPath.{or_else, path_at, path_in, path_from, first_path}
use Rattle.wcv_types.specs.Resources.{refers, mentions, mentions_in}
use Rattle.wcv_types.specs.Sets.{same_resource, has_resource}
use Rattle.wcv_types.specs.Standing.{Stands}
use Rattle.wcv_types.specs.Tree.{Text, Extern_name, here, label, import, export, core_import, core_export, sort, sort_at, is_value, is_resource, is_func, is_instance, is_component, is_type, Head, nothing, primitive, resource, defined, func, instance, component, type_entity, core_module, core_instance, core_type, core_item, node, Parts, none, part, head, first_part, rest_parts}
use Rattle.wcv_types.specs.Unfold.{Type_tree, entry_slots, slot_parts, trees, tree_at, unfolded}
use Rattle.wcv_types.specs.declared.arena.Node.TheVariants as n
use Rattle.wcv_types.specs.declared.ids.ComponentAnyTypeId.{ComponentAnyTypeId}
use Rattle.wcv_types.specs.declared.ids.ComponentAnyTypeId.TheVariants as any
use Rattle.wcv_types.specs.declared.ids.ComponentInstanceTypeId.{ComponentInstanceTypeId}
use Rattle.wcv_types.specs.declared.ids.Part.TheVariants as p
use Rattle.wcv_types.specs.declared.ids.ResourceId.{ResourceId}
use Rattle.wcv_types.specs.declared.instance_type.ComponentInstanceType.{ComponentInstanceType}
use Rattle.wcv_types.specs.declared.item_map.ComponentItem.{ComponentItem}
use Rattle.wcv_types.specs.declared.shapes.ComponentEntityType.{ComponentEntityType}
use Rattle.wcv_types.specs.declared.shapes.ComponentEntityType.TheVariants as entity
use Rattle.wcv_types.specs.declared.shapes.ComponentValType.TheVariants as v
use Rattle.wcv_types.proofs.Gaining.{has-member, or_none, none_or}
use Rattle.wcv_types.proofs.Lists.{some-inj, take-next}
use Rattle.wcv_types.proofs.Unfolding.{sort_stands}

-- ## Where there is no path

no_reference : (r : Name) (h : Head Name Name) → (sort_at h ≡ is_resource → ⊥) → refers r h ≡ false
no_reference r (resource q s) x = absurd (x refl)
no_reference r nothing x = refl
no_reference r (primitive q) x = refl
no_reference r (defined i k) x = refl
no_reference r (func i b) x = refl
no_reference r (instance i own) x = refl
no_reference r (component i ins outs) x = refl
no_reference r type_entity x = refl
no_reference r (core_module i m) x = refl
no_reference r (core_instance i m) x = refl
no_reference r (core_type k) x = refl
no_reference r (core_item e) x = refl

no_path : (r : Name) (t : Type_tree) → (sort t ≡ is_type → ⊥) → (sort t ≡ is_instance → ⊥) → path_at r t ≡ None
no_path r (node type_entity ps) x y = absurd (x refl)
no_path r (node (instance i own) ps) x y = absurd (y refl)
no_path r (node nothing ps) x y = refl
no_path r (node (primitive q) ps) x y = refl
no_path r (node (resource q s) ps) x y = refl
no_path r (node (defined i k) ps) x y = refl
no_path r (node (func i b) ps) x y = refl
no_path r (node (component i ins outs) ps) x y = refl
no_path r (node (core_module i m) ps) x y = refl
no_path r (node (core_instance i m) ps) x y = refl
no_path r (node (core_type k) ps) x y = refl
no_path r (node (core_item e) ps) x y = refl

-- where no reference stands, none leads anywhere
not_mentioned : (r : Name) (t : Type_tree) → mentions t ≡ false → refers r (head t) ≡ false
not_mentioned r (node (resource q s) ps) e = absurd (false≢true (sym e))
not_mentioned r (node nothing ps) e = refl
not_mentioned r (node (primitive q) ps) e = refl
not_mentioned r (node (defined i k) ps) e = refl
not_mentioned r (node (func i b) ps) e = refl
not_mentioned r (node (instance i own) ps) e = refl
not_mentioned r (node (component i ins outs) ps) e = refl
not_mentioned r (node type_entity ps) e = refl
not_mentioned r (node (core_module i m) ps) e = refl
not_mentioned r (node (core_instance i m) ps) e = refl
not_mentioned r (node (core_type k) ps) e = refl
not_mentioned r (node (core_item c) ps) e = refl

second_mentioned : (r : Name) (ps : Parts Name Name) → mentions_in ps ≡ false → refers r (head (first_part (rest_parts ps))) ≡ false
second_mentioned r none e = refl
second_mentioned r (part k t none) e = refl
second_mentioned r (part k t (part j u ps)) e = not_mentioned r u (or_none (mentions u) (mentions_in ps) (none_or (mentions t) (mentions u || mentions_in ps) e))

neither : (k : ℕ) (x y : Option (List ℕ)) → x ≡ None → y ≡ None → or_else (option_map (λ (q : List ℕ). k ∷ q) x) y ≡ None
neither k x y e f = ap (λ (o : Option (List ℕ)). or_else (option_map (λ (q : List ℕ). k ∷ q) o) y) e ∙ f

owned_or : (b : Bool) (o : Option (List ℕ)) → o ≡ None → cond b None o ≡ None
owned_or true o e = refl
owned_or false o e = e

mutual
  pub closed_path : (r : Name) (t : Type_tree) → mentions t ≡ false → path_at r t ≡ None
  closed_path r (node type_entity ps) e = ap ends_at (second_mentioned r ps e)
  closed_path r (node (instance i own) ps) e = owned_or (member r own) (path_in r 0 ps) (closed_paths r 0 ps e)
  closed_path r (node nothing ps) e = refl
  closed_path r (node (primitive q) ps) e = refl
  closed_path r (node (resource q s) ps) e = refl
  closed_path r (node (defined i k) ps) e = refl
  closed_path r (node (func i b) ps) e = refl
  closed_path r (node (component i ins outs) ps) e = refl
  closed_path r (node (core_module i m) ps) e = refl
  closed_path r (node (core_instance i m) ps) e = refl
  closed_path r (node (core_type k) ps) e = refl
  closed_path r (node (core_item c) ps) e = refl

  closed_paths : (r : Name) (k : ℕ) (ps : Parts Name Name) → mentions_in ps ≡ false → path_in r k ps ≡ None
  closed_paths r k none e = refl
  closed_paths r k (part (export m) t ps) e = neither k (path_at r t) (path_in r (suc k) ps) (closed_path r t (or_none (mentions t) (mentions_in ps) e)) (closed_paths r (suc k) ps (none_or (mentions t) (mentions_in ps) e))
  closed_paths r k (part here t ps) e = closed_paths r k ps (none_or (mentions t) (mentions_in ps) e)
  closed_paths r k (part (label m) t ps) e = closed_paths r k ps (none_or (mentions t) (mentions_in ps) e)
  closed_paths r k (part (import m) t ps) e = closed_paths r k ps (none_or (mentions t) (mentions_in ps) e)
  closed_paths r k (part (core_import m l) t ps) e = closed_paths r k ps (none_or (mentions t) (mentions_in ps) e)
  closed_paths r k (part (core_export m) t ps) e = closed_paths r k ps (none_or (mentions t) (mentions_in ps) e)

-- ## Entities

-- a type leads to the resource where it is that resource
refers_where : (a : Arena) (id : ComponentAnyTypeId) (r : ResourceId) → Stands a (any_part id) → refers (number r.index) (head (tree_at a (any_part id))) ≡ is_type_of r id
refers_where a (any.Resource q) r s = refl
refers_where a (any.Defined i) r s = no_reference (number r.index) (head (tree_at a (p.Defined i))) (λ e. let w : is_value ≡ is_resource = sym (sort_stands a (p.Defined i) s) ∙ e in cc)
refers_where a (any.Func i) r s = no_reference (number r.index) (head (tree_at a (p.Func i))) (λ e. let w : is_func ≡ is_resource = sym (sort_stands a (p.Func i) s) ∙ e in cc)
refers_where a (any.Instance i) r s = no_reference (number r.index) (head (tree_at a (p.Instance i))) (λ e. let w : is_instance ≡ is_resource = sym (sort_stands a (p.Instance i) s) ∙ e in cc)
refers_where a (any.Component i) r s = no_reference (number r.index) (head (tree_at a (p.Component i))) (λ e. let w : is_component ≡ is_resource = sym (sort_stands a (p.Component i) s) ∙ e in cc)

pub type_leads : (a : Arena) (c q : ComponentAnyTypeId) (r : ResourceId) → Stands a (any_part q) → ends_at (is_type_of r q) ≡ path_at (number r.index) (entity_tree (trees a.nodes) (entity.Ty c q))
type_leads a c q r s = ap ends_at (sym (refers_where a q r s))

-- what is no type and no instance leads nowhere
pub others_lead : (a : Arena) (x : ComponentEntityType) (r : Name) → EntityStands a x → ((c q : ComponentAnyTypeId) → x ≡ entity.Ty c q → ⊥) → ((i : ComponentInstanceTypeId) → x ≡ entity.Instance i → ⊥) →
    path_at r (entity_tree (trees a.nodes) x) ≡ None
others_lead a (entity.Ty c q) r s not_type not_instance = absurd (not_type c q refl)
others_lead a (entity.Instance i) r s not_type not_instance = absurd (not_instance i refl)
others_lead a (entity.Module i) r s not_type not_instance =
    no_path r (tree_at a (p.Module i)) (λ e. let w = sym (sort_stands a (p.Module i) s) ∙ e in cc) (λ e. let w = sym (sort_stands a (p.Module i) s) ∙ e in cc)
others_lead a (entity.Func i) r s not_type not_instance =
    no_path r (tree_at a (p.Func i)) (λ e. let w : is_func ≡ is_type = sym (sort_stands a (p.Func i) s) ∙ e in cc) (λ e. let w : is_func ≡ is_instance = sym (sort_stands a (p.Func i) s) ∙ e in cc)
others_lead a (entity.Value (v.Primitive q)) r s not_type not_instance = refl
others_lead a (entity.Value (v.Ty i)) r s not_type not_instance =
    no_path r (tree_at a (p.Defined i)) (λ e. let w : is_value ≡ is_type = sym (sort_stands a (p.Defined i) s) ∙ e in cc) (λ e. let w : is_value ≡ is_instance = sym (sort_stands a (p.Defined i) s) ∙ e in cc)
others_lead a (entity.Component i) r s not_type not_instance =
    no_path r (tree_at a (p.Component i)) (λ e. let w : is_component ≡ is_type = sym (sort_stands a (p.Component i) s) ∙ e in cc) (λ e. let w : is_component ≡ is_instance = sym (sort_stands a (p.Component i) s) ∙ e in cc)

-- ## Instances

exports_lead : (r : Name) (k : ℕ) (ts : List Type_tree) (es : List (Text × ComponentItem)) → path_in r k (slot_parts ts (entry_slots export es)) ≡ path_from r k (entry_trees ts es)
exports_lead r k ts [] = refl
exports_lead r k ts (e ∷ es) = ap (λ (o : Option (List ℕ)). or_else (option_map (λ (q : List ℕ). k ∷ q) (path_at r (entity_tree ts e.1.ty))) o) (exports_lead r (suc k) ts es)

-- the first path within an instance is that among its exports, unless it owns the resource
pub instance_leads : (a : Arena) (i : ComponentInstanceTypeId) (s : ComponentInstanceType) (r : ResourceId) → tree_at a (p.Instance i) ≡ unfolded a i.index (n.Instance s) →
    path_at (number r.index) (tree_at a (p.Instance i)) ≡ cond (has_resource s.defined_resources r) None (first_path (number r.index) (entry_trees (trees a.nodes) s.exports))
instance_leads a i s r u =
    ap (path_at (number r.index)) u ∙
    ap (λ (b : Bool). cond b None (path_in (number r.index) 0 (slot_parts (trees a.nodes) (entry_slots export s.exports)))) (sym (has-member s.defined_resources r)) ∙
    ap (λ (o : Option (List ℕ)). cond (has_resource s.defined_resources r) None o) (exports_lead (number r.index) 0 (trees a.nodes) s.exports)

-- ## Sets

paths_push : (rs : List ResourceId) (r : ResourceId) (es : List (Extern_name × Type_tree)) → explicit_paths (rs ++ r ∷ []) es ≡ explicit_paths rs es ++ with_path r (first_path (number r.index) es)
paths_push [] r es = append-nil (with_path r (first_path (number r.index) es))
paths_push (q ∷ rs) r es =
    ap (λ (ps : List (ResourceId × List ℕ)). with_path q (first_path (number q.index) es) ++ ps) (paths_push rs r es) ∙
    sym (append_assoc (with_path q (first_path (number q.index) es)) (explicit_paths rs es) (with_path r (first_path (number r.index) es)))

-- with the path of one more
pub paths_next : (rs : List ResourceId) (k : ℕ) (r : ResourceId) (es : List (Extern_name × Type_tree)) → slice_get rs k ≡ Some r → explicit_paths (take (k + 1) rs) es ≡ explicit_paths (take k rs) es ++ with_path r (first_path (number r.index) es)
paths_next rs k r es h = ap (λ (j : ℕ). explicit_paths (take j rs) es) (add-one k) ∙ ap (λ (qs : List ResourceId). explicit_paths qs es) (take-next rs k r h) ∙ paths_push (take k rs) r es

-- where a property holds of all, it holds of each
at_each : {X : Type 0} (P : X → Type 0) (xs : List X) (k : ℕ) (x : X) → AllByRecursion P xs → slice_get xs k ≡ Some x → P x
at_each P [] k x h e = absurd (let w = e in cc)
at_each P (y ∷ xs) zero x h e = subst P (some-inj e) h.0
at_each P (y ∷ xs) (suc k) x h e = at_each P xs k x h.1 e

turned : (m k : ℕ) → eqb m k ≡ false → eqb k m ≡ false
turned m k h = go (eqb k m) refl
  where
    go : (b : Bool) → eqb k m ≡ b → eqb k m ≡ false
    go false e = e
    go true e = absurd (false≢true (sym h ∙ ap (λ (j : ℕ). eqb j k) (sym (eqb-true k m e)) ∙ ap (λ (j : ℕ). eqb k j) (eqb-true k m e) ∙ e))

-- a resource of the set is not among those before it
pub not_before : (rs : List ResourceId) (k : ℕ) (r : ResourceId) (es : List (Extern_name × Type_tree)) → IsDistinct same_resource rs → slice_get rs k ≡ Some r → lookup (same_resource r) (explicit_paths (take k rs) es) ≡ None
unfolding IsDistinct
not_before [] k r es d h = absurd (let w = h in cc)
not_before (q ∷ rs) zero r es d h = refl
not_before (q ∷ rs) (suc k) r es d h = go (first_path (number q.index) es) (not_before rs k r es d.1 h)
  where
    differs : same_resource r q ≡ false
    differs = turned q.index r.index (at_each (λ y. same_resource q y ≡ false) rs k r d.0 h)

    go : (o : Option (List ℕ)) → lookup (same_resource r) (explicit_paths (take k rs) es) ≡ None → lookup (same_resource r) (with_path q o ++ explicit_paths (take k rs) es) ≡ None
    go None w = w
    go (Some p) w = ap (λ (b : Bool). cond b (Some p) (lookup (same_resource r) (explicit_paths (take k rs) es))) differs ∙ w
