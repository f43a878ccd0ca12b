-- What is made at a place looks at the names of that place alone.
use Rattle.std.proofs.Common.{◌≡◌, List, [], map, refl, ap, cond, Some, None}
use Rattle.wcv_core.specs.Names.{Name, Place, member}
use Rattle.wcv_types.specs.FirstPath.{first_path}
use Rattle.wcv_types.specs.Rebuild.{anew}
use Rattle.wcv_types.specs.Replacing.{Replacement, replaced}
use Rattle.wcv_types.specs.Tree.{Head, nothing, primitive, resource, defined, func, instance, component, type_entity, core_module, core_instance, core_type, core_item, node, type_of, resource_type, instance_type, exports, owned, imported_at, head, Text}
use Rattle.wcv_types.specs.Unfold.{Type_tree}
use Rattle.wcv_matching.specs.OnePass.{argument_for, made_paths}
use Rattle.wcv_matching.specs.SameTypes.{made_at}
use Rattle.wcv_lower.specs.Instantiated.{opening}
use Rattle.wcv_lower.specs.Mapped.{map_entries}
use Rattle.wcv_lower.specs.Names.{introduced, again, stamp_at, Names}
pub use Rattle.wcv_lower.specs.Names.{SameNames}
use Rattle.wcv_lower.specs.NewTypes.{renewed_head, renewed, owned_anew, instance_tree, path_or_none}
use Rattle.wcv_lower.specs.Trees.{type_entry, node_tree, tree_maker}

module _ (n m : Names) (p : Place) (s : SameNames (λ q. q ≡ p) n m) where
  id_same : m.identity (introduced p) ≡ n.identity (introduced p)
  id_same = s.identity (introduced p) refl

  head_same : (h : Head Name Name) → renewed_head m p h ≡ renewed_head n p h
  head_same (resource r x) = ap (resource r) (s.identity (stamp_at p) refl)
  head_same nothing = refl
  head_same (primitive q) = refl
  head_same (defined k x) = ap (λ (i : Name). anew i (defined k x)) id_same
  head_same (func k b) = ap (λ (i : Name). anew i (func k b)) id_same
  head_same (instance k own) = ap (λ (i : Name). anew i (instance k own)) id_same
  head_same (component k ins outs) = ap (λ (i : Name). anew i (component k ins outs)) id_same
  head_same type_entity = refl
  head_same (core_module k x) = ap (λ (i : Name). anew i (core_module k x)) id_same
  head_same (core_instance k x) = ap (λ (i : Name). anew i (core_instance k x)) id_same
  head_same (core_type k) = refl
  head_same (core_item e) = refl

  tree_same : (t : Type_tree) → renewed m p t ≡ renewed n p t
  tree_same (node h ps) = ap (λ (k : Head Name Name). node k ps) (head_same h)

  anew_same : (own : List Name) → owned_anew m p own ≡ owned_anew n p own
  anew_same own = λ j. record {
    resources = λ r. cond (member r own) (Some (s.resource (again p r) refl j)) None;
    nodes = λ i. None;
    again = λ i. s.identity (again p i) refl j;
  }

  instance_same : (t : Type_tree) → instance_tree m p t ≡ instance_tree n p t
  instance_same (node (instance i own) ps) = ap (λ (x : Replacement). replaced x (node (instance i []) ps)) (anew_same own)
  instance_same (node nothing ps) = refl
  instance_same (node (primitive q) ps) = refl
  instance_same (node (resource q x) ps) = refl
  instance_same (node (defined i k) ps) = refl
  instance_same (node (func i b) ps) = refl
  instance_same (node (component i ins outs) ps) = refl
  instance_same (node type_entity ps) = refl
  instance_same (node (core_module i k) ps) = refl
  instance_same (node (core_instance i k) ps) = refl
  instance_same (node (core_type i) ps) = refl
  instance_same (node (core_item x) ps) = refl

  opening_same : (args : List (Text × Type_tree)) (c : Type_tree) → opening m p args c ≡ opening n p args c
  opening_same args c = λ j. record {
    resources = λ r. cond (member r (imported_at (head c))) (Some (argument_for args c r)) (cond (member r (made_at (head c))) (Some (s.resource (again p r) refl j)) None);
    nodes = (opening n p args c).nodes;
    again = λ i. s.identity (again p i) refl j;
  }

  pub maker_same : tree_maker m p ≡ tree_maker n p
  maker_same = λ j. record {
    again = λ t. type_of (tree_same t j) t;
    resource = s.resource (introduced p) refl j;
    reference = type_entry (resource_type (s.resource (introduced p) refl j) (s.identity (stamp_at p) refl j));
    instance_of = λ t. record {
      entity = instance_same t j;
      resources = map (λ r. (s.resource (again p r) refl j, path_or_none (first_path r (exports t)))) (owned t);
    };
    instantiate = λ args c. record {
      entity = instance_type (id_same j) [] (map_entries (replaced (opening_same args c j)) (exports c));
      resources = map (λ r. (s.resource (again p r.0) refl j, r.1)) (made_paths (head c));
    };
    build = node_tree (id_same j);
    build_type = λ x. type_entry (node_tree (id_same j) x);
  }
