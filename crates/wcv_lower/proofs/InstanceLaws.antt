-- An instance of an instance type: it depends on the names of its place alone, and under renamed names it is the renamed one.
use Rattle.std.proofs.Common.{◌≡◌, List, [], ◌∷◌, map, refl, ◌∙◌, Bool, true, false, cond, Some, None}
use Rattle.std.specs.Prelude.{Option}
use Rattle.std.specs.Option.{option_map}
use Rattle.wcv_core.specs.Names.{Name, Place, member}
use Rattle.wcv_core.proofs.Places.{under-refl}
use Rattle.wcv_types.specs.FirstPath.{first_path}
use Rattle.wcv_types.specs.Rename.{rename, rename_head}
use Rattle.wcv_types.specs.Tree.{Head, nothing, primitive, resource, defined, func, instance, component, type_entity, core_module, core_instance, core_type, core_item, node, exports, owned_at, owned}
use Rattle.wcv_types.specs.Unfold.{Type_tree}
use Rattle.wcv_lower.specs.Mapped.{map_entries, map_paths}
use Rattle.wcv_lower.specs.Names.{Names, again, Under, AreRenamed}
use Rattle.wcv_lower.specs.NewTypes.{owned_anew, instance_tree, path_or_none, instance_resources}
use Rattle.wcv_lower.specs.Renamed.{Renaming}
use Rattle.wcv_lower.specs.Trees.{Entries}
use Rattle.wcv_lower.proofs.Renamed.{member-renamed, tree_exports-renamed, first_path-renamed}
use Rattle.wcv_lower.proofs.Replaced.{Follows, replaced-renamed}

module _ (w : Renaming) (n m : Names) (p : Place) (r : AreRenamed (Under p) w.resources.to w.identities.to n m) where
  abbrev f : Name → Name
  f = w.resources.to

  abbrev g : Name → Name
  g = w.identities.to

  abbrev to : Type_tree → Type_tree
  to t = rename f g t

  anew-follows : (own : List Name) → Follows w (owned_anew n p own) (owned_anew m p (map f own))
  anew-follows own = record {
    resources = λ q. (λ j. cond (member-renamed w q own j) (Some (r.resource (again p q) (under-refl p) j)) None) ∙ go (member q own) (n.resource (again p q));
    nodes = λ i. refl;
    again = λ i. r.identity (again p i) (under-refl p);
  }
    where
      go : (b : Bool) (x : Name) → cond {A = Option Name} b (Some (f x)) None ≡ option_map f (cond b (Some x) None)
      go true x = refl
      go false x = refl

  pub instance_tree-renamed : (t : Type_tree) → instance_tree m p (to t) ≡ to (instance_tree n p t)
  instance_tree-renamed (node (instance i own) ps) = replaced-renamed w (owned_anew n p own) (owned_anew m p (map f own)) (anew-follows own) (node (instance i []) ps)
  instance_tree-renamed (node nothing ps) = refl
  instance_tree-renamed (node (primitive q) ps) = refl
  instance_tree-renamed (node (resource q s) ps) = refl
  instance_tree-renamed (node (defined i k) ps) = refl
  instance_tree-renamed (node (func i b) ps) = refl
  instance_tree-renamed (node (component i ins outs) ps) = refl
  instance_tree-renamed (node type_entity ps) = refl
  instance_tree-renamed (node (core_module i k) ps) = refl
  instance_tree-renamed (node (core_instance i k) ps) = refl
  instance_tree-renamed (node (core_type i) ps) = refl
  instance_tree-renamed (node (core_item x) ps) = refl

  owned_at-renamed : (h : Head Name Name) → owned_at (rename_head f g h) ≡ map f (owned_at h)
  owned_at-renamed (instance i own) = refl
  owned_at-renamed _ = refl

  owned-renamed : (t : Type_tree) → owned (to t) ≡ map f (owned t)
  owned-renamed (node h ps) = owned_at-renamed h

  resources-renamed : (es : Entries) (own : List Name) →
      map (λ q. (m.resource (again p q), path_or_none (first_path q (map_entries to es)))) (map f own) ≡ map_paths f (map (λ q. (n.resource (again p q), path_or_none (first_path q es))) own)
  resources-renamed es [] = refl
  resources-renamed es (q ∷ own) = λ j. (r.resource (again p q) (under-refl p) j, path_or_none (first_path-renamed w q es j)) ∷ resources-renamed es own j

  pub instance_resources-renamed : (t : Type_tree) → instance_resources m p (to t) ≡ map_paths f (instance_resources n p t)
  instance_resources-renamed t =
      (λ j. map (λ q. (m.resource (again p q), path_or_none (first_path q (tree_exports-renamed w t j)))) (owned-renamed t j)) ∙ resources-renamed (exports t) (owned t)
