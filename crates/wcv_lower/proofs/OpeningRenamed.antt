-- What opens a component, under a renaming: renamed arguments open the renamed component.
use Rattle.std.proofs.Common.{◌≡◌, ℕ, List, [], ◌∷◌, ◌++◌, map, refl, sym, ◌∙◌, ap, Bool, true, false, cond, Some, None, bytes_eq}
use Rattle.std.specs.Prelude.{Option, option_to_list}
use Rattle.std.specs.Map.{lookup}
use Rattle.std.specs.Option.{option_map, option_map_or}
use Rattle.std.proofs.lemmas.List.{map-append}
use Rattle.std.proofs.lemmas.Map.Made.{lookup-map_values}
use Rattle.wcv_core.specs.Names.{Name, Place, member}
use Rattle.wcv_core.proofs.Places.{under-refl}
use Rattle.wcv_types.specs.Identity.{Identity, identity_at, same_identity, rename_identity}
use Rattle.wcv_types.specs.Rename.{rename, rename_parts, rename_paths}
use Rattle.wcv_types.specs.Tree.{Text, Head, here, label, import, export, core_import, core_export, nothing, primitive, resource, defined, func, instance, component, type_entity, core_module, core_instance, core_type, core_item, node, Parts, none, part, head, created, imported_at}
use Rattle.wcv_types.specs.Unfold.{Type_tree}
use Rattle.wcv_matching.specs.Matching.{named_imports, named_exports}
use Rattle.wcv_matching.specs.OnePass.{argument_for, made_paths}
use Rattle.wcv_matching.specs.SameTypes.{made_at}
use Rattle.wcv_matching.proofs.PassRenamed.{head-to, named_imports-to, named_exports-to, is_imported, is_member, made_at-to, made_paths-to, argument-to}
use Rattle.wcv_matching.specs.GivenTypes.{given_by, given_in, given_for}
use Rattle.wcv_lower.specs.Instantiated.{opened_resource, opening, instantiated_resources}
use Rattle.wcv_lower.specs.Mapped.{map_named, map_paths}
use Rattle.wcv_lower.specs.Names.{Names, again, Under, AreRenamed}
use Rattle.wcv_lower.specs.Renamed.{Renaming}
use Rattle.wcv_lower.proofs.Renamed.{same-renamed, head-renamed}
use Rattle.wcv_lower.proofs.Replaced.{Follows}
use Rattle.wcv_lower.proofs.TreeLaws.{created-renamed}

module _ (w : Renaming) where
  abbrev f : Name → Name
  f = w.resources.to

  abbrev g : Name → Name
  g = w.identities.to

  abbrev to : Type_tree → Type_tree
  to t = rename f g t

  abbrev known : Identity → Identity
  known i = rename_identity f g i

  abbrev given_to : Identity × Type_tree → Identity × Type_tree
  given_to x = (known x.0, to x.1)

  -- ## What arguments give

  -- what is given by the argument that was found, if one was
  found-to : (h h' : Type_tree → List (Identity × Type_tree)) → ((a : Type_tree) → h' (to a) ≡ map given_to (h a)) → (o : Option Type_tree) → option_map_or h' (option_map to o) [] ≡ map given_to (option_map_or h o [])
  found-to h h' e None = refl
  found-to h h' e (Some a) = e a

  -- and by others behind it
  both-to : (h h' : Type_tree → List (Identity × Type_tree)) → ((a : Type_tree) → h' (to a) ≡ map given_to (h a)) → (n : Text) (es : List (Text × Type_tree)) (xs ys : List (Identity × Type_tree)) → ys ≡ map given_to xs →
      option_map_or h' (lookup (bytes_eq n) (map_named to es)) [] ++ ys ≡ map given_to (option_map_or h (lookup (bytes_eq n) es) [] ++ xs)
  both-to h h' e n es xs ys d =
      (λ j. (ap (λ (o : Option Type_tree). option_map_or h' o []) (lookup-map_values to (bytes_eq n) es) ∙ found-to h h' e (lookup (bytes_eq n) es)) j ++ d j) ∙ sym (map-append given_to (option_map_or h (lookup (bytes_eq n) es) []) xs)

  created-given : (a : Type_tree) (o : Option Identity) → option_to_list (option_map (λ i. (i, created (to a))) (option_map known o)) ≡ map given_to (option_to_list (option_map (λ i. (i, created a)) o))
  created-given a None = refl
  created-given a (Some i) = ap (λ (t : Type_tree). (known i, t) ∷ []) (created-renamed f g a)

  mutual
    given_by-to : (a t : Type_tree) → given_by (to a) (to t) ≡ map given_to (given_by a t)
    given_by-to a (node type_entity ps) =
        ap (λ (u : Type_tree). option_to_list (option_map (λ i. (i, created (to a))) (identity_at (head u)))) (created-renamed f g (node type_entity ps)) ∙
        ap (λ (o : Option Identity). option_to_list (option_map (λ i. (i, created (to a))) o)) (head-renamed w (created (node type_entity ps))) ∙ created-given a (identity_at (head (created (node type_entity ps))))
    given_by-to a (node (instance i own) ps) = ap (λ (es : List (Text × Type_tree)). given_in es (rename_parts f g ps)) (named_exports-to f g w.resources.back w.resources.is_back a) ∙ given_in-to (named_exports a) ps
    given_by-to a (node nothing ps) = refl
    given_by-to a (node (primitive p) ps) = refl
    given_by-to a (node (resource r s) ps) = refl
    given_by-to a (node (defined i k) ps) = refl
    given_by-to a (node (func i b) ps) = refl
    given_by-to a (node (component i ins outs) ps) = refl
    given_by-to a (node (core_module i n) ps) = refl
    given_by-to a (node (core_instance i n) ps) = refl
    given_by-to a (node (core_type i) ps) = refl
    given_by-to a (node (core_item x) ps) = refl

    given_in-to : (es : List (Text × Type_tree)) (ps : Parts Name Name) → given_in (map_named to es) (rename_parts f g ps) ≡ map given_to (given_in es ps)
    given_in-to es none = refl
    given_in-to es (part (export n) t ps) = both-to (λ a. given_by a t) (λ a. given_by a (to t)) (λ a. given_by-to a t) n.name es (given_in es ps) (given_in (map_named to es) (rename_parts f g ps)) (given_in-to es ps)
    given_in-to es (part here t ps) = given_in-to es ps
    given_in-to es (part (label l) t ps) = given_in-to es ps
    given_in-to es (part (import n) t ps) = given_in-to es ps
    given_in-to es (part (core_import m n) t ps) = given_in-to es ps
    given_in-to es (part (core_export n) t ps) = given_in-to es ps

  given_for-to : (args is : List (Text × Type_tree)) → given_for (map_named to args) (map_named to is) ≡ map given_to (given_for args is)
  given_for-to args [] = refl
  given_for-to args (i ∷ is) = both-to (λ a. given_by a i.1) (λ a. given_by a (to i.1)) (λ a. given_by-to a i.1) i.0 args (given_for args is) (given_for (map_named to args) (map_named to is)) (given_for-to args is)

  lookup-to : (i : Identity) (xs : List (Identity × Type_tree)) → lookup (same_identity (known i)) (map given_to xs) ≡ option_map to (lookup (same_identity i) xs)
  lookup-to i [] = refl
  lookup-to i (x ∷ xs) = (λ j. cond (same-renamed w i x.0 j) (Some (to x.1)) (lookup-to i xs j)) ∙ go (same_identity i x.0)
    where
      go : (b : Bool) → cond b (Some (to x.1)) (option_map to (lookup (same_identity i) xs)) ≡ option_map to (cond b (Some x.1) (lookup (same_identity i) xs))
      go true = refl
      go false = refl

  -- ## The opening

  module _ (n m : Names) (p : Place) (r : AreRenamed (Under p) w.resources.to w.identities.to n m) (args : List (Text × Type_tree)) (c : Type_tree) where
    is_made : (q : Name) → member (f q) (made_at (head (to c))) ≡ member q (made_at (head c))
    is_made q =
        ap (λ (h : Head Name Name). member (f q) (made_at h)) (head-to f g w.resources.back w.resources.is_back c) ∙ ap (member (f q)) (made_at-to f g w.resources.back w.resources.is_back (head c)) ∙
        is_member f g w.resources.back w.resources.is_back q (made_at (head c))

    imports_it : (q : Name) → member (f q) (imported_at (head (to c))) ≡ member q (imported_at (head c))
    imports_it q = ap (λ (h : Head Name Name). member (f q) (imported_at h)) (head-to f g w.resources.back w.resources.is_back c) ∙ is_imported f g w.resources.back w.resources.is_back (head c) q

    either : (a b : Bool) (x y : Name) → cond {A = Option Name} a (Some (f x)) (cond b (Some (f y)) None) ≡ option_map f (cond a (Some x) (cond b (Some y) None))
    either true b x y = refl
    either false true x y = refl
    either false false x y = refl

    resources-to : (q : Name) → opened_resource m p (map_named to args) (to c) (f q) ≡ option_map f (opened_resource n p args c q)
    resources-to q =
        (λ j. cond (imports_it q j) (Some (argument-to f g w.resources.back w.resources.is_back args c q j)) (cond (is_made q j) (Some (r.resource (again p q) (under-refl p) j)) None)) ∙
        either (member q (imported_at (head c))) (member q (made_at (head c))) (argument_for args c q) (n.resource (again p q))

    nodes-to : (i : Identity) → lookup (same_identity (known i)) (given_for (map_named to args) (named_imports (to c))) ≡ option_map to (lookup (same_identity i) (given_for args (named_imports c)))
    nodes-to i =
        ap (λ (is : List (Text × Type_tree)). lookup (same_identity (known i)) (given_for (map_named to args) is)) (named_imports-to f g w.resources.back w.resources.is_back c) ∙
        ap (λ (xs : List (Identity × Type_tree)). lookup (same_identity (known i)) xs) (given_for-to args (named_imports c)) ∙ lookup-to i (given_for args (named_imports c))

    pub opening-follows : Follows w (opening n p args c) (opening m p (map_named to args) (to c))
    opening-follows = record { resources = resources-to; nodes = nodes-to; again = λ i. r.identity (again p i) (under-refl p) }

    made-to : (rs : List (Name × List ℕ)) → map (λ (q : Name × List ℕ). (m.resource (again p q.0), q.1)) (rename_paths f rs) ≡ map_paths f (map (λ (q : Name × List ℕ). (n.resource (again p q.0), q.1)) rs)
    made-to [] = refl
    made-to (q ∷ rs) = λ j. (r.resource (again p q.0) (under-refl p) j, q.1) ∷ made-to rs j

    pub made_resources-renamed : instantiated_resources m p (to c) ≡ map_paths f (instantiated_resources n p c)
    made_resources-renamed =
        ap (map (λ (q : Name × List ℕ). (m.resource (again p q.0), q.1))) (ap made_paths (head-to f g w.resources.back w.resources.is_back c) ∙ made_paths-to f g w.resources.back w.resources.is_back (head c)) ∙ made-to (made_paths (head c))
