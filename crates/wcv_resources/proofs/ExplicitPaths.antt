-- What is looked up among the first paths to the resources of a set.
use Rattle.std.proofs.Common.{◌≡◌, ℕ, List, [], ◌∷◌, ◌++◌, refl, sym, ◌∙◌, ap, Bool, true, false, ◌||◌, cond, Some, None}
use Rattle.std.specs.Prelude.{Option}
use Rattle.std.proofs.lemmas.Bool.{false≢true, eqb-true}
use Rattle.wcv_core.specs.Names.{number}
use Rattle.wcv_walks.specs.ExplicitPaths.{with_path, explicit_paths}
use Rattle.wcv_types.specs.FirstPath.{first_path}
use Rattle.wcv_types.specs.Sets.{same_resource, has_resource}
use Rattle.wcv_types.specs.declared.ids.ResourceId.{ResourceId}
use Rattle.wcv_lower.specs.Trees.{Entries}
use Rattle.wcv_resources.specs.Ending.{path_of}

-- a path to one is looked up behind that to another
behind : (r q : ResourceId) (o : Option (List ℕ)) (ps : List (ResourceId × List ℕ)) → same_resource r q ≡ false → path_of r (with_path q o ++ ps) ≡ path_of r ps
behind r q None ps e = refl
behind r q (Some p) ps e = ap (λ (b : Bool). cond b (Some p) (path_of r ps)) e

-- that to an equal one is found
here : (r q : ResourceId) (o : Option (List ℕ)) (ps : List (ResourceId × List ℕ)) → same_resource r q ≡ true → (o ≡ None → path_of r ps ≡ None) → path_of r (with_path q o ++ ps) ≡ o
here r q None ps e none = none refl
here r q (Some p) ps e none = ap (λ (b : Bool). cond b (Some p) (path_of r ps)) e

module _ (es : Entries) (r : ResourceId) where
  -- an equal resource has the same first path
  as_own : (q : ResourceId) (rs : List ResourceId) → same_resource r q ≡ true → path_of r (explicit_paths (q ∷ rs) es) ≡ path_of r (with_path q (first_path (number r.index) es) ++ explicit_paths rs es)
  as_own q rs e = ap (λ (k : ℕ). path_of r (with_path q (first_path (number k) es) ++ explicit_paths rs es)) (sym (eqb-true r.index q.index e))

  none_found : (rs : List ResourceId) → first_path (number r.index) es ≡ None → path_of r (explicit_paths rs es) ≡ None
  none_found [] h = refl
  none_found (q ∷ rs) h = go (same_resource r q) refl (none_found rs h)
    where
      go : (b : Bool) → same_resource r q ≡ b → path_of r (explicit_paths rs es) ≡ None → path_of r (explicit_paths (q ∷ rs) es) ≡ None
      go true e rest = as_own q rs e ∙ here r q (first_path (number r.index) es) (explicit_paths rs es) e (λ w. rest) ∙ h
      go false e rest = behind r q (first_path (number q.index) es) (explicit_paths rs es) e ∙ rest

  -- a resource of the set has its first path
  pub path_found : (rs : List ResourceId) → has_resource rs r ≡ true → path_of r (explicit_paths rs es) ≡ first_path (number r.index) es
  path_found [] h = absurd (false≢true h)
  path_found (q ∷ rs) h = go (same_resource r q) refl h (λ w. path_found rs w)
    where
      go : (b : Bool) → same_resource r q ≡ b → (b || has_resource rs r) ≡ true → (has_resource rs r ≡ true → path_of r (explicit_paths rs es) ≡ first_path (number r.index) es) → path_of r (explicit_paths (q ∷ rs) es) ≡ first_path (number r.index) es
      go true e w rest = as_own q rs e ∙ here r q (first_path (number r.index) es) (explicit_paths rs es) e (λ n. none_found rs n)
      go false e w rest = behind r q (first_path (number q.index) es) (explicit_paths rs es) e ∙ rest w
