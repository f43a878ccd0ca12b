-- Names of references, looked up by ids and by positions.
use Rattle.std.proofs.Common.{◌≡◌, ℕ, List, [], ◌∷◌, ◌++◌, Bool, true, false, cond, eqb, ◌&&◌, Option, Some, None, refl, sym, ◌∙◌, ap, subst}
use Rattle.std.specs.Prelude.{option_map, slice_get, IsSome}
use Rattle.std.specs.Option.{unwrap_or}
use Rattle.std.specs.Map.{lookup}
use Rattle.std.proofs.lemmas.Bool.{false≢true}
use Rattle.std.proofs.lemmas.List.{map-append}
use Rattle.std.proofs.lemmas.List.Elements.{All-head, All-tail}
use Rattle.wcv_types.specs.declared.ids.AliasableResourceId.{AliasableResourceId}
use Rattle.wcv_types.specs.Tree.{Text}
use Rattle.wcv_names.specs.ResourceNames.{same_reference, reference_of, references_of, name_at, named_by, AllNamed}
use Rattle.wcv_core.specs.TextSet.{with_text}
use Rattle.wcv_core.proofs.Texts.{stays}

abbrev pub same_id : AliasableResourceId → AliasableResourceId → Bool
same_id q r = eqb q.resource.index r.resource.index && eqb q.stamp r.stamp

pub name_by_id : (id : AliasableResourceId) (ps : List (AliasableResourceId × Text)) → lookup (same_reference (reference_of id)) (references_of ps) ≡ lookup (same_id id) ps
name_by_id id [] = refl
name_by_id id (p ∷ ps) = ap (λ (o : Option Text). cond (same_id id p.0) (Some p.1) o) (name_by_id id ps)

-- ## Names by positions

module _ (id : AliasableResourceId) (ns : List Text) where
  place_named : (ps : List (AliasableResourceId × ℕ)) → lookup (same_id id) (named_by ns ps) ≡ option_map (name_at ns) (lookup (same_id id) ps)
  place_named [] = refl
  place_named (p ∷ ps) = go (same_id id p.0) (place_named ps)
    where
      go : (b : Bool) → lookup (same_id id) (named_by ns ps) ≡ option_map (name_at ns) (lookup (same_id id) ps)
          → cond b (Some (name_at ns p.1)) (lookup (same_id id) (named_by ns ps)) ≡ option_map (name_at ns) (cond b (Some p.1) (lookup (same_id id) ps))
      go true h = refl
      go false h = h

  by_place : (ps : List (AliasableResourceId × ℕ)) → lookup (same_reference (reference_of id)) (references_of (named_by ns ps)) ≡ option_map (name_at ns) (lookup (same_id id) ps)
  by_place ps = name_by_id id (named_by ns ps) ∙ place_named ps

  -- a reference without a name has no position
  pub no_place : (ps : List (AliasableResourceId × ℕ)) → lookup (same_reference (reference_of id)) (references_of (named_by ns ps)) ≡ None → lookup (same_id id) ps ≡ None
  no_place ps h = go (lookup (same_id id) ps) (sym (by_place ps) ∙ h)
    where
      go : (o : Option ℕ) → option_map (name_at ns) o ≡ None → o ≡ None
      go None e = refl
      go (Some k) e = cc e

  named_there : (ps : List (AliasableResourceId × ℕ)) (k : ℕ) → AllNamed ns ps → lookup (same_id id) ps ≡ Some k → slice_get ns k ≡ Some (name_at ns k)
  named_there [] k a h = cc h
  named_there (p ∷ ps) k a h = go (same_id id p.0) h (named_there ps k (All-tail Named p ps a))
    where
      Named : AliasableResourceId × ℕ → Type 0
      Named q = IsSome (slice_get ns q.1)

      there : (o : Option Text) → IsSome o → o ≡ Some (unwrap_or o [])
      there None i = absurd (false≢true i)
      there (Some t) i = refl

      go : (b : Bool) → cond b (Some p.1) (lookup (same_id id) ps) ≡ Some k → (lookup (same_id id) ps ≡ Some k → slice_get ns k ≡ Some (name_at ns k)) → slice_get ns k ≡ Some (name_at ns k)
      go true e later =
          let same : p.1 ≡ k = cc e in
          subst (λ (j : ℕ). slice_get ns j ≡ Some (name_at ns j)) same (there (slice_get ns p.1) (All-head Named p ps a))
      go false e later = later e

  -- what stands at the position of a reference is its name
  pub named_at : (ps : List (AliasableResourceId × ℕ)) (k : ℕ) → AllNamed ns ps → lookup (same_id id) ps ≡ Some k → slice_get ns k ≡ lookup (same_reference (reference_of id)) (references_of (named_by ns ps))
  named_at ps k a h = named_there ps k a h ∙ sym (by_place ps ∙ ap (option_map (name_at ns)) h)

  pub not_named : (ps : List (AliasableResourceId × ℕ)) → lookup (same_id id) ps ≡ None → None ≡ lookup (same_reference (reference_of id)) (references_of (named_by ns ps))
  not_named ps h = sym (by_place ps ∙ ap (option_map (name_at ns)) h)

-- one more name, or one that is there
module _ (t : Text) (ns ms : List Text) (more : ms ≡ with_text t ns) where
  name_stays : (k : ℕ) → IsSome (slice_get ns k) → slice_get ms k ≡ slice_get ns k
  name_stays k h = ap (λ (us : List Text). slice_get us k) more ∙ stays t ns k h

  pub names_stay : (ps : List (AliasableResourceId × ℕ)) → AllNamed ns ps → named_by ms ps ≡ named_by ns ps
  names_stay [] a = refl
  names_stay (p ∷ ps) a =
      let first = name_stays p.1 (All-head (λ (q : AliasableResourceId × ℕ). IsSome (slice_get ns q.1)) p ps a) in
      let rest = names_stay ps (All-tail (λ (q : AliasableResourceId × ℕ). IsSome (slice_get ns q.1)) p ps a) in
      (λ j. (p.0, unwrap_or (first j) []) ∷ rest j)

  module _ (ps : List (AliasableResourceId × ℕ)) (a : AllNamed ns ps) (id : AliasableResourceId) (k : ℕ) (is : slice_get ms k ≡ Some t) where
    pub name_joins : named_by ms (ps ++ (id, k) ∷ []) ≡ named_by ns ps ++ (id, t) ∷ []
    name_joins =
        map-append (λ (p : AliasableResourceId × ℕ). (p.0, name_at ms p.1)) ps ((id, k) ∷ []) ∙
        (λ j. names_stay ps a j ++ (id, unwrap_or (is j) []) ∷ [])
