-- Own resources with what stands for each on the other side, one after another.
use Rattle.std.proofs.Common.{◌≡◌, ℕ, zero, suc, ◌+◌, ◌<◌, ◌≤◌, get_or, subst, List, [], ◌∷◌, ◌++◌, map, length, take, drop, eqb, cond, refl, sym, ◌∙◌, ap, arith, Option, None, Some, option_map, eq-eqb}
use Rattle.std.specs.Prelude.{slice_get}
use Rattle.std.specs.Cmp.{IsEquivalence}
use Rattle.std.specs.List.{IsDistinct}
use Rattle.std.specs.Map.{keys_of, lookup}
use Rattle.std.specs.Option.{unwrap_or}
use Rattle.std.proofs.lemmas.Bool.{eqb-true}
use Rattle.std.proofs.lemmas.List.{map-append, take_all}
use Rattle.std.proofs.lemmas.Map.Entries.{lookup_from_place}
use Rattle.wcv_core.specs.Names.{Name, same}
use Rattle.wcv_types.proofs.Copying.{eqb-sym, fresh_entry}
use Rattle.wcv_types.specs.Replacing.{or_same}
use Rattle.wcv_types.specs.Sets.{same_resource}
use Rattle.wcv_types.specs.Tree.{Text, firsts}
use Rattle.wcv_types.specs.Unfold.{Type_tree, resource_path}
use Rattle.wcv_types.specs.declared.ids.ResourceId.{ResourceId}
use Rattle.wcv_matching.specs.NamedPaths.{and_then, follow}
use Rattle.wcv_matching.specs.OnePass.{counterpart}
use Rattle.wcv_counterparts.specs.IdCounterparts.{counterparts_of, lands_on}
use Rattle.wcv_atoms.specs.Readings.{resource_name}
use Rattle.wcv_atoms.proofs.Walking.{take_more}

abbrev pub Recorded : Type 0
Recorded = List (ResourceId × List ℕ)

pub one_resource : IsEquivalence same_resource
one_resource = record {
  refl = λ x. eq-eqb x.index x.index refl;
  symm = λ x y. eqb-sym x.index y.index;
  congr = λ x y z e. ap (λ (n : ℕ). eqb n z.index) (eqb-true x.index y.index e);
}

lookup_named : (q : ResourceId) (ps : Recorded) → lookup (same (resource_name q)) (map resource_path ps) ≡ lookup (same_resource q) ps
lookup_named q [] = refl
lookup_named q (e ∷ ps) = ap (λ (o : Option (List ℕ)). cond (eqb q.index e.0.index) (Some e.1) o) (lookup_named q ps)

-- the path of one that is recorded there
path_there : (ps : Recorded) (k : ℕ) (e : ResourceId × List ℕ) → IsDistinct same_resource (keys_of ps) → slice_get ps k ≡ Some e → lookup (same (resource_name e.0)) (map resource_path ps) ≡ Some e.1
path_there ps k e d h = lookup_named e.0 ps ∙ lookup_from_place one_resource ps k e.0 e.1 d h

module _ (ps : Recorded) (es xs : List (Text × Type_tree)) where
  -- a recorded resource, and where its path leads
  abbrev pub landing : ResourceId × List ℕ → Name × Name
  landing e = (resource_name e.0, counterpart (map resource_path ps) es xs (resource_name e.0))

  -- where one is found, or else itself
  or_itself : (r : ResourceId) (o : Option ResourceId) → resource_name (unwrap_or o r) ≡ or_same (resource_name r) (option_map resource_name o)
  or_itself r None = refl
  or_itself r (Some q) = refl

  lands : (e : ResourceId × List ℕ) (o : Option ResourceId) → lookup (same (resource_name e.0)) (map resource_path ps) ≡ Some e.1 → option_map resource_name o ≡ follow e.1 es xs → lands_on (e.0, unwrap_or o e.0) ≡ landing e
  lands e o h f =
      ap (λ (q : Name). (resource_name e.0, q)) (or_itself e.0 o ∙ ap (or_same (resource_name e.0)) f ∙ sym (ap (λ (l : Option (List ℕ)). or_same (resource_name e.0) (and_then l (λ p. follow p es xs))) h))

  -- one more
  pub next_lands : (found more : List (ResourceId × ResourceId)) (k : ℕ) (e : ResourceId × List ℕ) (o : Option ResourceId) → IsDistinct same_resource (keys_of ps) → slice_get ps k ≡ Some e → option_map resource_name o ≡ follow e.1 es xs →
      more ≡ found ++ (e.0, unwrap_or o e.0) ∷ [] → map lands_on found ≡ map landing (take k ps) → map lands_on more ≡ map landing (take (k + 1) ps)
  next_lands found more k e o d h f m i =
      ap (λ (fs : List (ResourceId × ResourceId)). map lands_on fs) m ∙ map-append lands_on found ((e.0, unwrap_or o e.0) ∷ []) ∙ (λ j. i j ++ lands e o (path_there ps k e d h) f j ∷ []) ∙
      sym (ap (λ (qs : Recorded). map landing qs) (take_more ps k e h) ∙ map-append landing (take k ps) (e ∷ []))

  of_firsts : (qs : Recorded) → map landing qs ≡ map (λ (r : Name). (r, counterpart (map resource_path ps) es xs r)) (firsts (map resource_path qs))
  of_firsts [] = refl
  of_firsts (q ∷ qs) = ap (λ (ns : List (Name × Name)). landing q ∷ ns) (of_firsts qs)

  pub all_landed : (found : List (ResourceId × ResourceId)) (k : ℕ) → length ps ≤ k → map lands_on found ≡ map landing (take k ps) → map lands_on found ≡ counterparts_of (map resource_path ps) es xs
  all_landed found k h i = i ∙ ap (λ (qs : Recorded). map landing qs) (take_all k ps h) ∙ of_firsts ps

-- nothing is recorded
pub none_recorded : (ps : Recorded) (es xs : List (Text × Type_tree)) → length ps ≡ 0 → [] ≡ counterparts_of (map resource_path ps) es xs
none_recorded [] es xs h = refl
none_recorded (p ∷ ps) es xs h = absurd (omega (arith, h))

-- ## One pair after another

pub at_index : {X : Type 0} (xs : List X) (k : ℕ) (d : X) → k < length xs → slice_get xs k ≡ Some (get_or xs k d)
at_index [] k d l = absurd (omega (arith, l))
at_index (x ∷ xs) zero d l = refl
at_index (x ∷ xs) (suc k) d l = at_index xs k d (omega (arith, l))

-- one is not among those before it
pub absent_before : (fs : List (ResourceId × ResourceId)) (k : ℕ) (d : ResourceId × ResourceId) → IsDistinct same_resource (keys_of fs) → k < length fs → lookup (same_resource (get_or fs k d).0) (take k fs) ≡ None
absent_before fs k d e l = fresh_entry same_resource same_resource (λ x y. eqb-sym x.index y.index) fs k (get_or fs k d) e (at_index fs k d l)

same_names : (xs ys : List ResourceId) → map resource_name xs ≡ map resource_name ys → xs ≡ ys
same_names [] [] e = refl
same_names [] (y ∷ ys) e = cc
same_names (x ∷ xs) [] e = cc
same_names (x ∷ xs) (y ∷ ys) e =
    let h : x.index ≡ y.index = cc in
    let t : map resource_name xs ≡ map resource_name ys = cc in
    let f : ℕ → ResourceId = λ n. record { index = n } in
    let u : xs ≡ ys = same_names xs ys t in
    λ j. ap f h j ∷ u j

-- what was found for recorded resources is found for each once
pub found_distinct : (ps : Recorded) (es xs : List (Text × Type_tree)) (fs : List (ResourceId × ResourceId)) → IsDistinct same_resource (keys_of ps) → map lands_on fs ≡ counterparts_of (map resource_path ps) es xs → IsDistinct same_resource (keys_of fs)
found_distinct ps es xs fs d e = subst (λ (ks : List ResourceId). IsDistinct same_resource ks) (sym (same_names (keys_of fs) (keys_of ps) (firsts_of fs ∙ ap (λ (ns : List (Name × Name)). map (λ (n : Name × Name). n.0) ns) e ∙ names_of ps))) d
  where
    firsts_of : (fs : List (ResourceId × ResourceId)) → map resource_name (keys_of fs) ≡ map (λ (n : Name × Name). n.0) (map lands_on fs)
    firsts_of [] = refl
    firsts_of (f ∷ fs) = ap (λ (ns : List Name). resource_name f.0 ∷ ns) (firsts_of fs)

    names_of : (qs : Recorded) → map (λ (n : Name × Name). n.0) (map (λ (r : Name). (r, counterpart (map resource_path ps) es xs r)) (firsts (map resource_path qs))) ≡ map resource_name (keys_of qs)
    names_of [] = refl
    names_of (q ∷ qs) = ap (λ (ns : List Name). resource_name q.0 ∷ ns) (names_of qs)
