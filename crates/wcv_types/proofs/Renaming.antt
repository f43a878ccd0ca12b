-- The laws of renaming.
use Rattle.std.proofs.Common.{◌≡◌, ℕ, List, [], ◌∷◌, map, refl, ap}
use Rattle.std.specs.Prelude.{All}
use Rattle.std.proofs.lemmas.List.Elements.{All-head, All-tail}
use Rattle.wcv_types.specs.Tree.{Head, nothing, primitive, resource, defined, func, instance, component, type_entity, core_module, core_instance, core_type, core_item, Tree, node, Parts, none, part}
use Rattle.wcv_types.specs.Rename.{rename_head, rename, rename_parts, rename_paths, HeadNames, EachName, EachNameIn}
use Rattle.wcv_types.proofs.Lists.{map-id, map-map}
use Rattle.wcv_types.proofs.All.{all-mapped, all-mapped_back, all-both, all-always}

map-agree : {A B : Type 0} (f g : A → B) (xs : List A) → All (λ x. f x ≡ g x) xs → map f xs ≡ map g xs
map-agree f g [] h = refl
map-agree f g (x ∷ xs) h =
    let e : f x ≡ g x = All-head (λ x. f x ≡ g x) x xs h in
    let e' : map f xs ≡ map g xs = map-agree f g xs (All-tail (λ x. f x ≡ g x) x xs h) in
    cc

paths-agree : {R S : Type 0} (f g : R → S) (ps : List (R × List ℕ)) → All (λ p. f p.0 ≡ g p.0) ps → rename_paths f ps ≡ rename_paths g ps
paths-agree {R} f g [] h = refl
paths-agree {R} f g (p ∷ ps) h =
    let e : f p.0 ≡ g p.0 = All-head (λ (q : R × List ℕ). f q.0 ≡ g q.0) p ps h in
    let e' : rename_paths f ps ≡ rename_paths g ps = paths-agree f g ps (All-tail (λ (q : R × List ℕ). f q.0 ≡ g q.0) p ps h) in
    cc

module _ {R S I J : Type 0} (f f' : R → S) (g g' : I → J) where
  rename_head-agree : (h : Head R I) → HeadNames (λ r. f r ≡ f' r) (λ i. g i ≡ g' i) h → rename_head f g h ≡ rename_head f' g' h
  rename_head-agree nothing e = refl
  rename_head-agree (primitive p) e = refl
  rename_head-agree (resource r s) e = cc
  rename_head-agree (defined i k) e = cc
  rename_head-agree (func i b) e = cc
  rename_head-agree (instance i owned) e =
      let q : g i ≡ g' i = e.0 in
      let p : map f owned ≡ map f' owned = map-agree f f' owned e.1 in
      cc
  rename_head-agree (component i ins outs) e =
      let q : g i ≡ g' i = e.0 in
      let p : rename_paths f ins ≡ rename_paths f' ins = paths-agree f f' ins e.1 in
      let p' : rename_paths f outs ≡ rename_paths f' outs = paths-agree f f' outs e.2 in
      cc
  rename_head-agree type_entity e = refl
  rename_head-agree (core_module i n) e = cc
  rename_head-agree (core_instance i n) e = cc
  rename_head-agree (core_type k) e = refl
  rename_head-agree (core_item x) e = refl

  -- renamings that agree on the names that occur give the same tree
  mutual
    pub rename-agree : (t : Tree R I) → EachName (λ r. f r ≡ f' r) (λ i. g i ≡ g' i) t → rename f g t ≡ rename f' g' t
    rename-agree (node h ps) e =
        let p : rename_head f g h ≡ rename_head f' g' h = rename_head-agree h e.0 in
        let q : rename_parts f g ps ≡ rename_parts f' g' ps = rename_parts-agree ps e.1 in
        cc

    pub rename_parts-agree : (ps : Parts R I) → EachNameIn (λ r. f r ≡ f' r) (λ i. g i ≡ g' i) ps → rename_parts f g ps ≡ rename_parts f' g' ps
    rename_parts-agree none e = refl
    rename_parts-agree (part r t ps) e =
        let p : rename f g t ≡ rename f' g' t = rename-agree t e.0 in
        let q : rename_parts f g ps ≡ rename_parts f' g' ps = rename_parts-agree ps e.1 in
        cc

-- ## Identity and composition

module _ {R I : Type 0} where
  rename_head-id : (h : Head R I) → rename_head (λ r. r) (λ i. i) h ≡ h
  rename_head-id nothing = refl
  rename_head-id (primitive p) = refl
  rename_head-id (resource r s) = refl
  rename_head-id (defined i k) = refl
  rename_head-id (func i b) = refl
  rename_head-id (instance i owned) = ap (λ (rs : List R). instance i rs) (map-id owned)
  rename_head-id (component i ins outs) =
      let e : rename_paths (λ r. r) ins ≡ ins = map-id ins in
      let e' : rename_paths (λ r. r) outs ≡ outs = map-id outs in
      λ j. component i (e j) (e' j)
  rename_head-id type_entity = refl
  rename_head-id (core_module i n) = refl
  rename_head-id (core_instance i n) = refl
  rename_head-id (core_type k) = refl
  rename_head-id (core_item x) = refl

  mutual
    pub rename-id : (t : Tree R I) → rename (λ r. r) (λ i. i) t ≡ t
    rename-id (node h ps) =
        let e : rename_head (λ r. r) (λ i. i) h ≡ h = rename_head-id h in
        let e' : rename_parts (λ r. r) (λ i. i) ps ≡ ps = rename_parts-id ps in
        λ j. node (e j) (e' j)

    pub rename_parts-id : (ps : Parts R I) → rename_parts (λ r. r) (λ i. i) ps ≡ ps
    rename_parts-id none = refl
    rename_parts-id (part k t ps) =
        let e : rename (λ r. r) (λ i. i) t ≡ t = rename-id t in
        let e' : rename_parts (λ r. r) (λ i. i) ps ≡ ps = rename_parts-id ps in
        λ j. part k (e j) (e' j)

paths-twice : {R S T : Type 0} (f : R → S) (h : S → T) (ps : List (R × List ℕ)) → rename_paths h (rename_paths f ps) ≡ rename_paths (λ r. h (f r)) ps
paths-twice f h ps = map-map (λ p. (h p.0, p.1)) (λ p. (f p.0, p.1)) ps

module _ {R S T I J K : Type 0} (f : R → S) (h : S → T) (g : I → J) (k : J → K) where
  rename_head-twice : (x : Head R I) → rename_head h k (rename_head f g x) ≡ rename_head (λ r. h (f r)) (λ i. k (g i)) x
  rename_head-twice nothing = refl
  rename_head-twice (primitive p) = refl
  rename_head-twice (resource r s) = refl
  rename_head-twice (defined i x) = refl
  rename_head-twice (func i b) = refl
  rename_head-twice (instance i owned) = ap (λ (rs : List T). instance (k (g i)) rs) (map-map h f owned)
  rename_head-twice (component i ins outs) =
      let e : rename_paths h (rename_paths f ins) ≡ rename_paths (λ r. h (f r)) ins = paths-twice f h ins in
      let e' : rename_paths h (rename_paths f outs) ≡ rename_paths (λ r. h (f r)) outs = paths-twice f h outs in
      λ j. component (k (g i)) (e j) (e' j)
  rename_head-twice type_entity = refl
  rename_head-twice (core_module i n) = refl
  rename_head-twice (core_instance i n) = refl
  rename_head-twice (core_type k) = refl
  rename_head-twice (core_item x) = refl

  mutual
    pub rename-twice : (t : Tree R I) → rename h k (rename f g t) ≡ rename (λ r. h (f r)) (λ i. k (g i)) t
    rename-twice (node x ps) =
        let e : rename_head h k (rename_head f g x) ≡ rename_head (λ r. h (f r)) (λ i. k (g i)) x = rename_head-twice x in
        let e' : rename_parts h k (rename_parts f g ps) ≡ rename_parts (λ r. h (f r)) (λ i. k (g i)) ps = rename_parts-twice ps in
        λ j. node (e j) (e' j)

    pub rename_parts-twice : (ps : Parts R I) → rename_parts h k (rename_parts f g ps) ≡ rename_parts (λ r. h (f r)) (λ i. k (g i)) ps
    rename_parts-twice none = refl
    rename_parts-twice (part l t ps) =
        let e : rename h k (rename f g t) ≡ rename (λ r. h (f r)) (λ i. k (g i)) t = rename-twice t in
        let e' : rename_parts h k (rename_parts f g ps) ≡ rename_parts (λ r. h (f r)) (λ i. k (g i)) ps = rename_parts-twice ps in
        λ j. part l (e j) (e' j)

-- ## Names that occur

-- what holds of names that occur holds of what they are renamed to
module _ {R S I J : Type 0} (P : R → Type 0) (Q : I → Type 0) (P' : S → Type 0) (Q' : J → Type 0) (f : R → S) (g : I → J) where
  module _ (p : (r : R) → P r → P' (f r)) (q : (i : I) → Q i → Q' (g i)) where
    head-renamed : (h : Head R I) → HeadNames P Q h → HeadNames P' Q' (rename_head f g h)
    head-renamed nothing e = tt
    head-renamed (primitive x) e = tt
    head-renamed (resource r s) e = (p r e.0, q s e.1)
    head-renamed (defined i k) e = q i e
    head-renamed (func i b) e = q i e
    head-renamed (instance i owned) e = (q i e.0, all-mapped P P' f p owned e.1)
    head-renamed (component i ins outs) e = (
      q i e.0,
      all-mapped (λ (x : R × List ℕ). P x.0) (λ (x : S × List ℕ). P' x.0) (λ x. (f x.0, x.1)) (λ x. p x.0) ins e.1,
      all-mapped (λ (x : R × List ℕ). P x.0) (λ (x : S × List ℕ). P' x.0) (λ x. (f x.0, x.1)) (λ x. p x.0) outs e.2,
    )
    head-renamed type_entity e = tt
    head-renamed (core_module i n) e = q i e
    head-renamed (core_instance i n) e = q i e
    head-renamed (core_type k) e = tt
    head-renamed (core_item x) e = tt

    mutual
      pub each-renamed : (t : Tree R I) → EachName P Q t → EachName P' Q' (rename f g t)
      each-renamed (node h ps) e = (head-renamed h e.0, each_in-renamed ps e.1)

      pub each_in-renamed : (ps : Parts R I) → EachNameIn P Q ps → EachNameIn P' Q' (rename_parts f g ps)
      each_in-renamed none e = tt
      each_in-renamed (part k t ps) e = (each-renamed t e.0, each_in-renamed ps e.1)

  module _ (p : (r : R) → P' (f r) → P r) (q : (i : I) → Q' (g i) → Q i) where
    head-renamed_back : (h : Head R I) → HeadNames P' Q' (rename_head f g h) → HeadNames P Q h
    head-renamed_back nothing e = tt
    head-renamed_back (primitive x) e = tt
    head-renamed_back (resource r s) e = (p r e.0, q s e.1)
    head-renamed_back (defined i k) e = q i e
    head-renamed_back (func i b) e = q i e
    head-renamed_back (instance i owned) e = (q i e.0, all-mapped_back P P' f p owned e.1)
    head-renamed_back (component i ins outs) e = (
      q i e.0,
      all-mapped_back (λ (x : R × List ℕ). P x.0) (λ (x : S × List ℕ). P' x.0) (λ x. (f x.0, x.1)) (λ x. p x.0) ins e.1,
      all-mapped_back (λ (x : R × List ℕ). P x.0) (λ (x : S × List ℕ). P' x.0) (λ x. (f x.0, x.1)) (λ x. p x.0) outs e.2,
    )
    head-renamed_back type_entity e = tt
    head-renamed_back (core_module i n) e = q i e
    head-renamed_back (core_instance i n) e = q i e
    head-renamed_back (core_type k) e = tt
    head-renamed_back (core_item x) e = tt

    mutual
      pub each-renamed_back : (t : Tree R I) → EachName P' Q' (rename f g t) → EachName P Q t
      each-renamed_back (node h ps) e = (head-renamed_back h e.0, each_in-renamed_back ps e.1)

      pub each_in-renamed_back : (ps : Parts R I) → EachNameIn P' Q' (rename_parts f g ps) → EachNameIn P Q ps
      each_in-renamed_back none e = tt
      each_in-renamed_back (part k t ps) e = (each-renamed_back t e.0, each_in-renamed_back ps e.1)

-- two facts of the names that occur make a third
module _ {R I : Type 0} (P P' P'' : R → Type 0) (Q Q' Q'' : I → Type 0) (p : (r : R) → P r → P' r → P'' r) (q : (i : I) → Q i → Q' i → Q'' i) where
  head-both : (h : Head R I) → HeadNames P Q h → HeadNames P' Q' h → HeadNames P'' Q'' h
  head-both nothing e e' = tt
  head-both (primitive x) e e' = tt
  head-both (resource r s) e e' = (p r e.0 e'.0, q s e.1 e'.1)
  head-both (defined i k) e e' = q i e e'
  head-both (func i b) e e' = q i e e'
  head-both (instance i owned) e e' = (q i e.0 e'.0, all-both P P' P'' p owned e.1 e'.1)
  head-both (component i ins outs) e e' = (
    q i e.0 e'.0,
    all-both (λ (x : R × List ℕ). P x.0) (λ (x : R × List ℕ). P' x.0) (λ (x : R × List ℕ). P'' x.0) (λ x. p x.0) ins e.1 e'.1,
    all-both (λ (x : R × List ℕ). P x.0) (λ (x : R × List ℕ). P' x.0) (λ (x : R × List ℕ). P'' x.0) (λ x. p x.0) outs e.2 e'.2,
  )
  head-both type_entity e e' = tt
  head-both (core_module i n) e e' = q i e e'
  head-both (core_instance i n) e e' = q i e e'
  head-both (core_type k) e e' = tt
  head-both (core_item x) e e' = tt

  mutual
    pub each-both : (t : Tree R I) → EachName P Q t → EachName P' Q' t → EachName P'' Q'' t
    each-both (node h ps) e e' = (head-both h e.0 e'.0, each_in-both ps e.1 e'.1)

    pub each_in-both : (ps : Parts R I) → EachNameIn P Q ps → EachNameIn P' Q' ps → EachNameIn P'' Q'' ps
    each_in-both none e e' = tt
    each_in-both (part k t ps) e e' = (each-both t e.0 e'.0, each_in-both ps e.1 e'.1)

-- what holds of each name holds of those that occur
module _ {R I : Type 0} (P : R → Type 0) (Q : I → Type 0) (p : (r : R) → P r) (q : (i : I) → Q i) where
  head-always : (h : Head R I) → HeadNames P Q h
  head-always nothing = tt
  head-always (primitive x) = tt
  head-always (resource r s) = (p r, q s)
  head-always (defined i k) = q i
  head-always (func i b) = q i
  head-always (instance i owned) = (q i, all-always P p owned)
  head-always (component i ins outs) = (q i, all-always (λ (x : R × List ℕ). P x.0) (λ x. p x.0) ins, all-always (λ (x : R × List ℕ). P x.0) (λ x. p x.0) outs)
  head-always type_entity = tt
  head-always (core_module i n) = q i
  head-always (core_instance i n) = q i
  head-always (core_type k) = tt
  head-always (core_item x) = tt

  mutual
    pub each-always : (t : Tree R I) → EachName P Q t
    each-always (node h ps) = (head-always h, each_in-always ps)

    pub each_in-always : (ps : Parts R I) → EachNameIn P Q ps
    each_in-always none = tt
    each_in-always (part k t ps) = (each-always t, each_in-always ps)
