-- Size and depth are the same for trees of one shape, as renaming and replacing of resources leave it.
use Rattle.std.proofs.Common.{◌≡◌, max, ◌+◌, refl}
use Rattle.wcv_core.specs.Names.{Name}
use Rattle.wcv_types.specs.Tree.{Head, nothing, resource, Tree, node, Parts, none, part}
use Rattle.wcv_types.specs.Measure.{weight, weigh, deepen, size, sizes, first_size, depth, depths, first_depth}
use Rattle.wcv_types.specs.Rename.{rename_head, rename, rename_parts}
use Rattle.wcv_types.specs.Resources.{spare, substitute_head, substitute, substitute_parts}

-- node by node the weights are the same
abbrev mutual
  pub OfOneShape : {R S I J : Type 0} → Tree R I → Tree S J → Type 0
  OfOneShape (node h ps) (node h' ps') = (weight h ≡ weight h') × PartsOfOneShape ps ps'

  pub PartsOfOneShape : {R S I J : Type 0} → Parts R I → Parts S J → Type 0
  PartsOfOneShape none none = Unit {0}
  PartsOfOneShape (part k t ps) (part k' t' ps') = OfOneShape t t' × PartsOfOneShape ps ps'
  PartsOfOneShape none (part k' t' ps') = ⊥
  PartsOfOneShape (part k t ps) none = ⊥

module _ {R S I J : Type 0} where
  mutual
    pub size-same : (t : Tree R I) (t' : Tree S J) → OfOneShape t t' → size t ≡ size t'
    size-same (node h ps) (node h' ps') e =
        let w : weight h ≡ weight h' = e.0 in
        let a : first_size ps ≡ first_size ps' = first_size-same ps ps' e.1 in
        let b : sizes ps ≡ sizes ps' = sizes-same ps ps' e.1 in
        λ j. weigh (w j) (a j) (b j)

    pub sizes-same : (ps : Parts R I) (ps' : Parts S J) → PartsOfOneShape ps ps' → sizes ps ≡ sizes ps'
    sizes-same none none e = refl
    sizes-same (part k t ps) (part k' t' ps') e =
        let a : size t ≡ size t' = size-same t t' e.0 in
        let b : sizes ps ≡ sizes ps' = sizes-same ps ps' e.1 in
        λ j. a j + b j
    sizes-same none (part k' t' ps') e = absurd e
    sizes-same (part k t ps) none e = absurd e

    pub first_size-same : (ps : Parts R I) (ps' : Parts S J) → PartsOfOneShape ps ps' → first_size ps ≡ first_size ps'
    first_size-same none none e = refl
    first_size-same (part k t ps) (part k' t' ps') e = size-same t t' e.0
    first_size-same none (part k' t' ps') e = absurd e
    first_size-same (part k t ps) none e = absurd e

  mutual
    pub depth-same : (t : Tree R I) (t' : Tree S J) → OfOneShape t t' → depth t ≡ depth t'
    depth-same (node h ps) (node h' ps') e =
        let w : weight h ≡ weight h' = e.0 in
        let a : first_depth ps ≡ first_depth ps' = first_depth-same ps ps' e.1 in
        let b : depths ps ≡ depths ps' = depths-same ps ps' e.1 in
        λ j. deepen (w j) (a j) (b j)

    pub depths-same : (ps : Parts R I) (ps' : Parts S J) → PartsOfOneShape ps ps' → depths ps ≡ depths ps'
    depths-same none none e = refl
    depths-same (part k t ps) (part k' t' ps') e =
        let a : depth t ≡ depth t' = depth-same t t' e.0 in
        let b : depths ps ≡ depths ps' = depths-same ps ps' e.1 in
        λ j. max (a j) (b j)
    depths-same none (part k' t' ps') e = absurd e
    depths-same (part k t ps) none e = absurd e

    pub first_depth-same : (ps : Parts R I) (ps' : Parts S J) → PartsOfOneShape ps ps' → first_depth ps ≡ first_depth ps'
    first_depth-same none none e = refl
    first_depth-same (part k t ps) (part k' t' ps') e = depth-same t t' e.0
    first_depth-same none (part k' t' ps') e = absurd e
    first_depth-same (part k t ps) none e = absurd e

-- ## Renaming and replacing

module _ {R S I J : Type 0} (f : R → S) (g : I → J) where
  weight-rename : (h : Head R I) → weight (rename_head f g h) ≡ weight h
  weight-rename nothing = refl
  weight-rename x = refl

  mutual
    pub shape-rename : (t : Tree R I) → OfOneShape (rename f g t) t
    shape-rename (node h ps) = (weight-rename h, parts_shape-rename ps)

    pub parts_shape-rename : (ps : Parts R I) → PartsOfOneShape (rename_parts f g ps) ps
    parts_shape-rename none = tt
    parts_shape-rename (part k t ps) = (shape-rename t, parts_shape-rename ps)

  pub size-rename : (t : Tree R I) → size (rename f g t) ≡ size t
  size-rename t = size-same (rename f g t) t (shape-rename t)

  pub depth-rename : (t : Tree R I) → depth (rename f g t) ≡ depth t
  depth-rename t = depth-same (rename f g t) t (shape-rename t)

module _ {I : Type 0} where
  weight-substitute : (u : Name → Name) (h : Head Name I) → weight (substitute_head u h) ≡ weight h
  weight-substitute u (resource q s) = refl
  weight-substitute u x = refl

  mutual
    pub shape-substitute : (u : Name → Name) (t : Tree Name I) → OfOneShape (substitute u t) t
    shape-substitute u (node h ps) = (weight-substitute u h, parts_shape-substitute (spare h u) ps)

    pub parts_shape-substitute : (u : Name → Name) (ps : Parts Name I) → PartsOfOneShape (substitute_parts u ps) ps
    parts_shape-substitute u none = tt
    parts_shape-substitute u (part k t ps) = (shape-substitute u t, parts_shape-substitute u ps)

  pub size-substitute : (u : Name → Name) (t : Tree Name I) → size (substitute u t) ≡ size t
  size-substitute u t = size-same (substitute u t) t (shape-substitute u t)

  pub depth-substitute : (u : Name → Name) (t : Tree Name I) → depth (substitute u t) ≡ depth t
  depth-substitute u t = depth-same (substitute u t) t (shape-substitute u t)
