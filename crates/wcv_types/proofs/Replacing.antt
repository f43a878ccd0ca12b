-- With identities aside, a rebuilding that replaces resources alone is a replacing of free resources; and what does not change stays.
use Rattle.std.proofs.Common.{◌≡◌, Bool, true, false, cond, not, ◌||◌, refl, ap, sym, ◌∙◌, arith}
use Rattle.std.proofs.Math.Path.{fun_ext}
use Rattle.std.proofs.lemmas.Bool.{false≢true, or_from}
use Rattle.std.specs.Prelude.{Option, Some, None}
use Rattle.wcv_core.specs.Names.{Name, same}
use Rattle.wcv_core.proofs.Names.{same-true}
use Rattle.wcv_types.specs.Tree.{Head, resource, Tree, node, Parts, none, part, head}
use Rattle.wcv_types.specs.Identity.{Identity, identity_at, same_known}
use Rattle.wcv_types.specs.Rename.{rename_head, rename_parts, no_identity, without_identities}
use Rattle.wcv_types.specs.Resources.{mentions, mentions_in, owns, spare, substitute_head, substitute, substitute_parts}
use Rattle.wcv_types.specs.Replacing.{Replacement, given_at, given_or, or_same, new_resource, moved, moves, given_elsewhere, changed, changed_in, new_head, replaced, replaced_in, SparesOwn, SparesOwnIn, GivesSame, GivesSameIn}

abbrev pub aside : {I : Type 0} → Parts Name I → Parts Name (Unit {0})
aside ps = rename_parts (λ r. r) no_identity ps

abbrev pub aside_head : {I : Type 0} → Head Name I → Head Name (Unit {0})
aside_head h = rename_head (λ r. r) no_identity h

head-new : (m : Replacement) (b : Bool) (h : Head Name Name) → aside_head (new_head m b h) ≡ aside_head (substitute_head (new_resource m) h)
head-new m b (resource r s) = refl
head-new m true x = refl
head-new m false x = refl

pub none-given : (m : Replacement) → ((i : Identity) → m.nodes i ≡ None) → (h : Head Name Name) → given_at m h ≡ None
none-given m n h = go (identity_at h)
  where
    go : (o : Option Identity) → (elim o as (λ x. Option (Tree Name Name)) [ None ↦ None | Some i ↦ m.nodes i ]) ≡ None
    go None = refl
    go (Some i) = n i

-- where no owned resource is replaced, to spare them changes nothing
spare-same : (m : Replacement) (h : Head Name Name) → ((r : Name) → owns h r ≡ true → m.resources r ≡ None) → spare h (new_resource m) ≡ new_resource m
spare-same m h s = fun_ext (λ r. go r (owns h r) refl)
  where
    go : (r : Name) (b : Bool) → owns h r ≡ b → cond (owns h r) r (new_resource m r) ≡ new_resource m r
    go r true e = let f : new_resource m r ≡ r = ap (or_same r) (s r e) in rw e (sym f)
    go r false e = rw e refl

module _ (m : Replacement) (n : (i : Identity) → m.nodes i ≡ None) where
  mutual
    pub replaced-aside : (t : Tree Name Name) → SparesOwn m t → without_identities (replaced m t) ≡ without_identities (substitute (new_resource m) t)
    replaced-aside (node h ps) s =
        let b : Bool = moves m h || changed_in m ps in
        let whole : replaced m (node h ps) ≡ node (new_head m b h) (replaced_in m ps) =
        ap (λ (o : Option (Tree Name Name)). given_or o (node (new_head m b h) (replaced_in m ps))) (none-given m n h) in
        let e : aside_head (new_head m b h) ≡ aside_head (substitute_head (new_resource m) h) = head-new m b h in
        let e' : aside (replaced_in m ps) ≡ aside (substitute_parts (spare h (new_resource m)) ps) =
        replaced_in-aside ps s.1 ∙ ap (λ (v : Name → Name). aside (substitute_parts v ps)) (sym (spare-same m h s.0)) in
        ap without_identities whole ∙ (λ j. node (e j) (e' j))

    pub replaced_in-aside : (ps : Parts Name Name) → SparesOwnIn m ps → aside (replaced_in m ps) ≡ aside (substitute_parts (new_resource m) ps)
    replaced_in-aside none s = refl
    replaced_in-aside (part k t ps) s =
        let e : without_identities (replaced m t) ≡ without_identities (substitute (new_resource m) t) = replaced-aside t s.0 in
        let e' : aside (replaced_in m ps) ≡ aside (substitute_parts (new_resource m) ps) = replaced_in-aside ps s.1 in
        λ j. part k (e j) (e' j)

-- ## What does not change stays

or_left : (a b : Bool) → (a || b) ≡ false → a ≡ false
or_left a b h = grind arith

or_right : (a b : Bool) → (a || b) ≡ false → b ≡ false
or_right a b h = grind arith

not_false : (a : Bool) → not a ≡ false → a ≡ true
not_false a h = grind arith

pub unmoved : (r : Name) (o : Option Name) → moved r o ≡ false → or_same r o ≡ r
unmoved r None e = refl
unmoved r (Some q) e = sym (same-true r q (not_false (same r q) e))

head-stays : (m : Replacement) (h : Head Name Name) → moves m h ≡ false → new_head m false h ≡ h
head-stays m (resource r s) e = ap (λ (q : Name). resource q s) (unmoved r (m.resources r) e)
head-stays m x e = refl

node-stays : (m : Replacement) (h : Head Name Name) (ps : Parts Name Name) → ((u : Tree Name Name) → given_at m h ≡ Some u → same_known (identity_at h) (identity_at (head u)) ≡ true → u ≡ node h ps) →
    (changed_in m ps ≡ false → replaced_in m ps ≡ ps) → changed m (node h ps) ≡ false → replaced m (node h ps) ≡ node h ps
node-stays m h ps self below e = go (given_at m h) refl e
  where
    go : (o : Option (Tree Name Name)) → given_at m h ≡ o → given_elsewhere (given_at m h) h (moves m h || changed_in m ps) ≡ false → given_or (given_at m h) (node (new_head m (moves m h || changed_in m ps) h) (replaced_in m ps)) ≡ node h ps
    go (Some u) g k =
        let k' : given_elsewhere (Some u) h (moves m h || changed_in m ps) ≡ false = ap (λ (o : Option (Tree Name Name)). given_elsewhere o h (moves m h || changed_in m ps)) (sym g) ∙ k in
        ap (λ (x : Option (Tree Name Name)). given_or x (node (new_head m (moves m h || changed_in m ps) h) (replaced_in m ps))) g ∙ self u g (not_false (same_known (identity_at h) (identity_at (head u))) k')
    go None g k =
        let k' : (moves m h || changed_in m ps) ≡ false = ap (λ (o : Option (Tree Name Name)). given_elsewhere o h (moves m h || changed_in m ps)) (sym g) ∙ k in
        let e₁ : new_head m (moves m h || changed_in m ps) h ≡ h = ap (λ (c : Bool). new_head m c h) k' ∙ head-stays m h (or_left (moves m h) (changed_in m ps) k') in
        let e₂ : replaced_in m ps ≡ ps = below (or_right (moves m h) (changed_in m ps) k') in
        ap (λ (x : Option (Tree Name Name)). given_or x (node (new_head m (moves m h || changed_in m ps) h) (replaced_in m ps))) g ∙ (λ j. node (e₁ j) (e₂ j))

module _ (m : Replacement) where
  mutual
    pub unchanged-stays : (t : Tree Name Name) → GivesSame m t → changed m t ≡ false → replaced m t ≡ t
    unchanged-stays (node h ps) s e = node-stays m h ps s.0 (λ k. unchanged_in-stays ps s.1 k) e

    pub unchanged_in-stays : (ps : Parts Name Name) → GivesSameIn m ps → changed_in m ps ≡ false → replaced_in m ps ≡ ps
    unchanged_in-stays none s e = refl
    unchanged_in-stays (part k t ps) s e =
        let e₁ : replaced m t ≡ t = unchanged-stays t s.0 (or_left (changed m t) (changed_in m ps) e) in
        let e₂ : replaced_in m ps ≡ ps = unchanged_in-stays ps s.1 (or_right (changed m t) (changed_in m ps) e) in
        λ j. part k (e₁ j) (e₂ j)

-- ## Where no reference stands, and no node is given

closed_head : (m : Replacement) (h : Head Name Name) (ps : Parts Name Name) → mentions (node h ps) ≡ false → (moves m h ≡ false) × (mentions_in ps ≡ false)
closed_head m (resource r s) ps e = absurd (false≢true (sym e))
closed_head m h ps e = (refl, e)

not_given : (o : Option (Tree Name Name)) (u : Tree Name Name) → o ≡ None → o ≡ Some u → ⊥
not_given o u n e = let f : None ≡ Some u = sym n ∙ e in cc

module _ (m : Replacement) (n : (i : Identity) → m.nodes i ≡ None) where
  mutual
    gives-same : (t : Tree Name Name) → GivesSame m t
    gives-same (node h ps) = ((λ u e k. absurd (not_given (given_at m h) u (none-given m n h) e)), gives_in-same ps)

    gives_in-same : (ps : Parts Name Name) → GivesSameIn m ps
    gives_in-same none = tt
    gives_in-same (part k t ps) = (gives-same t, gives_in-same ps)

  mutual
    pub closed-unchanged : (t : Tree Name Name) → mentions t ≡ false → changed m t ≡ false
    closed-unchanged (node h ps) e =
        let w : (moves m h ≡ false) × (mentions_in ps ≡ false) = closed_head m h ps e in
        ap (λ (o : Option (Tree Name Name)). given_elsewhere o h (moves m h || changed_in m ps)) (none-given m n h) ∙ or_from (moves m h) (changed_in m ps) w.0 (closed_in-unchanged ps w.1)

    closed_in-unchanged : (ps : Parts Name Name) → mentions_in ps ≡ false → changed_in m ps ≡ false
    closed_in-unchanged none e = refl
    closed_in-unchanged (part k t ps) e =
        or_from (changed m t) (changed_in m ps) (closed-unchanged t (or_left (mentions t) (mentions_in ps) e)) (closed_in-unchanged ps (or_right (mentions t) (mentions_in ps) e))

  pub closed-stays : (t : Tree Name Name) → mentions t ≡ false → replaced m t ≡ t
  closed-stays t e = unchanged-stays m t (gives-same t) (closed-unchanged t e)

  -- where no resource is replaced either, nothing changes
  module _ (idle : (r : Name) → m.resources r ≡ None) where
    idle_head : (h : Head Name Name) → moves m h ≡ false
    idle_head (resource r s) = ap (moved r) (idle r)
    idle_head h = refl

    mutual
      idle-unchanged : (t : Tree Name Name) → changed m t ≡ false
      idle-unchanged (node h ps) =
          ap (λ (o : Option (Tree Name Name)). given_elsewhere o h (moves m h || changed_in m ps)) (none-given m n h) ∙ λ j. idle_head h j || idle_in-unchanged ps j

      idle_in-unchanged : (ps : Parts Name Name) → changed_in m ps ≡ false
      idle_in-unchanged none = refl
      idle_in-unchanged (part k t ps) = λ j. idle-unchanged t j || idle_in-unchanged ps j

    pub idle-stays : (t : Tree Name Name) → replaced m t ≡ t
    idle-stays t = unchanged-stays m t (gives-same t) (idle-unchanged t)
