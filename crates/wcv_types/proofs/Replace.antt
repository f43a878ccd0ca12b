-- The laws of replacing free resources.
use Rattle.std.proofs.Common.{◌≡◌, Bool, true, false, refl, ap, sym, subst, ◌∙◌, inl, inr}
use Rattle.std.proofs.lemmas.Bool.{false≢true}
use Rattle.wcv_core.specs.Names.{Name}
use Rattle.wcv_types.specs.Tree.{Head, resource, instance, Tree, node, Parts, none, part}
use Rattle.wcv_types.specs.Resources.{owns, RefersTo, Free, FreeIn, spare, substitute_head, substitute, substitute_parts, Admits, AdmitsIn}

-- q is what some name with that property becomes
abbrev pub Comes : (Name → Name) → (Name → Type 0) → Name → Type 0
Comes u P q = (r : Name) × P r × (u r ≡ q)

module _ {I : Type 0} where
  owns-substitute : (u : Name → Name) (h : Head Name I) (r : Name) → owns (substitute_head u h) r ≡ owns h r
  owns-substitute u (instance i own) r = refl
  owns-substitute u _ r = refl

  pub spare-owned : (x : Head Name I) (u : Name → Name) (r : Name) → owns x r ≡ true → spare x u r ≡ r
  spare-owned x u r e = rw e refl

  pub spare-other : (x : Head Name I) (u : Name → Name) (r : Name) → owns x r ≡ false → spare x u r ≡ u r
  spare-other x u r e = rw e refl

  spare-ext : (x : Head Name I) (u v : Name → Name) (r : Name) → (owns x r ≡ false → u r ≡ v r) → spare x u r ≡ spare x v r
  spare-ext x u v r p = go (owns x r) refl
    where
      go : (b : Bool) → owns x r ≡ b → spare x u r ≡ spare x v r
      go true e = spare-owned x u r e ∙ sym (spare-owned x v r e)
      go false e = spare-other x u r e ∙ p e ∙ sym (spare-other x v r e)

  substitute_head-ext : (u v : Name → Name) (x : Head Name I) → ((r : Name) → RefersTo r x → u r ≡ v r) → substitute_head u x ≡ substitute_head v x
  substitute_head-ext u v (resource q s) p = ap (λ z. resource z s) (p q refl)
  substitute_head-ext u v _ p = refl

  -- spare after spare
  spare-spare : (x : Head Name I) (u v w : Name → Name) (r : Name) → (owns x r ≡ false → owns x (u r) ≡ false) → (owns x r ≡ false → v (u r) ≡ w r) →
      spare x v (spare x u r) ≡ spare x w r
  spare-spare x u v w r a p = go (owns x r) refl
    where
      go : (b : Bool) → owns x r ≡ b → spare x v (spare x u r) ≡ spare x w r
      go true e = ap (spare x v) (spare-owned x u r e) ∙ spare-owned x v r e ∙ sym (spare-owned x w r e)
      go false e = ap (spare x v) (spare-other x u r e) ∙ spare-other x v (u r) (a e) ∙ p e ∙ sym (spare-other x w r e)

  spare-substitute : (u v : Name → Name) (x : Head Name I) → spare (substitute_head u x) v ≡ spare x v
  spare-substitute u v (resource q s) = refl
  spare-substitute u v _ = refl

  -- the same where two functions agree on the free resources
  mutual
    pub substitute-ext : (u v : Name → Name) (t : Tree Name I) → ((r : Name) → Free r t → u r ≡ v r) → substitute u t ≡ substitute v t
    substitute-ext u v (node x ps) p =
        let e : substitute_head u x ≡ substitute_head v x = substitute_head-ext u v x (λ r q. p r (inl q)) in
        let e' : substitute_parts (spare x u) ps ≡ substitute_parts (spare x v) ps =
        substitute_parts-ext (spare x u) (spare x v) ps (λ r q. spare-ext x u v r (λ k. p r (inr (k, q)))) in
        cc

    pub substitute_parts-ext : (u v : Name → Name) (ps : Parts Name I) → ((r : Name) → FreeIn r ps → u r ≡ v r) → substitute_parts u ps ≡ substitute_parts v ps
    substitute_parts-ext u v none p = refl
    substitute_parts-ext u v (part k t ps) p =
        let e : substitute u t ≡ substitute v t = substitute-ext u v t (λ r q. p r (inl q)) in
        let e' : substitute_parts u ps ≡ substitute_parts v ps = substitute_parts-ext u v ps (λ r q. p r (inr q)) in
        cc

  substitute_head-twice : (u v : Name → Name) (x : Head Name I) → substitute_head v (substitute_head u x) ≡ substitute_head (λ r. v (u r)) x
  substitute_head-twice u v (resource q s) = refl
  substitute_head-twice u v _ = refl

  -- one replacing after another, where w agrees with them
  mutual
    pub substitute-twice : (u v w : Name → Name) (t : Tree Name I) → Admits u t → ((r : Name) → Free r t → v (u r) ≡ w r) → substitute v (substitute u t) ≡ substitute w t
    substitute-twice u v w (node x ps) a p =
        let e : substitute_head v (substitute_head u x) ≡ substitute_head w x =
        substitute_head-twice u v x ∙ substitute_head-ext (λ r. v (u r)) w x (λ r q. p r (inl q)) in
        let e' : substitute_parts (spare x v) (substitute_parts (spare x u) ps) ≡ substitute_parts (spare x w) ps =
        substitute_parts-twice (spare x u) (spare x v) (spare x w) ps a.1 (λ r q. spare-spare x u v w r (a.0 r q) (λ k. p r (inr (k, q)))) in
        let e'' : substitute_parts (spare (substitute_head u x) v) (substitute_parts (spare x u) ps) ≡ substitute_parts (spare x v) (substitute_parts (spare x u) ps) =
        ap (λ (z : Name → Name). substitute_parts z (substitute_parts (spare x u) ps)) (spare-substitute u v x) in
        cc

    pub substitute_parts-twice : (u v w : Name → Name) (ps : Parts Name I) → AdmitsIn u ps → ((r : Name) → FreeIn r ps → v (u r) ≡ w r) →
        substitute_parts v (substitute_parts u ps) ≡ substitute_parts w ps
    substitute_parts-twice u v w none a p = refl
    substitute_parts-twice u v w (part k t ps) a p =
        let e : substitute v (substitute u t) ≡ substitute w t = substitute-twice u v w t a.0 (λ r q. p r (inl q)) in
        let e' : substitute_parts v (substitute_parts u ps) ≡ substitute_parts w ps = substitute_parts-twice u v w ps a.1 (λ r q. p r (inr q)) in
        cc

  substitute_head-id : (x : Head Name I) → substitute_head (λ r. r) x ≡ x
  substitute_head-id (resource q s) = refl
  substitute_head-id _ = refl

  spare-id : (x : Head Name I) (u : Name → Name) (r : Name) → (owns x r ≡ false → u r ≡ r) → spare x u r ≡ r
  spare-id x u r p = go (owns x r) refl
    where
      go : (b : Bool) → owns x r ≡ b → spare x u r ≡ r
      go true e = spare-owned x u r e
      go false e = spare-other x u r e ∙ p e

  mutual
    pub substitute-id : (u : Name → Name) (t : Tree Name I) → ((r : Name) → Free r t → u r ≡ r) → substitute u t ≡ t
    substitute-id u (node x ps) p =
        let e : substitute_head u x ≡ x = substitute_head-ext u (λ r. r) x (λ r q. p r (inl q)) ∙ substitute_head-id x in
        let e' : substitute_parts (spare x u) ps ≡ ps = substitute_parts-id (spare x u) ps (λ r q. spare-id x u r (λ k. p r (inr (k, q)))) in
        cc

    pub substitute_parts-id : (u : Name → Name) (ps : Parts Name I) → ((r : Name) → FreeIn r ps → u r ≡ r) → substitute_parts u ps ≡ ps
    substitute_parts-id u none p = refl
    substitute_parts-id u (part k t ps) p =
        let e : substitute u t ≡ t = substitute-id u t (λ r q. p r (inl q)) in
        let e' : substitute_parts u ps ≡ ps = substitute_parts-id u ps (λ r q. p r (inr q)) in
        cc

  -- ## What is free after replacing

  refers-substitute : (u : Name → Name) (x : Head Name I) (q : Name) → RefersTo q (substitute_head u x) → Comes u (λ r. RefersTo r x) q
  refers-substitute u (resource r s) q e = (r, refl, sym e)
  refers-substitute u x q e = absurd e

  spare-comes : (x : Head Name I) (u : Name → Name) (P : Name → Type 0) (q : Name) → owns x q ≡ false → Comes (spare x u) P q → Comes u (λ r. (owns x r ≡ false) × P r) q
  spare-comes x u P q o c = go (owns x c.0) refl
    where
      go : (b : Bool) → owns x c.0 ≡ b → Comes u (λ r. (owns x r ≡ false) × P r) q
      go true e =
          let f : c.0 ≡ q = sym (spare-owned x u c.0 e) ∙ c.2 in
          absurd (false≢true (sym o ∙ ap (owns x) (sym f) ∙ e))
      go false e = (c.0, (e, c.1), sym (spare-other x u c.0 e) ∙ c.2)

  mutual
    pub free_after : (u : Name → Name) (t : Tree Name I) (q : Name) → Free q (substitute u t) → Comes u (λ r. Free r t) q
    free_after u (node x ps) q (inl e) = let c = refers-substitute u x q e in (c.0, inl c.1, c.2)
    free_after u (node x ps) q (inr e) =
        let o : owns x q ≡ false = sym (owns-substitute u x q) ∙ e.0 in
        let c = spare-comes x u (λ r. FreeIn r ps) q o (free_in_after (spare x u) ps q e.1) in
        (c.0, inr (c.1.0, c.1.1), c.2)

    pub free_in_after : (u : Name → Name) (ps : Parts Name I) (q : Name) → FreeIn q (substitute_parts u ps) → Comes u (λ r. FreeIn r ps) q
    free_in_after u none q e = absurd e
    free_in_after u (part k t ps) q (inl e) = let c = free_after u t q e in (c.0, inl c.1, c.2)
    free_in_after u (part k t ps) q (inr e) = let c = free_in_after u ps q e in (c.0, inr c.1, c.2)

  -- ## Replacing back

  mutual
    pub admits_back : (u v : Name → Name) (t : Tree Name I) → Admits u t → ((r : Name) → Free r t → v (u r) ≡ r) → Admits v (substitute u t)
    admits_back u v (node x ps) a p =
        let inside : (r : Name) → FreeIn r ps → spare x v (spare x u r) ≡ r =
        λ r q. spare-spare x u v (λ z. z) r (a.0 r q) (λ k. p r (inr (k, q))) ∙ spare-id x (λ z. z) r (λ k. refl) in
        let below : AdmitsIn (spare x v) (substitute_parts (spare x u) ps) = admits_in_back (spare x u) (spare x v) ps a.1 inside in (
          λ q e o.
              let o' : owns x q ≡ false = sym (owns-substitute u x q) ∙ o in
              let c = spare-comes x u (λ r. FreeIn r ps) q o' (free_in_after (spare x u) ps q e) in
              owns-substitute u x (v q) ∙ ap (λ (z : Name). owns x (v z)) (sym c.2) ∙ ap (owns x) (p c.0 (inr c.1)) ∙ c.1.0,
          subst (λ (z : Name → Name). AdmitsIn z (substitute_parts (spare x u) ps)) (sym (spare-substitute u v x)) below,
        )

    pub admits_in_back : (u v : Name → Name) (ps : Parts Name I) → AdmitsIn u ps → ((r : Name) → FreeIn r ps → v (u r) ≡ r) → AdmitsIn v (substitute_parts u ps)
    admits_in_back u v none a p = tt
    admits_in_back u v (part k t ps) a p = (admits_back u v t a.0 (λ r q. p r (inl q)), admits_in_back u v ps a.1 (λ r q. p r (inr q)))

-- what changes no free resource is admitted
mutual
  pub admits_id : {I : Type 0} (u : Name → Name) (t : Tree Name I) → ((r : Name) → Free r t → u r ≡ r) → Admits u t
  admits_id u (node x ps) p =
      (λ r q e. ap (owns x) (p r (inr (e, q))) ∙ e, admits_in_id (spare x u) ps (λ r q. spare-id x u r (λ k. p r (inr (k, q)))))

  pub admits_in_id : {I : Type 0} (u : Name → Name) (ps : Parts Name I) → ((r : Name) → FreeIn r ps → u r ≡ r) → AdmitsIn u ps
  admits_in_id u none p = tt
  admits_in_id u (part k t ps) p = (admits_id u t (λ r q. p r (inl q)), admits_in_id u ps (λ r q. p r (inr q)))
