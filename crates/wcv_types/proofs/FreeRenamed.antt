-- What is free in a renamed tree, where the renaming has a way back.
use Rattle.std.proofs.Common.{◌≡◌, refl, ap, sym, ◌∙◌, inl, inr, false}
use Rattle.wcv_core.specs.Names.{Name}
use Rattle.wcv_types.specs.Tree.{Head, resource, Tree, node, Parts, none, part}
use Rattle.wcv_types.specs.Rename.{rename_head, rename, rename_parts, EachName, EachNameIn}
use Rattle.wcv_types.specs.Resources.{owns, RefersTo, Free, FreeIn}
use Rattle.wcv_types.proofs.Occurring.{free_in-occurs}
use Rattle.wcv_types.proofs.Replace.{Comes}
use Rattle.wcv_types.proofs.Commute.{owns-renamed}

module _ {I J : Type 0} (f back : Name → Name) (g : I → J) (Q : I → Type 0) where
  refers-renamed : (r : Name) (h : Head Name I) → RefersTo r h → RefersTo (f r) (rename_head f g h)
  refers-renamed r (resource q s) e = ap f e
  refers-renamed r x e = absurd e

  refers-renamed_back : (q : Name) (h : Head Name I) → RefersTo q (rename_head f g h) → Comes f (λ r. RefersTo r h) q
  refers-renamed_back q (resource r s) e = (r, refl, sym e)
  refers-renamed_back q x e = absurd e

  mutual
    pub free-renamed : (r : Name) (t : Tree Name I) → EachName (λ q. back (f q) ≡ q) Q t → Free r t → Free (f r) (rename f g t)
    free-renamed r (node h ps) n (inl e) = inl (refers-renamed r h e)
    free-renamed r (node h ps) n (inr e) =
        let occurs : back (f r) ≡ r = free_in-occurs (λ q. back (f q) ≡ q) Q r ps e.1 n.1 in
        inr (owns-renamed f back g Q h r n.0 occurs ∙ e.0, free_in-renamed r ps n.1 e.1)

    pub free_in-renamed : (r : Name) (ps : Parts Name I) → EachNameIn (λ q. back (f q) ≡ q) Q ps → FreeIn r ps → FreeIn (f r) (rename_parts f g ps)
    free_in-renamed r none n e = absurd e
    free_in-renamed r (part k t ps) n (inl e) = inl (free-renamed r t n.0 e)
    free_in-renamed r (part k t ps) n (inr e) = inr (free_in-renamed r ps n.1 e)

  mutual
    pub free-renamed_back : (q : Name) (t : Tree Name I) → EachName (λ x. back (f x) ≡ x) Q t → Free q (rename f g t) → Comes f (λ r. Free r t) q
    free-renamed_back q (node h ps) n (inl e) = let c = refers-renamed_back q h e in (c.0, inl c.1, c.2)
    free-renamed_back q (node h ps) n (inr e) =
        let c = free_in-renamed_back q ps n.1 e.1 in
        let occurs : back (f c.0) ≡ c.0 = free_in-occurs (λ x. back (f x) ≡ x) Q c.0 ps c.1 n.1 in
        let o : owns h c.0 ≡ false = sym (owns-renamed f back g Q h c.0 n.0 occurs) ∙ ap (owns (rename_head f g h)) c.2 ∙ e.0 in
        (c.0, inr (o, c.1), c.2)

    pub free_in-renamed_back : (q : Name) (ps : Parts Name I) → EachNameIn (λ x. back (f x) ≡ x) Q ps → FreeIn q (rename_parts f g ps) → Comes f (λ r. FreeIn r ps) q
    free_in-renamed_back q none n e = absurd e
    free_in-renamed_back q (part k t ps) n (inl e) = let c = free-renamed_back q t n.0 e in (c.0, inl c.1, c.2)
    free_in-renamed_back q (part k t ps) n (inr e) = let c = free_in-renamed_back q ps n.1 e in (c.0, inr c.1, c.2)
