-- Replacing of free resources commutes with a renaming that has a way back on the resources that occur.
use Rattle.std.proofs.Common.{◌≡◌, ℕ, List, [], ◌∷◌, map, Bool, true, false, ◌||◌, refl, ap, sym, ◌∙◌, inl, inr}
use Rattle.std.specs.Prelude.{All}
use Rattle.std.proofs.lemmas.List.Elements.{All-head, All-tail}
use Rattle.wcv_core.specs.Names.{Name, same, member}
use Rattle.wcv_types.specs.Tree.{Head, nothing, resource, instance, component, Tree, node, Parts, none, part, firsts}
use Rattle.wcv_types.specs.Rename.{rename_head, rename, rename_parts, rename_paths, HeadNames, EachName, EachNameIn}
use Rattle.wcv_types.specs.Resources.{owns, RefersTo, Free, FreeIn, spare, substitute_head, substitute, substitute_parts}
use Rattle.wcv_types.proofs.Identity.{same_under}
use Rattle.wcv_types.proofs.Occurring.{free_in-occurs}
use Rattle.wcv_types.proofs.Replace.{spare-owned, spare-other}

-- Q is any fact of the identities
module _ {I J : Type 0} (f back : Name → Name) (g : I → J) (Q : I → Type 0) where
  abbrev R : Name → Type 0
  R r = back (f r) ≡ r

  member-renamed : (r : Name) → R r → (rs : List Name) → All R rs → member (f r) (map f rs) ≡ member r rs
  member-renamed r e [] a = refl
  member-renamed r e (q ∷ rs) a =
      let one : same (f r) (f q) ≡ same r q = same_under f back r q e (All-head R q rs a) in
      let rest : member (f r) (map f rs) ≡ member r rs = member-renamed r e rs (All-tail R q rs a) in
      λ j. one j || rest j

  firsts-renamed : (r : Name) → R r → (ps : List (Name × List ℕ)) → All (λ p. R p.0) ps → member (f r) (firsts (rename_paths f ps)) ≡ member r (firsts ps)
  firsts-renamed r e [] a = refl
  firsts-renamed r e (p ∷ ps) a =
      let one : same (f r) (f p.0) ≡ same r p.0 = same_under f back r p.0 e (All-head (λ (q : Name × List ℕ). R q.0) p ps a) in
      let rest : member (f r) (firsts (rename_paths f ps)) ≡ member r (firsts ps) = firsts-renamed r e ps (All-tail (λ (q : Name × List ℕ). R q.0) p ps a) in
      λ j. one j || rest j

  -- a renamed node owns what it owned
  pub owns-renamed : (h : Head Name I) (r : Name) → HeadNames (λ q. back (f q) ≡ q) Q h → back (f r) ≡ r → owns (rename_head f g h) (f r) ≡ owns h r
  owns-renamed (instance i own) r n e = member-renamed r e own n.1
  owns-renamed (component i ins outs) r n e =
      let a : member (f r) (firsts (rename_paths f ins)) ≡ member r (firsts ins) = firsts-renamed r e ins n.1 in
      let b : member (f r) (firsts (rename_paths f outs)) ≡ member r (firsts outs) = firsts-renamed r e outs n.2 in
      λ j. a j || b j
  owns-renamed nothing r n e = refl
  owns-renamed x r n e = refl

  head-commutes : (u v : Name → Name) (h : Head Name I) → ((r : Name) → RefersTo r h → v (f r) ≡ f (u r)) → rename_head f g (substitute_head u h) ≡ substitute_head v (rename_head f g h)
  head-commutes u v (resource q s) p = ap (λ z. resource z (g s)) (sym (p q refl))
  head-commutes u v x p = refl

  spare-commutes : (u v : Name → Name) (h : Head Name I) (r : Name) → HeadNames R Q h → R r → (owns h r ≡ false → v (f r) ≡ f (u r)) → spare (rename_head f g h) v (f r) ≡ f (spare h u r)
  spare-commutes u v h r n e p = go (owns h r) refl
    where
      go : (b : Bool) → owns h r ≡ b → spare (rename_head f g h) v (f r) ≡ f (spare h u r)
      go true o = spare-owned (rename_head f g h) v (f r) (owns-renamed h r n e ∙ o) ∙ ap f (sym (spare-owned h u r o))
      go false o = spare-other (rename_head f g h) v (f r) (owns-renamed h r n e ∙ o) ∙ p o ∙ ap f (sym (spare-other h u r o))

  mutual
    pub rename-substitute : (u v : Name → Name) (t : Tree Name I) → EachName (λ r. back (f r) ≡ r) Q t → ((r : Name) → Free r t → v (f r) ≡ f (u r)) →
        rename f g (substitute u t) ≡ substitute v (rename f g t)
    rename-substitute u v (node h ps) n p =
        let e : rename_head f g (substitute_head u h) ≡ substitute_head v (rename_head f g h) = head-commutes u v h (λ r q. p r (inl q)) in
        let e' : rename_parts f g (substitute_parts (spare h u) ps) ≡ substitute_parts (spare (rename_head f g h) v) (rename_parts f g ps) =
        rename_parts-substitute (spare h u) (spare (rename_head f g h) v) ps n.1 (λ r q. spare-commutes u v h r n.0 (free_in-occurs R Q r ps q n.1) (λ o. p r (inr (o, q)))) in
        λ j. node (e j) (e' j)

    pub rename_parts-substitute : (u v : Name → Name) (ps : Parts Name I) → EachNameIn (λ r. back (f r) ≡ r) Q ps → ((r : Name) → FreeIn r ps → v (f r) ≡ f (u r)) →
        rename_parts f g (substitute_parts u ps) ≡ substitute_parts v (rename_parts f g ps)
    rename_parts-substitute u v none n p = refl
    rename_parts-substitute u v (part l t ps) n p =
        let e : rename f g (substitute u t) ≡ substitute v (rename f g t) = rename-substitute u v t n.0 (λ r q. p r (inl q)) in
        let e' : rename_parts f g (substitute_parts u ps) ≡ substitute_parts v (rename_parts f g ps) = rename_parts-substitute u v ps n.1 (λ r q. p r (inr q)) in
        λ j. part l (e j) (e' j)
