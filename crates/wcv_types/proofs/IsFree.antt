-- Whether a resource is free: it says so, and it is the same under a renaming that has a way back.
use Rattle.std.proofs.Common.{◌≡◌, refl, ap, Bool, true, false, ◌||◌, ◌&&◌, not, inl, inr}
use Rattle.std.proofs.lemmas.Bool.{false≢true}
use Rattle.wcv_core.specs.Names.{Name}
use Rattle.wcv_types.specs.Tree.{Head, Role, Tree, node, Parts, none, part}
use Rattle.wcv_types.specs.Rename.{rename, rename_head, rename_parts, EachName, EachNameIn}
use Rattle.wcv_types.specs.Resources.{owns, refers, is_free, is_free_in, Free, FreeIn}
use Rattle.wcv_types.proofs.Commute.{owns-renamed}
use Rattle.wcv_types.proofs.FirstPath.{refers-to, to-refers, refers-renamed}

free_node : (r : Name) (h : Head Name Name) (ps : Parts Name Name) → (is_free_in r ps ≡ true → FreeIn r ps) → is_free r (node h ps) ≡ true → Free r (node h ps)
free_node r h ps inside e = go (refers r h) (owns h r) refl refl e
  where
    go : (b o : Bool) → refers r h ≡ b → owns h r ≡ o → (b || (not o && is_free_in r ps)) ≡ true → Free r (node h ps)
    go true o x y w = inl (refers-to r h x)
    go false true x y w = absurd (false≢true w)
    go false false x y w = inr (y, inside w)

free_part : (r : Name) (k : Role) (t : Tree Name Name) (ps : Parts Name Name) → (is_free r t ≡ true → Free r t) → (is_free_in r ps ≡ true → FreeIn r ps) → is_free_in r (part k t ps) ≡ true → FreeIn r (part k t ps)
free_part r k t ps first later e = go (is_free r t) refl e
  where
    go : (b : Bool) → is_free r t ≡ b → (b || is_free_in r ps) ≡ true → FreeIn r (part k t ps)
    go true x w = inl (first x)
    go false x w = inr (later w)

either : (b c : Bool) → c ≡ true → (b || c) ≡ true
either true c e = refl
either false c e = e

mutual
  pub is_free-free : (r : Name) (t : Tree Name Name) → is_free r t ≡ true → Free r t
  is_free-free r (node h ps) e = free_node r h ps (λ w. is_free_in-free r ps w) e

  pub is_free_in-free : (r : Name) (ps : Parts Name Name) → is_free_in r ps ≡ true → FreeIn r ps
  is_free_in-free r none e = absurd (false≢true e)
  is_free_in-free r (part k t ps) e = free_part r k t ps (λ w. is_free-free r t w) (λ w. is_free_in-free r ps w) e

mutual
  pub free-is_free : (r : Name) (t : Tree Name Name) → Free r t → is_free r t ≡ true
  free-is_free r (node h ps) (inl x) = ap (λ (b : Bool). b || (not (owns h r) && is_free_in r ps)) (to-refers r h x)
  free-is_free r (node h ps) (inr x) = either (refers r h) (not (owns h r) && is_free_in r ps) (let w = free_in-is_free r ps x.1 in λ j. not (x.0 j) && w j)

  pub free_in-is_free : (r : Name) (ps : Parts Name Name) → FreeIn r ps → is_free_in r ps ≡ true
  free_in-is_free r none x = absurd x
  free_in-is_free r (part k t ps) (inl x) = ap (λ (b : Bool). b || is_free_in r ps) (free-is_free r t x)
  free_in-is_free r (part k t ps) (inr x) = either (is_free r t) (is_free_in r ps) (free_in-is_free r ps x)

module _ (f back g : Name → Name) (Q : Name → Type 0) where
  mutual
    pub is_free-renamed : (r : Name) (t : Tree Name Name) → back (f r) ≡ r → EachName (λ q. back (f q) ≡ q) Q t → is_free (f r) (rename f g t) ≡ is_free r t
    is_free-renamed r (node h ps) e n =
        let a : refers (f r) (rename_head f g h) ≡ refers r h = refers-renamed f back g Q r h e n.0 in
        let b : owns (rename_head f g h) (f r) ≡ owns h r = owns-renamed f back g Q h r n.0 e in
        let c : is_free_in (f r) (rename_parts f g ps) ≡ is_free_in r ps = is_free_in-renamed r ps e n.1 in
        λ j. a j || (not (b j) && c j)

    pub is_free_in-renamed : (r : Name) (ps : Parts Name Name) → back (f r) ≡ r → EachNameIn (λ q. back (f q) ≡ q) Q ps → is_free_in (f r) (rename_parts f g ps) ≡ is_free_in r ps
    is_free_in-renamed r none e n = refl
    is_free_in-renamed r (part k t ps) e n =
        let a : is_free (f r) (rename f g t) ≡ is_free r t = is_free-renamed r t e n.0 in
        let b : is_free_in (f r) (rename_parts f g ps) ≡ is_free_in r ps = is_free_in-renamed r ps e n.1 in
        λ j. a j || b j
