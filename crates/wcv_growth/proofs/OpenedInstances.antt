-- An instance of an instance type, by place: what is free in it is free in the type or new, and paths lead to what is new.
use Rattle.std.proofs.Common.{◌≡◌, ℕ, List, [], ◌∷◌, map, Bool, true, false, ◌||◌, cond, refl, sym, ◌∙◌, ap, subst, Some, None, ◌⊎◌, inl, inr}
use Rattle.std.specs.Prelude.{Option, All, slice_get}
use Rattle.std.proofs.lemmas.Bool.{false≢true, or_cases}
use Rattle.std.proofs.lemmas.List.Elements.{All-nil, All-cons, All-head, All-tail}
use Rattle.wcv_core.specs.Names.{Name, Place, at, member, same}
use Rattle.wcv_core.proofs.Names.{same-refl, same-true}
use Rattle.wcv_types.specs.FirstPath.{first_path}
use Rattle.wcv_types.specs.Identity.{Identity, identity_at}
use Rattle.wcv_types.specs.Led.{HasPath}
use Rattle.wcv_types.specs.Paths.{PathLeadsTo, IsWayTo}
use Rattle.wcv_types.specs.Replacing.{Replacement, given_at, given_or, or_same, moves, changed_in, new_head, replaced, replaced_in}
use Rattle.wcv_types.specs.Resources.{owns, RefersTo, Free, FreeIn}
use Rattle.wcv_types.specs.Tree.{Extern_name, Head, resource, instance, node, Parts, none, part, exports_in, exports}
use Rattle.wcv_types.specs.Unfold.{Type_tree}
use Rattle.wcv_types.proofs.FirstPath.{first_path-none}
use Rattle.wcv_types.proofs.Lists.{some-inj}
use Rattle.wcv_lower.specs.Names.{names_by_place}
use Rattle.wcv_lower.specs.NewTypes.{owned_anew, instance_tree, path_or_none, instance_resources}
use Rattle.wcv_lower.specs.Owned.{OwnsNotIn}
use Rattle.wcv_lower.specs.Trees.{Entries}
use Rattle.wcv_lower.proofs.Given.{or_left, or_right}
use Rattle.wcv_lower.proofs.InstancePaths.{instance_leads}
use Rattle.wcv_growth.proofs.Having.{Has, Once}
use Rattle.wcv_growth.proofs.Placed.{PlacedAt}
use Rattle.wcv_growth.proofs.Sound.{Differ}

-- ## What is free where resources are replaced

module _ (m : Replacement) where
  -- it stays, or it comes in, by itself or in a node that is given
  abbrev pub Stays : (Name → Type 0) → Name → Type 0
  Stays P q = (P q × (m.resources q ≡ None)) ⊎ (((r : Name) × (m.resources r ≡ Some q)) ⊎ ((i : Identity) × (u : Type_tree) × (m.nodes i ≡ Some u) × Free q u))

  pub stays-more : (P Q : Name → Type 0) (q : Name) → (P q → Q q) → Stays P q → Stays Q q
  stays-more P Q q f (inl x) = inl (f x.0, x.1)
  stays-more P Q q f (inr x) = inr x

  head-owns : (b : Bool) (h : Head Name Name) (q : Name) → owns (new_head m b h) q ≡ owns h q
  head-owns b (resource x s) q = refl
  head-owns true h q = refl
  head-owns false h q = refl

  head-refers : (b : Bool) (h : Head Name Name) (q : Name) → RefersTo q (new_head m b h) → Stays (λ r. RefersTo r h) q
  head-refers b (resource x s) q e = go (m.resources x) refl e
    where
      go : (o : Option Name) → m.resources x ≡ o → q ≡ or_same x o → Stays (λ r. r ≡ x) q
      go None f e = inl (e, ap m.resources e ∙ f)
      go (Some y) f e = inr (inl (x, f ∙ ap Some (sym e)))
  head-refers true h q e = absurd e
  head-refers false h q e = absurd e

  abbrev rebuilt : Head Name Name → Parts Name Name → Type_tree
  rebuilt h ps = node (new_head m (moves m h || changed_in m ps) h) (replaced_in m ps)

  free-rebuilt : (h : Head Name Name) (ps : Parts Name Name) (q : Name) → (FreeIn q (replaced_in m ps) → Stays (λ r. FreeIn r ps) q) → Free q (rebuilt h ps) → Stays (λ r. Free r (node h ps)) q
  free-rebuilt h ps q inside (inl e) = stays-more (λ r. RefersTo r h) (λ r. Free r (node h ps)) q (λ x. inl x) (head-refers (moves m h || changed_in m ps) h q e)
  free-rebuilt h ps q inside (inr x) = stays-more (λ r. FreeIn r ps) (λ r. Free r (node h ps)) q (λ y. inr (sym (head-owns (moves m h || changed_in m ps) h q) ∙ x.0, y)) (inside x.1)

  -- of a node that is given
  free-given : (h : Head Name Name) (ps : Parts Name Name) (q : Name) → (Free q (rebuilt h ps) → Stays (λ r. Free r (node h ps)) q) → Free q (given_or (given_at m h) (rebuilt h ps)) → Stays (λ r. Free r (node h ps)) q
  free-given h ps q own e = go (identity_at h) e
    where
      at_known : (i : Identity) (o : Option Type_tree) → m.nodes i ≡ o → Free q (given_or o (rebuilt h ps)) → Stays (λ r. Free r (node h ps)) q
      at_known i None f e = own e
      at_known i (Some u) f e = inr (inr (i, u, f, e))

      go : (o : Option Identity) → Free q (given_or (elim o as (λ o. Option Type_tree) [ None ↦ None | Some i ↦ m.nodes i ]) (rebuilt h ps)) → Stays (λ r. Free r (node h ps)) q
      go None e = own e
      go (Some i) e = at_known i (m.nodes i) refl e

  mutual
    pub free-replaced : (t : Type_tree) (q : Name) → Free q (replaced m t) → Stays (λ r. Free r t) q
    free-replaced (node h ps) q e = free-given h ps q (λ y. free-rebuilt h ps q (λ x. free_in-replaced ps q x) y) e

    free_in-replaced : (ps : Parts Name Name) (q : Name) → FreeIn q (replaced_in m ps) → Stays (λ r. FreeIn r ps) q
    free_in-replaced none q e = absurd e
    free_in-replaced (part k t ps) q (inl e) = stays-more (λ r. Free r t) (λ r. Free r t ⊎ FreeIn r ps) q (λ x. inl x) (free-replaced t q e)
    free_in-replaced (part k t ps) q (inr e) = stays-more (λ r. FreeIn r ps) (λ r. Free r t ⊎ FreeIn r ps) q (λ x. inr x) (free_in-replaced ps q e)

-- ## An instance

module _ (p : Place) (i : Name) (own : List Name) (ps : Parts Name Name) where
  abbrev t : Type_tree
  t = node (instance i own) ps

  abbrev opened : Type_tree
  opened = instance_tree names_by_place p t

  abbrev brought : List (Name × List ℕ)
  brought = instance_resources names_by_place p t

  new-brought : (f : Name → List ℕ) (rs : List Name) (r : Name) → member r rs ≡ true → Has (map (λ x. (at p x, f x)) rs) (at p r)
  new-brought f [] r e = absurd (false≢true e)
  new-brought f (x ∷ rs) r e = go (or_cases (same r x) (member r rs) e) (λ h. new-brought f rs r h)
    where
      go : (same r x ≡ true) ⊎ (member r rs ≡ true) → (member r rs ≡ true → Has (map (λ x. (at p x, f x)) rs) (at p r)) → (at p r ≡ at p x) ⊎ Has (map (λ x. (at p x, f x)) rs) (at p r)
      go (inl h) further = inl (ap (at p) (same-true r x h))
      go (inr h) further = inr (further h)

  -- what is free in it was free in the type, or is new
  pub free-opened : (q : Name) → Free q opened → Free q t ⊎ Has brought q
  free-opened q e = go (free-replaced m (node (instance i []) ps) q e)
    where
      m : Replacement
      m = owned_anew names_by_place p own

      old : (b : Bool) → member q own ≡ b → cond b (Some (at p q)) None ≡ None → RefersTo q (instance i []) ⊎ ((false ≡ false) × FreeIn q ps) → Free q t
      old true f n x = cc
      old false f n (inl x) = absurd x
      old false f n (inr x) = inr (f, x.1)

      new : (r : Name) (b : Bool) → member r own ≡ b → cond b (Some (at p r)) None ≡ Some q → Has brought q
      new r true f s = subst (Has brought) (some-inj s) (new-brought (λ x. path_or_none (first_path x (exports_in ps))) own r f)
      new r false f s = cc

      go : Stays m (λ r. Free r (node (instance i []) ps)) q → Free q t ⊎ Has brought q
      go (inl x) = inl (old (member q own) refl x.1 x.0)
      go (inr (inl x)) = inr (new x.0 (member x.0 own) refl x.1)
      go (inr (inr x)) = cc (x.2)

  -- ## The new names

  brought-back : (f : Name → List ℕ) (rs : List Name) (r : Name) → Has (map (λ x. (at p x, f x)) rs) r → (x : Name) × (r ≡ at p x) × (member x rs ≡ true)
  brought-back f [] r h = absurd h
  brought-back f (x ∷ rs) r (inl e) = (x, e, or_left (same x x) (member x rs) (same-refl x))
  brought-back f (x ∷ rs) r (inr h) = let w = brought-back f rs r h in (w.0, w.1, or_right (same w.0 x) (member w.0 rs) w.2)

  pub brought-placed : (r : Name) → Has brought r → PlacedAt p r
  brought-placed r h = let w = brought-back (λ x. path_or_none (first_path x (exports_in ps))) own r h in inr (w.0, w.1)

  one-older : (x y : Name) → at p x ≡ at p y → x ≡ y
  one-older x y e = cc

  brought-once : (f : Name → List ℕ) (rs : List Name) → Differ rs → Once (map (λ x. (at p x, f x)) rs)
  brought-once f [] d = tt
  brought-once f (x ∷ rs) d = (again, brought-once f rs d.1)
    where
      again : Has (map (λ x. (at p x, f x)) rs) (at p x) → ⊥
      again h =
          let w = brought-back f rs (at p x) h in
          false≢true (sym d.0 ∙ subst (λ (y : Name). member y rs ≡ true) (sym (one-older x w.0 w.1)) w.2)

  pub opened-once : Differ own → Once brought
  opened-once d = brought-once (λ x. path_or_none (first_path x (exports_in ps))) own d

  -- ## Paths

  opened-way : (q : Name) → IsWayTo q opened
  opened-way q = go (moves m (instance i []) || changed_in m ps)
    where
      m : Replacement
      m = owned_anew names_by_place p own

      go : (b : Bool) → IsWayTo q (node (new_head m b (instance i [])) (replaced_in m ps))
      go true = (refl, refl)
      go false = (refl, refl)

  -- a first path leads on through the instance, wherever it stands
  step-in : (n : Extern_name) (es : Entries) (k : ℕ) (q : Name) (path : List ℕ) → slice_get es k ≡ Some (n, opened) → PathLeadsTo path q (exports opened) → PathLeadsTo (k ∷ path) q es
  step-in n es k q [] e w = absurd w
  step-in n es k q (j ∷ path) e w = ((n, opened), e, opened-way q, w)

  first-there : (r : Name) → HasPath (exports_in ps) r → (path : List ℕ) × (first_path r (exports_in ps) ≡ Some path)
  first-there r w = go (first_path r (exports_in ps)) refl
    where
      go : (o : Option (List ℕ)) → first_path r (exports_in ps) ≡ o → (path : List ℕ) × (o ≡ Some path)
      go None e = absurd (first_path-none r (exports_in ps) e w.0 w.1)
      go (Some path) e = (path, refl)

  module _ (n : Extern_name) (es : Entries) (k : ℕ) (there : slice_get es k ≡ Some (n, opened)) (spares : (r : Name) → OwnsNotIn (at p r) ps) where
    abbrev LeadsOn : Name × List ℕ → Type 0
    LeadsOn x = PathLeadsTo x.1 x.0 es

    one-leads : (r : Name) → member r own ≡ true → HasPath (exports_in ps) r → PathLeadsTo (k ∷ path_or_none (first_path r (exports_in ps))) (at p r) es
    one-leads r o w =
        let f = first-there r w in
        subst (λ (path : Option (List ℕ)). PathLeadsTo (k ∷ path_or_none path) (at p r) es) (sym f.1)
        (step-in n es k (at p r) f.0 there (instance_leads names_by_place p i own ps r f.0 o (spares r) f.1))

    all-lead : (rs : List Name) → ((r : Name) → member r rs ≡ true → member r own ≡ true) → All (HasPath (exports_in ps)) rs → All LeadsOn (map (λ x. (at p x, k ∷ path_or_none (first_path x (exports_in ps)))) rs)
    all-lead [] o w = All-nil LeadsOn
    all-lead (r ∷ rs) o w =
        All-cons LeadsOn (at p r, k ∷ path_or_none (first_path r (exports_in ps))) (map (λ x. (at p x, k ∷ path_or_none (first_path x (exports_in ps)))) rs)
        (one-leads r (o r (or_left (same r r) (member r rs) (same-refl r))) (All-head (HasPath (exports_in ps)) r rs w))
        (all-lead rs (λ q e. o q (or_right (same q r) (member q rs) e)) (All-tail (HasPath (exports_in ps)) r rs w))

    pub opened-leads : All (HasPath (exports_in ps)) own → All LeadsOn (map (λ x. (at p x, k ∷ path_or_none (first_path x (exports_in ps)))) own)
    opened-leads w = all-lead own (λ r e. e) w
