-- The laws of matching under replacing and renaming.
use Rattle.std.proofs.Common.{◌≡◌, ℕ, List, [], ◌∷◌, map, Bool, true, false, cond, refl, ap, sym, subst, ◌∙◌}
use Rattle.std.proofs.Math.Path.{fun_ext}
use Rattle.std.specs.Bool.{one_answer}
use Rattle.wcv_core.specs.Names.{Name, member}
use Rattle.wcv_types.specs.Tree.{Head, nothing, primitive, resource, defined, func, instance, component, type_entity, core_module, core_instance, core_type, core_item, node, Parts, none, part, firsts, imported_at}
use Rattle.wcv_types.specs.Rename.{rename, rename_paths}
use Rattle.wcv_types.specs.Resources.{owns, Free, FreeIn, spare, substitute_head, substitute, substitute_parts, Admits, AdmitsIn}
use Rattle.wcv_types.specs.Unfold.{Type_tree}
use Rattle.wcv_types.proofs.Lists.{map-id}
use Rattle.wcv_types.proofs.Replace.{substitute-id, admits_id, spare-owned, spare-other}
use Rattle.wcv_matching.specs.Matching.{Item_rule, Reading, MatchBelow, Matches}
use Rattle.wcv_matching.proofs.TreeParts.{below-as}
use Rattle.wcv_matching.proofs.Moved.{move_head, moved, move, move_parts, Moves, MovesIn, MatchBelow-carry, rename-move, member-map_in, member-map_from}

-- ## Replacing is a move

substitute_head-move : (u : Name → Name) (x : Head Name Name) → substitute_head u x ≡ move_head (λ i. i) (λ r. r) u x
substitute_head-move u nothing = refl
substitute_head-move u (primitive p) = refl
substitute_head-move u (resource q s) = refl
substitute_head-move u (defined i f) = refl
substitute_head-move u (func i b) = refl
substitute_head-move u (instance i own) = ap (instance i) (sym (map-id own))
substitute_head-move u (component i ins outs) =
    let e : rename_paths (λ r. r) ins ≡ ins = map-id ins in
    let e' : rename_paths (λ r. r) outs ≡ outs = map-id outs in
    cc
substitute_head-move u type_entity = refl
substitute_head-move u (core_module i w) = refl
substitute_head-move u (core_instance i w) = refl
substitute_head-move u (core_type i) = refl
substitute_head-move u (core_item e) = refl

mutual
  pub substitute-move : (u : Name → Name) (t : Type_tree) → substitute u t ≡ move (λ i. i) (λ r. r) u t
  substitute-move u (node x ps) =
      let e : substitute_head u x ≡ move_head (λ i. i) (λ r. r) u x = substitute_head-move u x in
      let e' : substitute_parts (spare x u) ps ≡ move_parts (λ i. i) (λ r. r) (moved (λ r. r) x u) ps = substitute_parts-move (spare x u) ps in
      cc

  pub substitute_parts-move : (u : Name → Name) (ps : Parts Name Name) → substitute_parts u ps ≡ move_parts (λ i. i) (λ r. r) u ps
  substitute_parts-move u none = refl
  substitute_parts-move u (part l t ps) =
      let e : substitute u t ≡ move (λ i. i) (λ r. r) u t = substitute-move u t in
      let e' : substitute_parts u ps ≡ move_parts (λ i. i) (λ r. r) u ps = substitute_parts-move u ps in
      cc

owns-kept : (u : Name → Name) (x : Head Name Name) → owns (move_head (λ i. i) (λ r. r) u x) ≡ owns x
owns-kept u x = ap (λ (z : Head Name Name). owns z) (sym (substitute_head-move u x)) ∙ kept u x
  where
    kept : (u : Name → Name) (x : Head Name Name) → owns (substitute_head u x) ≡ owns x
    kept u (instance i own) = refl
    kept u _ = refl

imported-kept : (u : Name → Name) (x : Head Name Name) → imported_at (move_head (λ i. i) (λ r. r) u x) ≡ imported_at x
imported-kept u x = ap (λ (z : Head Name Name). imported_at z) (sym (substitute_head-move u x)) ∙ kept u x
  where
    kept : (u : Name → Name) (x : Head Name Name) → imported_at (substitute_head u x) ≡ imported_at x
    kept u (component i ins outs) = refl
    kept u _ = refl

mutual
  pub moves-admitted : (u : Name → Name) (t : Type_tree) → Admits u t → Moves (λ i. i) (λ r. r) u t
  moves-admitted u (node x ps) a = (
    λ r q. ap (λ (f : Name → Bool). f (spare x u r)) (owns-kept u x) ∙ here r q,
    λ r q e. ap (member r) (imported-kept u x),
    moves_in-admitted (spare x u) ps a.1,
  )
    where
      here : (r : Name) → FreeIn r ps → owns x (spare x u r) ≡ owns x r
      here r q = go (owns x r) refl
        where
          go : (b : Bool) → owns x r ≡ b → owns x (spare x u r) ≡ owns x r
          go true e = ap (owns x) (spare-owned x u r e)
          go false e = ap (owns x) (spare-other x u r e) ∙ a.0 r q e ∙ sym e

  pub moves_in-admitted : (u : Name → Name) (ps : Parts Name Name) → AdmitsIn u ps → MovesIn (λ i. i) (λ r. r) u ps
  moves_in-admitted u none a = tt
  moves_in-admitted u (part l t ps) a = (moves-admitted u t a.0, moves_in-admitted u ps a.1)

-- ## Matching of trees in which resources are replaced
-- replacing u and v, or u' and v', in the same trees
module _ (C : Item_rule) where
  pub MatchBelow-replaced : (d : ℕ) (A B : Type 0) (h : A → B) (f g : Reading A) (f' g' : Reading B) (u u' v v' : Name → Name) (a b : Type_tree) →
      Admits u a → Admits u' a → Admits v b → Admits v' b → ((r : Name) → Free r a → h (f (u r)) ≡ f' (u' r)) → ((r : Name) → Free r b → h (g (v r)) ≡ g' (v' r)) →
      MatchBelow C d A f g (substitute u a) (substitute v b) → MatchBelow C d B f' g' (substitute u' a) (substitute v' b)
  MatchBelow-replaced d A B h f g f' g' u u' v v' a b k k' l l' p q m =
      below-as C d B f' g' _ _ _ _ (sym (substitute-move u' a)) (sym (substitute-move v' b))
      (MatchBelow-carry C (λ i. i) (λ r. r) (λ i. i) (λ r. r) (λ r. r) (λ r. r) (λ r. refl) (λ r. refl) d A B h f g f' g' u u' v v' a b
      (moves-admitted u a k) (moves-admitted u' a k') (moves-admitted v b l) (moves-admitted v' b l') p q
      (below-as C d A f g _ _ _ _ (substitute-move u a) (substitute-move v b) m))

pub admits_same : (t : Type_tree) → Admits (λ r. r) t
admits_same t = admits_id (λ r. r) t (λ r z. refl)

pub same_tree : (t : Type_tree) → substitute (λ r. r) t ≡ t
same_tree t = substitute-id (λ r. r) t (λ r z. refl)

-- a replacing may be put into the trees, or into what their resources are read as
module _ (C : Item_rule) where
  pub MatchBelow-into : (d : ℕ) (A : Type 0) (f g : Reading A) (u v : Name → Name) (a b : Type_tree) → Admits u a → Admits v b →
      MatchBelow C d A (λ r. f (u r)) (λ r. g (v r)) a b → MatchBelow C d A f g (substitute u a) (substitute v b)
  MatchBelow-into d A f g u v a b k l m =
      MatchBelow-replaced C d A A (λ x. x) _ _ f g (λ r. r) u (λ r. r) v a b (admits_same a) k (admits_same b) l (λ r z. refl) (λ r z. refl)
      (below-as C d A _ _ _ _ _ _ (sym (same_tree a)) (sym (same_tree b)) m)

module _ (C : Item_rule) where
  pub MatchBelow-out_of : (d : ℕ) (A : Type 0) (f g : Reading A) (u v : Name → Name) (a b : Type_tree) → Admits u a → Admits v b →
      MatchBelow C d A f g (substitute u a) (substitute v b) → MatchBelow C d A (λ r. f (u r)) (λ r. g (v r)) a b
  MatchBelow-out_of d A f g u v a b k l m =
      below-as C d A _ _ _ _ _ _ (same_tree a) (same_tree b)
      (MatchBelow-replaced C d A A (λ x. x) f g _ _ u (λ r. r) v (λ r. r) a b k (admits_same a) l (admits_same b) (λ r z. refl) (λ r z. refl) m)

-- what the free resources are read as may be mapped on
module _ (C : Item_rule) where
  pub MatchBelow-map : (d : ℕ) (A B : Type 0) (h : A → B) (f g : Reading A) (f' g' : Reading B) (a b : Type_tree) →
      ((r : Name) → Free r a → h (f r) ≡ f' r) → ((r : Name) → Free r b → h (g r) ≡ g' r) → MatchBelow C d A f g a b → MatchBelow C d B f' g' a b
  MatchBelow-map d A B h f g f' g' a b p q m =
      below-as C d B f' g' _ _ _ _ (same_tree a) (same_tree b)
      (MatchBelow-replaced C d A B h f g f' g' (λ r. r) (λ r. r) (λ r. r) (λ r. r) a b (admits_same a) (admits_same a) (admits_same b) (admits_same b) p q
      (below-as C d A f g _ _ _ _ (sym (same_tree a)) (sym (same_tree b)) m))

-- matching is kept by every replacing that is admitted, injective or not
module _ (C : Item_rule) where
  pub Matches-substitute : (u : Name → Name) (a b : Type_tree) → Admits u a → Admits u b → Matches C a b → Matches C (substitute u a) (substitute u b)
  Matches-substitute u a b k l m =
      (m.0, MatchBelow-into C m.0 Name (λ r. r) (λ r. r) u u a b k l (MatchBelow-map C m.0 Name Name u (λ r. r) (λ r. r) u u a b (λ r z. refl) (λ r z. refl) m.1))

-- where it is injective on the free resources, failure to match is kept too: v takes them back
module _ (C : Item_rule) where
  pub Matches-back : (u v : Name → Name) (a b : Type_tree) → Admits u a → Admits u b →
      ((r : Name) → Free r a → v (u r) ≡ r) → ((r : Name) → Free r b → v (u r) ≡ r) → Matches C (substitute u a) (substitute u b) → Matches C a b
  Matches-back u v a b k l p q m =
      (m.0, MatchBelow-map C m.0 Name Name v u u (λ r. r) (λ r. r) a b p q (MatchBelow-out_of C m.0 Name (λ r. r) (λ r. r) u u a b k l m.1))

-- ## Renaming everywhere, own resources and identities too
pub member-renamed : (f back : Name → Name) → ((r : Name) → back (f r) ≡ r) → (r : Name) (xs : List Name) → member (f r) (map f xs) ≡ member r xs
member-renamed f back b r xs = one_answer (member (f r) (map f xs)) (member r xs) (found, λ h. member-map_in f r xs h) (λ h. h, λ h. h)
  where
    found : member (f r) (map f xs) ≡ true → member r xs ≡ true
    found h =
        let w = member-map_from f (f r) xs h in
        let e : r ≡ w.0 = sym (b r) ∙ ap back w.2 ∙ b w.0 in
        ap (λ (z : Name). member z xs) e ∙ w.1

pub firsts-renamed : (f : Name → Name) (ps : List (Name × List ℕ)) → firsts (rename_paths f ps) ≡ map f (firsts ps)
firsts-renamed f [] = refl
firsts-renamed f (p ∷ ps) = ap (λ xs. f p.0 ∷ xs) (firsts-renamed f ps)

module _ (C : Item_rule) where
  module _ (f g back : Name → Name) (b : (r : Name) → back (f r) ≡ r) where
    first-renamed : (r : Name) (ps : List (Name × List ℕ)) → member (f r) (firsts (rename_paths f ps)) ≡ member r (firsts ps)
    first-renamed r ps = ap (member (f r)) (firsts-renamed f ps) ∙ member-renamed f back b r (firsts ps)

    pub owns-renamed : (x : Head Name Name) (r : Name) → owns (move_head g f f x) (f r) ≡ owns x r
    owns-renamed nothing r = refl
    owns-renamed (primitive p) r = refl
    owns-renamed (resource q s) r = refl
    owns-renamed (defined i k) r = refl
    owns-renamed (func i a) r = refl
    owns-renamed (instance i own) r = member-renamed f back b r own
    owns-renamed (component i ins outs) r =
        let e : member (f r) (firsts (rename_paths f ins)) ≡ member r (firsts ins) = first-renamed r ins in
        let e' : member (f r) (firsts (rename_paths f outs)) ≡ member r (firsts outs) = first-renamed r outs in
        cc
    owns-renamed type_entity r = refl
    owns-renamed (core_module i w) r = refl
    owns-renamed (core_instance i w) r = refl
    owns-renamed (core_type i) r = refl
    owns-renamed (core_item e) r = refl

    pub imported-renamed : (x : Head Name Name) (r : Name) → member (f r) (imported_at (move_head g f f x)) ≡ member r (imported_at x)
    imported-renamed nothing r = refl
    imported-renamed (primitive p) r = refl
    imported-renamed (resource q s) r = refl
    imported-renamed (defined i k) r = refl
    imported-renamed (func i a) r = refl
    imported-renamed (instance i own) r = refl
    imported-renamed (component i ins outs) r = first-renamed r ins
    imported-renamed type_entity r = refl
    imported-renamed (core_module i w) r = refl
    imported-renamed (core_instance i w) r = refl
    imported-renamed (core_type i) r = refl
    imported-renamed (core_item e) r = refl

    moved-all : (x : Head Name Name) → moved f x f ≡ f
    moved-all x = fun_ext (λ r. go r (owns x r))
      where
        go : (r : Name) (c : Bool) → cond c (f r) (f r) ≡ f r
        go r true = refl
        go r false = refl

    mutual
      pub moves-renamed : (t : Type_tree) → Moves g f f t
      moves-renamed (node x ps) = (
        λ r q. ap (λ (u : Name → Name). owns (move_head g f f x) (u r)) (moved-all x) ∙ owns-renamed x r,
        λ r q e. imported-renamed x r,
        subst (λ (u : Name → Name). MovesIn g f u ps) (sym (moved-all x)) (moves_in-renamed ps),
      )

      pub moves_in-renamed : (ps : Parts Name Name) → MovesIn g f f ps
      moves_in-renamed none = tt
      moves_in-renamed (part l t ps) = (moves-renamed t, moves_in-renamed ps)

    -- an injective renaming of all names keeps matching, and failure to match
    pub Matches-rename : (s t : Type_tree) → Matches C s t → Matches C (rename f g s) (rename f g t)
    Matches-rename s t m = (
      m.0,
      below-as C m.0 Name (λ r. r) (λ r. r) _ _ _ _ (sym (rename-move f g s)) (sym (rename-move f g t))
          (MatchBelow-carry C (λ i. i) (λ r. r) g f f back (λ r. refl) b m.0 Name Name f (λ r. r) (λ r. r) (λ r. r) (λ r. r) (λ r. r) f (λ r. r) f s t
          (moves-admitted (λ r. r) s (admits_same s)) (moves-renamed s) (moves-admitted (λ r. r) t (admits_same t)) (moves-renamed t) (λ r z. refl) (λ r z. refl)
          (below-as C m.0 Name (λ r. r) (λ r. r) _ _ _ _ (sym (same_tree s) ∙ substitute-move (λ r. r) s) (sym (same_tree t) ∙ substitute-move (λ r. r) t) m.1)),
    )

    pub Matches-renamed_back : (s t : Type_tree) → Matches C (rename f g s) (rename f g t) → Matches C s t
    Matches-renamed_back s t m = (
      m.0,
      below-as C m.0 Name (λ r. r) (λ r. r) _ _ _ _ (sym (substitute-move (λ r. r) s) ∙ same_tree s) (sym (substitute-move (λ r. r) t) ∙ same_tree t)
          (MatchBelow-carry C g f (λ i. i) (λ r. r) back f b (λ r. refl) m.0 Name Name back (λ r. r) (λ r. r) (λ r. r) (λ r. r) f (λ r. r) f (λ r. r) s t
          (moves-renamed s) (moves-admitted (λ r. r) s (admits_same s)) (moves-renamed t) (moves-admitted (λ r. r) t (admits_same t)) (λ r z. b r) (λ r z. b r)
          (below-as C m.0 Name (λ r. r) (λ r. r) _ _ _ _ (rename-move f g s) (rename-move f g t) m.1)),
    )

    -- so where the free resources are read, and what they are read as is mapped on
    pub MatchBelow-rename : (d : ℕ) (A B : Type 0) (h : A → B) (u v : Reading A) (u' v' : Reading B) (s t : Type_tree) →
        ((r : Name) → h (u r) ≡ u' (f r)) → ((r : Name) → h (v r) ≡ v' (f r)) → MatchBelow C d A u v s t → MatchBelow C d B u' v' (rename f g s) (rename f g t)
    MatchBelow-rename d A B h u v u' v' s t p q m =
        below-as C d B u' v' _ _ _ _ (sym (rename-move f g s)) (sym (rename-move f g t))
        (MatchBelow-carry C (λ i. i) (λ r. r) g f f back (λ r. refl) b d A B h u v u' v' (λ r. r) f (λ r. r) f s t
        (moves-admitted (λ r. r) s (admits_same s)) (moves-renamed s) (moves-admitted (λ r. r) t (admits_same t)) (moves-renamed t) (λ r z. p r) (λ r z. q r)
        (below-as C d A u v _ _ _ _ (sym (same_tree s) ∙ substitute-move (λ r. r) s) (sym (same_tree t) ∙ substitute-move (λ r. r) t) m))

    pub MatchBelow-renamed_back : (d : ℕ) (A B : Type 0) (h : A → B) (u v : Reading A) (u' v' : Reading B) (s t : Type_tree) →
        ((r : Name) → h (u (f r)) ≡ u' r) → ((r : Name) → h (v (f r)) ≡ v' r) → MatchBelow C d A u v (rename f g s) (rename f g t) → MatchBelow C d B u' v' s t
    MatchBelow-renamed_back d A B h u v u' v' s t p q m =
        below-as C d B u' v' _ _ _ _ (sym (substitute-move (λ r. r) s) ∙ same_tree s) (sym (substitute-move (λ r. r) t) ∙ same_tree t)
        (MatchBelow-carry C g f (λ i. i) (λ r. r) back f b (λ r. refl) d A B h u v u' v' f (λ r. r) f (λ r. r) s t
        (moves-renamed s) (moves-admitted (λ r. r) s (admits_same s)) (moves-renamed t) (moves-admitted (λ r. r) t (admits_same t)) (λ r z. p r) (λ r z. q r)
        (below-as C d A u v _ _ _ _ (rename-move f g s) (rename-move f g t) m))
