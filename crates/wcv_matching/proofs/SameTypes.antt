-- Types that are the same match each other.
use Rattle.std.proofs.Common.{◌≡◌, ℕ, zero, suc, List, Bool, true, false, ◌||◌, refl, ap, sym, subst, ◌∙◌}
use Rattle.wcv_core.specs.Names.{Name, member}
use Rattle.wcv_types.specs.Tree.{Text, Head, nothing, primitive, resource, defined, func, instance, component, type_entity, core_module, core_instance, core_type, core_item, Sort, is_instance, is_component, is_type, is_module, sort, sort_at, head, referenced, imported_at}
use Rattle.wcv_types.specs.Resources.{owns}
use Rattle.wcv_types.specs.Seen.{Within, outer, inner}
use Rattle.wcv_types.specs.Unfold.{Type_tree}
use Rattle.wcv_matching.specs.Matching.{Item_rule, Entries, Reading, in_instance, Fresh, within, made, in_component, atoms, left, right, Matching, MatchAs, MatchBelow, Matches, named_exports, named_imports}
use Rattle.wcv_matching.specs.SameTypes.{made_at, Pairs, paired_imports, paired, SameAs, SameBelow, IsSame}
use Rattle.wcv_matching.proofs.MatchingKept.{MatchBelow-map}
use Rattle.wcv_matching.proofs.MatchingOrder.{open_inner, open_made, EachFound-map}

-- ## Readings in a component

-- what is read may be mapped on; t is used for defined resources alone
pub in_component-at : {A B : Type 0} (h : Fresh A → Fresh B) (x : Head Name Name) (s t : Reading (Fresh A)) (f : Reading A) (s' t' : Reading (Fresh B)) (f' : Reading B) →
    ((r : Name) → member r (imported_at x) ≡ true → h (s r) ≡ s' r) →
    ((r : Name) → owns x r ≡ true → member r (imported_at x) ≡ false → h (t r) ≡ t' r) →
    ((r : Name) → h (within (outer (f r))) ≡ within (outer (f' r))) →
    (r : Name) → h (in_component x s t f r) ≡ in_component x s' t' f' r
in_component-at h x s t f s' t' f' p q w r = go (owns x r) refl (member r (imported_at x)) refl
  where
    go : (b : Bool) → owns x r ≡ b → (c : Bool) → member r (imported_at x) ≡ c → h (in_component x s t f r) ≡ in_component x s' t' f' r
    go true e true i = rw (e, i) (p r i)
    go true e false i = rw (e, i) (q r e i)
    go false e c i = rw e (w r)

-- what a component owns and does not import it defines
pub owned-defined : (x : Head Name Name) → sort_at x ≡ is_component → (r : Name) → owns x r ≡ true → member r (imported_at x) ≡ false → member r (made_at x) ≡ true
owned-defined (component i ins outs) s r e n = sym (ap (λ (b : Bool). b || member r (made_at (component i ins outs))) n) ∙ e
owned-defined x s r e n = cc

pub defined-owned : (x : Head Name Name) → (r : Name) → member r (made_at x) ≡ true → owns x r ≡ true
defined-owned (component i ins outs) r e = go (member r (imported_at (component i ins outs))) (member r (made_at (component i ins outs))) e
  where
    go : (a b : Bool) → b ≡ true → (a || b) ≡ true
    go true b e = refl
    go false b e = e
defined-owned nothing r e = cc
defined-owned (primitive p) r e = cc
defined-owned (resource q s) r e = cc
defined-owned (defined i k) r e = cc
defined-owned (func i b) r e = cc
defined-owned (instance i own) r e = cc
defined-owned type_entity r e = cc
defined-owned (core_module i w) r e = cc
defined-owned (core_instance i w) r e = cc
defined-owned (core_type i) r e = cc
defined-owned (core_item i) r e = cc

-- ## From Same to both directions
abbrev pub Both : Matching → Matching
Both M A f g a b = M A f g a b × M A g f b a

-- what the proof says of S and of M
abbrev pub Gives : Matching → Matching → Type 1
Gives S M = (A : Type 0) (f g : Reading A) (a b : Type_tree) → S A f g a b → Both M A f g a b

Pairs-left : {X : Type 0} (R S : X → X → Type 0) (xs ys : List (Text × X)) → ((x y : X) → R x y → S x y) → Pairs R xs ys → Entries S xs ys
Pairs-left R S xs ys k p = EachFound-map R S xs ys k p.0

Pairs-right : {X : Type 0} (R S : X → X → Type 0) (xs ys : List (Text × X)) → ((x y : X) → R x y → S y x) → Pairs R xs ys → Entries S ys xs
Pairs-right R S xs ys k p = EachFound-map (λ y x. R x y) S ys xs (λ y x. k x y) p.1

module _ (C : Item_rule) where
  SameAs-left : (d : ℕ) → Gives (SameBelow C d) (MatchBelow C d) → (s : Sort) (A : Type 0) (f g : Reading A) (a b : Type_tree) → sort a ≡ s →
      SameAs C (SameBelow C d) s A f g a b → MatchAs C (MatchBelow C d) s A f g a b
  SameAs-left d ih is_instance A f g a b e m =
      Pairs-left (SameBelow C d (Within A) (in_instance a f) (in_instance b g)) (MatchBelow C d (Within A) (in_instance a f) (in_instance b g)) (named_exports a) (named_exports b)
      (λ x y w. (ih (Within A) (in_instance a f) (in_instance b g) x y w).0) m
  SameAs-left d ih is_type A f g a b e m =
      let w = ih A f g (referenced a) (referenced b) m.0 in (w.0, w.1, m.1)
  SameAs-left d ih is_component A f g a b e m =
      let p = m.0 in
      let s : Reading (Within A) = λ r. inner (p.imported_to r) in
      let t : Reading (Fresh A) = λ q. made (p.defined_back q) in
      let L : Reading (Fresh A) = paired p.imported_to p.defined_to f a in
      let R : Reading (Fresh A) = right made g b in (
        s,
        t,
        Pairs-right (SameBelow C d (Fresh A) (left s f a) R) (MatchBelow C d (Fresh A) R (left s f a)) (named_imports a) (named_imports b)
            (λ x y w. (ih (Fresh A) (left s f a) R x y w).1) m.1,
        Pairs-left (SameBelow C d (Fresh A) L R) (MatchBelow C d (Fresh A) (left s f a) (right t g b)) (named_exports a) (named_exports b)
            (λ x y w. MatchBelow-map C d (Fresh A) (Fresh A) (open_made t) L R (left s f a) (right t g b) x y
            (λ r _. in_component-at (open_made t) (head a) (λ r. within (s r)) (λ r. made (p.defined_to r)) f (λ r. within (s r)) made f
            (λ r _. refl) (λ r o i. ap (λ (z : Name). made z) (p.defined_one r i (owned-defined (head a) e r o i))) (λ r. refl) r)
            (λ r _. in_component-at (open_made t) (head b) atoms made g atoms t g (λ r _. refl) (λ r _ _. refl) (λ r. refl) r)
            (ih (Fresh A) L R x y w).0) m.2,
      )
  SameAs-left d ih is_module A f g a b e m = m.0
  SameAs-left d ih _ A f g a b e m = m

module _ (C : Item_rule) where
  SameAs-right : (d : ℕ) → Gives (SameBelow C d) (MatchBelow C d) → (s : Sort) (A : Type 0) (f g : Reading A) (a b : Type_tree) → sort a ≡ s →
      SameAs C (SameBelow C d) s A f g a b → MatchAs C (MatchBelow C d) s A g f b a
  SameAs-right d ih is_instance A f g a b e m =
      Pairs-right (SameBelow C d (Within A) (in_instance a f) (in_instance b g)) (MatchBelow C d (Within A) (in_instance b g) (in_instance a f)) (named_exports a) (named_exports b)
      (λ x y w. (ih (Within A) (in_instance a f) (in_instance b g) x y w).1) m
  SameAs-right d ih is_type A f g a b e m =
      let w = ih A f g (referenced a) (referenced b) m.0 in (w.1, w.0, λ r. sym (m.1 r))
  SameAs-right d ih is_component A f g a b e m =
      let p = m.0 in
      let s : Reading (Within A) = λ q. inner (p.imported_back q) in
      let t : Reading (Fresh A) = λ r. made (p.defined_to r) in
      let h : Fresh A → Fresh A = open_inner s in
      let I : Reading (Fresh A) = paired_imports p.imported_to f a in
      let L : Reading (Fresh A) = paired p.imported_to p.defined_to f a in
      let R : Reading (Fresh A) = right made g b in
      let back : (r : Name) → member r (imported_at (head a)) ≡ true → h (within (inner (p.imported_to r))) ≡ atoms r =
      λ r i. ap (λ (z : Name). within (inner z)) (p.imported_one r i) in
      let right_side : (r : Name) → h (R r) ≡ left s g b r =
      in_component-at h (head b) atoms made g (λ r. within (s r)) made g (λ r _. refl) (λ r _ _. refl) (λ r. refl) in (
        s,
        t,
        Pairs-left (SameBelow C d (Fresh A) I R) (MatchBelow C d (Fresh A) (right made f a) (left s g b)) (named_imports a) (named_imports b)
            (λ x y w. MatchBelow-map C d (Fresh A) (Fresh A) h I R (right made f a) (left s g b) x y
            (λ r _. in_component-at h (head a) (λ r. within (inner (p.imported_to r))) made f atoms made f back (λ r _ _. refl) (λ r. refl) r)
            (λ r _. right_side r) (ih (Fresh A) I R x y w).0) m.1,
        Pairs-right (SameBelow C d (Fresh A) L R) (MatchBelow C d (Fresh A) (left s g b) (right t f a)) (named_exports a) (named_exports b)
            (λ x y w. MatchBelow-map C d (Fresh A) (Fresh A) h R L (left s g b) (right t f a) y x
            (λ r _. right_side r)
            (λ r _. in_component-at h (head a) (λ r. within (inner (p.imported_to r))) (λ r. made (p.defined_to r)) f atoms t f back (λ r _ _. refl) (λ r. refl) r)
            (ih (Fresh A) L R x y w).1) m.2,
      )
  SameAs-right d ih is_module A f g a b e m = m.1
  SameAs-right d ih _ A f g a b e m = sym m

-- types that are the same match both ways, with no premise
module _ (C : Item_rule) where
  pub SameBelow-both : (d : ℕ) → Gives (SameBelow C d) (MatchBelow C d)
  SameBelow-both zero A f g a b m = absurd m
  SameBelow-both (suc d) A f g a b m = (
    (m.0, SameAs-left C d (SameBelow-both d) (sort a) A f g a b refl m.1),
    (sym m.0, subst (λ (s : Sort). MatchAs C (MatchBelow C d) s A g f b a) m.0 (SameAs-right C d (SameBelow-both d) (sort a) A f g a b refl m.1)),
  )

module _ (C : Item_rule) where
  pub IsSame-both : (a b : Type_tree) → IsSame C a b → Matches C a b × Matches C b a
  IsSame-both a b m =
      let w = SameBelow-both C m.0 Name (λ r. r) (λ r. r) a b m.1 in ((m.0, w.0), (m.0, w.1))
