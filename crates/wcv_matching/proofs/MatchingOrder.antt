-- Matching is reflexive and transitive.
use Rattle.std.proofs.Common.{◌≡◌, ℕ, zero, suc, ◌+◌, ◌<◌, List, refl, sym, subst, ◌∙◌, arith, inl, inr, ◌⊎◌, ⊎_elim, bytes_eq}
use Rattle.std.specs.Prelude.{Contains}
use Rattle.std.proofs.lemmas.Map.Views.{lookup-from_Contains}
use Rattle.wcv_core.specs.Names.{Name, member}
use Rattle.wcv_core.specs.declared.core_types.EntityType.{EntityType}
use Rattle.wcv_types.specs.ByName.{NamesDiffer}
use Rattle.wcv_types.specs.Tree.{Text, node, nothing, first_part, rest_parts, parts, Parts, none, part, Sort, is_instance, is_component, is_type, is_module, sort, referenced, imported_at, head, Head}
use Rattle.wcv_types.specs.Resources.{owns}
use Rattle.wcv_types.specs.Seen.{Within, outer, inner}
use Rattle.wcv_types.specs.Unfold.{Type_tree}
use Rattle.wcv_closed.specs.CoreModules.{Module_items, ModuleMatches, same_pair}
use Rattle.wcv_closed.proofs.ModuleMatching.{each_on, same_text, same_names, texts_equiv}
use Rattle.wcv_matching.specs.Matching.{Item_rule, Entries, Reading, in_instance, Fresh, within, made, in_component, atoms, left, right, Matching, MatchAs, MatchBelow, Matches, named_exports, named_imports}
use Rattle.wcv_matching.specs.ModuleItems.{module_items}
use Rattle.wcv_matching.specs.Orderly.{AreNamedApart, AllNamesDiffer, EachModule, EachNodeIn, items_in, height, heights}
use Rattle.wcv_matching.proofs.NamedLists.{entry-contains}
use Rattle.wcv_matching.proofs.TreeParts.{two, EachPart, at_export, at_import}
use Rattle.wcv_matching.proofs.MatchingKept.{MatchBelow-map}

-- the rule of items goes on from one to the next
abbrev pub Goes_on : Item_rule → Type 0
Goes_on C = (x y z : EntityType) → C x y → C y z → C x z

modules_on : {C : Item_rule} → Goes_on C → (a b c : Module_items EntityType) → ModuleMatches C a b → ModuleMatches C b c → ModuleMatches C a c
modules_on {C} on a b c p q = record {
  imports = each_on same_pair C C C c.imports b.imports a.imports same_names (λ k x y z i j l r s. on x y z r s) q.imports p.imports;
  exports = each_on bytes_eq C C C a.exports b.exports c.exports same_text (λ k x y z i j l r s. on x y z r s) p.exports q.exports;
}

pub EachFound-trans : {X : Type 0} {R S T : X → X → Type 0} (xs ys zs : List (Text × X)) → ((x y z : X) → R x y → S y z → T x z) →
    Entries R xs ys → Entries S ys zs → Entries T xs zs
EachFound-trans xs ys zs k p q = λ n z c.
    let f = q n z c in
    let g = p n f.0 (entry-contains n ys f.0 f.1) in
    (g.0, g.1, k g.0 f.0 z g.2 f.2)

abbrev pub Composes : Matching → Type 1
Composes M = (A : Type 0) (f g h : Name → A) (a b c : Type_tree) → M A f g a b → M A g h b c → M A f h a c

-- the inner resources are read by s
abbrev pub open_inner : {A : Type 0} → (Name → Within A) → Fresh A → Fresh A
open_inner s (within (outer a)) = within (outer a)
open_inner s (within (inner r)) = within (s r)
open_inner s (made r) = made r

abbrev pub open_within : {A : Type 0} → (Name → Within A) → Within A → Within A
open_within s (outer a) = outer a
open_within s (inner r) = s r

abbrev pub open_made : {A : Type 0} → (Name → Fresh A) → Fresh A → Fresh A
open_made t (within w) = within w
open_made t (made r) = t r

pub open_inner-within : {A : Type 0} (s : Name → Within A) (w : Within A) → open_inner s (within w) ≡ within (open_within s w)
open_inner-within s (outer a) = refl
open_inner-within s (inner r) = refl

pub in_component-map : {A B : Type 0} (h : Fresh A → Fresh B) (x : Head Name Name) (s t : Reading (Fresh A)) (f : Reading A) (s' t' : Reading (Fresh B)) (f' : Reading B) →
    ((r : Name) → h (s r) ≡ s' r) → ((r : Name) → h (t r) ≡ t' r) → ((r : Name) → h (within (outer (f r))) ≡ within (outer (f' r))) →
    (r : Name) → h (in_component x s t f r) ≡ in_component x s' t' f' r
in_component-map h x s t f s' t' f' p q w r =
    two h (owns x r) _ _ _ _ (two h (member r (imported_at x)) _ _ _ _ (p r) (q r)) (w r)

module _ (C : Item_rule) where
  MatchAs-trans : Goes_on C → (d : ℕ) → Composes (MatchBelow C d) → (s : Sort) → Composes (MatchAs C (MatchBelow C d) s)
  MatchAs-trans on d ih is_instance A f g h a b c p q =
      EachFound-trans (named_exports a) (named_exports b) (named_exports c) (λ x y z. ih (Within A) (in_instance a f) (in_instance b g) (in_instance c h) x y z) p q
  MatchAs-trans on d ih is_type A f g h a b c p q =
      (ih A f g h _ _ _ p.0 q.0, ih A h g f _ _ _ q.1 p.1, λ r. p.2 r ∙ q.2 r)
  MatchAs-trans on d ih is_component A f g h a b c p q =
      let s₁ = p.0 in
      let t₁ = p.1 in
      let s₂ = q.0 in
      let t₂ = q.1 in
      let s : Reading (Within A) = λ r. open_within s₂ (s₁ r) in
      let u : Reading (Fresh A) = λ r. open_inner s₂ (t₁ r) in
      let t : Reading (Fresh A) = λ r. open_made u (t₂ r) in
      let between : Reading (Fresh A) = in_component (head b) (λ r. within (s₂ r)) u g in (
        s,
        t,
        EachFound-trans (named_imports c) (named_imports b) (named_imports a)
            (λ x y z k l. ih (Fresh A) (right made h c) (left s₂ g b) (left s f a) x y z k
            (MatchBelow-map C d (Fresh A) (Fresh A) (open_inner s₂) (right made g b) (left s₁ f a) (left s₂ g b) (left s f a) y z
            (λ r _. in_component-map (open_inner s₂) (head b) atoms made g (λ r. within (s₂ r)) made g (λ r. refl) (λ r. refl) (λ r. refl) r)
            (λ r _. in_component-map (open_inner s₂) (head a) (λ r. within (s₁ r)) made f (λ r. within (s r)) made f (λ r. open_inner-within s₂ (s₁ r)) (λ r. refl) (λ r. refl) r) l))
            q.2 p.2,
        EachFound-trans (named_exports a) (named_exports b) (named_exports c)
            (λ x y z k l. ih (Fresh A) (left s f a) between (right t h c) x y z
            (MatchBelow-map C d (Fresh A) (Fresh A) (open_inner s₂) (left s₁ f a) (right t₁ g b) (left s f a) between x y
            (λ r _. in_component-map (open_inner s₂) (head a) (λ r. within (s₁ r)) made f (λ r. within (s r)) made f (λ r. open_inner-within s₂ (s₁ r)) (λ r. refl) (λ r. refl) r)
            (λ r _. in_component-map (open_inner s₂) (head b) atoms t₁ g (λ r. within (s₂ r)) u g (λ r. refl) (λ r. refl) (λ r. refl) r) k)
            (MatchBelow-map C d (Fresh A) (Fresh A) (open_made u) (left s₂ g b) (right t₂ h c) between (right t h c) y z
            (λ r _. in_component-map (open_made u) (head b) (λ r. within (s₂ r)) made g (λ r. within (s₂ r)) u g (λ r. refl) (λ r. refl) (λ r. refl) r)
            (λ r _. in_component-map (open_made u) (head c) atoms t₂ h atoms t h (λ r. refl) (λ r. refl) (λ r. refl) r) l))
            p.3 q.3,
      )
  MatchAs-trans on d ih is_module A f g h a b c p q = modules_on on (module_items a) (module_items b) (module_items c) p q
  MatchAs-trans on d ih _ A f g h a b c p q = p ∙ q

module _ (C : Item_rule) where
  pub MatchBelow-trans : Goes_on C → (d : ℕ) → Composes (MatchBelow C d)
  MatchBelow-trans on zero A f g h a b c p q = absurd p
  MatchBelow-trans on (suc d) A f g h a b c p q =
      (p.0 ∙ q.0, MatchAs-trans C on d (MatchBelow-trans on d) (sort a) A f g h a b c p.1 (subst (λ (s : Sort). MatchAs C (MatchBelow C d) s A g h b c) (sym p.0) q.1))

-- ## Reflexivity
pub EachFound-refl : {X : Type 0} (R : X → X → Type 0) (xs : List (Text × X)) → NamesDiffer xs → ((n : Text) (x : X) → Contains xs (n, x) → R x x) → Entries R xs xs
EachFound-refl R xs d k n y c = (y, lookup-from_Contains texts_equiv n y xs d c, k n y c)

module _ (C : Item_rule) where
  nothing-refl : (d : ℕ) → 0 < d → {A : Type 0} (f : Name → A) → MatchBelow C d A f f (node nothing none) (node nothing none)
  nothing-refl zero z f = absurd (omega (arith, z))
  nothing-refl (suc d) z f = (refl, refl)

pub second-part : (P : Type_tree → Type 0) (ps : Parts Name Name) → EachPart P ps → P (first_part (rest_parts ps)) ⊎ (first_part (rest_parts ps) ≡ node nothing none)
second-part P none e = inr refl
second-part P (part r t none) e = inr refl
second-part P (part r t (part r' t' ps)) e = inl e.1.0

module _ (C : Item_rule) where
  abbrev pub Plain : ℕ → Type_tree → Type 0
  Plain d t = AllNamesDiffer t × EachModule (λ m. ModuleMatches C m m) t × (height t < d)

module _ (C : Item_rule) where
  Plain-parts : (d : ℕ) (ps : Parts Name Name) → EachNodeIn (λ h qs. AreNamedApart qs) ps → EachNodeIn (λ h qs. ModuleMatches C (items_in qs) (items_in qs)) ps → heights ps < d → EachPart (Plain C d) ps
  Plain-parts d none p m h = tt
  Plain-parts d (part r t ps) p m h = ((p.0, m.0, omega arith), Plain-parts d ps p.1 m.1 (omega arith))

module _ (C : Item_rule) where
  abbrev pub IsReflexive : ℕ → Type 1
  IsReflexive d = (A : Type 0) (f : Name → A) (t : Type_tree) → Plain C d t → MatchBelow C d A f f t t

module _ (C : Item_rule) where
  MatchAs-refl : (d : ℕ) → IsReflexive C d → (s : Sort) (A : Type 0) (f : Name → A) (t : Type_tree) →
      NamesDiffer (named_imports t) → NamesDiffer (named_exports t) → ModuleMatches C (module_items t) (module_items t) → EachPart (Plain C d) (parts t) → (0 < d) → MatchAs C (MatchBelow C d) s A f f t t
  MatchAs-refl d ih is_instance A f t i e o p z =
      EachFound-refl _ (named_exports t) e (λ n x c. ih _ _ x (at_export (Plain C d) (parts t) p n x c))
  MatchAs-refl d ih is_type A f t i e o p z =
      let m : MatchBelow C d A f f (referenced t) (referenced t) =
      ⊎_elim (λ (q : Plain C d (referenced t)). ih A f (referenced t) q)
      (λ (q : referenced t ≡ node nothing none). subst (λ (x : Type_tree). MatchBelow C d A f f x x) (sym q) (nothing-refl C d z f))
      (second-part (Plain C d) (parts t) p) in
      (m, m, λ r. refl)
  MatchAs-refl d ih is_component A f t i e o p z = (
    inner,
    made,
    EachFound-refl _ (named_imports t) i (λ n x c. ih _ _ x (at_import (Plain C d) (parts t) p n x c)),
    EachFound-refl _ (named_exports t) e (λ n x c. ih _ _ x (at_export (Plain C d) (parts t) p n x c)),
  )
  MatchAs-refl d ih is_module A f t i e o p z = o
  MatchAs-refl d ih _ A f t i e o p z = refl

module _ (C : Item_rule) where
  pub MatchBelow-refl : (d : ℕ) → IsReflexive C d
  MatchBelow-refl zero A f t p = absurd (omega (arith, p.2))
  MatchBelow-refl (suc d) A f (node h ps) p =
      let q : heights ps < d = omega (arith, p.2) in
      (refl, MatchAs-refl C d (MatchBelow-refl d) (sort (node h ps)) A f (node h ps) p.0.0.0 p.0.0.1 p.1.0 (Plain-parts C d ps p.0.1 p.1.1 q) (omega arith))

module _ (C : Item_rule) where
  pub Matches-refl : (t : Type_tree) → AllNamesDiffer t → EachModule (λ m. ModuleMatches C m m) t → Matches C t t
  Matches-refl t p m = (suc (height t), MatchBelow-refl C (suc (height t)) Name (λ r. r) t (p, m, omega arith))

-- ## A greater bound on the height
pub EachFound-map : {X : Type 0} (R S : X → X → Type 0) (xs ys : List (Text × X)) → ((x y : X) → R x y → S x y) → Entries R xs ys → Entries S xs ys
EachFound-map R S xs ys k e = λ n y c. let f = e n y c in (f.0, f.1, k f.0 y f.2)

module _ (C : Item_rule) where
  abbrev pub Grows : ℕ → Type 1
  Grows d = (A : Type 0) (f g : Reading A) (a b : Type_tree) → MatchBelow C d A f g a b → MatchBelow C (suc d) A f g a b

module _ (C : Item_rule) where
  MatchAs-more : (d : ℕ) → Grows C d → (s : Sort) (A : Type 0) (f g : Reading A) (a b : Type_tree) → MatchAs C (MatchBelow C d) s A f g a b → MatchAs C (MatchBelow C (suc d)) s A f g a b
  MatchAs-more d ih is_instance A f g a b m = EachFound-map (MatchBelow C d (Within A) (in_instance a f) (in_instance b g)) (MatchBelow C (suc d) (Within A) (in_instance a f) (in_instance b g)) (named_exports a) (named_exports b) (ih (Within A) _ _) m
  MatchAs-more d ih is_type A f g a b m = (ih A f g _ _ m.0, ih A g f _ _ m.1, m.2)
  MatchAs-more d ih is_component A f g a b m = (
    m.0,
    m.1,
    EachFound-map (MatchBelow C d (Fresh A) (right made g b) (left m.0 f a)) (MatchBelow C (suc d) (Fresh A) (right made g b) (left m.0 f a)) (named_imports b) (named_imports a) (ih (Fresh A) _ _) m.2,
    EachFound-map (MatchBelow C d (Fresh A) (left m.0 f a) (right m.1 g b)) (MatchBelow C (suc d) (Fresh A) (left m.0 f a) (right m.1 g b)) (named_exports a) (named_exports b) (ih (Fresh A) _ _) m.3,
  )
  MatchAs-more d ih _ A f g a b m = m

module _ (C : Item_rule) where
  pub MatchBelow-more : (d : ℕ) → Grows C d
  MatchBelow-more zero A f g a b m = absurd m
  MatchBelow-more (suc d) A f g a b m = (m.0, MatchAs-more C d (MatchBelow-more d) (sort a) A f g a b m.1)

module _ (C : Item_rule) where
  pub MatchBelow-add : (k d e : ℕ) (A : Type 0) (f g : Reading A) (a b : Type_tree) → e ≡ k + d → MatchBelow C d A f g a b → MatchBelow C e A f g a b
  MatchBelow-add zero d e A f g a b h m = let q : d ≡ e = omega arith in subst (λ (z : ℕ). MatchBelow C z A f g a b) q m
  MatchBelow-add (suc k) d e A f g a b h m =
      let q : suc (k + d) ≡ e = omega arith in
      subst (λ (z : ℕ). MatchBelow C z A f g a b) q (MatchBelow-more C (k + d) A f g a b (MatchBelow-add k d (k + d) A f g a b refl m))

module _ (C : Item_rule) where
  pub Matches-trans : Goes_on C → (a b c : Type_tree) → Matches C a b → Matches C b c → Matches C a c
  Matches-trans on a b c p q = (
    q.0 + p.0,
    MatchBelow-trans C on (q.0 + p.0) Name (λ r. r) (λ r. r) (λ r. r) a b c
        (MatchBelow-add C q.0 p.0 (q.0 + p.0) Name (λ r. r) (λ r. r) a b refl p.1)
        (MatchBelow-add C p.0 q.0 (q.0 + p.0) Name (λ r. r) (λ r. r) b c (omega arith) q.1),
  )
