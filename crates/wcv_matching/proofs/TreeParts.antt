-- Imports and exports are parts of a tree.
use Rattle.std.proofs.Common.{◌≡◌, ℕ, List, Bool, true, false, cond, refl, subst, inl, inr, ⊎_elim}
use Rattle.std.specs.Prelude.{Contains, All}
use Rattle.std.proofs.lemmas.List.Elements.{All-cons, All-nil, All-contains}
use Rattle.wcv_core.specs.Names.{Name}
use Rattle.wcv_types.specs.Tree.{Text, Head, instance, component, import, export, Parts, none, part, first_part, rest_parts, is_type, sort_at}
use Rattle.wcv_types.specs.Resources.{owns, Free, FreeIn}
use Rattle.wcv_types.specs.Unfold.{Type_tree}
use Rattle.wcv_matching.specs.Matching.{Item_rule, Reading, MatchBelow, named_exports_in, named_imports_in}

abbrev pub EachPart : (Type_tree → Type 0) → Parts Name Name → Type 0
EachPart P none = Unit {0}
EachPart P (part k t ps) = P t × EachPart P ps

each-exports : (P : Type_tree → Type 0) (ps : Parts Name Name) → EachPart P ps → All (λ (e : Text × Type_tree). P e.1) (named_exports_in ps)
each-exports P none e = All-nil _
each-exports P (part (export n) t ps) e = All-cons (λ (e : Text × Type_tree). P e.1) (n.name, t) (named_exports_in ps) e.0 (each-exports P ps e.1)
each-exports P (part _ t ps) e = each-exports P ps e.1

each-imports : (P : Type_tree → Type 0) (ps : Parts Name Name) → EachPart P ps → All (λ (e : Text × Type_tree). P e.1) (named_imports_in ps)
each-imports P none e = All-nil _
each-imports P (part (import n) t ps) e = All-cons (λ (e : Text × Type_tree). P e.1) (n.name, t) (named_imports_in ps) e.0 (each-imports P ps e.1)
each-imports P (part _ t ps) e = each-imports P ps e.1

-- what holds of each part holds of an export, and of an import
pub at_export : (P : Type_tree → Type 0) (ps : Parts Name Name) → EachPart P ps → (n : Text) (t : Type_tree) → Contains (named_exports_in ps) (n, t) → P t
at_export P ps e n t c = All-contains (λ (e : Text × Type_tree). P e.1) (named_exports_in ps) (n, t) (each-exports P ps e) c

pub at_import : (P : Type_tree → Type 0) (ps : Parts Name Name) → EachPart P ps → (n : Text) (t : Type_tree) → Contains (named_imports_in ps) (n, t) → P t
at_import P ps e n t c = All-contains (λ (e : Text × Type_tree). P e.1) (named_imports_in ps) (n, t) (each-imports P ps e) c

pub each-free : (r : Name) (ps qs : Parts Name Name) → (FreeIn r ps → FreeIn r qs) → EachPart (λ t. Free r t → FreeIn r qs) ps
each-free r none qs w = tt
each-free r (part k t ps) qs w = (λ q. w (inl q), each-free r ps qs (λ q. w (inr q)))

pub second-free : (r : Name) (ps : Parts Name Name) → Free r (first_part (rest_parts ps)) → FreeIn r ps
second-free r none q = ⊎_elim (λ e. absurd e) (λ p. absurd p.1) q
second-free r (part k t none) q = ⊎_elim (λ e. absurd e) (λ p. absurd p.1) q
second-free r (part k t (part k' t' ps)) q = inr (inl q)

pub owns-type : {I : Type 0} (x : Head Name I) → sort_at x ≡ is_type → (r : Name) → owns x r ≡ false
owns-type (instance i own) e r = cc
owns-type (component i ins outs) e r = cc
owns-type _ e r = refl

-- the entries are parts
abbrev pub ArePartsOf : List (Text × Type_tree) → Parts Name Name → Type 1
ArePartsOf xs ps = (P : Type_tree → Type 0) → EachPart P ps → (n : Text) (t : Type_tree) → Contains xs (n, t) → P t

module _ (C : Item_rule) where
  pub below-as : (d : ℕ) (B : Type 0) (f g : Reading B) (a a' b b' : Type_tree) → a ≡ a' → b ≡ b' → MatchBelow C d B f g a b → MatchBelow C d B f g a' b'
  below-as d B f g a a' b b' e₁ e₂ m = subst (λ w. MatchBelow C d B f g a' w) e₂ (subst (λ w. MatchBelow C d B f g w b) e₁ m)

pub two : {A B : Type 0} (h : A → B) (c : Bool) (x y : A) (x' y' : B) → h x ≡ x' → h y ≡ y' → h (cond c x y) ≡ cond c x' y'
two h true x y x' y' p q = p
two h false x y x' y' p q = q
