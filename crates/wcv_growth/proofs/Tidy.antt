-- What items keep of the types in the open contexts: what is known by an identity is one type, both types of an entity are alike,
-- instances that are entries own nothing, no component both imports and defines a resource, nodes are formed, and names differ.
use Rattle.std.proofs.Common.{◌≡◌, ℕ, suc, Bool, true, false, cond, refl, ap, Option, Some, None, inl, inr}
use Rattle.std.proofs.lemmas.List.Elements.{All-nil}
use Rattle.wcv_core.specs.Names.{Name, Place, number, stamp, base, at, stamped, aside, member, same_place, deeper}
use Rattle.wcv_core.proofs.Names.{same_place-true, same_place-refl}
use Rattle.wcv_types.specs.Identity.{of_node, identity_at}
use Rattle.wcv_types.specs.Tree.{Head, resource, component, node, Parts, none, firsts}
use Rattle.wcv_types.specs.Unfold.{Type_tree}
use Rattle.wcv_matching.specs.Formed.{IsFormed}
use Rattle.wcv_matching.specs.Orderly.{EachNode, EachNodeIn, AreNamedApart}
use Rattle.wcv_lower.specs.Context.{Kind, empty}
use Rattle.wcv_lower.specs.Even.{IsLevel}
use Rattle.wcv_lower.specs.Owned.{AllEntries, Everywhere}
use Rattle.wcv_lower.specs.SideNames.{AllSidesDiffer}
use Rattle.wcv_lower.specs.Step.{Step, apply}
use Rattle.wcv_lower.specs.Trees.{Tree_context, Tree_stack, tree_reader}
use Rattle.wcv_lower.proofs.Applied.{applied_has}
use Rattle.wcv_lower.proofs.Bringing.{AllBring}
use Rattle.wcv_lower.proofs.EvenTypes.{each_weaker}
use Rattle.wcv_growth.proofs.Alike.{IsAlike}
use Rattle.wcv_growth.proofs.Bare.{OwnsNothing, EntriesOwnNothing, ValuesOwnNothing, IsBare, AreBare}
use Rattle.wcv_growth.proofs.Known.{Any, entries-weaker}
use Rattle.wcv_growth.proofs.Placed.{PlacedAt, PlacedUnder, PlacedBefore, placed_here, later, by_this_item, in_list, not_yet, not_in_list}

-- ## Types

-- the node that each identity stands for, where one does so far
abbrev pub Known : Type 0
Known = Name → Option Type_tree

-- no resource is both imported and defined
abbrev pub HeadApart : Head Name Name → Type 0
HeadApart (component i ins outs) = (r : Name) → member r (firsts outs) ≡ true → member r (firsts ins) ≡ false
HeadApart h = Unit {0}

-- a reference has no parts
abbrev pub IsPlain : Head Name Name → Parts Name Name → Type 0
IsPlain (resource r s) ps = ps ≡ none
IsPlain h ps = Unit {0}

pub record IsTidy (g : Known) (h : Head Name Name) (ps : Parts Name Name) : Type 0 where
  -- both types of an entity are alike
  pub alike : IsAlike h ps
  -- instances that are entries own nothing
  pub bare : EntriesOwnNothing ps
  pub values : ValuesOwnNothing h ps
  pub apart : HeadApart h
  pub plain : IsPlain h ps
  -- it is formed, but for the heights in a type entity
  pub formed : IsLevel h ps → IsFormed h ps
  -- no two imports, and no two exports have one name
  pub named : AreNamedApart ps
  -- the node is the one that its identity stands for
  pub one : (i : Name) → identity_at h ≡ Some (of_node i) → g i ≡ Some (node h ps)

-- so each node inside the type
abbrev pub TidyType : Known → Type_tree → Type 0
TidyType g t = EachNode (IsTidy g) t

abbrev pub TidyIn : Known → Parts Name Name → Type 0
TidyIn g ps = EachNodeIn (IsTidy g) ps

-- an entry of a context
abbrev pub TidyEntry : Known → Type_tree → Type 0
TidyEntry g t = OwnsNothing t × TidyType g t

-- ## What is known

-- what was known is known
abbrev pub KnownMore : Known → Known → Type 0
KnownMore g f = (i : Name) (t : Type_tree) → g i ≡ Some t → f i ≡ Some t

-- and what is known beside it has identities that are given at the place or inside it
pub record KnowsMore (p : Place) (g f : Known) : Type 0 where
  pub more : KnownMore g f
  pub late : (i : Name) → (PlacedUnder p i → ⊥) → g i ≡ None → f i ≡ None

-- nothing is known by what is given there or inside it
abbrev pub NoneKnown : Place → Known → Type 0
NoneKnown p g = (i : Name) → PlacedUnder p i → g i ≡ None

-- or by what is given at the place itself
abbrev pub NoneAt : Place → Known → Type 0
NoneAt p g = (i : Name) → PlacedAt p i → g i ≡ None

pub none-at : (p : Place) (g : Known) → NoneKnown p g → NoneAt p g
none-at p g n i x = n i (placed_here p i x)

pub knows-same : (p : Place) (g : Known) → KnowsMore p g g
knows-same p g = record { more = λ i t e. e; late = λ i u e. e }

pub knows-both : (p : Place) (g f e : Known) → KnowsMore p g f → KnowsMore p f e → KnowsMore p g e
knows-both p g f e v w = record { more = λ i t q. w.more i t (v.more i t q); late = λ i u q. w.late i u (v.late i u q) }

-- a tidy node is tidy where it is known
pub tidy-known : (g f : Known) (h : Head Name Name) (ps : Parts Name Name) → IsTidy g h ps → ((i : Name) → g i ≡ Some (node h ps) → f i ≡ Some (node h ps)) → IsTidy f h ps
tidy-known g f h ps x m = record { alike = x.alike; bare = x.bare; values = x.values; apart = x.apart; plain = x.plain; formed = x.formed; named = x.named; one = λ i e. m i (x.one i e) }

pub tidy-more : (g f : Known) → KnownMore g f → (t : Type_tree) → TidyType g t → TidyType f t
tidy-more g f m t w = each_weaker (IsTidy g) (IsTidy f) (λ h ps x. tidy-known g f h ps x (λ i e. m i (node h ps) e)) t w

pub entry-more : (g f : Known) → KnownMore g f → (t : Type_tree) → TidyEntry g t → TidyEntry f t
entry-more g f m t w = (w.0, tidy-more g f m t w.1)

-- ## One place

-- what is known once an item at the place made a node, and made others again
abbrev pub known_at : Place → Option Type_tree → (Name → Option Type_tree) → Known → Known
known_at p made remade g (base q) = cond (same_place q p) made (g (base q))
known_at p made remade g (at q x) = cond (same_place q p) (remade x) (g (at q x))
known_at p made remade g (number n) = g (number n)
known_at p made remade g (stamp n) = g (stamp n)
known_at p made remade g (stamped q) = g (stamped q)
known_at p made remade g (aside x) = g (aside x)

module _ (p : Place) (made : Option Type_tree) (remade : Name → Option Type_tree) (g : Known) where
  pub known-base : known_at p made remade g (base p) ≡ made
  known-base = ap (λ (b : Bool). cond b made (g (base p))) (same_place-refl p)

  pub known-again : (x : Name) → known_at p made remade g (at p x) ≡ remade x
  known-again x = ap (λ (b : Bool). cond b (remade x) (g (at p x))) (same_place-refl p)

  pub knows-at : NoneAt p g → KnowsMore p g (known_at p made remade g)
  knows-at n = record { more = more; late = late }
    where
      base-here : (q : Place) → same_place q p ≡ true → PlacedAt p (base q)
      base-here q d = inl (ap base (same_place-true q p d))

      again-here : (q : Place) (x : Name) → same_place q p ≡ true → PlacedAt p (at q x)
      again-here q x d = inr (x, ap (λ (z : Place). at z x) (same_place-true q p d))

      more : KnownMore g (known_at p made remade g)
      more (base q) t e = go (same_place q p) refl
        where
          go : (b : Bool) → same_place q p ≡ b → cond b made (g (base q)) ≡ Some t
          go false d = e
          go true d = let k : g (base q) ≡ None = n (base q) (base-here q d) in cc
      more (at q x) t e = go (same_place q p) refl
        where
          go : (b : Bool) → same_place q p ≡ b → cond b (remade x) (g (at q x)) ≡ Some t
          go false d = e
          go true d = let k : g (at q x) ≡ None = n (at q x) (again-here q x d) in cc
      more (number k) t e = e
      more (stamp k) t e = e
      more (stamped q) t e = e
      more (aside x) t e = e

      late : (i : Name) → (PlacedUnder p i → ⊥) → g i ≡ None → known_at p made remade g i ≡ None
      late (base q) u e = go (same_place q p) refl
        where
          go : (b : Bool) → same_place q p ≡ b → cond b made (g (base q)) ≡ None
          go false d = e
          go true d = absurd (u (placed_here p (base q) (base-here q d)))
      late (at q x) u e = go (same_place q p) refl
        where
          go : (b : Bool) → same_place q p ≡ b → cond b (remade x) (g (at q x)) ≡ None
          go false d = e
          go true d = absurd (u (placed_here p (at q x) (again-here q x d)))
      late (number k) u e = e
      late (stamp k) u e = e
      late (stamped q) u e = e
      late (aside x) u e = e

  pub knows-here : NoneKnown p g → KnowsMore p g (known_at p made remade g)
  knows-here n = knows-at (none-at p g n)

-- ## Steps

-- a step at the place brings tidy entries
pub record BringsTidy (p : Place) (g : Known) (x : Step tree_reader) : Type 0 where
  pub known : Known
  pub more : KnowsMore p g known
  pub brings : AllBring (TidyEntry known) Any x

-- one behind which no more is known
pub brings-known : (p : Place) (g : Known) (x : Step tree_reader) → AllBring (TidyEntry g) Any x → BringsTidy p g x
brings-known p g x w = record { known = g; more = knows-same p g; brings = w }

-- so are all entries of the open contexts, where more is known
pub everywhere-more : (g f : Known) → KnownMore g f → (s : Tree_stack) → Everywhere (TidyEntry g) s → Everywhere (TidyEntry f) s
everywhere-more g f m s h j c e = entries-weaker (TidyEntry g) (TidyEntry f) c (λ t y. entry-more g f m t y) (h j c e)

-- the entries of the open contexts are tidy behind an item there
pub record TidyBehind (p : Place) (g : Known) (s : Tree_stack) : Type 0 where
  pub known : Known
  pub more : KnowsMore p g known
  pub tidy : Everywhere (TidyEntry known) s

pub apply-tidy : (p : Place) (g : Known) (x : Step tree_reader) (s : Tree_stack) → Everywhere (TidyEntry g) s → BringsTidy p g x → TidyBehind p g (apply x s)
apply-tidy p g x s h w = record {
  known = w.known;
  more = w.more;
  tidy = applied_has (TidyEntry w.known) Any x s (everywhere-more g w.known w.more.more s h) w.brings;
}

-- ## Lists of items

-- what holds of the stack before the item at position k of the list at place w, where that much was known before the list
pub record Tidy (w : Place) (k : ℕ) (g : Known) (s : Tree_stack) : Type 0 where
  pub known : Known
  pub more : KnownMore g known
  pub late : (i : Name) → (PlacedBefore w k i → ⊥) → g i ≡ None → known i ≡ None
  pub tidy : Everywhere (TidyEntry known) s
  pub differ : AllSidesDiffer s

-- before the first
pub first-tidy : (w : Place) (g : Known) (s : Tree_stack) → Everywhere (TidyEntry g) s → AllSidesDiffer s → Tidy w 0 g s
first-tidy w g s h d = record { known = g; more = λ i t e. e; late = λ i u e. e; tidy = h; differ = d }

-- nothing stands in an empty context
pub empty-tidy : (g : Known) (k : Kind) → AllEntries (TidyEntry g) (empty tree_reader k)
empty-tidy g k = record { core = λ j. All-nil (TidyEntry g); space = λ j. All-nil (TidyEntry g); side = λ d. All-nil (λ e. TidyEntry g e.1) }

module _ (w : Place) (k : ℕ) (g : Known) (s : Tree_stack) where
  -- what that item gives is not known yet
  pub tidy-ready : NoneKnown w g → (y : Tidy w k g s) → NoneKnown (deeper w k) y.known
  tidy-ready n y i u = y.late i (λ b. not_yet w k i u b) (n i (in_list w (suc k) i (by_this_item w k i u)))

  -- nor, behind the items, what is given at the list's own place
  pub tidy-here : NoneKnown w g → (y : Tidy w k g s) → NoneAt w y.known
  tidy-here n y i x = y.late i (λ b. not_in_list w k i x b) (n i (placed_here w i x))

  -- what is known besides is given inside that place
  pub tidy-knows : (y : Tidy w k g s) → KnowsMore w g y.known
  tidy-knows y = record { more = y.more; late = λ i u e. y.late i (λ b. u (in_list w k i b)) e }

  -- the item at that position
  pub tidy-next : (t : Tree_stack) (y : Tidy w k g s) → TidyBehind (deeper w k) y.known t → AllSidesDiffer t → Tidy w (suc k) g t
  tidy-next t y b d = record {
    known = b.known;
    more = λ i u e. b.more.more i u (y.more i u e);
    late = λ i n e. b.more.late i (λ u. n (by_this_item w k i u)) (y.late i (λ x. n (later w k i x)) e);
    tidy = b.tidy;
    differ = d;
  }

-- an entry is bare
pub entry-bare : (g : Known) (t : Type_tree) → TidyEntry g t → IsBare t
entry-bare g t w = (w.0, each_weaker (IsTidy g) (λ h ps. EntriesOwnNothing ps) (λ h ps x. x.bare) t w.1)

pub tidy-bare : (g : Known) (c : Tree_context) → AllEntries (TidyEntry g) c → AreBare c
tidy-bare g c h = entries-weaker (TidyEntry g) IsBare c (entry-bare g) h
