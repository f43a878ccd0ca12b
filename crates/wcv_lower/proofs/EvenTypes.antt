-- Types that are balanced: what is made of such types is, also where nodes are given that are as high as those in whose place they stand.
use Rattle.std.proofs.Common.{◌≡◌, ℕ, suc, max, refl, sym, ◌∙◌, ap, Bool, true, false, ◌||◌, Some, None}
use Rattle.std.specs.Prelude.{Option}
use Rattle.std.proofs.lemmas.Bool.{false≢true}
use Rattle.wcv_core.specs.Names.{Name}
use Rattle.wcv_types.specs.Identity.{Identity, identity_at}
use Rattle.wcv_types.specs.Replacing.{Replacement, given_at, moves, changed_in, new_head, replaced, replaced_in}
use Rattle.wcv_types.specs.Tree.{Head, nothing, primitive, resource, defined, func, instance, component, type_entity, core_module, core_instance, core_type, core_item, node, Parts, none, part}
use Rattle.wcv_types.specs.Unfold.{Type_tree}
use Rattle.wcv_matching.specs.Formed.{IsFormed}
use Rattle.wcv_matching.specs.Orderly.{EachNode, EachNodeIn, height, heights}
use Rattle.wcv_lower.specs.Even.{Heights, GoesBy, IsEven, IsLevel, OwnsAt, IsBalanced, HasHeight, IsRegular}
use Rattle.wcv_lower.specs.Owned.{EachGiven, EachGivenIn, OwnsNot, OwnsNotIn}
use Rattle.wcv_lower.proofs.Owning.{Inherited, head_owns, rebuilt, given_has, each_given}

-- ## Each node

mutual
  pub each_weaker : (P Q : Head Name Name → Parts Name Name → Type 0) → ((h : Head Name Name) (ps : Parts Name Name) → P h ps → Q h ps) → (t : Type_tree) → EachNode P t → EachNode Q t
  each_weaker P Q f (node h ps) w = (f h ps w.0, each_weaker_in P Q f ps w.1)

  each_weaker_in : (P Q : Head Name Name → Parts Name Name → Type 0) → ((h : Head Name Name) (ps : Parts Name Name) → P h ps → Q h ps) → (ps : Parts Name Name) → EachNodeIn P ps → EachNodeIn Q ps
  each_weaker_in P Q f none w = tt
  each_weaker_in P Q f (part k t ps) w = (each_weaker P Q f t w.0, each_weaker_in P Q f ps w.1)

mutual
  pub each_both : (P Q : Head Name Name → Parts Name Name → Type 0) (t : Type_tree) → EachNode P t → EachNode Q t → EachNode (λ h ps. P h ps × Q h ps) t
  each_both P Q (node h ps) v w = ((v.0, w.0), each_both_in P Q ps v.1 w.1)

  each_both_in : (P Q : Head Name Name → Parts Name Name → Type 0) (ps : Parts Name Name) → EachNodeIn P ps → EachNodeIn Q ps → EachNodeIn (λ h ps. P h ps × Q h ps) ps
  each_both_in P Q none v w = tt
  each_both_in P Q (part k t ps) v w = (each_both P Q t v.0 w.0, each_both_in P Q ps v.1 w.1)

mutual
  every_node : (P : Head Name Name → Parts Name Name → Type 0) → ((h : Head Name Name) (ps : Parts Name Name) → P h ps) → (t : Type_tree) → EachNode P t
  every_node P f (node h ps) = (f h ps, every_node_in P f ps)

  every_node_in : (P : Head Name Name → Parts Name Name → Type 0) → ((h : Head Name Name) (ps : Parts Name Name) → P h ps) → (ps : Parts Name Name) → EachNodeIn P ps
  every_node_in P f none = tt
  every_node_in P f (part k t ps) = (every_node P f t, every_node_in P f ps)

-- ## What is regular and balanced is even

pub even_of : (n : Identity → ℕ) (v : Name → ℕ) (t : Type_tree) → IsRegular n t → IsBalanced v t → IsEven (record { node_of = n; owner_of = v }) t
even_of n v t r b =
    let both = each_both (HasHeight n) (OwnsAt v) t r.1 b in (
      r.0,
      each_weaker (λ h ps. HasHeight n h ps × OwnsAt v h ps) IsFormed (λ h ps w. w.0.0 w.1.0) t both,
      each_weaker (λ h ps. HasHeight n h ps × OwnsAt v h ps) (GoesBy (record { node_of = n; owner_of = v })) (λ h ps w. (w.0.1, w.1.1)) t both,
    )

-- ## Where nodes are given

module _ (m : Replacement) where
  -- what is given is as high as the node in whose place it stands
  abbrev pub GivesHigh : Head Name Name → Parts Name Name → Type 0
  GivesHigh h ps = (u : Type_tree) → given_at m h ≡ Some u → height u ≡ suc (heights ps)

  mutual
    high-replaced : (t : Type_tree) → EachNode GivesHigh t → height (replaced m t) ≡ height t
    high-replaced (node h ps) g = given_has m (λ u. height u ≡ suc (heights ps)) h (rebuilt m h ps) g.0 (ap suc (high_in-replaced ps g.1))

    high_in-replaced : (ps : Parts Name Name) → EachNodeIn GivesHigh ps → heights (replaced_in m ps) ≡ heights ps
    high_in-replaced none g = refl
    high_in-replaced (part k t ps) g = λ j. max (high-replaced t g.0 j) (high_in-replaced ps g.1 j)

  level-replaced : (b : Bool) (h : Head Name Name) (ps : Parts Name Name) → EachNodeIn GivesHigh ps → IsLevel h ps → IsLevel (new_head m b h) (replaced_in m ps)
  level-replaced b type_entity none g w = tt
  level-replaced b type_entity (part k t none) g w = tt
  level-replaced b type_entity (part k t (part l u none)) g w = high-replaced t g.0 ∙ w ∙ sym (high-replaced u g.1.0)
  level-replaced b type_entity (part k t (part l u (part o x ps))) g w = tt
  level-replaced b nothing ps g w = tt
  level-replaced b (primitive p) ps g w = tt
  level-replaced b (resource r s) ps g w = tt
  level-replaced true (defined i k) ps g w = tt
  level-replaced true (func i k) ps g w = tt
  level-replaced true (instance i own) ps g w = tt
  level-replaced true (component i ins outs) ps g w = tt
  level-replaced true (core_module i k) ps g w = tt
  level-replaced true (core_instance i k) ps g w = tt
  level-replaced true (core_type i) ps g w = tt
  level-replaced true (core_item x) ps g w = tt
  level-replaced false (defined i k) ps g w = tt
  level-replaced false (func i k) ps g w = tt
  level-replaced false (instance i own) ps g w = tt
  level-replaced false (component i ins outs) ps g w = tt
  level-replaced false (core_module i k) ps g w = tt
  level-replaced false (core_instance i k) ps g w = tt
  level-replaced false (core_type i) ps g w = tt
  level-replaced false (core_item x) ps g w = tt

  module _ (v : Name → ℕ) where
    owns-replaced : (b : Bool) (h : Head Name Name) (ps : Parts Name Name) → EachNodeIn GivesHigh ps → OwnsAt v h ps → OwnsAt v (new_head m b h) (replaced_in m ps)
    owns-replaced b h ps g w = (level-replaced b h ps g w.0, λ r o. ap suc (high_in-replaced ps g) ∙ w.1 r (sym (head_owns m b h r) ∙ o))

    mutual
      pub balanced-replaced : (t : Type_tree) → EachNode GivesHigh t → EachGiven m (IsBalanced v) t → IsBalanced v t → IsBalanced v (replaced m t)
      balanced-replaced (node h ps) g e w = given_has m (IsBalanced v) h (rebuilt m h ps) e.0 (owns-replaced (moves m h || changed_in m ps) h ps g.1 w.0, balanced_in-replaced ps g.1 e.1 w.1)

      balanced_in-replaced : (ps : Parts Name Name) → EachNodeIn GivesHigh ps → EachGivenIn m (IsBalanced v) ps → EachNodeIn (OwnsAt v) ps → EachNodeIn (OwnsAt v) (replaced_in m ps)
      balanced_in-replaced none g e w = tt
      balanced_in-replaced (part k t ps) g e w = (balanced-replaced t g.0 e.0 w.0, balanced_in-replaced ps g.1 e.1 w.1)

  -- where what is given for an identity has the height that goes with it
  module _ (n : Identity → ℕ) (high : (i : Identity) (u : Type_tree) → m.nodes i ≡ Some u → height u ≡ n i) where
    gives_high_at : (k : ℕ) (o : Option Identity) → ((i : Identity) → o ≡ Some i → k ≡ n i) → (u : Type_tree) → elim o as (λ o. Option Type_tree) [ None ↦ None | Some i ↦ m.nodes i ] ≡ Some u → height u ≡ k
    gives_high_at k None e u q = cc
    gives_high_at k (Some i) e u q = high i u q ∙ sym (e i refl)

    pub gives_high : (t : Type_tree) → EachNode (λ h ps. (i : Identity) → identity_at h ≡ Some i → suc (heights ps) ≡ n i) t → EachNode GivesHigh t
    gives_high t w = each_weaker (λ h ps. (i : Identity) → identity_at h ≡ Some i → suc (heights ps) ≡ n i) GivesHigh (λ h ps x. gives_high_at (suc (heights ps)) (identity_at h) x) t w

  -- where nothing is given
  module _ (plain : (i : Identity) → m.nodes i ≡ None) where
    none_at : (P : Type_tree → Type 0) (o : Option Identity) (u : Type_tree) → elim o as (λ o. Option Type_tree) [ None ↦ None | Some i ↦ m.nodes i ] ≡ Some u → P u
    none_at P None u q = cc
    none_at P (Some i) u q = let d : m.nodes i ≡ None = plain i in cc

    none_high : (t : Type_tree) → EachNode GivesHigh t
    none_high t = every_node GivesHigh (λ h ps. none_at (λ u. height u ≡ suc (heights ps)) (identity_at h)) t

-- ## What is made of balanced types is balanced

pub balanced_inherited : (v : Name → ℕ) → Inherited (IsBalanced v) (EachNodeIn (OwnsAt v))
balanced_inherited v = record {
  none_in = tt;
  part_in = λ k t ps x y. (x, y);
  first = λ k t ps w. w.0;
  rest = λ k t ps w. w.1;
  inner = λ h ps w. w.1;
  bare = λ h ps e l w. ((l, λ r o. absurd (false≢true (sym (e r) ∙ o))), w);
  alike = λ h g ps e f l w. ((l w.0.0, λ r o. w.0.1 r (sym (e r) ∙ o)), w.1);
  again = λ m plain t w. balanced-replaced m v t (none_high m plain t) (each_given m (IsBalanced v) (λ i u e. let d : m.nodes i ≡ None = plain i in cc) t) w;
}

-- ## Other heights

-- which differ at resources alone that the type does not own
module _ (v w : Name → ℕ) (own : Name → Bool) (same : (r : Name) → own r ≡ false → w r ≡ v r) where
  others : (k : ℕ) (h : Head Name Name) (r : Name) (b : Bool) → own r ≡ b → (own r ≡ true → ⊥) → k ≡ v r → k ≡ w r
  others k h r true e f q = absurd (f e)
  others k h r false e f q = q ∙ sym (same r e)

  mutual
    pub balanced_so : (t : Type_tree) → ((r : Name) → own r ≡ true → OwnsNot r t) → IsBalanced v t → IsBalanced w t
    balanced_so (node h ps) f b = ((b.0.0, λ r o. others (suc (heights ps)) h r (own r) refl (λ e. false≢true (sym (f r e).0 ∙ o)) (b.0.1 r o)), balanced_in_so ps (λ r e. (f r e).1) b.1)

    balanced_in_so : (ps : Parts Name Name) → ((r : Name) → own r ≡ true → OwnsNotIn r ps) → EachNodeIn (OwnsAt v) ps → EachNodeIn (OwnsAt w) ps
    balanced_in_so none f b = tt
    balanced_in_so (part k t ps) f b = (balanced_so t (λ r e. (f r e).0) b.0, balanced_in_so ps (λ r e. (f r e).1) b.1)
