-- Where resources are replaced, and nodes are given that are tidy and of the kind of those in whose place they stand, what is tidy stays
-- so, once the nodes that are made again are known: replacing keeps forms and names.
use Rattle.std.proofs.Common.{◌≡◌, List, ◌∷◌, ◌||◌, Bool, true, false, bytes_eq, refl, sym, ◌∙◌, ap, subst, Option, Some, None}
use Rattle.std.specs.List.{IsDistinct}
use Rattle.std.specs.Map.{keys_of}
use Rattle.std.proofs.lemmas.Bool.{false≢true}
use Rattle.wcv_core.specs.Names.{Name}
use Rattle.wcv_types.specs.Identity.{Identity, of_node, of_reference, identity_at, same_known}
use Rattle.wcv_types.specs.Replacing.{Replacement, given_at, given_or, given_elsewhere, moves, changed, changed_in, new_head, replaced, replaced_in, GivesSame, GivesSameIn}
use Rattle.wcv_types.specs.Tree.{Text, Head, here, label, import, export, core_import, core_export, nothing, primitive, resource, defined, func, instance, component, type_entity, core_module, core_instance, node, Parts, none, part, head}
use Rattle.wcv_types.specs.Unfold.{Type_tree, left_out}
use Rattle.wcv_types.proofs.Lists.{some-inj}
use Rattle.wcv_types.proofs.Replacing.{unchanged_in-stays}
use Rattle.wcv_matching.specs.Formed.{ExportsAlone, SidesAlone, IsItem, ItemsAlone, IsFormed}
use Rattle.wcv_matching.specs.Matching.{named_exports_in, named_imports_in}
use Rattle.wcv_matching.specs.Orderly.{EachNode, AreNamedApart}
use Rattle.wcv_lower.specs.Even.{IsLevel}
use Rattle.wcv_lower.proofs.EvenTypes.{each_weaker}
use Rattle.wcv_growth.proofs.Alike.{SameKind, IsOf, stands}
use Rattle.wcv_growth.proofs.BareGiven.{same-one, replaced-alike, replaced-owns, entries-own, values-own}
use Rattle.wcv_growth.proofs.Tidy.{Known, HeadApart, IsPlain, IsTidy, TidyType, TidyIn, TidyEntry, KnownMore, tidy-more}

-- the node that an identity stands for, or nothing
abbrev pub stands_for : Known → Name → Type_tree
stands_for g i = given_or (g i) left_out

module _ (g : Known) where
  -- a node is what stands for its identity
  pub is-one : (h : Head Name Name) (ps : Parts Name Name) → IsTidy g h ps → (i : Identity) → identity_at h ≡ Some i → node h ps ≡ stands (stands_for g) i
  is-one (resource r s) ps w i e = (λ j. node (resource r s) (w.plain j)) ∙ ap (stands (stands_for g)) (some-inj e)
  is-one h ps w (of_node i) e = sym (ap (λ (o : Option Type_tree). given_or o left_out) (w.one i e))
  is-one h ps w (of_reference r s) e = absurd (cc)

  pub tidy-of : (t : Type_tree) → TidyType g t → EachNode (IsOf (stands_for g)) t
  tidy-of t w = each_weaker (IsTidy g) (IsOf (stands_for g)) (λ h ps x. (x.alike, is-one h ps x)) t w

  -- two of one identity are one
  one-node : (t u : Type_tree) → TidyType g t → TidyType g u → (i : Identity) → identity_at (head t) ≡ Some i → identity_at (head u) ≡ Some i → u ≡ t
  one-node (node h ps) (node k qs) v w i e f = is-one k qs w.0 i f ∙ sym (is-one h ps v.0 i e)

known-both : (o w : Option Identity) → same_known o w ≡ true → (i : Identity) × (o ≡ Some i) × (w ≡ Some i)
known-both None w e = absurd (false≢true e)
known-both (Some i) None e = absurd (false≢true e)
known-both (Some i) (Some j) e = (i, refl, ap Some (sym (same-one i j e)))

or_none : (a b : Bool) → (a || b) ≡ false → b ≡ false
or_none true b e = absurd (false≢true (sym e))
or_none false b e = e

-- ## Forms and names

module _ (m : Replacement) where
  -- a node is formed as before
  pub exports-again : (ps : Parts Name Name) → ExportsAlone ps → ExportsAlone (replaced_in m ps)
  exports-again none w = tt
  exports-again (part (export n) t ps) w = exports-again ps w
  exports-again (part k t ps) w = absurd w

  sides-again : (ps : Parts Name Name) → SidesAlone ps → SidesAlone (replaced_in m ps)
  sides-again none w = tt
  sides-again (part (import n) t ps) w = sides-again ps w
  sides-again (part (export n) t ps) w = sides-again ps w
  sides-again (part k t ps) w = absurd w

  item-again : (t : Type_tree) → IsItem t → IsItem (replaced m t)
  item-again t w = (w.0, ap (replaced m) w.1)

  items-again : (ps : Parts Name Name) → ItemsAlone ps → ItemsAlone (replaced_in m ps)
  items-again none w = tt
  items-again (part (core_import a n) t ps) w = (item-again t w.0, items-again ps w.1)
  items-again (part (core_export n) t ps) w = (item-again t w.0, items-again ps w.1)
  items-again (part k t ps) w = absurd w

  formed-again : (b : Bool) (h : Head Name Name) (ps : Parts Name Name) → (IsLevel h ps → IsFormed h ps) → IsLevel (new_head m b h) (replaced_in m ps) → IsFormed (new_head m b h) (replaced_in m ps)
  formed-again b type_entity none w l = w l
  formed-again b type_entity (part k t none) w l = w l
  formed-again b type_entity (part k t (part o u none)) w l = l
  formed-again b type_entity (part k t (part o u (part q x ps))) w l = w l
  formed-again true (instance i own) ps w l = exports-again ps (w tt)
  formed-again false (instance i own) ps w l = exports-again ps (w tt)
  formed-again true (component i ins outs) ps w l = sides-again ps (w tt)
  formed-again false (component i ins outs) ps w l = sides-again ps (w tt)
  formed-again true (core_module i n) ps w l = items-again ps (w tt)
  formed-again false (core_module i n) ps w l = items-again ps (w tt)
  formed-again b nothing ps w l = tt
  formed-again b (primitive p) ps w l = tt
  formed-again b (resource r s) ps w l = tt
  formed-again true h ps w l = tt
  formed-again false h ps w l = tt

  -- and its imports and exports have the names that they had
  imports-keep : (ps : Parts Name Name) → keys_of (named_imports_in (replaced_in m ps)) ≡ keys_of (named_imports_in ps)
  imports-keep none = refl
  imports-keep (part (import n) t ps) = ap (λ (ks : List Text). n.name ∷ ks) (imports-keep ps)
  imports-keep (part (export n) t ps) = imports-keep ps
  imports-keep (part here t ps) = imports-keep ps
  imports-keep (part (label l) t ps) = imports-keep ps
  imports-keep (part (core_import a n) t ps) = imports-keep ps
  imports-keep (part (core_export n) t ps) = imports-keep ps

  exports-keep : (ps : Parts Name Name) → keys_of (named_exports_in (replaced_in m ps)) ≡ keys_of (named_exports_in ps)
  exports-keep none = refl
  exports-keep (part (export n) t ps) = ap (λ (ks : List Text). n.name ∷ ks) (exports-keep ps)
  exports-keep (part (import n) t ps) = exports-keep ps
  exports-keep (part here t ps) = exports-keep ps
  exports-keep (part (label l) t ps) = exports-keep ps
  exports-keep (part (core_import a n) t ps) = exports-keep ps
  exports-keep (part (core_export n) t ps) = exports-keep ps

  pub named-again : (ps : Parts Name Name) → AreNamedApart ps → AreNamedApart (replaced_in m ps)
  named-again ps w = (subst (IsDistinct bytes_eq) (sym (imports-keep ps)) w.0, subst (IsDistinct bytes_eq) (sym (exports-keep ps)) w.1)

module _ (g f : Known) (m : Replacement) (more : KnownMore g f) (gives : (i : Identity) (u : Type_tree) → m.nodes i ≡ Some u → TidyType g u) (kinds : (i : Identity) (u : Type_tree) → m.nodes i ≡ Some u → SameKind u (stands (stands_for g) i))
    (remade : (i : Name) (t : Type_tree) → g i ≡ Some t → m.nodes (of_node i) ≡ None → changed m t ≡ true → f (m.again i) ≡ Some (replaced m t)) where
  -- ## What is given

  given-tidy : (h : Head Name Name) (u : Type_tree) → given_at m h ≡ Some u → TidyType g u
  given-tidy h u = go (identity_at h)
    where
      go : (o : Option Identity) → elim o as (λ o. Option Type_tree) [ None ↦ None | Some i ↦ m.nodes i ] ≡ Some u → TidyType g u
      go None e = cc
      go (Some i) e = gives i u e

  given-or : (h : Head Name Name) (t : Type_tree) → (given_at m h ≡ None → TidyType f t) → TidyType f (given_or (given_at m h) t)
  given-or h t w = go (given_at m h) refl
    where
      go : (o : Option Type_tree) → given_at m h ≡ o → TidyType f (given_or o t)
      go None e = w e
      go (Some u) e = tidy-more g f more u (given-tidy h u e)

  mutual
    gives-same : (t : Type_tree) → TidyType g t → GivesSame m t
    gives-same (node h ps) w =
        (λ u e k. let i = known-both (identity_at h) (identity_at (head u)) k in one-node g (node h ps) u w (given-tidy h u e) i.0 i.1 i.2, gives-same_in ps w.1)

    gives-same_in : (ps : Parts Name Name) → TidyIn g ps → GivesSameIn m ps
    gives-same_in none w = tt
    gives-same_in (part k t ps) w = (gives-same t w.0, gives-same_in ps w.1)

  -- ## What is made again

  apart-again : (b : Bool) (h : Head Name Name) → HeadApart h → HeadApart (new_head m b h)
  apart-again b (resource r s) w = tt
  apart-again true h w = w
  apart-again false h w = w

  plain-again : (b : Bool) (h : Head Name Name) (ps : Parts Name Name) → IsPlain h ps → IsPlain (new_head m b h) (replaced_in m ps)
  plain-again b (resource r s) ps w = ap (replaced_in m) w
  plain-again true h ps w = tt
  plain-again false h ps w = tt

  again-identity : (h : Head Name Name) (i : Name) → identity_at (new_head m true h) ≡ Some (of_node i) → (j : Name) × (identity_at h ≡ Some (of_node j)) × (m.again j ≡ i)
  again-identity (defined j k) i e = (j, refl, cc)
  again-identity (func j k) i e = (j, refl, cc)
  again-identity (instance j own) i e = (j, refl, cc)
  again-identity (component j ins outs) i e = (j, refl, cc)
  again-identity (core_module j k) i e = (j, refl, cc)
  again-identity (core_instance j k) i e = (j, refl, cc)
  again-identity h i e = absurd (cc)

  stays-identity : (h : Head Name Name) (i : Name) → identity_at (new_head m false h) ≡ Some (of_node i) → new_head m false h ≡ h
  stays-identity (resource r s) i e = absurd (cc)
  stays-identity h i e = refl

  abbrev rebuilt : Bool → Head Name Name → Parts Name Name → Type_tree
  rebuilt b h ps = node (new_head m b h) (replaced_in m ps)

  -- a node that is not given is what its identity stands for
  one-again : (h : Head Name Name) (ps : Parts Name Name) → IsTidy g h ps → TidyIn g ps → given_at m h ≡ None → (b : Bool) → (moves m h || changed_in m ps) ≡ b → (i : Name) → identity_at (new_head m b h) ≡ Some (of_node i) → f i ≡ Some (rebuilt b h ps)
  one-again h ps w v n true d i e =
      let j = again-identity h i e in
      let absent : m.nodes (of_node j.0) ≡ None = ap (λ (o : Option Identity). elim o as (λ o. Option Type_tree) [ None ↦ None | Some i ↦ m.nodes i ]) (sym j.1) ∙ n in
      let changes : changed m (node h ps) ≡ true = ap (λ (o : Option Type_tree). given_elsewhere o h (moves m h || changed_in m ps)) n ∙ d in
      let becomes : replaced m (node h ps) ≡ rebuilt true h ps = ap (λ (o : Option Type_tree). given_or o (node (new_head m (moves m h || changed_in m ps) h) (replaced_in m ps))) n ∙ ap (λ (b : Bool). rebuilt b h ps) d in
      ap f (sym j.2) ∙ remade j.0 (node h ps) (w.one j.0 j.1) absent changes ∙ ap Some becomes
  one-again h ps w v n false d i e =
      let k : new_head m false h ≡ h = stays-identity h i e in
      let l : replaced_in m ps ≡ ps = unchanged_in-stays m ps (gives-same_in ps v) (or_none (moves m h) (changed_in m ps) d) in
      more i (node h ps) (w.one i (ap identity_at (sym k) ∙ e)) ∙ (λ j. Some (node (sym k j) (sym l j)))

  rebuilt-tidy : (h : Head Name Name) (ps : Parts Name Name) → TidyType g (node h ps) → given_at m h ≡ None → IsTidy f (new_head m (moves m h || changed_in m ps) h) (replaced_in m ps)
  rebuilt-tidy h ps w n =
      let b : Bool = moves m h || changed_in m ps in
      let of : EachNode (IsOf (stands_for g)) (node h ps) = tidy-of g (node h ps) w in
      record {
        alike = replaced-alike (stands_for g) m kinds b h ps of.1 w.0.alike;
        bare = entries-own (stands_for g) m kinds ps of.1 w.0.bare;
        values = values-own (stands_for g) m kinds b h ps of.1 w.0.values;
        apart = apart-again b h w.0.apart;
        plain = plain-again b h ps w.0.plain;
        formed = formed-again m b h ps w.0.formed;
        named = named-again m ps w.0.named;
        one = one-again h ps w.0 w.1 n b refl;
      }

  mutual
    pub replaced-tidy : (t : Type_tree) → TidyType g t → TidyType f (replaced m t)
    replaced-tidy (node h ps) w = given-or h (rebuilt (moves m h || changed_in m ps) h ps) (λ n. (rebuilt-tidy h ps w n, replaced_in-tidy ps w.1))

    pub replaced_in-tidy : (ps : Parts Name Name) → TidyIn g ps → TidyIn f (replaced_in m ps)
    replaced_in-tidy none w = tt
    replaced_in-tidy (part k t ps) w = (replaced-tidy t w.0, replaced_in-tidy ps w.1)

  pub replaced-entry : (t : Type_tree) → TidyEntry g t → TidyEntry f (replaced m t)
  replaced-entry t w = (replaced-owns (stands_for g) m kinds t (tidy-of g t w.1) w.0, replaced-tidy t w.1)
