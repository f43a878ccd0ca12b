-- By place, valid items leave a stack in order.
use Rattle.std.proofs.Common.{◌≡◌, ◌≤◌, ℕ, zero, suc, List, [], ◌∷◌, map, true, sym, ap, subst, arith, Some, ◌⊎◌, inl, inr}
use Rattle.std.specs.Prelude.{slice_get}
use Rattle.std.proofs.lemmas.Bool.{or_cases}
use Rattle.wcv_core.specs.CoreForm.{Group}
use Rattle.wcv_core.specs.CoreGroups.{total}
use Rattle.wcv_core.specs.Names.{Name, Place, base, at, number, stamp, stamped, aside, deeper, same, member}
use Rattle.wcv_core.specs.declared.features.WasmFeatures.{WasmFeatures}
use Rattle.wcv_core.proofs.Names.{same-true}
use Rattle.wcv_types.specs.Led.{HeadLed}
use Rattle.wcv_types.specs.Tree.{node, Parts, none, part}
use Rattle.wcv_types.specs.Unfold.{Type_tree}
use Rattle.wcv_types.proofs.Lists.{some-inj}
use Rattle.wcv_matching.specs.Orderly.{EachNodeIn, AreNamedApart, Orderly, items_in}
use Rattle.wcv_matching.specs.TableMatching.{CoreWithin}
use Rattle.wcv_closed.specs.CoreModules.{EachItem}
use Rattle.wcv_core.specs.CoreSizes.{IsEntityWithin}
use Rattle.wcv_lower.specs.Context.{concrete, at_distance}
use Rattle.wcv_lower.specs.Even.{IsRegular}
use Rattle.wcv_lower.specs.Names.{names_by_place, Under}
use Rattle.wcv_lower.specs.Owned.{OwnsNot, AllEntries, Everywhere, IsOwn, IsMadeAt}
use Rattle.wcv_lower.specs.Tables.{TableStands}
use Rattle.wcv_lower.specs.Trees.{Tree_context, Tree_stack}
use Rattle.wcv_lower.proofs.EvenTypes.{each_weaker}
use Rattle.wcv_lower.proofs.Members.{member_cases}
use Rattle.wcv_lower.proofs.TableReading.{stands_at_first, item_stands, inside_stands}
use Rattle.wcv_growth.proofs.AsFar.{Reaches, reached-reaches}
use Rattle.wcv_growth.proofs.Charged.{everywhere-both}
use Rattle.wcv_growth.proofs.CoreReached.{reached-kept}
use Rattle.wcv_growth.proofs.Having.{Has}
use Rattle.wcv_growth.proofs.Known.{In, Fine, Listed, ListedAmong, entries-weaker}
use Rattle.wcv_growth.proofs.Near.{NearIn, fine-at}
use Rattle.wcv_growth.proofs.OfTable.{NodeOf, OfTable, imports-items, exports-items}
use Rattle.wcv_growth.proofs.Placed.{PlacedAt, PlacedUnder, PlacedBefore, by_this_item, in_list, not_yet}
use Rattle.wcv_growth.proofs.Sound.{IsSound, IsSoundNode}
use Rattle.wcv_growth.proofs.Tidy.{Known, IsTidy, TidyType, TidyEntry}
use Rattle.wcv_growth.proofs.TidyRegular.{known_height, type-regular}
use Rattle.wcv_growth.specs.InOrder.{IsInOrder}
use Rattle.wcv_growth.specs.Reached.{Reached, at_start, behind, within}

-- what has one property and another has both
entries-and : (P Q R : Type_tree → Type 0) → ((t : Type_tree) → P t → Q t → R t) → (c : Tree_context) → AllEntries P c → AllEntries Q c → AllEntries R c
entries-and P Q R f c a b = record {
  core = λ k i x l. f _ (a.core k i x l) (b.core k i x l);
  space = λ k i x l. f _ (a.space k i x l) (b.space k i x l);
  side = λ d i x l. f _ (a.side d i x l) (b.side d i x l);
}

-- ## Types

pub sound-orderly : (g : Known) (t : Type_tree) → TidyType g t → IsSound t → Orderly t
sound-orderly g t w v = (each_weaker (IsTidy g) (λ h ps. AreNamedApart ps) (λ h ps x. x.named) t w, each_weaker IsSoundNode HeadLed (λ h ps x. x.1) t v)

module _ (gs : List Group) where
  mutual
    pub core-within : (t : Type_tree) → OfTable (total gs) t → CoreWithin gs t
    core-within (node h ps) w = (record { imports = imports-items (total gs) ps w.1; exports = exports-items (total gs) ps w.1 }, core-within_in ps w.1)

    core-within_in : (ps : Parts Name Name) → EachNodeIn (NodeOf (total gs)) ps → EachNodeIn (λ h qs. EachItem (IsEntityWithin (total gs)) (items_in qs)) ps
    core-within_in none w = tt
    core-within_in (part k t ps) w = (core-within t w.0, core-within_in ps w.1)

-- ## Names

made-placed : (p : Place) (r : Name) → IsMadeAt p r → PlacedAt p r
made-placed p (base q) e = inl (ap base e)
made-placed p (at q x) e = inr (x, λ j. at (e j) x)
made-placed p (number n) e = absurd e
made-placed p (stamp n) e = absurd e
made-placed p (stamped q) e = absurd e
made-placed p (aside x) e = absurd e

own-has : {X : Type 0} (xs : List (Name × X)) (r : Name) → member r (map (λ x. x.0) xs) ≡ true → Has xs r
own-has [] r e = cc
own-has (x ∷ xs) r e = go (or_cases (same r x.0) (member r (map (λ x. x.0) xs)) e) (own-has xs r)
  where
    go : (same r x.0 ≡ true) ⊎ (member r (map (λ x. x.0) xs) ≡ true) → (member r (map (λ x. x.0) xs) ≡ true → Has xs r) → Has (x ∷ xs) r
    go (inl f) later = inl (same-true r x.0 f)
    go (inr f) later = inr (later f)

own-in : (c : Tree_context) (r : Name) → IsOwn c r → In c r
own-in c r o = go (member_cases r (map (λ x. x.0) c.imported) (map (λ x. x.0) c.defined) o)
  where
    go : (member r (map (λ x. x.0) c.imported) ≡ true) ⊎ (member r (map (λ x. x.0) c.defined) ≡ true) → In c r
    go (inl e) = inl (own-has c.imported r e)
    go (inr e) = inr (own-has c.defined r e)

own-among : (cs : List Tree_context) (j : ℕ) (c : Tree_context) (r : Name) → slice_get cs j ≡ Some c → In c r → ListedAmong cs r
own-among [] j c r e i = cc
own-among (d ∷ cs) zero c r e i = inl (subst (λ (x : Tree_context). In x r) (sym (some-inj e)) i)
own-among (d ∷ cs) (suc j) c r e i = inr (own-among cs j c r e i)

own-listed : (s : Tree_stack) (j : ℕ) (c : Tree_context) (r : Name) → at_distance j s ≡ Some c → IsOwn c r → Listed s r
own-listed s zero c r e o = inl (subst (λ (x : Tree_context). In x r) (sym (some-inj e)) (own-in c r o))
own-listed s (suc j) c r e o = inr (own-among s.outer j c r e (own-in c r o))

-- ## Stacks

module _ (fs : WasmFeatures) where
  pub reached-stands : (w : Place) (k : ℕ) (s : Tree_stack) → Reached fs names_by_place w k s → TableStands s
  reached-stands _ _ _ at_start = stands_at_first concrete
  reached-stands _ _ _ (behind w k s u f r v e) = item_stands fs names_by_place (deeper w k) s u f (reached-stands w k s r) e
  reached-stands _ _ _ (within w k s is r free) = inside_stands concrete s (reached-stands w k s r)

  module _ (w : Place) (k : ℕ) (s : Tree_stack) (r : Reached fs names_by_place w k s) where
    abbrev h : Reaches w k s
    h = reached-reaches fs w k s r

    abbrev g : Known
    g = h.tidy.known

    orderly : Everywhere Orderly s
    orderly j c e =
        let f = fine-at (s.top ∷ s.outer) j c h.settles.fine e in
        entries-and (TidyEntry g) (Fine (NearIn c f.0)) Orderly (λ t x y. sound-orderly g t x.1 y.1) c (h.tidy.tidy j c e) f.1.entries

    within-table : Everywhere (CoreWithin s.groups) s
    within-table j c e = entries-weaker (OfTable (total s.groups)) (CoreWithin s.groups) c (core-within s.groups) ((reached-kept fs names_by_place w k s r).entries j c e)

    late : (j : ℕ) (q : Place) (x : Name) → k ≤ j → Under (deeper w j) q → IsMadeAt q x → Everywhere (OwnsNot x) s
    late j q x l u m = everywhere-both (OwnsNot x) s (h.settles.late x before (h.settles.around x below)) (h.settles.around x below)
      where
        here : PlacedUnder (deeper w j) x
        here = (q, u, made-placed q x m)

        below : PlacedUnder w x
        below = in_list w (suc j) x (by_this_item w j x here)

        before : PlacedBefore w k x → ⊥
        before b = let i = b.1 in not_yet w j x here (b.0, omega (arith, i, l), b.2)

    pub in-order : IsInOrder w k s
    in-order =
        let t : TableStands s = reached-stands w k s r in
        record {
          table = t.table;
          supers = t.forms;
          orderly = orderly;
          within = within-table;
          apart = h.settles.apart;
          spared = λ j c x e o. h.settles.spared x (own-listed s j c x e o);
          late = late;
          regular = (known_height g, λ j c e. entries-weaker (TidyEntry g) (IsRegular (known_height g)) c (λ t x. type-regular g t x.1) (h.tidy.tidy j c e));
          balanced = h.settles.balanced;
        }
