-- What holds of a stack between the items of a list: by place each resource is new where it is introduced, so that none is both
-- imported and defined.
use Rattle.std.proofs.Common.{◌≡◌, ℕ, zero, suc, List, [], ◌∷◌, ◌++◌, true, false, refl, subst, sym, ◌⊎◌, inl, inr}
use Rattle.std.proofs.lemmas.List.Elements.{All-nil}
use Rattle.wcv_core.specs.CoreForm.{Group}
use Rattle.wcv_core.specs.Names.{Name, Place, deeper}
use Rattle.wcv_lower.specs.Context.{Kind, Side, importing, exporting, is_concrete, empty}
use Rattle.wcv_lower.specs.Declared.{inside}
use Rattle.wcv_lower.specs.Even.{IsBalanced}
use Rattle.wcv_lower.specs.Owned.{OwnsNot, OwnApart, AllEntries, Everywhere, AreBalanced, IsLed}
use Rattle.wcv_lower.specs.Trees.{Type_tree, Tree_context, Tree_stack, tree_reader}
use Rattle.wcv_lower.proofs.Calm.{inside_has}
use Rattle.wcv_growth.proofs.Charged.{AllAmong, all_back, among-has, among-listed, everywhere-both}
use Rattle.wcv_growth.proofs.Growing.{Leads, Ready, AreNew, Grows}
use Rattle.wcv_growth.proofs.Having.{Has, has-both, Once, once-both}
use Rattle.wcv_growth.proofs.Known.{Within, Fine, entries-weaker, In, ListedAmong, Listed}
use Rattle.wcv_growth.proofs.Near.{Near, NearIn, AreAround, FineIn, IsFine, near-own}
use Rattle.wcv_growth.proofs.Placed.{PlacedUnder, PlacedBefore, placed_here, later, by_this_item, in_list, not_yet}

-- what holds of the stack before the item at position k of the list at place w
pub record Settles (w : Place) (k : ℕ) (s : Tree_stack) : Type 0 where
  pub fine : IsFine s
  pub imported : (r : Name) → Has s.top.imported r → PlacedBefore w k r
  pub defined : (r : Name) → Has s.top.defined r → PlacedBefore w k r
  pub none_twice : (r : Name) → Has s.top.imported r → Has s.top.defined r → ⊥
  pub imported_once : Once s.top.imported
  pub defined_once : Once s.top.defined
  pub leads : Leads s.top
  pub led : is_concrete s.top.kind ≡ false → IsLed s.top
  -- what its types own was introduced before, or further out
  pub late : (r : Name) → (PlacedBefore w k r → ⊥) → AllAmong (OwnsNot r) s.outer → AllEntries (OwnsNot r) s.top
  -- nothing that is given in the list is listed further out, nor owned there
  pub foreign : (r : Name) → PlacedUnder w r → ListedAmong s.outer r → ⊥
  pub around : (r : Name) → PlacedUnder w r → AllAmong (OwnsNot r) s.outer
  -- types own apart, and none owns what is listed; owners of one resource are of one height
  pub apart : Everywhere OwnApart s
  pub spared : (r : Name) → Listed s r → Everywhere (OwnsNot r) s
  pub balanced : AreBalanced s

-- what is free in an entry of a component's context that context itself lists
pub own-within : (w : Place) (k : ℕ) (s : Tree_stack) → Settles w k s → is_concrete s.top.kind ≡ true → AllEntries (Within (In s.top)) s.top
own-within w k s h c = entries-weaker (Fine (Near s)) (Within (In s.top)) s.top (λ t x r f. near-own s c r (x.0 r f)) h.fine.0.entries

-- ## The beginning

none : (P : Type_tree → Type 0) (k : Kind) → AllEntries P (empty tree_reader k)
none P k = record { core = λ j. All-nil P; space = λ j. All-nil P; side = λ d. All-nil (λ e. P e.1) }

-- no entry stands there yet
begins-fine : (k : Kind) (cs : List Tree_context) → AreAround cs (is_concrete k) → FineIn (empty tree_reader k) cs
begins-fine k cs a = record { entries = none (Fine (NearIn (empty tree_reader k) cs)) k; sorted = (All-nil _, All-nil _, All-nil _); around = a }

module _ (p : Place) (k : Kind) where
  -- inside a declared type at place p, or a component, which stands in one
  pub inside-settles : (s : Tree_stack) → (is_concrete k ≡ true → is_concrete s.top.kind ≡ true) → Ready p s → Settles p 0 (inside k s)
  inside-settles s in_one h = record {
    fine = (begins-fine k (s.top ∷ s.outer) in_one, h.fine);
    imported = λ r h. absurd h;
    defined = λ r h. absurd h;
    none_twice = λ r h g. absurd h;
    imported_once = tt;
    defined_once = tt;
    leads = All-nil _;
    led = λ e. All-nil _;
    late = λ r n a. none (OwnsNot r) k;
    foreign = λ r u l. h.unlisted r u l;
    around = λ r u j c e. h.fresh r u j c e;
    apart = inside_has k s OwnApart h.apart;
    spared = spared;
    balanced = (h.balanced.0, inside_has k s (IsBalanced h.balanced.0) h.balanced.1);
  }
    where
      spared : (r : Name) → Listed (inside k s) r → Everywhere (OwnsNot r) (inside k s)
      spared r (inl (inl x)) = absurd x
      spared r (inl (inr x)) = absurd x
      spared r (inr x) = inside_has k s (OwnsNot r) (h.spared r x)

  -- where nothing stands around the list
  module _ (gs : List Group) where
    abbrev alone : Tree_stack
    alone = record { top = empty tree_reader k; outer = []; groups = gs }

    nowhere : (P : Type_tree → Type 0) → Everywhere P alone
    nowhere P = everywhere-both P alone (none P k) (λ j c e. cc)

    pub alone-settles : Settles p 0 alone
    alone-settles = record {
      fine = (begins-fine k [] tt, tt);
      imported = λ r h. absurd h;
      defined = λ r h. absurd h;
      none_twice = λ r h g. absurd h;
      imported_once = tt;
      defined_once = tt;
      leads = All-nil _;
      led = λ e. All-nil _;
      late = λ r n a. none (OwnsNot r) k;
      foreign = λ r u l. l;
      around = λ r u j c e. cc;
      apart = nowhere OwnApart;
      spared = λ r l. nowhere (OwnsNot r);
      balanced = ((λ r. 0), nowhere (IsBalanced (λ r. 0)));
    }

-- so the next item finds it
module _ (w : Place) (k : ℕ) (s : Tree_stack) (h : Settles w k s) where
  next-under : (r : Name) → PlacedUnder (deeper w k) r → PlacedUnder w r
  next-under r x = in_list w (suc k) r (by_this_item w k r x)

  pub settles-ready : Ready (deeper w k) s
  settles-ready = record {
    fine = h.fine;
    leads = h.leads;
    led = h.led;
    unlisted = unlisted;
    fresh = λ r x. everywhere-both (OwnsNot r) s (h.late r (λ y. not_yet w k r x y) (h.around r (next-under r x))) (h.around r (next-under r x));
    apart = h.apart;
    spared = h.spared;
    balanced = h.balanced;
  }
    where
      unlisted : (r : Name) → PlacedUnder (deeper w k) r → Listed s r → ⊥
      unlisted r x (inl (inl y)) = not_yet w k r x (h.imported r y)
      unlisted r x (inl (inr y)) = not_yet w k r x (h.defined r y)
      unlisted r x (inr y) = h.foreign r (next-under r x) y

-- what stands in a list that has grown
module _ {X : Type 0} (w : Place) (k : ℕ) (xs more ys : List (Name × X)) (new : AreNew (deeper w k) more) (old : (r : Name) → Has xs r → PlacedBefore w k r) (e : ys ≡ xs ++ more) where
  cases : (r : Name) → Has ys r → Has xs r ⊎ Has more r
  cases r h = has-both xs more r (subst (λ (rs : List (Name × X)). Has rs r) e h)

  new-apart : (r : Name) → PlacedBefore w k r → Has more r → ⊥
  new-apart r b h = not_yet w k r (placed_here (deeper w k) r (new.placed r h)) b

  more-placed : (r : Name) → Has ys r → PlacedBefore w (suc k) r
  more-placed r h = go (cases r h)
    where
      go : Has xs r ⊎ Has more r → PlacedBefore w (suc k) r
      go (inl x) = later w k r (old r x)
      go (inr x) = by_this_item w k r (placed_here (deeper w k) r (new.placed r x))

  more-once : Once xs → Once ys
  more-once o = subst Once (sym e) (once-both xs more o new.once (λ r h g. new-apart r (old r h) g))

  -- apart from what was placed before
  more-apart : (Other : Name → Type 0) → ((r : Name) → Other r → PlacedBefore w k r) → ((r : Name) → Has xs r → Other r → ⊥) → (r : Name) → Has ys r → Other r → ⊥
  more-apart Other before apart r h o = go (cases r h)
    where
      go : Has xs r ⊎ Has more r → ⊥
      go (inl x) = apart r x o
      go (inr x) = new-apart r (before r o) x

module _ (w : Place) (k : ℕ) (s t : Tree_stack) (h : Settles w k s) where
  same-placed : {X : Type 0} (xs ys : List (Name × X)) → ys ≡ xs → ((r : Name) → Has xs r → PlacedBefore w k r) → (r : Name) → Has ys r → PlacedBefore w (suc k) r
  same-placed xs ys e old r x = later w k r (old r (subst (λ rs. Has rs r) e x))

  module _ (e : Side) (g : Grows e (deeper w k) s t) where
    foreign-then : (r : Name) → PlacedUnder w r → ListedAmong t.outer r → ⊥
    foreign-then r u l = h.foreign r u (among-listed t.outer s.outer (all_back s.outer t.outer g.outer) r l)

    around-then : (r : Name) → PlacedUnder w r → AllAmong (OwnsNot r) t.outer
    around-then r u = among-has (OwnsNot r) s.outer t.outer g.outer (h.around r u)

    late-then : (r : Name) → (PlacedBefore w (suc k) r → ⊥) → AllAmong (OwnsNot r) t.outer → AllEntries (OwnsNot r) t.top
    late-then r n a =
        let b : AllAmong (OwnsNot r) s.outer = among-has (OwnsNot r) t.outer s.outer (all_back s.outer t.outer g.outer) a in
        g.late r (λ u. n (by_this_item w k r u)) (everywhere-both (OwnsNot r) s (h.late r (λ x. n (later w k r x)) b) b) zero t.top refl

  -- the item at that position
  pub settles-more : (e : Side) → Grows e (deeper w k) s t → Settles w (suc k) t
  settles-more importing g =
      let a = g.adds in
      let was : (r : Name) → Has t.top.defined r → Has s.top.defined r = λ r x. subst (λ rs. Has rs r) a.defined x in
      record {
        fine = g.fine;
        imported = more-placed w k s.top.imported a.more t.top.imported a.new h.imported a.imported;
        defined = same-placed s.top.defined t.top.defined a.defined h.defined;
        none_twice = λ r x y. more-apart w k s.top.imported a.more t.top.imported a.new h.imported a.imported (Has s.top.defined) h.defined h.none_twice r x (was r y);
        imported_once = more-once w k s.top.imported a.more t.top.imported a.new h.imported a.imported h.imported_once;
        defined_once = subst Once (sym a.defined) h.defined_once;
        leads = g.leads;
        led = g.led;
        late = late-then importing g;
        foreign = foreign-then importing g;
        around = around-then importing g;
        apart = g.apart;
        spared = g.spared;
        balanced = g.balanced;
      }
  settles-more exporting g =
      let a = g.adds in
      let was : (r : Name) → Has t.top.imported r → Has s.top.imported r = λ r x. subst (λ rs. Has rs r) a.imported x in
      record {
        fine = g.fine;
        imported = same-placed s.top.imported t.top.imported a.imported h.imported;
        defined = more-placed w k s.top.defined a.more t.top.defined a.new h.defined a.defined;
        none_twice = λ r x y. more-apart w k s.top.defined a.more t.top.defined a.new h.defined a.defined (Has s.top.imported) h.imported (λ q u v. h.none_twice q v u) r y (was r x);
        imported_once = subst Once (sym a.imported) h.imported_once;
        defined_once = more-once w k s.top.defined a.more t.top.defined a.new h.defined a.defined h.defined_once;
        leads = g.leads;
        led = g.led;
        late = late-then exporting g;
        foreign = foreign-then exporting g;
        around = around-then exporting g;
        apart = g.apart;
        spared = g.spared;
        balanced = g.balanced;
      }
