-- A node that is added once more.
use Rattle.std.proofs.Common.{◌≡◌, ℕ, List, [], ◌∷◌, ◌++◌, length, refl, take, sym, ◌∙◌, subst, Some}
use Rattle.std.specs.Prelude.{slice_get, IfSome, All}
use Rattle.std.proofs.lemmas.List.Elements.{All-weaker}
use Rattle.wcv_core.specs.CoreForm.{Group}
use Rattle.wcv_core.specs.Names.{Name}
use Rattle.wcv_types.specs.Arena.{Arena}
use Rattle.wcv_types.specs.Led.{HeadLed, Led}
use Rattle.wcv_types.specs.Renewed.{NodeAgain}
use Rattle.wcv_types.specs.Resources.{owned_by}
use Rattle.wcv_types.specs.Standing.{Stands, GaveResource, core_items, Fits, AllFit, cut}
use Rattle.wcv_types.specs.Tree.{Parts, node}
use Rattle.wcv_types.specs.Unfold.{Type_tree, IsInfoOf, info_of, place, head_of, slots_of, slot_parts, parts_of, tree_of, trees, tree_at, unfolded}
use Rattle.wcv_types.specs.declared.arena.Node.{Node}
use Rattle.wcv_types.specs.declared.arena.Node.TheVariants as n
use Rattle.wcv_types.specs.declared.ids.Part.{Part}
use Rattle.wcv_types.proofs.Grown.{all_fit_push, stands_more, gave_more, items_within, stated_more}
use Rattle.wcv_types.proofs.Unfolding.{cut_extends, tree_in-node, tree_in-unfolds}

-- ## Under another identity

-- what a node says of itself looks at no identity
info_again : (x : Node) (j k : ℕ) (ps : Parts Name Name) → IfSome (info_of x) (λ i. IsInfoOf i (node (head_of k x) ps)) → IfSome (info_of x) (λ i. IsInfoOf i (node (head_of j x) ps))
info_again (n.Defined s) j k ps h = tt
info_again (n.Func s) j k ps h = record { size = h.size; depth = h.depth }
info_again (n.Instance s) j k ps h = record { size = h.size; depth = h.depth }
info_again (n.Component s) j k ps h = record { size = h.size; depth = h.depth }
info_again (n.Module s) j k ps h = record { size = h.size; depth = h.depth }
info_again (n.CoreInstance s) j k ps h = record { size = h.size; depth = h.depth }

-- nor does what it owns
owned_again : (x : Node) (j k : ℕ) → owned_by (head_of k x) ≡ owned_by (head_of j x)
owned_again (n.Defined s) j k = refl
owned_again (n.Func s) j k = refl
owned_again (n.Instance s) j k = refl
owned_again (n.Component s) j k = refl
owned_again (n.Module s) j k = refl
owned_again (n.CoreInstance s) j k = refl

led_again : (x : Node) (j k : ℕ) (ps : Parts Name Name) → HeadLed (head_of k x) ps → HeadLed (head_of j x) ps
led_again (n.Defined s) j k ps h = tt
led_again (n.Func s) j k ps h = tt
led_again (n.Instance s) j k ps h = h
led_again (n.Component s) j k ps h = h
led_again (n.Module s) j k ps h = tt
led_again (n.CoreInstance s) j k ps h = tt

-- ## A node of the arena

module _ (a : Arena) (j k : ℕ) (x : Node) (f : AllFit a) (h : slice_get a.nodes k ≡ Some x) where
  -- what it owns was given by the arena
  pub owned_given : All (GaveResource a) (owned_by (head_of j x))
  owned_given =
      subst (All (GaveResource a)) (owned_again x j (length (take k a.nodes)))
      (All-weaker (GaveResource (cut a k)) (GaveResource a) (λ r g. gave_more (cut a k) a r (cut_extends a k).resources g) (owned_by (head_of (length (take k a.nodes)) x)) (f k x h).owned)

  -- what fitted fits again
  tree_here : tree_of (trees (take k a.nodes)) x ≡ node (head_of k x) (slot_parts (trees a.nodes) (slots_of x))
  tree_here = sym (tree_in-node a.nodes k x h) ∙ tree_in-unfolds a k x f h

pub fits_again : (a : Arena) (k : ℕ) (x : Node) → AllFit a → slice_get a.nodes k ≡ Some x → Fits a x
fits_again a k x f h =
    let old : Fits (cut a k) x = f k x h in
    let ps : Parts Name Name = slot_parts (trees a.nodes) (slots_of x) in
    let e : tree_of (trees (take k a.nodes)) x ≡ node (head_of k x) ps = tree_here a 0 k x f h in
    record {
      parts = All-weaker (Stands (cut a k)) (Stands a) (λ q s. stands_more (cut a k) a q (cut_extends a k) s) (parts_of x) old.parts;
      info = info_again x (length (trees a.nodes)) k ps (subst (λ (t : Type_tree). IfSome (info_of x) (λ i. IsInfoOf i t)) e old.info);
      owned = owned_given a (length a.nodes) k x f h;
      led = led_again x (length (trees a.nodes)) k ps (subst Led e old.led);
      within = items_within (cut a k) a (core_items x) (cut_extends a k) old.within;
      stated = stated_more (cut a k) a x (cut_extends a k) old.parts old.within old.stated;
      apart = old.apart;
    }

-- what a node of the arena owns is led to
pub led_stands : (a : Arena) (q : Part) (x : Node) → Fits a x → tree_at a q ≡ unfolded a (place q) x → Led (tree_at a q)
led_stands a q x f u = subst Led (sym u) (led_again x (place q) (length (trees a.nodes)) (slot_parts (trees a.nodes) (slots_of x)) f.led)

-- ## The arena

-- that of which these are the nodes, where k is the place of one that was added once more
module _ (xs ys : List Node) (resources stamps : ℕ) (core : List Group) (k : ℕ) where
  abbrev old : Arena
  old = record { nodes = xs; resources = resources; stamps = stamps; core = core }

  abbrev new_arena : Arena
  new_arena = record { nodes = ys; resources = resources; stamps = stamps; core = core }

  pub again_fits : AllFit old → ((x : Node) × (slice_get xs k ≡ Some x) × (ys ≡ xs ++ x ∷ [])) → AllFit new_arena
  again_fits f w = all_fit_push old new_arena w.0 (λ j. record { nodes = w.2 j; resources = resources; stamps = stamps; core = core }) f (fits_again old k w.0 f w.1)

  pub again_added : AllFit old → ((x : Node) × (slice_get xs k ≡ Some x) × (ys ≡ xs ++ x ∷ [])) → NodeAgain old new_arena k
  again_added f w = record {
    shape = w.0;
    there = w.1;
    unfolds = tree_in-unfolds old k w.0 f w.1;
    added = λ j. record { nodes = w.2 j; resources = resources; stamps = stamps; core = core };
  }
