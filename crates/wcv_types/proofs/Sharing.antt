-- Nodes that share what they are made of, and what is kept of it.
use Rattle.std.proofs.Common.{◌≡◌, ℕ, zero, suc, ◌<◌, ◌≤◌, List, [], ◌∷◌, ◌++◌, length, map, take, get_or, refl, sym, ◌∙◌, ap, subst, arith, length-append, Bool, Some, ⊎_elim}
use Rattle.std.specs.Prelude.{slice_get}
use Rattle.std.specs.Option.{option_map}
use Rattle.std.proofs.lemmas.Bool.{cases_lt}
use Rattle.std.proofs.lemmas.List.{map-append}
use Rattle.std.proofs.lemmas.Option.{same_Some, slice_get_within, slice_get_read, slice_get-get_or, slice_get-map, get_or_from_slice_get}
use Rattle.std.proofs.Math.ListN.{get_or-append}
use Rattle.wcv_core.specs.Names.{Name}
use Rattle.wcv_types.specs.Abi.{abi_size, abi_align, contains, pointer, handle, borrow, kept_size}
use Rattle.wcv_types.specs.Facts.{is_plain, IsFactsOf, IsKnown, AllKnown, no_node, nodes_at}
use Rattle.wcv_types.specs.Measure.{size, depth}
use Rattle.wcv_types.specs.Open.{open_flat}
use Rattle.wcv_types.specs.Resources.{mentions}
use Rattle.wcv_types.specs.ShapeNumbers.{Numbered}
use Rattle.wcv_types.specs.Tree.{Parts, node}
use Rattle.wcv_types.specs.Unfold.{Type_tree, capped, left_out, head_of, slots_of, slot_parts, tree_of, tree_in, trees}
use Rattle.wcv_types.specs.declared.arena.Node.{Node}
use Rattle.wcv_types.specs.declared.arena.Node.TheVariants as n
use Rattle.wcv_types.specs.declared.facts.Facts.{Facts}
use Rattle.wcv_types.specs.declared.flat_type.FlatType.{FlatType}
use Rattle.wcv_types.specs.declared.nodes.Known.{Known}
use Rattle.wcv_types.specs.declared.shape_numbers.ShapeNumbers.{ShapeNumbers}
use Rattle.wcv_types.proofs.Each.{length-mapped}
use Rattle.wcv_types.proofs.Grown.{last_node, node_before, length-trees, trees-push, tree_in_last}

-- ## Lists

pub still_there : {X : Type 0} (xs ys : List X) (k : ℕ) (x : X) → slice_get xs k ≡ Some x → slice_get (xs ++ ys) k ≡ Some x
still_there [] ys k x h = cc
still_there (y ∷ xs) ys zero x h = h
still_there (y ∷ xs) ys (suc k) x h = still_there xs ys k x h

last_there : {X : Type 0} (xs : List X) (x : X) → slice_get (xs ++ x ∷ []) (length xs) ≡ Some x
last_there [] x = refl
last_there (y ∷ xs) x = last_there xs x

-- ## The nodes at positions

abbrev node_at : List Known → ℕ → Node
node_at ks p = get_or (map (λ (k : Known). k.node) ks) p no_node

node_there : (ks : List Known) (p : ℕ) (x : Known) → slice_get ks p ≡ Some x → node_at ks p ≡ x.node
node_there ks p x h = get_or_from_slice_get (map (λ (k : Known). k.node) ks) p x.node no_node (slice_get-map (λ (k : Known). k.node) ks p ∙ ap (option_map (λ (k : Known). k.node)) h)

at_again : (ks : List Known) (ps : List ℕ) (p : ℕ) (x : Known) → slice_get ks p ≡ Some x → nodes_at ks (ps ++ p ∷ []) ≡ nodes_at ks ps ++ x.node ∷ []
at_again ks ps p x h = map-append (node_at ks) ps (p ∷ []) ∙ ap (λ (y : Node). nodes_at ks ps ++ y ∷ []) (node_there ks p x h)

within : (ks : List Known) (ps : List ℕ) (k p : ℕ) → AllKnown ks ps → slice_get ps k ≡ Some p → p < length ks
within ks ps k p a h = let w = a k p h in slice_get_within ks p w.known w.there

at_more : (ks : List Known) (x : Known) (ps : List ℕ) → ((k p : ℕ) → slice_get ps k ≡ Some p → p < length ks) → nodes_at (ks ++ x ∷ []) ps ≡ nodes_at ks ps
at_more ks x [] w = refl
at_more ks x (p ∷ ps) w =
    let y : Known = get_or ks p x in
    let there : slice_get ks p ≡ Some y = slice_get-get_or ks p x (w zero p refl) in
    let e : node_at (ks ++ x ∷ []) p ≡ node_at ks p = node_there (ks ++ x ∷ []) p y (still_there ks (x ∷ []) p y there) ∙ sym (node_there ks p y there) in
    let e' : nodes_at (ks ++ x ∷ []) ps ≡ nodes_at ks ps = at_more ks x ps (λ k q i. w (suc k) q i) in
    λ j. e j ∷ e' j

-- ## What is known

position_there : (ks : List Known) (ps : List ℕ) (xs : List Node) (k p : ℕ) → nodes_at ks ps ≡ xs → k < length xs → p ≡ get_or ps k p → slice_get ps k ≡ Some p
position_there ks ps xs k p e w r =
    let i : k < length ps = omega (arith, w, ap (λ (ys : List Node). length ys) e, length-mapped (node_at ks) ps) in
    slice_get_read ps (length ps) k p refl i r

-- a node whose position is in range
pub position_within : (ks : List Known) (ps : List ℕ) (xs : List Node) (k p : ℕ) → nodes_at ks ps ≡ xs → AllKnown ks ps → k < length xs → p ≡ get_or ps k p → p < length ks
position_within ks ps xs k p e a w r = within ks ps k p a (position_there ks ps xs k p e w r)

shape_there : (ks : List Known) (ps : List ℕ) (k p : ℕ) (x : Known) → AllKnown ks ps → slice_get ps k ≡ Some p → x ≡ get_or ks p x → slice_get ks p ≡ Some x
shape_there ks ps k p x a h r = slice_get_read ks (length ks) p x refl (within ks ps k p a h) r

-- the node at a place
pub node_is : (ks : List Known) (ps : List ℕ) (xs : List Node) (k p : ℕ) (x : Known) → nodes_at ks ps ≡ xs → AllKnown ks ps → k < length xs → p ≡ get_or ps k p → x ≡ get_or ks p x → slice_get xs k ≡ Some x.node
node_is ks ps xs k p x e a w r r' =
    let h : slice_get ps k ≡ Some p = position_there ks ps xs k p e w r in
    ap (λ (ys : List Node). slice_get ys k) (sym e) ∙ slice_get-map (node_at ks) ps k ∙ ap (option_map (node_at ks)) h ∙ ap Some (node_there ks p x (shape_there ks ps k p x a h r'))

node_at_place : (ks : List Known) (ps : List ℕ) (xs : List Node) (k p : ℕ) → nodes_at ks ps ≡ xs → k < length xs → p ≡ get_or ps k p → slice_get xs k ≡ Some (node_at ks p)
node_at_place ks ps xs k p e w r = ap (λ (ys : List Node). slice_get ys k) (sym e) ∙ slice_get-map (node_at ks) ps k ∙ ap (option_map (node_at ks)) (position_there ks ps xs k p e w r)

-- two places with one position
pub shared_nodes : (ks : List Known) (ps : List ℕ) (xs : List Node) (j k p q : ℕ) → nodes_at ks ps ≡ xs → j < length xs → k < length xs → p ≡ get_or ps j p → q ≡ get_or ps k q → p ≡ q → slice_get xs j ≡ slice_get xs k
shared_nodes ks ps xs j k p q e w u r s t = node_at_place ks ps xs j p e w r ∙ ap (λ (x : ℕ). Some (node_at ks x)) t ∙ sym (node_at_place ks ps xs k q e u s)

-- and what is kept of it
pub facts_are : (ks : List Known) (ps : List ℕ) (xs : List Node) (k p : ℕ) (x : Known) → nodes_at ks ps ≡ xs → AllKnown ks ps → k < length xs → p ≡ get_or ps k p → x ≡ get_or ks p x → IsFactsOf x.facts (tree_in (trees xs) k)
facts_are ks ps xs k p x e a w r r' =
    let h : slice_get ps k ≡ Some p = position_there ks ps xs k p e w r in
    let known = a k p h in
    let same : known.known ≡ x = same_Some known.known x (sym known.there ∙ shape_there ks ps k p x a h r') in
    subst (λ (ys : List Node). IsFactsOf x.facts (tree_in (trees ys) k)) e (subst (λ (y : Known). IsFactsOf y.facts (tree_in (trees (nodes_at ks ps)) k)) same known.facts)

-- ## One more node

-- with these shapes and this position behind the others
module _ (ks ls : List Known) (ps : List ℕ) (p : ℕ) (y : Known) where
  grown : nodes_at ls (ps ++ p ∷ []) ≡ nodes_at ks ps ++ y.node ∷ [] → AllKnown ks ps → ((q : ℕ) (z : Known) → slice_get ks q ≡ Some z → slice_get ls q ≡ Some z) → slice_get ls p ≡ Some y →
      IsFactsOf y.facts (tree_of (trees (nodes_at ks ps)) y.node) → AllKnown ls (ps ++ p ∷ [])
  grown e a stay there f k q s =
      let w : k < length (ps ++ p ∷ []) = slice_get_within (ps ++ p ∷ []) k q s in
      ⊎_elim (λ (i : k < length ps). old i) (λ (i : length ps ≤ k). last (omega (arith, i, w, length-append ps (p ∷ [])))) (cases_lt k (length ps))
    where
      all : trees (nodes_at ls (ps ++ p ∷ [])) ≡ trees (nodes_at ks ps) ++ tree_of (trees (nodes_at ks ps)) y.node ∷ []
      all = ap trees e ∙ trees-push (nodes_at ks ps) y.node

      many : length (trees (nodes_at ks ps)) ≡ length ps
      many = length-trees (nodes_at ks ps) ∙ length-mapped (node_at ks) ps

      old : k < length ps → IsKnown ls q (tree_in (trees (nodes_at ls (ps ++ p ∷ []))) k)
      old i =
          let known = a k q (node_before ps p q k i s) in
          let same : tree_in (trees (nodes_at ls (ps ++ p ∷ []))) k ≡ tree_in (trees (nodes_at ks ps)) k =
          ap (λ (ts : List Type_tree). tree_in ts k) all ∙ get_or-append (trees (nodes_at ks ps)) (tree_of (trees (nodes_at ks ps)) y.node ∷ []) left_out k (omega (arith, i, many)) in
          record { known = known.known; there = stay q known.known known.there; facts = subst (IsFactsOf known.known.facts) (sym same) known.facts }

      last : k ≡ length ps → IsKnown ls q (tree_in (trees (nodes_at ls (ps ++ p ∷ []))) k)
      last i =
          let same : tree_in (trees (nodes_at ls (ps ++ p ∷ []))) k ≡ tree_of (trees (nodes_at ks ps)) y.node =
          ap (λ (ts : List Type_tree). tree_in ts k) all ∙ tree_in_last (trees (nodes_at ks ps)) (tree_of (trees (nodes_at ks ps)) y.node) k (omega (arith, i, many)) in
          let there' : slice_get ls q ≡ Some y = ap (slice_get ls) (sym (last_node ps p q k i s)) ∙ there in
          record { known = y; there = there'; facts = subst (IsFactsOf y.facts) (sym same) f }

-- lists that stayed as they were
pub stay : (ks ls : List Known) (ps qs : List ℕ) (t : ShapeNumbers) → ls ≡ ks → qs ≡ ps → AllKnown ks ps × Numbered (nodes_at ks ps) t → AllKnown ls qs × Numbered (nodes_at ls qs) t
stay ks ls ps qs t e f h = subst (λ (ms : List Known). AllKnown ms qs × Numbered (nodes_at ms qs) t) (sym e) (subst (λ (rs : List ℕ). AllKnown ks rs × Numbered (nodes_at ks rs) t) (sym f) h)

-- a new shape
pub seen_push : (ks ls : List Known) (ps qs : List ℕ) (x : Known) (p : ℕ) (xs : List Node) → ls ≡ ks ++ x ∷ [] → qs ≡ ps ++ p ∷ [] → p ≡ length ks → nodes_at ks ps ≡ xs → AllKnown ks ps → nodes_at ls qs ≡ xs ++ x.node ∷ []
seen_push ks ls ps qs x p xs e f i v a =
    (λ j. nodes_at (e j) (f j)) ∙ at_again (ks ++ x ∷ []) ps p x (ap (slice_get (ks ++ x ∷ [])) i ∙ last_there ks x) ∙
    ap (λ (ys : List Node). ys ++ x.node ∷ []) (at_more ks x ps (λ k q. within ks ps k q a) ∙ v)

pub known_push : (ks ls : List Known) (ps qs : List ℕ) (x : Known) (p : ℕ) (xs : List Node) → ls ≡ ks ++ x ∷ [] → qs ≡ ps ++ p ∷ [] → p ≡ length ks → nodes_at ks ps ≡ xs → AllKnown ks ps →
    IsFactsOf x.facts (tree_of (trees xs) x.node) → AllKnown ls qs
known_push ks ls ps qs x p xs e f i v a g =
    let there : slice_get (ks ++ x ∷ []) p ≡ Some x = ap (slice_get (ks ++ x ∷ [])) i ∙ last_there ks x in
    let all : AllKnown (ks ++ x ∷ []) (ps ++ p ∷ []) =
    grown ks (ks ++ x ∷ []) ps p x (seen_push ks (ks ++ x ∷ []) ps (ps ++ p ∷ []) x p (nodes_at ks ps) refl refl i refl a) a (λ q z s. still_there ks (x ∷ []) q z s) there
    (subst (λ (ys : List Node). IsFactsOf x.facts (tree_of (trees ys) x.node)) (sym v) g) in
    subst (λ ms. AllKnown ms qs) (sym e) (subst (AllKnown (ks ++ x ∷ [])) (sym f) all)

-- ## A node once more

-- all that is kept of a tree
abbrev kept : Type_tree → ℕ × ℕ × ℕ × ℕ × ℕ × ℕ × Bool × Bool × Bool × Bool × Bool × List FlatType
kept t = (size t, depth t, abi_size 4 t, abi_align 4 t, abi_size 8 t, abi_align 8 t, contains pointer t, contains handle t, contains borrow t, is_plain t, mentions t, open_flat t)

facts_kept : (f : Facts) (s t : Type_tree) → kept s ≡ kept t → IsFactsOf f s → IsFactsOf f t
facts_kept f s t e h = record {
  info = record { size = h.info.size ∙ (λ j. capped (e j).0); depth = h.info.depth ∙ (λ j. capped (e j).1) };
  abi = record {
    size32 = h.abi.size32 ∙ (λ j. kept_size (e j).2);
    align32 = h.abi.align32 ∙ (λ j. (e j).3);
    size64 = h.abi.size64 ∙ (λ j. kept_size (e j).4);
    align64 = h.abi.align64 ∙ (λ j. (e j).5);
    contains_ptr = h.abi.contains_ptr ∙ (λ j. (e j).6);
    contains_handle = h.abi.contains_handle ∙ (λ j. (e j).7);
    contains_borrow = h.abi.contains_borrow ∙ (λ j. (e j).8);
  };
  plain = h.plain ∙ (λ j. (e j).9);
  refers = h.refers ∙ (λ j. (e j).10);
  flat = h.flat ∙ (λ j. take 17 (e j).11);
}

-- it looks at no identity
kept_again : (x : Node) (j k : ℕ) (ps : Parts Name Name) → kept (node (head_of k x) ps) ≡ kept (node (head_of j x) ps)
kept_again (n.Defined s) j k ps = refl
kept_again (n.Func s) j k ps = refl
kept_again (n.Instance s) j k ps = refl
kept_again (n.Component s) j k ps = refl
kept_again (n.Module s) j k ps = refl
kept_again (n.CoreInstance s) j k ps = refl

facts_again : (f : Facts) (x : Node) (j k : ℕ) (ps : Parts Name Name) → IsFactsOf f (node (head_of k x) ps) → IsFactsOf f (node (head_of j x) ps)
facts_again f x j k ps h = facts_kept f (node (head_of k x) ps) (node (head_of j x) ps) (kept_again x j k ps) h

-- the tree of the node at a place is made of the trees of its parts in the same list
abbrev pub UnfoldsAt : List Node → ℕ → Type 0
UnfoldsAt xs k = (x : Node) → slice_get xs k ≡ Some x → tree_in (trees xs) k ≡ node (head_of k x) (slot_parts (trees xs) (slots_of x))

pub again_is : (ks : List Known) (ps qs : List ℕ) (place p : ℕ) (xs : List Node) → qs ≡ ps ++ p ∷ [] → nodes_at ks ps ≡ xs → AllKnown ks ps → place < length xs → p ≡ get_or ps place p →
    (x : Node) × (slice_get xs place ≡ Some x) × (nodes_at ks qs ≡ xs ++ x ∷ [])
again_is ks ps qs place p xs e v a w r =
    let h : slice_get ps place ≡ Some p = position_there ks ps xs place p v w r in
    let known = a place p h in
    let found : slice_get xs place ≡ Some known.known.node =
    ap (λ (ys : List Node). slice_get ys place) (sym v) ∙ slice_get-map (node_at ks) ps place ∙ ap (option_map (node_at ks)) h ∙ ap Some (node_there ks p known.known known.there) in
    (known.known.node, found, ap (nodes_at ks) e ∙ at_again ks ps p known.known known.there ∙ ap (λ (ys : List Node). ys ++ known.known.node ∷ []) v)

pub known_again : (ks : List Known) (ps qs : List ℕ) (place p : ℕ) (xs : List Node) → qs ≡ ps ++ p ∷ [] → nodes_at ks ps ≡ xs → AllKnown ks ps → place < length xs → p ≡ get_or ps place p → UnfoldsAt xs place → AllKnown ks qs
known_again ks ps qs place p xs e v a w r u =
    let h : slice_get ps place ≡ Some p = position_there ks ps xs place p v w r in
    let known = a place p h in
    let x : Node = known.known.node in
    let found : slice_get xs place ≡ Some x =
    ap (λ (ys : List Node). slice_get ys place) (sym v) ∙ slice_get-map (node_at ks) ps place ∙ ap (option_map (node_at ks)) h ∙ ap Some (node_there ks p known.known known.there) in
    let here : IsFactsOf known.known.facts (tree_in (trees xs) place) = subst (λ (ys : List Node). IsFactsOf known.known.facts (tree_in (trees ys) place)) v known.facts in
    let facts : IsFactsOf known.known.facts (tree_of (trees xs) x) =
    facts_again known.known.facts x (length (trees xs)) place (slot_parts (trees xs) (slots_of x)) (subst (IsFactsOf known.known.facts) (u x found) here) in
    subst (AllKnown ks) (sym e) (grown ks ks ps p known.known (at_again ks ps p known.known known.there) a (λ q z s. s) known.there
    (subst (λ (ys : List Node). IsFactsOf known.known.facts (tree_of (trees ys) x)) (sym v) facts))
