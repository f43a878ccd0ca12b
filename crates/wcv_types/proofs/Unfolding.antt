-- The tree of a node is made of the trees of its parts in the same arena, which stand before it.
use Rattle.std.proofs.Common.{◌≡◌, ℕ, zero, suc, ◌+◌, ◌<◌, ◌≤◌, List, [], ◌∷◌, ◌++◌, length, take, drop, refl, sym, ◌∙◌, ap, arith, length-append}
use Rattle.std.specs.Prelude.{slice_get, Some, All, Contains}
use Rattle.std.proofs.lemmas.Option.{slice_get_within}
use Rattle.std.proofs.lemmas.List.{take-append-drop, length-take-le}
use Rattle.std.proofs.lemmas.List.Elements.{All-head, All-tail, All-weaker, All-contains, All-contains_itself, Contains-append_left, Contains-append_right}
use Rattle.std.proofs.Math.ListN.{get_or-append}
use Rattle.wcv_core.specs.Names.{Name}
use Rattle.std.proofs.Math.Seq.{get_or-append_seam}
use Rattle.wcv_types.specs.Tree.{Parts, node, part, head, sort, sort_at, type_of, Sort, is_value, is_resource, is_func, is_instance, is_component, is_module, is_core_instance, is_core_type}
use Rattle.wcv_types.specs.Arena.{Arena}
use Rattle.wcv_types.specs.Unfold.{Type_tree, Slot, leaf, at, both, core, Slots, left_out, any_part, rank, head_of, slots_of, slot_refs, slot_tree, slot_parts, part_tree, parts_in, parts_of, tree_of, tree_in, trees_after, trees, tree_at, unfolded}
use Rattle.wcv_types.specs.Identity.{identity_at}
use Rattle.wcv_types.specs.Standing.{HasIdentity, identity_of, Stands, StandsBefore, AllFit, cut, Extends}
use Rattle.wcv_types.specs.declared.arena.Node.{Node}
use Rattle.wcv_types.specs.declared.arena.Node.TheVariants as n
use Rattle.wcv_types.specs.declared.ids.ComponentAnyTypeId.{ComponentAnyTypeId}
use Rattle.wcv_types.specs.declared.ids.ComponentAnyTypeId.TheVariants as any
use Rattle.wcv_types.specs.declared.ids.Part.{Part}
use Rattle.wcv_types.specs.declared.ids.Part.TheVariants as p
use Rattle.wcv_types.proofs.Grown.{extends_cut, stands_more, stands_rank, trees-grown, trees_after-extends, length-trees}

-- ## More trees behind

part_more : (ts us : List Type_tree) (q : Part) → rank q ≤ length ts → part_tree (ts ++ us) q ≡ part_tree ts q
part_more ts us (p.Resource r) h = refl
part_more ts us (p.Core i) h = refl
part_more ts us (p.Defined i) h = get_or-append ts us left_out i.index (omega (arith, h))
part_more ts us (p.Func i) h = get_or-append ts us left_out i.index (omega (arith, h))
part_more ts us (p.Instance i) h = get_or-append ts us left_out i.index (omega (arith, h))
part_more ts us (p.Component i) h = get_or-append ts us left_out i.index (omega (arith, h))
part_more ts us (p.Module i) h = get_or-append ts us left_out i.index (omega (arith, h))
part_more ts us (p.CoreInstance i) h = get_or-append ts us left_out i.index (omega (arith, h))

-- the parts have their place among so many nodes
abbrev RanksWithin : ℕ → List Part → Type 0
RanksWithin k qs = All (λ q. rank q ≤ k) qs

all_from : {X : Type 0} (P : X → Type 0) (xs : List X) → ((x : X) → Contains xs x → P x) → All P xs
all_from P xs h = All-weaker (Contains xs) P h xs (All-contains_itself xs)

-- a fact of each element, for the first and for the last of them
pub all_left : {X : Type 0} (P : X → Type 0) (xs ys : List X) → All P (xs ++ ys) → All P xs
all_left P xs ys h = all_from P xs (λ x c. All-contains P (xs ++ ys) x h (Contains-append_left xs ys x c))

pub all_right : {X : Type 0} (P : X → Type 0) (xs ys : List X) → All P (xs ++ ys) → All P ys
all_right P xs ys h = all_from P ys (λ x c. All-contains P (xs ++ ys) x h (Contains-append_right xs ys x c))

slot_more : (ts us : List Type_tree) (s : Slot) → RanksWithin (length ts) (slot_refs s) → slot_tree (ts ++ us) s ≡ slot_tree ts s
slot_more ts us (leaf o) h = refl
slot_more ts us (core e) h = refl
slot_more ts us (at q) h = part_more ts us q (All-head (λ (r : Part). rank r ≤ length ts) q [] h)
slot_more ts us (both c r) h =
    let P : Part → Type 0 = λ x. rank x ≤ length ts in
    let e : part_tree (ts ++ us) c ≡ part_tree ts c = part_more ts us c (All-head P c (r ∷ []) h) in
    let e' : part_tree (ts ++ us) r ≡ part_tree ts r = part_more ts us r (All-head P r [] (All-tail P c (r ∷ []) h)) in
    λ j. type_of (e j) (e' j)

pub slots_more : (ts us : List Type_tree) (ss : Slots) → RanksWithin (length ts) (parts_in ss) → slot_parts (ts ++ us) ss ≡ slot_parts ts ss
slots_more ts us [] h = refl
slots_more ts us (s ∷ ss) h =
    let e : slot_tree (ts ++ us) s.1 ≡ slot_tree ts s.1 = slot_more ts us s.1 (all_left (λ (q : Part). rank q ≤ length ts) (slot_refs s.1) (parts_in ss) h) in
    let e' : slot_parts (ts ++ us) ss ≡ slot_parts ts ss = slots_more ts us ss (all_right (λ (q : Part). rank q ≤ length ts) (slot_refs s.1) (parts_in ss) h) in
    λ j. part s.0 (e j) (e' j)

-- ## Unfolding

trees_after-old : (ts : List Type_tree) (xs : List Node) (k : ℕ) → k < length ts → tree_in (trees_after ts xs) k ≡ tree_in ts k
trees_after-old ts xs k h =
    let w = trees_after-extends ts xs in
    ap (λ (us : List Type_tree). tree_in us k) w.1 ∙ get_or-append ts w.0 left_out k h

-- a node, over the trees of those before it
trees_after-node : (ts : List Type_tree) (xs : List Node) (j k : ℕ) (x : Node) → slice_get xs j ≡ Some x → k ≡ length ts + j →
    tree_in (trees_after ts xs) k ≡ tree_of (trees_after ts (take j xs)) x
trees_after-node ts [] j k x h e = cc
trees_after-node ts (y ∷ xs) zero k x h e =
    let s : y ≡ x = cc in
    let l : k ≡ length ts = omega (arith, e) in
    trees_after-old (ts ++ tree_of ts y ∷ []) xs k (omega (arith, l, length-append ts (tree_of ts y ∷ []))) ∙
    ap (λ (i : ℕ). tree_in (ts ++ tree_of ts y ∷ []) i) l ∙ get_or-append_seam ts (tree_of ts y) [] left_out ∙ ap (λ (z : Node). tree_of ts z) s
trees_after-node ts (y ∷ xs) (suc j) k x h e =
    trees_after-node (ts ++ tree_of ts y ∷ []) xs j k x h (omega (arith, e, length-append ts (tree_of ts y ∷ [])))

-- a node, over the trees of those before it
pub tree_in-node : (xs : List Node) (k : ℕ) (x : Node) → slice_get xs k ≡ Some x → tree_in (trees xs) k ≡ tree_of (trees (take k xs)) x
tree_in-node xs k x h = trees_after-node [] xs k k x h (omega arith)

length-cut : (a : Arena) (k : ℕ) (x : Node) → slice_get a.nodes k ≡ Some x → length (take k a.nodes) ≡ k
length-cut a k x h =
    let w : k < length a.nodes = slice_get_within a.nodes k x h in
    length-take-le k a.nodes (omega (arith, w))

pub cut_extends : (a : Arena) (k : ℕ) → Extends (cut a k) a
cut_extends a k = extends_cut a k (drop k a.nodes) (sym (take-append-drop k a.nodes))

-- the tree of a node is made of the trees of its parts in the same arena
pub tree_in-unfolds : (a : Arena) (k : ℕ) (x : Node) → AllFit a → slice_get a.nodes k ≡ Some x → tree_in (trees a.nodes) k ≡ unfolded a k x
tree_in-unfolds a k x f h =
    let old : List Node = take k a.nodes in
    let l : length old ≡ k = length-cut a k x h in
    let w = trees-grown (cut a k) a (cut_extends a k) in
    let ranks : RanksWithin (length (trees old)) (parts_of x) =
    All-weaker (Stands (cut a k)) (λ (q : Part). rank q ≤ length (trees old)) (λ q s. omega (arith, stands_rank (cut a k) q s, length-trees old)) (parts_of x) (f k x h).parts in
    let same : slot_parts (trees a.nodes) (slots_of x) ≡ slot_parts (trees old) (slots_of x) =
    ap (λ (ts : List Type_tree). slot_parts ts (slots_of x)) w.1 ∙ slots_more (trees old) w.0 (slots_of x) ranks in
    let place_is : length (trees old) ≡ k = length-trees old ∙ l in
    tree_in-node a.nodes k x h ∙ ap (λ (j : ℕ). node (head_of j x) (slot_parts (trees old) (slots_of x))) place_is ∙
    ap (λ (ps : Parts Name Name). node (head_of k x) ps) (sym same)

-- the parts of a node stand before it
pub parts_before : (a : Arena) (k : ℕ) (x : Node) → AllFit a → slice_get a.nodes k ≡ Some x → All (StandsBefore a (suc k)) (parts_of x)
parts_before a k x f h = All-weaker (Stands (cut a k)) (StandsBefore a (suc k)) one (parts_of x) (f k x h).parts
  where
    one : (q : Part) → Stands (cut a k) q → StandsBefore a (suc k) q
    one q s = record {
      stands = stands_more (cut a k) a q (cut_extends a k) s;
      before = omega (arith, stands_rank (cut a k) q s, length-cut a k x h);
    }

-- ## Sorts

-- the sort that an id tells
abbrev pub sort_of : Part → Sort
sort_of (p.Resource r) = is_resource
sort_of (p.Func i) = is_func
sort_of (p.Defined i) = is_value
sort_of (p.Instance i) = is_instance
sort_of (p.Component i) = is_component
sort_of (p.Module i) = is_module
sort_of (p.CoreInstance i) = is_core_instance
sort_of (p.Core i) = is_core_type

-- the root of the tree of a node
pub head_in : (xs : List Node) (k : ℕ) (x : Node) → slice_get xs k ≡ Some x → head (tree_in (trees xs) k) ≡ head_of k x
head_in xs k x h =
    let w : k < length xs = slice_get_within xs k x h in
    let l : length (trees (take k xs)) ≡ k = length-trees (take k xs) ∙ length-take-le k xs (omega (arith, w)) in
    ap head (tree_in-node xs k x h) ∙ ap (λ (j : ℕ). head_of j x) l

pub sort_stands : (a : Arena) (q : Part) → Stands a q → sort (tree_at a q) ≡ sort_of q
sort_stands a (p.Resource r) s = refl
sort_stands a (p.Func i) s = ap sort_at (head_in a.nodes i.index (n.Func s.0) s.1)
sort_stands a (p.Defined i) s = ap sort_at (head_in a.nodes i.index (n.Defined s.0) s.1)
sort_stands a (p.Instance i) s = ap sort_at (head_in a.nodes i.index (n.Instance s.0) s.1)
sort_stands a (p.Component i) s = ap sort_at (head_in a.nodes i.index (n.Component s.0) s.1)
sort_stands a (p.Module i) s = ap sort_at (head_in a.nodes i.index (n.Module s.0) s.1)
sort_stands a (p.CoreInstance i) s = ap sort_at (head_in a.nodes i.index (n.CoreInstance s.0) s.1)
sort_stands a (p.Core i) s = refl

-- a type that stands has its identity
pub known_stands : (a : Arena) (q : Part) → HasIdentity q → Stands a q → identity_at (head (tree_at a q)) ≡ Some (identity_of q)
known_stands a (p.Resource r) h s = refl
known_stands a (p.Func i) h s = ap identity_at (head_in a.nodes i.index (n.Func s.0) s.1)
known_stands a (p.Defined i) h s = ap identity_at (head_in a.nodes i.index (n.Defined s.0) s.1)
known_stands a (p.Instance i) h s = ap identity_at (head_in a.nodes i.index (n.Instance s.0) s.1)
known_stands a (p.Component i) h s = ap identity_at (head_in a.nodes i.index (n.Component s.0) s.1)
known_stands a (p.Module i) h s = ap identity_at (head_in a.nodes i.index (n.Module s.0) s.1)
known_stands a (p.CoreInstance i) h s = ap identity_at (head_in a.nodes i.index (n.CoreInstance s.0) s.1)
known_stands a (p.Core i) h s = absurd h

pub known_any : (a : Arena) (c : ComponentAnyTypeId) → Stands a (any_part c) → identity_at (head (tree_at a (any_part c))) ≡ Some (identity_of (any_part c))
known_any a (any.Resource r) s = known_stands a (p.Resource r) tt s
known_any a (any.Defined i) s = known_stands a (p.Defined i) tt s
known_any a (any.Func i) s = known_stands a (p.Func i) tt s
known_any a (any.Instance i) s = known_stands a (p.Instance i) tt s
known_any a (any.Component i) s = known_stands a (p.Component i) tt s
