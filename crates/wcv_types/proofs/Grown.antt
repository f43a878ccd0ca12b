-- What stands in an arena that grew, and the trees of its nodes.
use Rattle.std.proofs.Common.{◌≡◌, ℕ, zero, suc, ◌+◌, ◌<◌, ◌≤◌, List, [], ◌∷◌, ◌++◌, length, take, refl, sym, ◌∙◌, ap, subst, arith, get_or, length-append, append_assoc, append-nil, ⊎_elim}
use Rattle.std.specs.Prelude.{slice_get, Some, IfSome, All}
use Rattle.std.proofs.lemmas.Grind.{common_steps}
use Rattle.std.proofs.lemmas.Option.{slice_get-get_or, slice_get_within, get_or_from_slice_get}
use Rattle.std.proofs.lemmas.Bool.{cases_lt}
use Rattle.std.proofs.lemmas.List.Elements.{All-head, All-weaker}
use Rattle.std.proofs.Math.ListN.{get_or-append}
use Rattle.std.proofs.Math.Seq.{get_or-append_seam, take-append_seam}
use Rattle.wcv_core.specs.CoreForm.{Group}
use Rattle.wcv_core.specs.CoreGroups.{total}
use Rattle.wcv_core.specs.CoreSizes.{IsEntityWithin}
use Rattle.wcv_core.specs.Names.{Name, number, stamp, base, at, stamped, aside}
use Rattle.wcv_core.specs.declared.core_types.EntityType.{EntityType}
use Rattle.wcv_types.specs.Arena.{Arena}
use Rattle.wcv_types.specs.CoreParts.{exported_items}
use Rattle.wcv_types.specs.Led.{Led}
use Rattle.wcv_types.specs.Resources.{owned_by}
use Rattle.wcv_types.specs.Unfold.{Type_tree, capped, left_out, rank, head_of, kind_slots, parts_in, tree_of, tree_in, trees_after, trees, tree_at, info_of, parts_of, IsInfoOf}
use Rattle.wcv_types.specs.Standing.{Stands, GaveResource, core_items, entity_sizes, kind_exported, own_size, IsStated, Fits, AllFit, cut, with_node, Extends, KeepsTrees}
use Rattle.wcv_types.specs.declared.arena.Node.{Node}
use Rattle.wcv_types.specs.declared.arena.Node.TheVariants as n
use Rattle.wcv_types.specs.declared.core_shapes.CoreInstanceTypeKind.{CoreInstanceTypeKind}
use Rattle.wcv_types.specs.declared.core_shapes.CoreInstanceTypeKind.TheVariants as kind
use Rattle.wcv_types.specs.declared.ids.Part.{Part}
use Rattle.wcv_types.specs.declared.ids.Part.TheVariants as p
use Rattle.wcv_types.proofs.CoreGrown.{total-append, within_more, sizes_stay}

-- ## Growing

pub extends_refl : (a : Arena) → Extends a a
extends_refl a = record { more = []; nodes = sym (append-nil a.nodes); groups = []; core = sym (append-nil a.core); resources = omega arith; stamps = omega arith }

pub extends_trans : (a b c : Arena) → Extends a b → Extends b c → Extends a c
extends_trans a b c p q = record {
  more = p.more ++ q.more;
  nodes = q.nodes ∙ ap (λ xs. xs ++ q.more) p.nodes ∙ append_assoc a.nodes p.more q.more;
  groups = p.groups ++ q.groups;
  core = q.core ∙ ap (λ gs. gs ++ q.groups) p.core ∙ append_assoc a.core p.groups q.groups;
  resources = omega (arith, p.resources, q.resources);
  stamps = omega (arith, p.stamps, q.stamps);
}

-- one more node
pub extends_push : (a : Arena) (x : Node) → Extends a (with_node a x)
extends_push a x = record { more = x ∷ []; nodes = refl; groups = []; core = sym (append-nil a.core); resources = omega arith; stamps = omega arith }

-- the nodes that stand behind the first k
pub extends_cut : (a : Arena) (k : ℕ) (xs : List Node) → a.nodes ≡ take k a.nodes ++ xs → Extends (cut a k) a
extends_cut a k xs e = record { more = xs; nodes = e; groups = []; core = sym (append-nil a.core); resources = omega arith; stamps = omega arith }

slice_get-left : (xs ys : List Node) (k : ℕ) (x : Node) → slice_get xs k ≡ Some x → slice_get (xs ++ ys) k ≡ Some x
slice_get-left [] ys k x h = cc
slice_get-left (y ∷ xs) ys zero x h = h
slice_get-left (y ∷ xs) ys (suc k) x h = slice_get-left xs ys k x h

-- a node stays where it is
pub node_stays : (a b : Arena) (k : ℕ) (x : Node) → Extends a b → slice_get a.nodes k ≡ Some x → slice_get b.nodes k ≡ Some x
node_stays a b k x e h = ap (λ (ns : List Node). slice_get ns k) e.nodes ∙ slice_get-left a.nodes e.more k x h

pub stands_more : (a b : Arena) (q : Part) → Extends a b → Stands a q → Stands b q
stands_more a b (p.Resource r) e s = record { resource = omega (arith, e.resources, s.resource); stamp = omega (arith, e.stamps, s.stamp) }
stands_more a b (p.Func i) e s = (s.0, node_stays a b i.index (n.Func s.0) e s.1)
stands_more a b (p.Defined i) e s = (s.0, node_stays a b i.index (n.Defined s.0) e s.1)
stands_more a b (p.Instance i) e s = (s.0, node_stays a b i.index (n.Instance s.0) e s.1)
stands_more a b (p.Component i) e s = (s.0, node_stays a b i.index (n.Component s.0) e s.1)
stands_more a b (p.Module i) e s = (s.0, node_stays a b i.index (n.Module s.0) e s.1)
stands_more a b (p.CoreInstance i) e s = (s.0, node_stays a b i.index (n.CoreInstance s.0) e s.1)
stands_more a b (p.Core i) e s = omega (arith, s, ap total e.core, total-append a.core e.groups)

-- what stands has a place among the nodes, or none
pub stands_rank : (a : Arena) (q : Part) → Stands a q → rank q ≤ length a.nodes
stands_rank a (p.Resource r) s = omega arith
stands_rank a (p.Func i) s = omega (arith, slice_get_within a.nodes i.index (n.Func s.0) s.1)
stands_rank a (p.Defined i) s = omega (arith, slice_get_within a.nodes i.index (n.Defined s.0) s.1)
stands_rank a (p.Instance i) s = omega (arith, slice_get_within a.nodes i.index (n.Instance s.0) s.1)
stands_rank a (p.Component i) s = omega (arith, slice_get_within a.nodes i.index (n.Component s.0) s.1)
stands_rank a (p.Module i) s = omega (arith, slice_get_within a.nodes i.index (n.Module s.0) s.1)
stands_rank a (p.CoreInstance i) s = omega (arith, slice_get_within a.nodes i.index (n.CoreInstance s.0) s.1)
stands_rank a (p.Core i) s = omega arith

-- ## Trees

pub trees_after-append : (ts : List Type_tree) (xs ys : List Node) → trees_after ts (xs ++ ys) ≡ trees_after (trees_after ts xs) ys
trees_after-append ts [] ys = refl
trees_after-append ts (x ∷ xs) ys = trees_after-append (ts ++ tree_of ts x ∷ []) xs ys

pub trees_after-extends : (ts : List Type_tree) (xs : List Node) → (us : List Type_tree) × (trees_after ts xs ≡ ts ++ us)
trees_after-extends ts [] = ([], sym (append-nil ts))
trees_after-extends ts (x ∷ xs) =
    let w = trees_after-extends (ts ++ tree_of ts x ∷ []) xs in
    (tree_of ts x ∷ w.0, w.1 ∙ append_assoc ts (tree_of ts x ∷ []) w.0)

length-trees_after : (ts : List Type_tree) (xs : List Node) → length (trees_after ts xs) ≡ length ts + length xs
length-trees_after ts [] = omega arith
length-trees_after ts (x ∷ xs) = omega (arith, length-trees_after (ts ++ tree_of ts x ∷ []) xs, length-append ts (tree_of ts x ∷ []))

pub length-trees : (xs : List Node) → length (trees xs) ≡ length xs
length-trees xs = omega (arith, length-trees_after [] xs)

pub trees-push : (xs : List Node) (x : Node) → trees (xs ++ x ∷ []) ≡ trees xs ++ tree_of (trees xs) x ∷ []
trees-push xs x = trees_after-append [] xs (x ∷ [])

-- the trees of an arena that grew begin with the older ones
pub trees-grown : (a b : Arena) → Extends a b → (us : List Type_tree) × (trees b.nodes ≡ trees a.nodes ++ us)
trees-grown a b e =
    let w = trees_after-extends (trees a.nodes) e.more in
    (w.0, ap trees e.nodes ∙ trees_after-append [] a.nodes e.more ∙ w.1)

same_in : (a b : Arena) (k : ℕ) → Extends a b → k < length a.nodes → tree_in (trees b.nodes) k ≡ tree_in (trees a.nodes) k
same_in a b k e h =
    let w = trees-grown a b e in
    ap (λ (ts : List Type_tree). tree_in ts k) w.1 ∙ get_or-append (trees a.nodes) w.0 left_out k (omega (arith, h, length-trees a.nodes))

-- a part keeps its tree
pub same_below : (a b : Arena) (q : Part) → Extends a b → rank q ≤ length a.nodes → tree_at b q ≡ tree_at a q
same_below a b (p.Resource r) e h = refl
same_below a b (p.Core i) e h = refl
same_below a b (p.Defined i) e h = same_in a b i.index e (omega (arith, h))
same_below a b (p.Func i) e h = same_in a b i.index e (omega (arith, h))
same_below a b (p.Instance i) e h = same_in a b i.index e (omega (arith, h))
same_below a b (p.Component i) e h = same_in a b i.index e (omega (arith, h))
same_below a b (p.Module i) e h = same_in a b i.index e (omega (arith, h))
same_below a b (p.CoreInstance i) e h = same_in a b i.index e (omega (arith, h))

pub same_tree : (a b : Arena) (q : Part) → Extends a b → Stands a q → tree_at b q ≡ tree_at a q
same_tree a b q e s = same_below a b q e (stands_rank a q s)

pub keeps_trees : (a b : Arena) → Extends a b → KeepsTrees a b
keeps_trees a b e = record { stands = λ q s. stands_more a b q e s; trees = λ q s. same_tree a b q e s }

pub push_keeps : (a b : Arena) (x : Node) → b ≡ with_node a x → KeepsTrees a b
push_keeps a b x e = subst (λ (c : Arena). KeepsTrees a c) (sym e) (keeps_trees a (with_node a x) (extends_push a x))

pub tree_in_last : (ts : List Type_tree) (t : Type_tree) (k : ℕ) → k ≡ length ts → tree_in (ts ++ t ∷ []) k ≡ t
tree_in_last ts t k e = ap (λ (j : ℕ). tree_in (ts ++ t ∷ []) j) e ∙ get_or-append_seam ts t [] left_out

last_in : (a : Arena) (x : Node) (k : ℕ) → suc k ≡ suc (length a.nodes) → tree_in (trees (a.nodes ++ x ∷ [])) k ≡ tree_of (trees a.nodes) x
last_in a x k h = ap (λ (ts : List Type_tree). tree_in ts k) (trees-push a.nodes x) ∙ tree_in_last (trees a.nodes) (tree_of (trees a.nodes) x) k (omega (arith, h, length-trees a.nodes))

at_last : (a : Arena) (x : Node) (q : Part) → rank q ≡ suc (length a.nodes) → tree_at (with_node a x) q ≡ tree_of (trees a.nodes) x
at_last a x (p.Resource r) h = absurd (omega (arith, h))
at_last a x (p.Core i) h = absurd (omega (arith, h))
at_last a x (p.Defined i) h = last_in a x i.index h
at_last a x (p.Func i) h = last_in a x i.index h
at_last a x (p.Instance i) h = last_in a x i.index h
at_last a x (p.Component i) h = last_in a x i.index h
at_last a x (p.Module i) h = last_in a x i.index h
at_last a x (p.CoreInstance i) h = last_in a x i.index h

-- the tree of a new node
pub tree_at_last : (a b : Arena) (x : Node) (q : Part) → b ≡ with_node a x → rank q ≡ suc (length a.nodes) → tree_at b q ≡ tree_of (trees a.nodes) x
tree_at_last a b x q e h = ap (λ (c : Arena). tree_at c q) e ∙ at_last a x q h

-- ## Fitting

pub last_node : {X : Type 0} (xs : List X) (x y : X) (k : ℕ) → k ≡ length xs → slice_get (xs ++ x ∷ []) k ≡ Some y → x ≡ y
last_node xs x y k h s =
    sym (get_or-append_seam xs x [] x) ∙ ap (λ (j : ℕ). get_or (xs ++ x ∷ []) j x) (sym h) ∙ get_or_from_slice_get (xs ++ x ∷ []) k y x s

-- the node that was added
pub is_last : (xs ys : List Node) (x : Node) (k : ℕ) → ys ≡ xs ++ x ∷ [] → k ≡ length xs → slice_get ys k ≡ Some x
is_last xs ys x k e h =
    let last : get_or (xs ++ x ∷ []) (length xs) x ≡ x = get_or-append_seam xs x [] x in
    ap (λ (zs : List Node). slice_get zs k) e ∙ ap (slice_get (xs ++ x ∷ [])) h ∙
    slice_get-get_or (xs ++ x ∷ []) (length xs) x (omega (arith, length-append xs (x ∷ []))) ∙ ap Some last

pub node_before : {X : Type 0} (xs : List X) (x y : X) (k : ℕ) → k < length xs → slice_get (xs ++ x ∷ []) k ≡ Some y → slice_get xs k ≡ Some y
node_before xs x y k h s =
    slice_get-get_or xs k x h ∙ ap Some (sym (get_or-append xs (x ∷ []) x k h)) ∙ sym (slice_get-get_or (xs ++ x ∷ []) k x (omega (arith, h, length-append xs (x ∷ [])))) ∙ s

take_push : (xs : List Node) (x : Node) (k : ℕ) → k ≤ length xs → take k (xs ++ x ∷ []) ≡ take k xs
take_push xs x k h = grind (arith, common_steps)

cut_push : (a : Arena) (x : Node) (k : ℕ) → k ≤ length a.nodes → cut (with_node a x) k ≡ cut a k
cut_push a x k h =
    let e : take k (a.nodes ++ x ∷ []) ≡ take k a.nodes = take_push a.nodes x k h in
    λ j. record a { nodes = e j }

cut_last : (a : Arena) (x : Node) (k : ℕ) → k ≡ length a.nodes → cut (with_node a x) k ≡ a
cut_last a x k h =
    let e : take k (a.nodes ++ x ∷ []) ≡ a.nodes = subst (λ (j : ℕ). take j (a.nodes ++ x ∷ []) ≡ a.nodes) (sym h) (take-append_seam a.nodes (x ∷ [])) in
    λ j. record a { nodes = e j }

fits_before : (a : Arena) (x y : Node) (k : ℕ) → AllFit a → k < length a.nodes → slice_get (a.nodes ++ x ∷ []) k ≡ Some y → Fits (cut (with_node a x) k) y
fits_before a x y k f h s =
    subst (λ (b : Arena). Fits b y) (sym (cut_push a x k (omega (arith, h)))) (f k y (node_before a.nodes x y k h s))

fits_last : (a : Arena) (x y : Node) (k : ℕ) → Fits a x → k ≡ length a.nodes → slice_get (a.nodes ++ x ∷ []) k ≡ Some y → Fits (cut (with_node a x) k) y
fits_last a x y k f h s =
    subst (λ (z : Node). Fits (cut (with_node a x) k) z) (last_node a.nodes x y k h s) (subst (λ (b : Arena). Fits b x) (sym (cut_last a x k h)) f)

-- a node that fits may be added
pub all_fit_push : (a b : Arena) (x : Node) → b ≡ with_node a x → AllFit a → Fits a x → AllFit b
all_fit_push a b x e f g = subst AllFit (sym e) pushed
  where
    pushed : AllFit (with_node a x)
    pushed k y s =
        let w : k < length (a.nodes ++ x ∷ []) = slice_get_within (a.nodes ++ x ∷ []) k y s in
        ⊎_elim (λ (h : k < length a.nodes). fits_before a x y k f h s)
        (λ (h : length a.nodes ≤ k). fits_last a x y k g (omega (arith, h, w, length-append a.nodes (x ∷ []))) s) (cases_lt k (length a.nodes))

pub gave_more : (a b : Arena) (r : Name) → a.resources ≤ b.resources → GaveResource a r → GaveResource b r
gave_more a b (number k) l h = omega (arith, l, h)
gave_more a b (stamp k) l h = absurd h
gave_more a b (base p) l h = absurd h
gave_more a b (at p r) l h = absurd h
gave_more a b (stamped p) l h = absurd h
gave_more a b (aside r) l h = absurd h

items_stay : (a b : Arena) (es : List EntityType) → Extends a b → All (IsEntityWithin (total a.core)) es → entity_sizes a.core es ≡ entity_sizes b.core es
items_stay a b es e w = sym (ap (λ (gs : List Group). entity_sizes gs es) e.core ∙ sizes_stay a.core e.groups es w)

pub items_within : (a b : Arena) (es : List EntityType) → Extends a b → All (IsEntityWithin (total a.core)) es → All (IsEntityWithin (total b.core)) es
items_within a b es e w = subst (λ (gs : List Group). All (IsEntityWithin (total gs)) es) (sym e.core) (within_more a.core e.groups es w)

-- the size that is stated stays the own one
pub stated_more : (a b : Arena) (x : Node) → Extends a b → All (Stands a) (parts_of x) → All (IsEntityWithin (total a.core)) (core_items x) → IsStated a.core (trees a.nodes) x → IsStated b.core (trees b.nodes) x
stated_more a b (n.Defined s) e q w h = tt
stated_more a b (n.Func s) e q w h = tt
stated_more a b (n.Instance s) e q w h = tt
stated_more a b (n.Component s) e q w h = tt
stated_more a b (n.Module s) e q w h = h ∙ ap (λ (k : ℕ). capped (suc k)) (items_stay a b (core_items (n.Module s)) e w)
stated_more a b (n.CoreInstance s) e q w h =
    record {
      within = subst (All (IsEntityWithin (total b.core))) (sym (exported_same s.kind q)) (items_within a b (kind_exported (trees a.nodes) s.kind) e h.within);
      size_is = h.size_is ∙ ap (λ (k : ℕ). capped (suc k)) (items_stay a b (kind_exported (trees a.nodes) s.kind) e h.within) ∙ ap (own_size b.core) (sym (exported_same s.kind q));
    }
  where
    exported_same : (c : CoreInstanceTypeKind) → All (Stands a) (parts_in (kind_slots c)) → kind_exported (trees b.nodes) c ≡ kind_exported (trees a.nodes) c
    exported_same (kind.Instantiated m) q = ap exported_items (same_tree a b (p.Module m) e (All-head (Stands a) (p.Module m) [] q))
    exported_same (kind.Exports es) q = refl

-- more resources and more groups leave each node fitting
pub fits_more : (a b : Arena) (x : Node) → Extends a b → b.nodes ≡ a.nodes → Fits a x → Fits b x
fits_more a b x e same f = record {
  parts = All-weaker (Stands a) (Stands b) (λ q s. stands_more a b q e s) (parts_of x) f.parts;
  info = subst (λ (xs : List Node). IfSome (info_of x) (λ i. IsInfoOf i (tree_of (trees xs) x))) (sym same) f.info;
  owned = subst (λ (xs : List Node). All (GaveResource b) (owned_by (head_of (length xs) x))) (sym same)
      (All-weaker (GaveResource a) (GaveResource b) (λ r g. gave_more a b r e.resources g) (owned_by (head_of (length a.nodes) x)) f.owned);
  led = subst (λ (xs : List Node). Led (tree_of (trees xs) x)) (sym same) f.led;
  within = items_within a b (core_items x) e f.within;
  stated = stated_more a b x e f.parts f.within f.stated;
  apart = f.apart;
}

-- so an arena that only gave more of them is sound
pub all_fit_more : (a b : Arena) → Extends a b → b.nodes ≡ a.nodes → AllFit a → AllFit b
all_fit_more a b e same f k x s =
    let found : slice_get a.nodes k ≡ Some x = ap (λ (xs : List Node). slice_get xs k) (sym same) ∙ s in
    let nodes : take k b.nodes ≡ take k a.nodes = ap (take k) same in
    let grown : Extends (cut a k) (cut b k) = record { more = []; nodes = nodes ∙ sym (append-nil (take k a.nodes)); groups = e.groups; core = e.core; resources = e.resources; stamps = e.stamps } in
    fits_more (cut a k) (cut b k) x grown nodes (f k x found)

-- more resources and stamps
pub more_given : (a : Arena) (resources stamps : ℕ) → a.resources ≤ resources → a.stamps ≤ stamps → Extends a (record a { resources = resources; stamps = stamps })
more_given a resources stamps h h' = record { more = []; nodes = sym (append-nil a.nodes); groups = []; core = sym (append-nil a.core); resources = h; stamps = h' }
