-- What holds of types in an arena that grew.
use Rattle.std.proofs.Common.{◌≡◌, ◌≤◌, length, length-append, sym, ◌∙◌, ap, subst, arith}
use Rattle.std.specs.Prelude.{All, Contains}
use Rattle.std.proofs.lemmas.List.Elements.{All-weaker, All-contains}
use Rattle.wcv_core.specs.Names.{Name}
use Rattle.wcv_types.proofs.Grown.{stands_more, stands_rank, trees-grown, length-trees, same_tree}
use Rattle.wcv_types.proofs.Unfolding.{slots_more}
use Rattle.wcv_types.specs.Arena.{Arena}
use Rattle.wcv_types.specs.Identity.{identity_at}
use Rattle.wcv_types.specs.Led.{Led}
use Rattle.wcv_types.specs.Standing.{Stands, StandsBefore, Extends, Unfolds}
use Rattle.wcv_types.specs.Tree.{Head, Parts, node, head}
use Rattle.wcv_types.specs.Unfold.{Type_tree, Slots, rank, slots_at, slot_parts, parts_in, parts_at, trees, tree_at}
use Rattle.wcv_types.specs.declared.ids.Part.{Part}
use Rattle.wcv_remap.specs.Remap.{Reached, itself, below}
use Rattle.wcv_remap.proofs.Parts.{slots_stay}

-- the trees of slots whose parts stand
pub slots_kept : (a b : Arena) (ss : Slots) → Extends a b → All (Stands a) (parts_in ss) → slot_parts (trees b.nodes) ss ≡ slot_parts (trees a.nodes) ss
slots_kept a b ss e h =
    let w = trees-grown a b e in
    ap (λ ts. slot_parts ts ss) w.1 ∙
    slots_more (trees a.nodes) w.0 ss (All-weaker (Stands a) (λ (q : Part). rank q ≤ length (trees a.nodes)) (λ q s. omega (arith, stands_rank a q s, length-trees a.nodes)) (parts_in ss) h)

pub before_stands : (a : Arena) (q : Part) → Unfolds a q → All (Stands a) (parts_at a q)
before_stands a q u = All-weaker (StandsBefore a (rank q)) (Stands a) (λ r s. s.stands) (parts_at a q) u.before

pub part_before : (a : Arena) (q r : Part) → Unfolds a q → Contains (parts_at a q) r → StandsBefore a (rank q) r
part_before a q r u c = All-contains (StandsBefore a (rank q)) (parts_at a q) r u.before c

pub unfolds_later : (a b : Arena) (q : Part) → Stands a q → Unfolds a q → Extends a b → Unfolds b q
unfolds_later a b q st u k =
    let e : tree_at b q ≡ tree_at a q = same_tree a b q k st in
    let f : slots_at b.nodes q ≡ slots_at a.nodes q = slots_stay a b q k st in
    let h : head (tree_at b q) ≡ head (tree_at a q) = ap (λ (t : Type_tree). head t) e in
    let g : slot_parts (trees b.nodes) (slots_at b.nodes q) ≡ slot_parts (trees a.nodes) (slots_at a.nodes q) =
    ap (λ (ss : Slots). slot_parts (trees b.nodes) ss) f ∙ slots_kept a b (slots_at a.nodes q) k (before_stands a q u) in
    record {
      tree = e ∙ u.tree ∙ ap (λ (x : Head Name Name). node x (slot_parts (trees a.nodes) (slots_at a.nodes q))) (sym h) ∙ ap (λ (x : Parts Name Name). node (head (tree_at b q)) x) (sym g);
      before = subst (λ (ss : Slots). All (StandsBefore b (rank q)) (parts_in ss)) (sym f)
          (All-weaker (StandsBefore a (rank q)) (StandsBefore b (rank q)) (λ r s. record { stands = stands_more a b r k s.stands; before = s.before }) (parts_at a q) u.before);
      known = ap (λ (x : Head Name Name). identity_at x) h ∙ u.known;
    }

pub led_later : (a b : Arena) (q : Part) → Stands a q → Extends a b → Led (tree_at a q) → Led (tree_at b q)
led_later a b q st k l = subst Led (sym (same_tree a b q k st)) l

pub longer : (a b : Arena) → Extends a b → length a.nodes ≤ length b.nodes
longer a b e = omega (arith, ap length e.nodes, length-append a.nodes e.more)

-- what is reached stays so
pub reached_later : (a b : Arena) (q k : Part) → Extends a b → Reached a q k → Reached b q k
reached_later a b q k l (itself _) = itself q
reached_later a b q k l (below _ r _ s c w) =
    below q r k (stands_more a b q l s) (subst (λ (ps : Slots). Contains (parts_in ps) r) (sym (slots_stay a b q l s)) c) (reached_later a b r k l w)
