-- The parts of a node, one after another, and the node behind them.
use Rattle.std.proofs.Common.{◌≡◌, ℕ, suc, get_or, take, drop, take_all, ◌+◌, ◌<◌, ◌≤◌, List, [], ◌∷◌, ◌++◌, length, refl, sym, ◌∙◌, ap, subst, arith, true, None, ⊎_elim, length-append}
use Rattle.std.proofs.lemmas.List.{take-append-drop, take_more}
use Rattle.std.proofs.lemmas.List.Elements.{Contains-append_left, Contains-append_cases, Contains-push_cases, Contains-push}
use Rattle.std.proofs.lemmas.Option.{slice_get_cases, get_or_from_slice_get}
use Rattle.std.specs.Prelude.{Some, Contains, slice_get, slice_index_or}
use Rattle.wcv_types.proofs.Grown.{extends_refl, extends_trans, stands_more}
use Rattle.wcv_types.specs.Arena.{Arena}
use Rattle.wcv_types.specs.Led.{Led}
use Rattle.wcv_types.specs.Rebuild.{Refits}
use Rattle.wcv_types.specs.Replacing.{Replacement}
use Rattle.wcv_types.specs.Standing.{Stands, StandsBefore, Extends, Unfolds}
use Rattle.wcv_types.specs.Tree.{node, head}
use Rattle.wcv_types.specs.Unfold.{Type_tree, leaf, at, both, core, Slots, rank, part_tree, slot_parts, parts_in, slots_at, parts_at, trees, tree_at}
use Rattle.wcv_types.specs.declared.ids.Part.{Part}
use Rattle.wcv_remap.specs.Hygiene.{Hygienic, HygienicIn}
use Rattle.wcv_remap.specs.Map.{Map, is_node, entry}
use Rattle.wcv_remap.specs.Remap.{Right, Sound, HygienicAt, Reached, itself, below, ReachedFrom, IsInside, Remapped, Each, Rebuilding, Settled}
use Rattle.wcv_remap.proofs.Inside.{part_inside}
use Rattle.wcv_remap.proofs.Keeping.{part_before, unfolds_later, led_later, longer, reached_later}
use Rattle.wcv_remap.proofs.Maps.{visits_none, visits_more, visits_both, each_later, each_push, hygienic_later, visited_entry, with_visited, visits_one, still_none}
use Rattle.wcv_remap.proofs.Parts.{slots_stay}
use Rattle.wcv_remap.proofs.Rebuilding.{refits, settled_fresh, right_settled, sound_visited}

-- ## Hygiene of parts

one : (m : Replacement) (ts : List Type_tree) (q r : Part) → Hygienic m (part_tree ts q) → Contains (q ∷ []) r → Hygienic m (part_tree ts r)
one m ts q r h c = ⊎_elim (λ (v : Contains {X = Part} [] r). absurd (omega (arith, v.1))) (λ (v : q ≡ r). subst (λ (x : Part). Hygienic m (part_tree ts x)) v h) (Contains-push_cases [] q r c)

slots_hygienic : (m : Replacement) (ts : List Type_tree) (ss : Slots) (r : Part) → HygienicIn m (slot_parts ts ss) → Contains (parts_in ss) r → Hygienic m (part_tree ts r)
slots_hygienic m ts [] r h c = absurd (omega (arith, c.1))
slots_hygienic m ts ((k, leaf o) ∷ ss) r h c = slots_hygienic m ts ss r h.1 c
slots_hygienic m ts ((k, core e) ∷ ss) r h c = slots_hygienic m ts ss r h.1 c
slots_hygienic m ts ((k, at q) ∷ ss) r h c =
    ⊎_elim (λ (w : Contains (q ∷ []) r). one m ts q r h.0 w) (λ (w : Contains (parts_in ss) r). slots_hygienic m ts ss r h.1 w) (Contains-append_cases (q ∷ []) (parts_in ss) r c)
slots_hygienic m ts ((k, both a b) ∷ ss) r h c =
    ⊎_elim (λ (w : Contains (a ∷ []) r). one m ts a r h.0.1.0 w)
    (λ (w : Contains (b ∷ parts_in ss) r). ⊎_elim (λ (v : Contains (b ∷ []) r). one m ts b r h.0.1.1.0 v) (λ (v : Contains (parts_in ss) r). slots_hygienic m ts ss r h.1 v) (Contains-append_cases (b ∷ []) (parts_in ss) r w))
    (Contains-append_cases (a ∷ []) (b ∷ parts_in ss) r c)

hygienic_part : (a : Arena) (map : Map) (q r : Part) → Unfolds a q → HygienicAt a map q → Contains (parts_at a q) r → HygienicAt a map r
hygienic_part a map q r u h c m s =
    let w : Hygienic m (node (head (tree_at a q)) (slot_parts (trees a.nodes) (slots_at a.nodes q))) = subst (λ (t : Type_tree). Hygienic m t) u.tree (h m s) in
    slots_hygienic m (trees a.nodes) (slots_at a.nodes q) r w.1 c

-- ## The loop

pub no_parts_yet : (a : Arena) (map : Map) (s b : ℕ) → Sound a map → Rebuilding a a map map s s b [] []
no_parts_yet a map s b snd = record { grown = extends_refl a; core = refl; visits = visits_none (ReachedFrom a []) (length a.nodes) b map; sound = snd; each = tt; steps = omega arith; nodes = omega arith }

next_part : (a0 a b : Arena) (map0 map map' : Map) (s0 s s' k : ℕ) (qs tos : List Part) (q to : Part) → Rebuilding a0 a map0 map s0 s k qs tos → Remapped a b map map' s s' q to →
    rank q < k → ((r : Part) → Contains qs r → Stands a r) → Rebuilding a0 b map0 map' s0 s' k (qs ++ q ∷ []) (tos ++ to ∷ [])
next_part a0 a b map0 map map' s0 s s' k qs tos q to w r h st = record {
  grown = extends_trans a0 a b w.grown r.grown;
  core = r.core ∙ w.core;
  visits = visits_both k map0 map map'
      (visits_more (length a0.nodes) (length a0.nodes) k k map0 map (omega arith) (omega arith) (λ j z. (z.0, Contains-append_left qs (q ∷ []) z.0 z.1, reached_later a b z.0 j r.grown z.2)) w.visits)
      (visits_more (length a.nodes) (length a0.nodes) (suc (rank q)) k map map' (longer a0 a w.grown) (omega (arith, h)) (λ j z. (q, Contains-push qs q, z)) r.visits);
  sound = r.sound;
  each = each_push (Right b map') qs tos q to (each_later a b (suc (rank q)) map map' qs tos w.sound r.grown r.visits st w.each) r.right;
  steps = omega (arith, w.steps, r.steps);
  nodes = omega (arith, w.nodes, r.nodes);
}

-- what is read at an index is in the list
read_contains : (xs : List Part) (i : ℕ) (d : Part) → i < length xs → Contains xs (slice_index_or xs i d)
read_contains xs i d h =
    ⊎_elim (λ (w : (x : Part) × (i < length xs) × (slice_get xs i ≡ Some x) × (get_or xs i x ≡ x)). subst (λ (y : Part). Contains xs y) (sym (get_or_from_slice_get xs i w.0 d w.2)) (i, w.1, w.3))
    (λ w. absurd (omega (arith, w.0, h))) (slice_get_cases xs i).1

take_contains : (xs : List Part) (i : ℕ) (r : Part) → Contains (take i xs) r → Contains xs r
take_contains xs i r c = subst (λ (ys : List Part). Contains ys r) (take-append-drop i xs) (Contains-append_left (take i xs) (drop i xs) r c)

pub items_are : (xs ys us bs : List Part) → xs ≡ ys → ys ≡ us ++ bs → us ≡ [] → xs ≡ bs
items_are xs ys us bs e f g = e ∙ f ∙ ap (λ (z : List Part). z ++ bs) g

-- what a part needs to be rebuilt in the loop
pub record Ready (a : Arena) (map : Map) (bound : ℕ) (q : Part) : Type 0 where
  pub before : rank q < bound
  pub stands : Stands a q
  pub inside : IsInside q
  pub sound : Sound a map
  pub hygienic : HygienicAt a map q

pub ready : (a0 a : Arena) (map0 map : Map) (s0 s : ℕ) (q : Part) (xs tos : List Part) (i : ℕ) (d : Part) → is_node q ≡ true → Stands a0 q → Unfolds a0 q → Sound a0 map0 → HygienicAt a0 map0 q → xs ≡ parts_at a0 q → i < length xs →
    Rebuilding a0 a map0 map s0 s (rank q) (take i xs) tos → Ready a map (rank q) (slice_index_or xs i d)
ready a0 a map0 map s0 s q xs tos i d n st u snd y e h w =
    let c : Contains (parts_at a0 q) (slice_index_or xs i d) = subst (λ (ys : List Part). Contains ys (slice_index_or xs i d)) e (read_contains xs i d h) in
    let b : StandsBefore a0 (rank q) (slice_index_or xs i d) = part_before a0 q (slice_index_or xs i d) u c in
    record {
      before = b.before;
      stands = stands_more a0 a (slice_index_or xs i d) w.grown b.stands;
      inside = part_inside a0 q (slice_index_or xs i d) n st c;
      sound = w.sound;
      hygienic = hygienic_later a0 a (rank q) map0 map (slice_index_or xs i d) snd w.grown w.visits b.stands (hygienic_part a0 map0 q (slice_index_or xs i d) u y c);
    }

pub one_more : (a0 a b : Arena) (map0 map map' : Map) (s0 s s' : ℕ) (q to : Part) (xs tos tos' : List Part) (i : ℕ) (d : Part) → Unfolds a0 q → xs ≡ parts_at a0 q → i < length xs → tos' ≡ tos ++ to ∷ [] →
    Rebuilding a0 a map0 map s0 s (rank q) (take i xs) tos → Remapped a b map map' s s' (slice_index_or xs i d) to → Rebuilding a0 b map0 map' s0 s' (rank q) (take (i + 1) xs) tos'
one_more a0 a b map0 map map' s0 s s' q to xs tos tos' i d u e h f w r =
    let in_parts : (x : Part) → Contains xs x → Contains (parts_at a0 q) x = λ x c. subst (λ (ys : List Part). Contains ys x) e c in
    let before : StandsBefore a0 (rank q) (slice_index_or xs i d) = part_before a0 q (slice_index_or xs i d) u (in_parts _ (read_contains xs i d h)) in
    let n : Rebuilding a0 b map0 map' s0 s' (rank q) (take i xs ++ slice_index_or xs i d ∷ []) (tos ++ to ∷ []) =
    next_part a0 a b map0 map map' s0 s s' (rank q) (take i xs) tos (slice_index_or xs i d) to w r before.before (λ x c. stands_more a0 a x w.grown (part_before a0 q x u (in_parts x (take_contains xs i x c))).stands) in
    subst (λ (ys : List Part). Rebuilding a0 b map0 map' s0 s' (rank q) (take (i + 1) xs) ys) (sym f)
    (subst (λ (ys : List Part). Rebuilding a0 b map0 map' s0 s' (rank q) ys (tos ++ to ∷ [])) (sym (take_more xs i d h)) n)

-- at the end of the loop
pub all_parts : (a0 a : Arena) (map0 map : Map) (s0 s : ℕ) (q : Part) (xs tos : List Part) (i : ℕ) → xs ≡ parts_at a0 q → length xs ≤ i →
    Rebuilding a0 a map0 map s0 s (rank q) (take i xs) tos → Rebuilding a0 a map0 map s0 s (rank q) (parts_at a0 q) tos
all_parts a0 a map0 map s0 s q xs tos i e h w = subst (λ (ys : List Part). Rebuilding a0 a map0 map s0 s (rank q) ys tos) (take_all i xs h ∙ e) w

-- ## Behind the loop

same_parts : (a0 a : Arena) (q : Part) → Extends a0 a → Stands a0 q → parts_at a0 q ≡ parts_at a q
same_parts a0 a q g st = ap parts_in (sym (slots_stay a0 a q g st))

pub parts_now : (a0 a : Arena) (q : Part) (xs : List Part) → Extends a0 a → Stands a0 q → xs ≡ parts_at a0 q → xs ≡ parts_at a q
parts_now a0 a q xs g st e = e ∙ same_parts a0 a q g st

pub refits_now : (a0 a : Arena) (map0 map : Map) (s0 s : ℕ) (q : Part) (tos : List Part) → is_node q ≡ true → Stands a0 q → Unfolds a0 q → Led (tree_at a0 q) → Sound a0 map0 → HygienicAt a0 map0 q →
    Rebuilding a0 a map0 map s0 s (rank q) (parts_at a0 q) tos → Refits a q tos
refits_now a0 a map0 map s0 s q tos n st u l snd y w =
    let ea : Each (Right a map) (parts_at a q) tos = subst (λ (qs : List Part). Each (Right a map) qs tos) (same_parts a0 a q w.grown st) w.each in
    refits a map q tos n (stands_more a0 a q w.grown st) w.sound (unfolds_later a0 a q st u w.grown) (led_later a0 a q st w.grown l) (hygienic_later a0 a (rank q) map0 map q snd w.grown w.visits st y) ea

pub all_settled : (a0 a b : Arena) (map0 map : Map) (s0 s1 s : ℕ) (q to : Part) (tos : List Part) → entry map0 q ≡ None → is_node q ≡ true → Stands a0 q → Unfolds a0 q → s1 ≡ s0 + 1 →
    Rebuilding a0 a map0 map s1 s (rank q) (parts_at a0 q) tos → Settled a b q tos to → Remapped a0 b map0 (with_visited map q to) s0 s q to
all_settled a0 a b map0 map s0 s1 s q to tos n nd st u e w x =
    let here : Stands a q = stands_more a0 a q w.grown st in
    let n' : entry map q ≡ None = still_none map0 map q w.visits n in
    let ea : Each (Right a map) (parts_at a q) tos = subst (λ (qs : List Part). Each (Right a map) qs tos) (same_parts a0 a q w.grown st) w.each in
    let r : Right b (with_visited map q to) q to = right_settled a b map q to tos here nd w.sound (unfolds_later a0 a q st u w.grown) ea x in
    let whole : Extends a0 b = extends_trans a0 a b w.grown x.grown in
    record {
      grown = whole;
      core = x.core ∙ w.core;
      visits = visits_both (suc (rank q)) map0 map (with_visited map q to)
          (visits_more (length a0.nodes) (length a0.nodes) (rank q) (suc (rank q)) map0 map (omega arith) (omega arith)
          (λ j z. below q z.0 j (stands_more a b q x.grown here) (subst (λ (qs : List Part). Contains qs z.0) (same_parts a0 b q whole st) z.1) (reached_later a b z.0 j x.grown z.2)) w.visits)
          (visits_one (Reached b q) map q to (length a0.nodes) (suc (rank q)) (omega arith) (λ d. omega (arith, settled_fresh a b q tos to x d, longer a0 a w.grown)) (itself q));
      sound = sound_visited a b map q to here nd n' w.sound x.grown x.of_sort (settled_fresh a b q tos to x) r;
      right = r;
      steps = omega (arith, w.steps, length-append map.types (visited_entry q to ∷ []), e);
      nodes = omega (arith, w.nodes, x.nodes, length-append map.types (visited_entry q to ∷ []));
    }
