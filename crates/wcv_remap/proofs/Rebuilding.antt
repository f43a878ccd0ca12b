-- One step of a rebuilding: the parts of a node became others, and the node follows.
use Rattle.std.proofs.Common.{◌≡◌, ℕ, suc, ◌<◌, length, List, [], ◌∷◌, ◌++◌, refl, sym, ◌∙◌, ap, subst, arith, Bool, true, false, not, cond, inl, inr, ⊎_elim, eq-eqb}
use Rattle.std.proofs.lemmas.Bool.{eqb-true}
use Rattle.std.proofs.lemmas.List.Elements.{All-nil, All-cons, Contains-append_left, Contains-push_cases, Contains-push}
use Rattle.std.proofs.lemmas.Map.Views.{Contains-from_lookup}
use Rattle.std.specs.Prelude.{Option, Some, None, All, Contains, option_map}
use Rattle.wcv_core.proofs.Names.{same-refl}
use Rattle.wcv_core.specs.CoreForm.{Group}
use Rattle.wcv_core.specs.Names.{Name, number, same}
use Rattle.wcv_types.proofs.Grown.{extends_refl, stands_more, stands_rank, same_tree}
use Rattle.wcv_types.proofs.Lists.{some-inj}
use Rattle.wcv_types.proofs.SortLaws.{slots_become, made_replaced}
use Rattle.wcv_types.proofs.Unfolding.{sort_of, sort_stands, known_stands}
use Rattle.wcv_types.specs.Arena.{Arena}
use Rattle.wcv_types.specs.Identity.{Identity, of_node, identity_at, same_known}
use Rattle.wcv_types.specs.Led.{HeadLed, Led}
use Rattle.wcv_types.specs.Rebuild.{sort_number, same_sort, SameSorts, refill, HeadCounts, Refits, MadeAgain}
use Rattle.wcv_types.specs.Replacing.{Replacement, changed, changed_in, replaced, replaced_in}
use Rattle.wcv_types.specs.Sets.{same_resource}
use Rattle.wcv_types.specs.Standing.{Stands, Extends, Unfolds, identity_of}
use Rattle.wcv_types.specs.Tree.{Head, nothing, primitive, resource, defined, func, instance, component, type_entity, core_module, core_instance, core_type, core_item, Parts, node, head, is_core_instance, sort_at}
use Rattle.wcv_types.specs.Unfold.{Type_tree, Slots, place, rank, slot_parts, slots_at, parts_at, trees, tree_at}
use Rattle.wcv_types.specs.declared.ids.Part.{Part}
use Rattle.wcv_types.specs.declared.ids.Part.TheVariants as p
use Rattle.wcv_types.specs.declared.ids.ResourceId.{ResourceId}
use Rattle.wcv_remap.specs.Hygiene.{Hygienic}
use Rattle.wcv_remap.specs.Map.{Sent, Map, same_part, is_node, is_type, entry, sent_to, resource_to, or_else, reference_to, goes_to}
use Rattle.wcv_remap.specs.Remap.{EntryServed, Serves, Becomes, Right, Sends, Sound, IsMade, HygienicAt, Reached, Visits, IsInside, Remapped, Each, Settled, any_other}
use Rattle.wcv_remap.proofs.Leading.{head_led}
use Rattle.wcv_remap.proofs.Maps.{visits_none, entry_contains, no_entry, not_given, serves_earlier, right_later, visited_entry, with_visited, visits_one}
use Rattle.wcv_remap.proofs.Parts.{same_part-true, same_part-refl, apart, node_rank, node_type, node_identity, sort_type, one_place, one_identity, type_identity}
use Rattle.wcv_remap.proofs.Slots.{becomes_in, slots_changed, none_other, refill_same, node_changed, node_stays, Stays, module_stays, same_identity-part, given_becomes, reference_becomes}

-- ## What the parts of a node became

each_becomes : (a : Arena) (map : Map) (m : Replacement) (qs tos : List Part) → Serves a map m → Each (Right a map) qs tos → Each (Becomes m a) qs tos
each_becomes a map m [] [] s e = tt
each_becomes a map m (q ∷ qs) (r ∷ rs) s e = (e.0.becomes m s, each_becomes a map m qs rs s e.1)
each_becomes a map m [] (r ∷ rs) s e = absurd e
each_becomes a map m (q ∷ qs) [] s e = absurd e

each_sort : (a : Arena) (map : Map) (qs tos : List Part) → Each (Right a map) qs tos → Each (λ q r. same_sort q r ≡ true) qs tos
each_sort a map [] [] e = tt
each_sort a map (q ∷ qs) (r ∷ rs) e = (e.0.of_sort, each_sort a map qs rs e.1)
each_sort a map [] (r ∷ rs) e = absurd e
each_sort a map (q ∷ qs) [] e = absurd e

same_sorts : (a : Arena) (map : Map) (qs tos : List Part) → Each (Right a map) qs tos → SameSorts qs tos
same_sorts a map [] [] e = tt
same_sorts a map (q ∷ qs) (r ∷ rs) e = (e.0.of_sort, same_sorts a map qs rs e.1)
same_sorts a map [] (r ∷ rs) e = absurd e
same_sorts a map (q ∷ qs) [] e = absurd e

each_stands : (a : Arena) (map : Map) (qs tos : List Part) → Each (Right a map) qs tos → All (Stands a) tos
each_stands a map [] [] e = All-nil (Stands a)
each_stands a map (q ∷ qs) (r ∷ rs) e = All-cons (Stands a) r rs e.0.stands (each_stands a map qs rs e.1)
each_stands a map [] (r ∷ rs) e = absurd e
each_stands a map (q ∷ qs) [] e = absurd e

-- ## The node may be made again

no_counts : (gs : List Group) (h : Head Name Name) (ps : Parts Name Name) → (sort_at h ≡ is_core_instance → ⊥) → HeadCounts gs h ps
no_counts gs (core_instance i n) ps h = absurd (h refl)
no_counts gs nothing ps h = tt
no_counts gs (primitive q) ps h = tt
no_counts gs (resource q t) ps h = tt
no_counts gs (defined i k) ps h = tt
no_counts gs (func i b) ps h = tt
no_counts gs (instance i own) ps h = tt
no_counts gs (component i ins outs) ps h = tt
no_counts gs type_entity ps h = tt
no_counts gs (core_module i n) ps h = tt
no_counts gs (core_type k) ps h = tt
no_counts gs (core_item x) ps h = tt

not_instance : (q : Part) → is_node q ≡ true → sort_of q ≡ is_core_instance → ⊥
not_instance (p.Resource r) h e = cc
not_instance (p.Core i) h e = cc
not_instance (p.Module i) h e = cc
not_instance (p.CoreInstance i) h e = let f = h in cc
not_instance (p.Defined i) h e = cc
not_instance (p.Func i) h e = cc
not_instance (p.Instance i) h e = cc
not_instance (p.Component i) h e = cc

node_counts : (a : Arena) (q : Part) (ps : Parts Name Name) → is_node q ≡ true → Stands a q → HeadCounts a.core (head (tree_at a q)) ps
node_counts a q ps n st = no_counts a.core (head (tree_at a q)) ps (λ e. not_instance q n (sym (sort_stands a q st) ∙ e))

pub refits : (a : Arena) (map : Map) (q : Part) (tos : List Part) → is_node q ≡ true → Stands a q → Sound a map → Unfolds a q → Led (tree_at a q) → HygienicAt a map q → Each (Right a map) (parts_at a q) tos → Refits a q tos
refits a map q tos n st snd u l y e = record {
  same_sorts = same_sorts a map (parts_at a q) tos e;
  stand = each_stands a map (parts_at a q) tos e;
  led =
      let m : Replacement = snd.some.0 in
      let s : Serves a map m = snd.some.1 in
      let h : Head Name Name = head (tree_at a q) in
      let ss : Slots = slots_at a.nodes q in
      let w : Hygienic m (node h (slot_parts (trees a.nodes) ss)) = subst (λ (t : Type_tree). Hygienic m t) u.tree (y m s) in
      let old : Led (node h (slot_parts (trees a.nodes) ss)) = subst Led u.tree l in
      subst (λ (x : Parts Name Name). HeadLed h x) (sym (slots_become a m ss tos (becomes_in m a (parts_at a q) tos (each_becomes a map m (parts_at a q) tos s e)))) (head_led m h (slot_parts (trees a.nodes) ss) w.0 old);
  counts = node_counts a q (slot_parts (trees a.nodes) (refill (slots_at a.nodes q) tos)) n st;
}

-- ## What it becomes

made_apart : (a b : Arena) (q to : Part) (qs : List Part) → Stands a q → MadeAgain a b q qs to → same_part q to ≡ false
made_apart a b q to qs st r = apart q to (omega (arith, stands_rank a q st, r.last))

-- a new id is of a new node
pub settled_fresh : (a b : Arena) (q : Part) (qs : List Part) (to : Part) → Settled a b q qs to → same_part q to ≡ false → length a.nodes < rank to
settled_fresh a b q qs to w d =
    ⊎_elim (λ (v : (any_other (parts_at a q) qs ≡ false) × (to ≡ q)). absurd (no v.1)) (λ (v : (any_other (parts_at a q) qs ≡ true) × MadeAgain a b q qs to). omega (arith, v.1.last)) w.way
  where
    no : to ≡ q → ⊥
    no e = let f : true ≡ false = sym (ap (same_part q) e ∙ same_part-refl q) ∙ d in cc

pub right_settled : (a b : Arena) (map : Map) (q to : Part) (tos : List Part) → Stands a q → is_node q ≡ true → Sound a map → Unfolds a q →
    Each (Right a map) (parts_at a q) tos → Settled a b q tos to → Right b (with_visited map q to) q to
right_settled a b map q to tos st nd snd u e w = record { stands = w.stands; of_sort = w.of_sort; becomes = becomes }
  where
    k : Name
    k = number (place q)

    becomes : (m : Replacement) → Serves b (with_visited map q to) m → Becomes m b q to
    becomes m later =
        let x : Visits (λ r. Unit {0}) (length a.nodes) (suc (rank q)) map (with_visited map q to) = visits_one (λ r. Unit {0}) map q to (length a.nodes) (suc (rank q)) (omega arith) (settled_fresh a b q tos to w) tt in
        let s : Serves a map m = serves_earlier a b (suc (rank q)) map (with_visited map q to) m snd w.grown x later in
        let mine : EntryServed b m q false to = later.entries q (record { to = to; given = false }) (Contains-push map.types (visited_entry q to)) in
        let i : identity_at (head (tree_at a q)) ≡ Some (of_node (number (place q))) = u.known ∙ ap Some (node_identity q nd) in
        let g : m.nodes (of_node (number (place q))) ≡ None = ap m.nodes (sym (node_identity q nd)) ∙ mine.0 in
        let eb : Each (Becomes m a) (parts_at a q) tos = each_becomes a map m (parts_at a q) tos s e in
        let ch : changed_in m (slot_parts (trees a.nodes) (slots_at a.nodes q)) ≡ any_other (parts_at a q) tos = slots_changed m a (slots_at a.nodes q) tos eb in
        let old : tree_at b q ≡ tree_at a q = same_tree a b q w.grown st in
        let c : changed m (tree_at b q) ≡ any_other (parts_at a q) tos =
        ap (changed m) (old ∙ u.tree) ∙ node_changed m (number (place q)) (head (tree_at a q)) (slot_parts (trees a.nodes) (slots_at a.nodes q)) i g ∙ ch in
        ⊎_elim (λ (v : (any_other (parts_at a q) tos ≡ false) × (to ≡ q)). stay eb i g ch old c v) (λ (v : (any_other (parts_at a q) tos ≡ true) × MadeAgain a b q tos to). made eb g ch old c mine.1 v) w.way
      where
        stay : Each (Becomes m a) (parts_at a q) tos → identity_at (head (tree_at a q)) ≡ Some (of_node (number (place q))) → m.nodes (of_node (number (place q))) ≡ None →
            changed_in m (slot_parts (trees a.nodes) (slots_at a.nodes q)) ≡ any_other (parts_at a q) tos → tree_at b q ≡ tree_at a q → changed m (tree_at b q) ≡ any_other (parts_at a q) tos →
            (any_other (parts_at a q) tos ≡ false) × (to ≡ q) → Becomes m b q to
        stay eb i g ch old c v =
            let same : tos ≡ parts_at a q = none_other (parts_at a q) tos (each_sort a map (parts_at a q) tos e) v.0 in
            let r : replaced_in m (slot_parts (trees a.nodes) (slots_at a.nodes q)) ≡ slot_parts (trees a.nodes) (slots_at a.nodes q) =
            sym (slots_become a m (slots_at a.nodes q) tos (becomes_in m a (parts_at a q) tos eb)) ∙
            ap (λ (qs : List Part). slot_parts (trees a.nodes) (refill (slots_at a.nodes q) qs)) same ∙ ap (slot_parts (trees a.nodes)) (refill_same (slots_at a.nodes q)) in
            let t : replaced m (tree_at b q) ≡ tree_at b q =
            ap (replaced m) (old ∙ u.tree) ∙ node_stays m (number (place q)) (head (tree_at a q)) (slot_parts (trees a.nodes) (slots_at a.nodes q)) i g (ch ∙ v.0) r ∙ sym u.tree ∙ sym old in
            record {
              tree = ap (tree_at b) v.1 ∙ sym t;
              another = c ∙ v.0 ∙ ap not (sym (ap (same_part q) v.1 ∙ same_part-refl q));
            }

        made : Each (Becomes m a) (parts_at a q) tos → m.nodes (of_node (number (place q))) ≡ None →
            changed_in m (slot_parts (trees a.nodes) (slots_at a.nodes q)) ≡ any_other (parts_at a q) tos → tree_at b q ≡ tree_at a q → changed m (tree_at b q) ≡ any_other (parts_at a q) tos →
            (same_part q to ≡ false → m.again (number (place q)) ≡ number (place to)) → (any_other (parts_at a q) tos ≡ true) × MadeAgain a b q tos to → Becomes m b q to
        made eb g ch old c again v =
            let d : same_part q to ≡ false = made_apart a b q to tos st v.1 in
            record {
              tree = made_replaced a m b q to tos (number (place q)) u (node_identity q nd) v.1 (again d) g (becomes_in m a (parts_at a q) tos eb) (ch ∙ v.0) ∙ ap (replaced m) (sym old);
              another = c ∙ v.0 ∙ ap not (sym d);
            }

pub settles_same : (a b : Arena) (q : Part) (qs : List Part) → b ≡ a → Stands a q → any_other (parts_at a q) qs ≡ false → Settled a b q qs q
settles_same a b q qs i st e = subst (λ (x : Arena). Settled a x q qs q) (sym i) (record {
  grown = extends_refl a;
  core = refl;
  nodes = omega arith;
  stands = st;
  of_sort = eq-eqb (sort_number q) (sort_number q) refl;
  way = inl (e, refl);
})

pub settles_made : (a b : Arena) (q : Part) (qs : List Part) (to : Part) → any_other (parts_at a q) qs ≡ true → MadeAgain a b q qs to → Settled a b q qs to
settles_made a b q qs to e r = record {
  grown = r.grown;
  core = r.core;
  nodes = omega (arith, r.nodes);
  stands = r.stands;
  of_sort = r.of_sort;
  way = inr (e, r);
}

-- ## One more visited node

-- the same replacement, but for the identity of a node that was made again
abbrev pub with_again : Replacement → Part → Part → Replacement
with_again m q to = record { resources = m.resources; nodes = m.nodes; again = λ i. cond (same i (number (place q))) (number (place to)) (m.again i) }

pub sound_visited : (a b : Arena) (map : Map) (q to : Part) → Stands a q → is_node q ≡ true → entry map q ≡ None → Sound a map → Extends a b →
    same_sort q to ≡ true → (same_part q to ≡ false → length a.nodes < rank to) → Right b (with_visited map q to) q to → Sound b (with_visited map q to)
sound_visited a b map q to st nd n snd k so fresh ri = record {
  some = (with_again snd.some.0 q to, serves);
  resources = λ r x c. omega (arith, snd.resources r x c, k.resources);
  sends = sends;
  visited = visited;
  apart = apart_made;
}
  where
    -- an entry is an old one or the new one
    split : (P : Part → Sent → Type 0) (r : Part) (e : Sent) → Contains (map.types ++ visited_entry q to ∷ []) (r, e) → (Contains map.types (r, e) → P r e) → P q (record { to = to; given = false }) → P r e
    split P r e c old new = ⊎_elim old (λ (w : visited_entry q to ≡ (r, e)). subst (λ (z : Part × Sent). P z.0 z.1) w new) (Contains-push_cases map.types (visited_entry q to) (r, e) c)

    sends : (r : Part) (e : Sent) → Contains (map.types ++ visited_entry q to ∷ []) (r, e) → Sends b r e.to
    sends r e c = split (λ x y. Sends b x y.to) r e c
        (λ w. let v : Sends a r e.to = snd.sends r e w in record { stands = stands_more a b r k v.stands; goes = stands_more a b e.to k v.goes; of_sort = v.of_sort; inside = v.inside })
        (record { stands = stands_more a b q k st; goes = ri.stands; of_sort = so; inside = node_type q nd })

    visited : (r : Part) (e : Sent) → Contains (map.types ++ visited_entry q to ∷ []) (r, e) → e.given ≡ false → (is_node r ≡ true) × Right b (with_visited map q to) r e.to
    visited r e c = split (λ x y. y.given ≡ false → (is_node x ≡ true) × Right b (with_visited map q to) x y.to) r e c
        (λ w g. ((snd.visited r e w g).0, right_later a b (suc (rank q)) map (with_visited map q to) r e.to snd k (visits_one (λ x. Unit {0}) map q to (length a.nodes) (suc (rank q)) (omega arith) fresh tt) (snd.sends r e w).stands (snd.visited r e w g).1))
        (λ g. (nd, ri))

    -- what stood is not the new node
    clash : (r t : Part) (e : Sent) → Contains map.types (r, e) → e.to ≡ t → (x : Part) (f : Sent) → visited_entry q to ≡ (x, f) → f.to ≡ t → same_part x t ≡ false → ⊥
    clash r t e c g x f h g' d =
        let y : q ≡ x = ap (λ (z : Part × Sent). z.0) h in
        let z : to ≡ t = ap (λ (z : Part × Sent). z.1.to) h ∙ g' in
        let d' : same_part q to ≡ false = ap (λ (r : Part). same_part r to) y ∙ ap (same_part x) z ∙ d in
        omega (arith, fresh d', stands_rank a e.to (snd.sends r e c).goes, ap rank (g ∙ sym z))

    apart_made : (r x t : Part) → IsMade (with_visited map q to) r t → IsMade (with_visited map q to) x t → r ≡ x
    apart_made r x t u v =
        ⊎_elim
        (λ (c : Contains map.types (r, u.sent)).
        ⊎_elim
        (λ (d : Contains map.types (x, v.sent)). snd.apart r x t (record { sent = u.sent; there = c; kept = u.kept; goes = u.goes; other = u.other }) (record { sent = v.sent; there = d; kept = v.kept; goes = v.goes; other = v.other }))
        (λ (h : visited_entry q to ≡ (x, v.sent)). absurd (clash r t u.sent c u.goes x v.sent h v.goes v.other)) (Contains-push_cases map.types (visited_entry q to) (x, v.sent) v.there))
        (λ (g : visited_entry q to ≡ (r, u.sent)).
        ⊎_elim (λ (d : Contains map.types (x, v.sent)). absurd (clash x t v.sent d v.goes r u.sent g u.goes u.other))
        (λ (h : visited_entry q to ≡ (x, v.sent)). sym (ap (λ (z : Part × Sent). z.0) g) ∙ ap (λ (z : Part × Sent). z.0) h) (Contains-push_cases map.types (visited_entry q to) (x, v.sent) v.there))
        (Contains-push_cases map.types (visited_entry q to) (r, u.sent) u.there)

    served : (r : Part) (g : Bool) (t : Part) → EntryServed a snd.some.0 r g t → Stands a t → Stands a r → (g ≡ false → (is_node r ≡ true) × (same_part q r ≡ false)) → EntryServed b (with_again snd.some.0 q to) r g t
    served r true t w sr sq x = w ∙ ap Some (sym (same_tree a b t k sr))
    served r false t w sr sq x = (w.0, λ d. other (same (number (place r)) (number (place q))) refl ∙ w.1 d)
      where
        other : (c : Bool) → same (number (place r)) (number (place q)) ≡ c → cond (same (number (place r)) (number (place q))) (number (place to)) (snd.some.0.again (number (place r))) ≡ snd.some.0.again (number (place r))
        other false e = rw e refl
        other true e =
            let f : place r ≡ place q = eqb-true (place r) (place q) e in
            let same_one : q ≡ r = one_place a q r st sq (omega (arith, node_rank q nd)) (omega (arith, node_rank r (x refl).0)) (sym f) in
            let z : true ≡ false = sym (ap (same_part q) (sym same_one) ∙ same_part-refl q) ∙ (x refl).1 in
            cc

    unlike : (r : Part) (e : Sent) → Contains map.types (r, e) → same_part q r ≡ false
    unlike r e c = go (same_part q r) refl
      where
        go : (c : Bool) → same_part q r ≡ c → c ≡ false
        go false h = refl
        go true h = absurd (no_entry map q e n (subst (λ (z : Part). Contains map.types (z, e)) (sym (same_part-true q r h)) c))

    serves : Serves b (with_visited map q to) (with_again snd.some.0 q to)
    serves = record {
      resources = snd.some.1.resources;
      entries = λ r e c. split (λ x y. EntryServed b (with_again snd.some.0 q to) x y.given y.to) r e c
          (λ w. served r e.given e.to (snd.some.1.entries r e w) (snd.sends r e w).goes (snd.sends r e w).stands (λ g. ((snd.visited r e w g).0, unlike r e w)))
          (snd.some.1.others (identity_of q) (not_given a map q snd st (node_type q nd) n), λ d. rw (same-refl (number (place q))) refl);
      others = λ i z. snd.some.1.others i (λ r e c g. z r e (Contains-append_left map.types (visited_entry q to ∷ []) (r, e) c) g);
    }

-- ## What the map has already

-- the entry says where the type goes
right_entry : (a : Arena) (map : Map) (q : Part) (e : Sent) → Sound a map → Contains map.types (q, e) → Right a map q e.to
right_entry a map q e snd c = by_mark e.given refl
  where
    by_mark : (b : Bool) → e.given ≡ b → Right a map q e.to
    by_mark false h = (snd.visited q e c h).1
    by_mark true h =
        let w : Sends a q e.to = snd.sends q e c in
        let t : is_type e.to ≡ true = sort_type q e.to w.inside w.of_sort in
        record {
          stands = w.goes;
          of_sort = w.of_sort;
          becomes = λ m s.
              let v : EntryServed a m q true e.to = subst (λ (b : Bool). EntryServed a m q b e.to) h (s.entries q e c) in
              let x = given_becomes m (tree_at a q) (tree_at a e.to) (identity_of q) (known_stands a q (type_identity q w.inside) w.stands) v in
              record { tree = x.0; another = x.1 ∙ ap (λ (o : Option Identity). not (same_known (Some (identity_of q)) o)) (known_stands a e.to (type_identity e.to t) w.goes) ∙ ap not (same_identity-part q e.to w.inside w.of_sort) };
        }

-- a reference without an entry goes by its resource
right_reference : (a : Arena) (map : Map) (r : _) → Stands a (p.Resource r) → Sound a map → entry map (p.Resource r) ≡ None → Right a map (p.Resource r) (p.Resource (reference_to map r))
right_reference a map r st snd n = record {
  stands = record { resource = within (resource_to map r.resource) refl; stamp = st.stamp };
  of_sort = refl;
  becomes = λ m s.
      let w = reference_becomes m r (resource_to map r.resource) (s.others (identity_of (p.Resource r)) (not_given a map (p.Resource r) snd st refl n)) (s.resources (number r.resource.index)) in
      record { tree = w.0; another = w.1 };
}
  where
    resource_true : (x y : ResourceId) → same_resource x y ≡ true → x ≡ y
    resource_true x y h = let P : ℕ → ResourceId = λ k. record { index = k } in ap P (eqb-true x.index y.index h)

    within : (o : Option ResourceId) → resource_to map r.resource ≡ o → (or_else (resource_to map r.resource) r.resource).index < a.resources
    within None e = omega (arith, st.resource, ap (λ (o : Option ResourceId). (or_else o r.resource).index) e)
    within (Some x) e =
        omega (arith, snd.resources r.resource x (Contains-from_lookup resource_true r.resource x map.resources e), ap (λ (o : Option ResourceId). (or_else o r.resource).index) e)

-- a core module stays
right_module : (a : Arena) (map : Map) (i : _) → Stands a (p.Module i) → Sound a map → Right a map (p.Module i) (p.Module i)
right_module a map i st snd = record {
  stands = st;
  of_sort = refl;
  becomes = λ m s.
      let w : Stays m (tree_at a (p.Module i)) = module_stays a m i st (s.others (of_node (number i.index)) free) in
      record { tree = w.tree; another = w.unchanged ∙ ap not (sym (same_part-refl (p.Module i))) };
}
  where
    free : (r : Part) (e : Sent) → Contains map.types (r, e) → e.given ≡ true → identity_of r ≡ of_node (number i.index) → ⊥
    free r e c g f =
        let o : r ≡ p.Module i = one_identity a r (p.Module i) (snd.sends r e c).stands st (snd.sends r e c).inside tt f in
        let z : false ≡ true = sym (ap is_type o) ∙ (snd.sends r e c).inside in
        cc

sent_right : (a : Arena) (map : Map) (q to : Part) → Sound a map → sent_to map q ≡ Some to → Right a map q to
sent_right a map q to snd g = go (entry map q) refl
  where
    go : (o : Option Sent) → entry map q ≡ o → Right a map q to
    go None e = let z : None ≡ Some to = ap (λ (o : Option Sent). option_map (λ (s : Sent). s.to) o) (sym e) ∙ g in absurd (let f = z in cc)
    go (Some s) e =
        let z : Some s.to ≡ Some to = ap (λ (o : Option Sent). option_map (λ (s : Sent). s.to) o) (sym e) ∙ g in
        subst (Right a map q) (some-inj z) (right_entry a map q s snd (entry_contains map q s e))

reference_right : (a : Arena) (map : Map) (r : _) → Stands a (p.Resource r) → Sound a map → Right a map (p.Resource r) (or_else (sent_to map (p.Resource r)) (p.Resource (reference_to map r)))
reference_right a map r st snd = go (entry map (p.Resource r)) refl
  where
    other : Part
    other = p.Resource (reference_to map r)

    go : (o : Option Sent) → entry map (p.Resource r) ≡ o → Right a map (p.Resource r) (or_else (sent_to map (p.Resource r)) (p.Resource (reference_to map r)))
    go None e = subst (λ (o : Option Sent). Right a map (p.Resource r) (or_else (option_map (λ (s : Sent). s.to) o) (p.Resource (reference_to map r)))) (sym e) (right_reference a map r st snd e)
    go (Some s) e =
        subst (λ (o : Option Sent). Right a map (p.Resource r) (or_else (option_map (λ (s : Sent). s.to) o) (p.Resource (reference_to map r)))) (sym e)
        (right_entry a map (p.Resource r) s snd (entry_contains map (p.Resource r) s e))

-- where the map sends a type that need not be looked at
pub right_found : (a : Arena) (map : Map) (q to : Part) → Stands a q → IsInside q → Sound a map → goes_to map q ≡ Some to → Right a map q to
right_found a map (p.Resource r) to st i snd g = subst (Right a map (p.Resource r)) (some-inj g) (reference_right a map r st snd)
right_found a map (p.Module j) to st i snd g = subst (Right a map (p.Module j)) (some-inj g) (right_module a map j st snd)
right_found a map (p.CoreInstance j) to st i snd g = absurd i
right_found a map (p.Core j) to st i snd g =
    subst (Right a map (p.Core j)) (some-inj g) (record { stands = st; of_sort = refl; becomes = λ m s. record { tree = refl; another = ap not (sym (same_part-refl (p.Core j))) } })
right_found a map (p.Defined j) to st i snd g = sent_right a map (p.Defined j) to snd g
right_found a map (p.Func j) to st i snd g = sent_right a map (p.Func j) to snd g
right_found a map (p.Instance j) to st i snd g = sent_right a map (p.Instance j) to snd g
right_found a map (p.Component j) to st i snd g = sent_right a map (p.Component j) to snd g

pub remapped_found : (a : Arena) (map : Map) (s : ℕ) (q to : Part) (o : Option Part) → Stands a q → IsInside q → Sound a map → o ≡ goes_to map q → o ≡ Some to → Remapped a a map map s s q to
remapped_found a map s q to o st i snd e g = record {
  grown = extends_refl a;
  core = refl;
  visits = visits_none (Reached a q) (length a.nodes) (suc (rank q)) map;
  sound = snd;
  right = right_found a map q to st i snd (sym e ∙ g);
  steps = omega arith;
  nodes = omega arith;
}

-- a type that has to be looked at
pub record IsNew (map : Map) (q : Part) : Type 0 where
  pub absent : entry map q ≡ None
  pub node : is_node q ≡ true

absent_by : (o : Option Sent) → option_map (λ (s : Sent). s.to) o ≡ None → o ≡ None
absent_by None g = refl
absent_by (Some s) g = absurd (let e = g in cc)

not_found : (map : Map) (q : Part) → goes_to map q ≡ None → IsNew map q
not_found map (p.Resource r) g = absurd (let e = g in cc)
not_found map (p.Module j) g = absurd (let e = g in cc)
not_found map (p.CoreInstance j) g = absurd (let e = g in cc)
not_found map (p.Core j) g = absurd (let e = g in cc)
not_found map (p.Defined j) g = record { absent = absent_by (entry map (p.Defined j)) g; node = refl }
not_found map (p.Func j) g = record { absent = absent_by (entry map (p.Func j)) g; node = refl }
not_found map (p.Instance j) g = record { absent = absent_by (entry map (p.Instance j)) g; node = refl }
not_found map (p.Component j) g = record { absent = absent_by (entry map (p.Component j)) g; node = refl }

pub is_new : (map : Map) (q : Part) (o : Option Part) → o ≡ goes_to map q → o ≡ None → IsNew map q
is_new map q o e n = not_found map q (sym e ∙ n)
