-- Sets of what types need to be named.
use Rattle.std.proofs.Common.{◌≡◌, ℕ, suc, ◌+◌, ◌<◌, ◌≤◌, List, [], ◌∷◌, ◌++◌, length, drop, drop-cons, get_or, refl, sym, ◌∙◌, ap, subst, append_assoc, add-one, Bool, true, false, ◌&&◌, ◌||◌, cond, eqb, Some, None}
use Rattle.std.specs.Prelude.{Option, slice_get}
use Rattle.std.specs.Map.{lookup}
use Rattle.std.proofs.lemmas.Bool.{false≢true}
use Rattle.std.proofs.lemmas.List.Elements.{All-nil, All-weaker}
use Rattle.std.proofs.lemmas.Option.{slice_get_within, get_or_from_slice_get}
use Rattle.std.proofs.Math.Dec.{eqb-suc-zero}
use Rattle.std.proofs.Math.ListN.{drop_of_length-le}
use Rattle.wcv_core.specs.Names.{Name}
use Rattle.wcv_core.proofs.Names.{and_left, and_right}
use Rattle.wcv_types.specs.Arena.{Arena}
use Rattle.wcv_types.specs.Entities.{any_part, entity_tree, EntityStands}
use Rattle.wcv_types.specs.Identity.{Identity, identity_at, same_identity}
use Rattle.wcv_types.specs.Named.{is_in, is_named, with_identity, with_created, passes, all_pass}
use Rattle.wcv_types.specs.NamedBySet.{with_created_type}
use Rattle.wcv_walks.specs.Needing.{are_in, beside, with_beyond, Needs, AllNeeded, AllSeen}
use Rattle.wcv_types.specs.Sets.{has_place, with_place, with_set, same_type, has_type, with_type, AllStand, identities}
use Rattle.wcv_types.specs.Standing.{Stands, identity_of}
use Rattle.wcv_types.specs.Tree.{Text, export, type_entity, Tree, node, head, created}
use Rattle.wcv_types.specs.Unfold.{Type_tree, entry_slots, slot_parts, trees, tree_at, tree_in, unfolded}
use Rattle.wcv_types.specs.declared.arena.Node.TheVariants as n
use Rattle.wcv_types.specs.declared.ids.ComponentAnyTypeId.{ComponentAnyTypeId}
use Rattle.wcv_types.specs.declared.ids.ComponentInstanceTypeId.{ComponentInstanceTypeId}
use Rattle.wcv_types.specs.declared.ids.Part.TheVariants as p
use Rattle.wcv_types.specs.declared.instance_type.ComponentInstanceType.{ComponentInstanceType}
use Rattle.wcv_types.specs.declared.item_map.ComponentItem.{ComponentItem}
use Rattle.wcv_types.specs.declared.shapes.ComponentEntityType.{ComponentEntityType}
use Rattle.wcv_types.proofs.NamedBySet.{in_set, and_true}
use Rattle.wcv_walks.proofs.NamedExports.{or_true, or_swap, SameMembers, same_identities, with_type_stands, created_stands, created_members, all_pass_by, is_named_more, with_created_more}
use Rattle.wcv_types.proofs.Placed.{place_found, place_put, placed_found, placed_put}

-- ## Two tests

or_assoc : (a b c : Bool) → (a || (b || c)) ≡ ((a || b) || c)
or_assoc true b c = refl
or_assoc false b c = refl

or_false : (b : Bool) → (b || false) ≡ b
or_false true = refl
or_false false = refl

and_assoc : (a b c : Bool) → (a && (b && c)) ≡ ((a && b) && c)
and_assoc true b c = refl
and_assoc false b c = refl

and_again : (p r : Bool) → (p && r) ≡ ((p && r) && p)
and_again true true = refl
and_again true false = refl
and_again false r = refl

and_held : (p r : Bool) → (p ≡ true → r ≡ true) → p ≡ (p && r)
and_held true r h = sym (h refl)
and_held false r h = refl

-- ## Members

is_in-append : (xs ys : List Identity) (i : Identity) → is_in (xs ++ ys) i ≡ (is_in xs i || is_in ys i)
is_in-append [] ys i = refl
is_in-append (x ∷ xs) ys i = ap (λ (b : Bool). same_identity i x || b) (is_in-append xs ys i) ∙ or_assoc (same_identity i x) (is_in xs i) (is_in ys i)

abbrev of : ComponentAnyTypeId → Identity
of c = identity_of (any_part c)

-- ## Sets that are among identities

pushed_among : (ids : List Identity) (xs : List ComponentAnyTypeId) (c : ComponentAnyTypeId) → are_in ids (identities (xs ++ c ∷ [])) ≡ (are_in ids (identities xs) && is_in ids (identity_of (any_part c)))
pushed_among ids [] c = and_true (is_in ids (of c))
pushed_among ids (x ∷ xs) c = ap (λ (b : Bool). is_in ids (of x) && b) (pushed_among ids xs c) ∙ and_assoc (is_in ids (of x)) (are_in ids (identities xs)) (is_in ids (of c))

held_among : (ids : List Identity) (xs : List ComponentAnyTypeId) (c : ComponentAnyTypeId) → has_type xs c ≡ true → are_in ids (identities xs) ≡ (are_in ids (identities xs) && is_in ids (identity_of (any_part c)))
held_among ids [] c h = absurd (false≢true h)
held_among ids (x ∷ xs) c h = go (same_type c x) (λ w. held_among ids xs c w) refl
  where
    go : (b : Bool) → (has_type xs c ≡ true → are_in ids (identities xs) ≡ (are_in ids (identities xs) && is_in ids (of c))) → same_type c x ≡ b → are_in ids (identities (x ∷ xs)) ≡ (are_in ids (identities (x ∷ xs)) && is_in ids (of c))
    go true f s =
        and_again (is_in ids (of x)) (are_in ids (identities xs)) ∙
        ap (λ (i : Identity). (is_in ids (of x) && are_in ids (identities xs)) && is_in ids i) (sym (same_identities c x s))
    go false f s =
        ap (λ (b : Bool). is_in ids (of x) && b) (f (sym (ap (λ (b : Bool). b || has_type xs c) s) ∙ h)) ∙
        and_assoc (is_in ids (of x)) (are_in ids (identities xs)) (is_in ids (of c))

with_type_among : (ids : List Identity) (xs : List ComponentAnyTypeId) (c : ComponentAnyTypeId) → are_in ids (identities (with_type xs c)) ≡ (are_in ids (identities xs) && is_in ids (identity_of (any_part c)))
with_type_among ids xs c = go (has_type xs c) refl
  where
    go : (b : Bool) → has_type xs c ≡ b → are_in ids (identities (cond b xs (xs ++ c ∷ []))) ≡ (are_in ids (identities xs) && is_in ids (of c))
    go true e = held_among ids xs c e
    go false e = pushed_among ids xs c

-- ## What is needed

module _ (a : Arena) where
  pub needs_nothing : (f : List Identity → Bool) (xs : List ComponentAnyTypeId) → AllStand a xs → ((ids : List Identity) → f ids ≡ true) → Needs a f xs xs
  needs_nothing f xs h t = record {
    stand = h;
    same = λ ids. sym (ap (λ (b : Bool). are_in ids (identities xs) && b) (t ids) ∙ and_true (are_in ids (identities xs)));
  }

  -- the same, said in other words
  pub needs_as : (f g : List Identity → Bool) (old new : List ComponentAnyTypeId) → ((ids : List Identity) → f ids ≡ g ids) → Needs a f old new → Needs a g old new
  needs_as f g old new e w = record { stand = w.stand; same = λ ids. w.same ids ∙ ap (λ (b : Bool). are_in ids (identities old) && b) (e ids) }

  -- ## One type

  needs_push : (c : ComponentAnyTypeId) (old : List ComponentAnyTypeId) → AllStand a old → Stands a (any_part c) → Needs a (λ ids. is_in ids (identity_of (any_part c))) old (with_type old c)
  needs_push c old h s = record { stand = with_type_stands a old c h s; same = λ ids. with_type_among ids old c }

  module _ (c : ComponentAnyTypeId) (cr : List ComponentAnyTypeId) (old : List ComponentAnyTypeId) (s : Stands a (any_part c)) (made : AllStand a cr) (h : AllStand a old) where
    pub beyond_needs : (new : List ComponentAnyTypeId) → new ≡ with_beyond cr old c → Needs a (λ ids. is_in (ids ++ identities cr) (identity_of (any_part c))) old new
    beyond_needs new is = subst (λ (xs : List ComponentAnyTypeId). Needs a (λ ids. is_in (ids ++ identities cr) (of c)) old xs) (sym is) (go (has_type cr c) refl)
      where
        held : (ids : List Identity) → is_in (ids ++ identities cr) (of c) ≡ (is_in ids (of c) || has_type cr c)
        held ids = is_in-append ids (identities cr) (of c) ∙ ap (λ (b : Bool). is_in ids (of c) || b) (sym (in_set a c s cr made))

        go : (b : Bool) → has_type cr c ≡ b → Needs a (λ ids. is_in (ids ++ identities cr) (of c)) old (cond b old (with_type old c))
        go true e = needs_nothing (λ ids. is_in (ids ++ identities cr) (of c)) old h
            (λ ids. held ids ∙ ap (λ (b : Bool). is_in ids (of c) || b) e ∙ or_true (is_in ids (of c)))
        go false e =
            needs_as (λ ids. is_in ids (of c)) (λ ids. is_in (ids ++ identities cr) (of c)) old (with_type old c)
            (λ ids. sym (held ids ∙ ap (λ (b : Bool). is_in ids (of c) || b) e ∙ or_false (is_in ids (of c)))) (needs_push c old h s)

    pub unnamed_needs : (set new : List ComponentAnyTypeId) → AllStand a set → new ≡ cond (has_type set c) old (with_beyond cr old c) → Needs a (λ ids. is_in (beside ids cr set) (identity_of (any_part c))) old new
    unnamed_needs set new named is = subst (λ (xs : List ComponentAnyTypeId). Needs a (λ ids. is_in (beside ids cr set) (of c)) old xs) (sym is) (go (has_type set c) refl)
      where
        held : (ids : List Identity) → is_in (beside ids cr set) (of c) ≡ (is_in (ids ++ identities cr) (of c) || has_type set c)
        held ids =
            ap (λ (xs : List Identity). is_in xs (of c)) (sym (append_assoc ids (identities cr) (identities set))) ∙ is_in-append (ids ++ identities cr) (identities set) (of c) ∙
            ap (λ (b : Bool). is_in (ids ++ identities cr) (of c) || b) (sym (in_set a c s set named))

        go : (b : Bool) → has_type set c ≡ b → Needs a (λ ids. is_in (beside ids cr set) (of c)) old (cond b old (with_beyond cr old c))
        go true e = needs_nothing (λ ids. is_in (beside ids cr set) (of c)) old h
            (λ ids. held ids ∙ ap (λ (b : Bool). is_in (ids ++ identities cr) (of c) || b) e ∙ or_true (is_in (ids ++ identities cr) (of c)))
        go false e =
            needs_as (λ ids. is_in (ids ++ identities cr) (of c)) (λ ids. is_in (beside ids cr set) (of c)) old (with_beyond cr old c)
            (λ ids. sym (held ids ∙ ap (λ (b : Bool). is_in (ids ++ identities cr) (of c) || b) e ∙ or_false (is_in (ids ++ identities cr) (of c)))) (beyond_needs (with_beyond cr old c) refl)

  -- ## One after another

  -- of a whole, the rest is still to be gone through
  pub record Left (whole rest : List Identity → Bool) (old new : List ComponentAnyTypeId) : Type 0 where
    pub stand : AllStand a new
    pub same : (ids : List Identity) → (are_in ids (identities old) && whole ids) ≡ (are_in ids (identities new) && rest ids)

  pub all_left_to_do : (f : List Identity → Bool) (old : List ComponentAnyTypeId) → AllStand a old → Left f f old old
  all_left_to_do f old h = record { stand = h; same = λ ids. refl }

  pub one_done : (whole rest f less : List Identity → Bool) (old mid new : List ComponentAnyTypeId) → Left whole rest old mid → Needs a f mid new → ((ids : List Identity) → rest ids ≡ (f ids && less ids)) → Left whole less old new
  one_done whole rest f less old mid new l w e = record {
    stand = w.stand;
    same = λ ids. l.same ids ∙ ap (λ (b : Bool). are_in ids (identities mid) && b) (e ids) ∙ and_assoc (are_in ids (identities mid)) (f ids) (less ids) ∙ ap (λ (b : Bool). b && less ids) (sym (w.same ids));
  }

  pub none_left : (whole rest : List Identity → Bool) (old new : List ComponentAnyTypeId) → Left whole rest old new → ((ids : List Identity) → rest ids ≡ true) → Needs a whole old new
  none_left whole rest old new l e = record {
    stand = l.stand;
    same = λ ids. sym (l.same ids ∙ ap (λ (b : Bool). are_in ids (identities new) && b) (e ids) ∙ and_true (are_in ids (identities new)));
  }

  -- the last one
  pub last_done : (whole rest : List Identity → Bool) (old mid new : List ComponentAnyTypeId) → Left whole rest old mid → Needs a rest mid new → Needs a whole old new
  last_done whole rest old mid new l w = record { stand = w.stand; same = λ ids. w.same ids ∙ sym (l.same ids) }

  -- ## Nodes that were seen

  module _ (cr set : List ComponentAnyTypeId) where
    abbrev Seen : List ComponentAnyTypeId → ℕ → Type 0
    Seen xs k = (ids : List Identity) → are_in ids (identities xs) ≡ true → is_named (beside ids cr set) (tree_in (trees a.nodes) k) ≡ true

    pub none_seen : (xs : List ComponentAnyTypeId) (ks : List ℕ) → ks ≡ [] → AllSeen a cr set xs ks
    none_seen xs ks e = subst (λ (js : List ℕ). AllSeen a cr set xs js) (sym e) (All-nil (Seen xs))

    pub seen_needs : (xs : List ComponentAnyTypeId) (ks : List ℕ) (k : ℕ) → AllStand a xs → AllSeen a cr set xs ks → has_place ks k ≡ true → Needs a (λ ids. is_named (beside ids cr set) (tree_in (trees a.nodes) k)) xs xs
    seen_needs xs ks k s h e = record { stand = s; same = λ ids. and_held (are_in ids (identities xs)) (is_named (beside ids cr set) (tree_in (trees a.nodes) k)) (place_found (Seen xs) ks k h e ids) }

    pub seen_kept : (f : List Identity → Bool) (old new : List ComponentAnyTypeId) (ks : List ℕ) → Needs a f old new → AllSeen a cr set old ks → AllSeen a cr set new ks
    seen_kept f old new ks w h = All-weaker (Seen old) (Seen new) (λ k g ids e. g ids (and_left (are_in ids (identities old)) (f ids) (sym (w.same ids) ∙ e))) ks h

    pub seen_push : (old new : List ComponentAnyTypeId) (ks : List ℕ) (k : ℕ) → Needs a (λ ids. is_named (beside ids cr set) (tree_in (trees a.nodes) k)) old new → AllSeen a cr set new ks → AllSeen a cr set new (with_place ks k)
    seen_push old new ks k w h =
        place_put (Seen new) ks k h (λ ids e. and_right (are_in ids (identities old)) (is_named (beside ids cr set) (tree_in (trees a.nodes) k)) (sym (w.same ids) ∙ e))

  -- ## All of a set

  -- what is at a position stands
  pub stands_at : (xs : List ComponentAnyTypeId) (k : ℕ) (c : ComponentAnyTypeId) → AllStand a xs → slice_get xs k ≡ Some c → Stands a (any_part c)
  stands_at xs k c h e = subst (λ (x : ComponentAnyTypeId). Stands a (any_part x)) (get_or_from_slice_get xs k c c e) (h k c (slice_get_within xs k c e))

  module _ (xs cr : List ComponentAnyTypeId) where
    -- those from the k-th on
    abbrev pub among_from : ℕ → List Identity → Bool
    among_from k ids = are_in (ids ++ identities cr) (identities (drop k xs))

    pub among_next : (k : ℕ) (c : ComponentAnyTypeId) → slice_get xs k ≡ Some c → (ids : List Identity) → among_from k ids ≡ (is_in (ids ++ identities cr) (identity_of (any_part c)) && among_from (k + 1) ids)
    among_next k c e ids =
        ap (λ (ys : List ComponentAnyTypeId). are_in (ids ++ identities cr) (identities ys))
        (drop-cons xs k c (slice_get_within xs k c e) ∙ ap (λ (y : ComponentAnyTypeId). y ∷ drop (suc k) xs) (get_or_from_slice_get xs k c c e) ∙ ap (λ (j : ℕ). c ∷ drop j xs) (sym (add-one k)))

    pub among_all : (k : ℕ) → length xs ≤ k → (ids : List Identity) → among_from k ids ≡ true
    among_all k h ids = ap (λ (ys : List ComponentAnyTypeId). are_in (ids ++ identities cr) (identities ys)) (drop_of_length-le xs h)

  -- ## Sets that are known

  module _ (set : List ComponentAnyTypeId) where
    abbrev Known : ℕ × List ComponentAnyTypeId → Type 0
    Known k = Needs a (λ ids. passes (ids ++ identities set) (tree_in (trees a.nodes) k.0)) [] k.1

    pub known_needs : (ks : List (ℕ × List ComponentAnyTypeId)) (k : ℕ) (xs : List ComponentAnyTypeId) → AllNeeded a set ks → lookup (eqb k) ks ≡ Some xs →
        Needs a (λ ids. passes (ids ++ identities set) (tree_in (trees a.nodes) k)) [] xs
    known_needs ks k xs h e = placed_found Known ks k xs h e

    pub known_put : (ks : List (ℕ × List ComponentAnyTypeId)) (k : ℕ) (xs : List ComponentAnyTypeId) → AllNeeded a set ks → Needs a (λ ids. passes (ids ++ identities set) (tree_in (trees a.nodes) k)) [] xs →
        AllNeeded a set (with_set ks k xs)
    known_put ks k xs h g = placed_put Known ks k xs h g

    -- what a type needs, but for what was created
    pub needs_more : (t : Type_tree) (cr more old new : List ComponentAnyTypeId) → Needs a (λ ids. passes (ids ++ identities set) t) [] more → Needs a (λ ids. are_in (ids ++ identities cr) (identities more)) old new →
        Needs a (λ ids. passes (beside ids cr set) t) old new
    needs_more t cr more old new w n =
        needs_as (λ ids. are_in (ids ++ identities cr) (identities more)) (λ ids. passes (beside ids cr set) t) old new
        (λ ids. w.same (ids ++ identities cr) ∙ ap (λ (xs : List Identity). passes xs t) (append_assoc ids (identities cr) (identities set))) n

  -- ## One export after another

  in_middle : (xs ys zs : List Identity) (i : Identity) → is_in (xs ++ (ys ++ zs)) i ≡ (is_in xs i || (is_in ys i || is_in zs i))
  in_middle xs ys zs i = is_in-append xs (ys ++ zs) i ∙ ap (λ (b : Bool). is_in xs i || b) (is_in-append ys zs i)

  middle_id : (xs ys zs : List Identity) (o : Option Identity) (i : Identity) → is_in (with_identity o (xs ++ (ys ++ zs))) i ≡ (is_in xs i || (is_in (with_identity o ys) i || is_in zs i))
  middle_id xs ys zs None i = in_middle xs ys zs i
  middle_id xs ys zs (Some j) i =
      ap (λ (b : Bool). same_identity i j || b) (in_middle xs ys zs i) ∙
      or_swap (same_identity i j) (is_in xs i) (is_in ys i || is_in zs i) ∙
      ap (λ (b : Bool). is_in xs i || b) (or_assoc (same_identity i j) (is_in ys i) (is_in zs i))

  middle : (xs ys zs : List Identity) (t : Tree Name Name) (i : Identity) → is_in (with_created (xs ++ (ys ++ zs)) t) i ≡ (is_in xs i || (is_in (with_created ys t) i || is_in zs i))
  middle xs ys zs (node type_entity ps) i = middle_id xs ys zs (identity_at (head (created (node type_entity ps)))) i
  middle xs ys zs (node x ps) i = in_middle xs ys zs i

  created_beside : (ids : List Identity) (cr set : List ComponentAnyTypeId) (ty : ComponentEntityType) → EntityStands a ty →
      SameMembers (with_created (beside ids cr set) (entity_tree (trees a.nodes) ty)) (beside ids (with_created_type cr ty) set)
  created_beside ids cr set ty s i =
      middle ids (identities cr) (identities set) (entity_tree (trees a.nodes) ty) i ∙
      ap (λ (b : Bool). is_in ids i || (b || is_in (identities set) i)) (sym (created_members a cr ty s i)) ∙
      sym (in_middle ids (identities (with_created_type cr ty)) (identities set) i)

  -- what was seen is named beside more, too
  pub seen_beside : (cr set xs : List ComponentAnyTypeId) (ks : List ℕ) (ty : ComponentEntityType) (more : List ComponentAnyTypeId) → more ≡ with_created_type cr ty → EntityStands a ty → AllSeen a cr set xs ks → AllSeen a more set xs ks
  seen_beside cr set xs ks ty more m s h =
      subst (λ (ys : List ComponentAnyTypeId). AllSeen a ys set xs ks) (sym m)
      (All-weaker (Seen cr set xs) (Seen (with_created_type cr ty) set xs)
      (λ k g ids e. is_named_more (beside ids cr set) (beside ids (with_created_type cr ty) set) (tree_in (trees a.nodes) k)
      (λ i w. sym (created_beside ids cr set ty s i) ∙ with_created_more (beside ids cr set) (entity_tree (trees a.nodes) ty) i w) (g ids e))
      ks h)

  module _ (set : List ComponentAnyTypeId) (es : List (Text × ComponentItem)) where
    -- whether those from the k-th on pass, where these were created before
    abbrev pub passing_from : List ComponentAnyTypeId → ℕ → List Identity → Bool
    passing_from cr k ids = all_pass (beside ids cr set) (slot_parts (trees a.nodes) (entry_slots export (drop k es)))

    passing_next : (cr : List ComponentAnyTypeId) (k : ℕ) (e : Text × ComponentItem) → k < length es → e ≡ get_or es k e → EntityStands a e.1.ty → (ids : List Identity) →
        passing_from cr k ids ≡ (passes (beside ids cr set) (entity_tree (trees a.nodes) e.1.ty) && passing_from (with_created_type cr e.1.ty) (k + 1) ids)
    passing_next cr k e w is s ids =
        ap (λ ds. all_pass (beside ids cr set) (slot_parts (trees a.nodes) (entry_slots export ds)))
        (drop-cons es k e w ∙ ap (λ (d : Text × ComponentItem). d ∷ drop (suc k) es) (sym is) ∙ ap (λ (j : ℕ). e ∷ drop j es) (sym (add-one k))) ∙
        ap (λ (b : Bool). passes (beside ids cr set) (entity_tree (trees a.nodes) e.1.ty) && b)
        (all_pass_by (with_created (beside ids cr set) (entity_tree (trees a.nodes) e.1.ty)) (beside ids (with_created_type cr e.1.ty) set) (slot_parts (trees a.nodes) (entry_slots export (drop (k + 1) es))) (created_beside ids cr set e.1.ty s))

    -- those before the k-th are gone through, and these were created by them
    pub record GoneThrough (k : ℕ) (cr needed : List ComponentAnyTypeId) : Type 0 where
      pub created : AllStand a cr
      pub left : Left (passing_from [] 0) (passing_from cr k) [] needed

    pub none_gone : (cr needed : List ComponentAnyTypeId) → cr ≡ [] → needed ≡ [] → GoneThrough 0 cr needed
    none_gone cr needed c e =
        subst (λ (xs : List ComponentAnyTypeId). GoneThrough 0 xs needed) (sym c) (subst (λ (xs : List ComponentAnyTypeId). GoneThrough 0 [] xs) (sym e)
        record { created = All-nil (λ c. Stands a (any_part c)); left = all_left_to_do (passing_from [] 0) [] (All-nil (λ c. Stands a (any_part c))) })

    pub one_gone : (k : ℕ) (e : Text × ComponentItem) (cr more mid new : List ComponentAnyTypeId) → k < length es → e ≡ get_or es k e → EntityStands a e.1.ty → GoneThrough k cr mid →
        Needs a (λ ids. passes (beside ids cr set) (entity_tree (trees a.nodes) e.1.ty)) mid new → more ≡ with_created_type cr e.1.ty → GoneThrough (k + 1) more new
    one_gone k e cr more mid new w is s g n m =
        subst (λ (xs : List ComponentAnyTypeId). GoneThrough (k + 1) xs new) (sym m) record {
          created = created_stands a cr e.1.ty g.created s;
          left = one_done (passing_from [] 0) (passing_from cr k) (λ ids. passes (beside ids cr set) (entity_tree (trees a.nodes) e.1.ty)) (passing_from (with_created_type cr e.1.ty) (k + 1)) [] mid new g.left n (passing_next cr k e w is s);
        }

    pub all_gone : (k : ℕ) (cr needed : List ComponentAnyTypeId) → length es ≤ k → GoneThrough k cr needed → Needs a (λ ids. all_pass (ids ++ identities set) (slot_parts (trees a.nodes) (entry_slots export es))) [] needed
    all_gone k cr needed h g =
        none_left (passing_from [] 0) (passing_from cr k) [] needed g.left
        (λ ids. ap (λ ds. all_pass (beside ids cr set) (slot_parts (trees a.nodes) (entry_slots export ds))) (drop_of_length-le es h))

nothing_needed : (xs : List ComponentAnyTypeId) → eqb (length xs) 0 ≡ are_in [] (identities xs)
nothing_needed [] = refl
nothing_needed (x ∷ xs) = eqb-suc-zero (length xs)

-- a type passes where it needs nothing
pub passes_where_none : (a : Arena) (t : Type_tree) (set cr old new : List ComponentAnyTypeId) → cr ≡ [] → old ≡ [] → Needs a (λ ids. passes (beside ids cr set) t) old new → eqb (length new) 0 ≡ passes (identities set) t
passes_where_none a t set cr old new c o w = nothing_needed new ∙ w.same [] ∙ (λ j. are_in [] (identities (o j)) && passes (beside [] (c j) set) t)

-- an instance type needs what its exports need
pub instance_needs : (a : Arena) (set : List ComponentAnyTypeId) (id : ComponentInstanceTypeId) (s : ComponentInstanceType) (es : List (Text × ComponentItem)) (more : List ComponentAnyTypeId) → tree_at a (p.Instance id) ≡ unfolded a id.index (n.Instance s) → es ≡ s.exports →
    Needs a (λ ids. all_pass (ids ++ identities set) (slot_parts (trees a.nodes) (entry_slots export es))) [] more → Needs a (λ ids. passes (ids ++ identities set) (tree_at a (p.Instance id))) [] more
instance_needs a set id s es more u e w =
    needs_as a (λ ids. all_pass (ids ++ identities set) (slot_parts (trees a.nodes) (entry_slots export es))) (λ ids. passes (ids ++ identities set) (tree_at a (p.Instance id))) [] more
    (λ ids. ap (λ ds. all_pass (ids ++ identities set) (slot_parts (trees a.nodes) (entry_slots export ds))) e ∙ sym (ap (passes (ids ++ identities set)) u)) w
