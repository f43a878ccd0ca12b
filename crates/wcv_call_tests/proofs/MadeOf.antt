-- What types are made of, as more of them join the arena.
use Rattle.std.proofs.Common.{◌≡◌, ℕ, zero, suc, ◌+◌, ◌<◌, List, [], ◌∷◌, ◌++◌, false, length, length-append, get_or, refl, sym, ◌∙◌, ap, subst, arith, ◌⊎◌, inl, inr}
use Rattle.std.specs.Prelude.{slice_get, None, All, Contains, Vec}
use Rattle.std.specs.declared.alloc.Global.{Global}
use Rattle.std.proofs.lemmas.Bool.{false≢true}
use Rattle.std.proofs.lemmas.List.Elements.{All-nil, All-cons, Contains-append_right}
use Rattle.std.proofs.lemmas.Option.{slice_get-get_or}
use Rattle.std.proofs.Math.Seq.{get_or-append_seam}
use Rattle.wcv_core.specs.CoreGroups.{total}
use Rattle.wcv_core.specs.CoreSizes.{IsEntityWithin}
use Rattle.wcv_types.specs.Arena.{Arena}
use Rattle.wcv_types.specs.Rebuild.{slots_by, tuple_value}
use Rattle.wcv_types.specs.Replacing.{Replacement, SparesOwn, SparesOwnIn}
use Rattle.wcv_types.specs.Standing.{Extends, Fits, GaveResource, Stands, with_node}
use Rattle.wcv_types.specs.Tree.{Text, label, here}
use Rattle.wcv_types.specs.Unfold.{Slots, at, leaf, field_slots, option_slot, parts_at, parts_in, parts_of, rank, slot_parts, slots_at, slots_if, slots_of, tree_at, tree_of, trees}
use Rattle.wcv_types.specs.declared.arena.Node.{Node}
use Rattle.wcv_types.specs.declared.arena.Node.TheVariants as n
use Rattle.wcv_types.specs.declared.ids.AliasableResourceId.{AliasableResourceId}
use Rattle.wcv_types.specs.declared.ids.ComponentDefinedTypeId.{ComponentDefinedTypeId}
use Rattle.wcv_types.specs.declared.ids.ComponentFuncTypeId.{ComponentFuncTypeId}
use Rattle.wcv_types.specs.declared.ids.Part.{Part}
use Rattle.wcv_types.specs.declared.ids.Part.TheVariants as p
use Rattle.wcv_types.specs.declared.ids.ResourceId.{ResourceId}
use Rattle.wcv_types.specs.declared.shapes.ComponentDefinedType.{ComponentDefinedType}
use Rattle.wcv_types.specs.declared.shapes.ComponentDefinedType.TheVariants as d
use Rattle.wcv_types.specs.declared.shapes.ComponentFuncType.{ComponentFuncType}
use Rattle.wcv_types.specs.declared.shapes.ComponentValType.{ComponentValType}
use Rattle.wcv_types.specs.declared.shapes.ComponentValType.TheVariants as v
use Rattle.wcv_types.proofs.Grown.{extends_push, more_given, same_tree, stands_more}
use Rattle.wcv_remap.specs.Map.{Sent}
use Rattle.wcv_remap.specs.Remap.{Reached, itself, below, ReachedFrom}
use Rattle.wcv_remap.proofs.Parts.{slots_stay}
use Rattle.wcv_call_tests.specs.MadeOf.{IsMadeOf}

-- ## Lists

only : {X : Type 0} (x y : X) → Contains (x ∷ []) y → x ≡ y
only x y (zero, l, e) = e
only x y (suc k, l, e) = absurd (omega (arith, l))

only_twice : (q r : Part) → Contains (q ∷ q ∷ []) r → q ≡ r
only_twice q r (zero, l, e) = e
only_twice q r (suc k, l, e) = only q r (k, omega (arith, l), e)

none_in : {X : Type 0} (x : X) → Contains [] x → ⊥
none_in x (k, l, e) = absurd (omega (arith, l))

first : (q : Part) (qs : List Part) → Contains (q ∷ qs) q
first q qs = (zero, omega arith, refl)

either : (q r : Part) (qs : List Part) → Contains (q ∷ qs) r → (q ≡ r) ⊎ Contains qs r
either q r qs (zero, l, e) = inl e
either q r qs (suc k, l, e) = inr (k, omega (arith, l), e)

-- ## In an arena that grew

abbrev pub later : (a b : Arena) (n : ℕ) (q : Part) → Extends a b → IsMadeOf a n q → IsMadeOf b n q
later a b n q e h = record {
  types = h.types;
  count = h.count;
  itself = h.itself;
  stand = λ r c. stands_more a b r e (h.stand r c);
  closed = λ r s c k. h.closed r s c (subst (λ (ss : Slots). Contains (parts_in ss) s) (slots_stay a b r e (h.stand r c)) k);
  spares = λ m. subst (SparesOwn m) (sym (same_tree a b q e (h.stand q h.itself))) (h.spares m);
}

-- ## What is reached

reached_in : (a : Arena) (n : ℕ) (q : Part) (h : IsMadeOf a n q) (r k : Part) → Contains h.types r → Reached a r k → Contains h.types k
reached_in a n q h r k c (itself _) = c
reached_in a n q h r k c (below _ s _ st o w) = reached_in a n q h s k (h.closed r s c o) w

pub reached_among : (a : Arena) (n : ℕ) (q : Part) (h : IsMadeOf a n q) (k : Part) → ReachedFrom a (q ∷ []) k → Contains h.types k
reached_among a n q h k w = reached_in a n q h w.0 k (subst (Contains h.types) (only q w.0 w.1) h.itself) w.2

-- ## A resource alone

pub of_resource : (a : Arena) (r : AliasableResourceId) → Stands a (p.Resource r) → IsMadeOf a 1 (p.Resource r)
of_resource a r st = record {
  types = p.Resource r ∷ [];
  count = refl;
  itself = first (p.Resource r) [];
  stand = λ s c. subst (Stands a) (only (p.Resource r) s c) st;
  closed = λ s t c o. absurd (none_in t (subst (λ (x : Part). Contains (parts_at a x) t) (sym (only (p.Resource r) s c)) o));
  spares = λ m. (λ q o. absurd (false≢true o), tt);
}

-- ## One more node

-- over the parts of one type alone
module _ (a b : Arena) (n : ℕ) (q made : Part) (x : Node) (grown : b ≡ with_node a x) (last : slots_at b.nodes made ≡ slots_of x) (st : Stands b made)
    (over : (r : Part) → Contains (parts_of x) r → q ≡ r) (spares : (m : Replacement) → SparesOwn m (tree_at a q) → SparesOwn m (tree_at b made)) (h : IsMadeOf a n q) where
  extends : Extends a b
  extends = subst (Extends a) (sym grown) (extends_push a x)

  abbrev old : IsMadeOf b n q
  old = later a b n q extends h

  part_in : (r : Part) → Contains (parts_at b made) r → Contains (made ∷ h.types) r
  part_in r c = Contains-append_right (made ∷ []) h.types r (subst (Contains h.types) (over r (subst (λ (ss : Slots). Contains (parts_in ss) r) last c)) h.itself)

  all_stand : (r : Part) → (made ≡ r) ⊎ Contains h.types r → Stands b r
  all_stand r (inl e) = subst (Stands b) e st
  all_stand r (inr c) = old.stand r c

  all_closed : (r s : Part) → (made ≡ r) ⊎ Contains h.types r → Contains (parts_at b r) s → Contains (made ∷ h.types) s
  all_closed r s (inl e) o = part_in s (subst (λ (x : Part). Contains (parts_at b x) s) (sym e) o)
  all_closed r s (inr c) o = Contains-append_right (made ∷ []) h.types s (old.closed r s c o)

  pub joined : IsMadeOf b (suc n) made
  joined = record {
    types = made ∷ h.types;
    count = ap suc h.count;
    itself = first made h.types;
    stand = λ r c. all_stand r (either made r h.types c);
    closed = λ r s c o. all_closed r s (either made r h.types c) o;
    spares = λ m. spares m (h.spares m);
  }

found : (a b : Arena) (x : Node) (k : ℕ) → b ≡ with_node a x → suc k ≡ suc (length a.nodes) → slots_if (slice_get b.nodes k) ≡ slots_of x
found a b x k e h =
    let same : k ≡ length a.nodes = omega (arith, h) in
    let last : get_or (a.nodes ++ x ∷ []) (length a.nodes) x ≡ x = get_or-append_seam a.nodes x [] x in
    ap (λ (c : Arena). slots_if (slice_get c.nodes k)) e ∙ ap (λ (j : ℕ). slots_if (slice_get (a.nodes ++ x ∷ []) j)) same ∙
    ap slots_if (slice_get-get_or (a.nodes ++ x ∷ []) (length a.nodes) x (omega (arith, length-append a.nodes (x ∷ [])))) ∙ ap slots_of last

-- ## Defined types

defined_fits : (a : Arena) (s : ComponentDefinedType) → All (Stands a) (parts_of (n.Defined s)) → Fits a (n.Defined s)
defined_fits a s h = record { parts = h; info = tt; owned = All-nil (GaveResource a); led = tt; within = All-nil (IsEntityWithin (total a.core)); stated = tt; apart = tt }

-- a handle
pub own_fits : (a : Arena) (r : AliasableResourceId) → Stands a (p.Resource r) → Fits a (n.Defined (d.Own r))
own_fits a r st = defined_fits a (d.Own r) (All-cons (Stands a) (p.Resource r) [] st (All-nil (Stands a)))

pub own_made : (a b : Arena) (r : AliasableResourceId) (made : ComponentDefinedTypeId) → Stands a (p.Resource r) → b ≡ with_node a (n.Defined (d.Own r)) → rank (p.Defined made) ≡ suc (length a.nodes) → Stands b (p.Defined made) →
    tree_at b (p.Defined made) ≡ tree_of (trees a.nodes) (n.Defined (d.Own r)) → IsMadeOf b 2 (p.Defined made)
own_made a b r made st grown last there tree =
    joined a b 1 (p.Resource r) (p.Defined made) (n.Defined (d.Own r)) grown (found a b (n.Defined (d.Own r)) made.index grown last) there (λ q c. only (p.Resource r) q c)
    (λ m s. subst (SparesOwn m) (sym tree) (λ q o. absurd (false≢true o), (s, tt))) (of_resource a r st)

-- the tuple of a type twice
module _ (a : Arena) (id : ComponentDefinedTypeId) (es : Vec ComponentValType Global) (e : es.items ≡ v.Ty id ∷ v.Ty id ∷ []) where
  tuple_slots : slots_of (n.Defined (d.Tuple es)) ≡ (here, at (p.Defined id)) ∷ (here, at (p.Defined id)) ∷ []
  tuple_slots = ap (slots_by tuple_value) e

  pub tuple_fits : Stands a (p.Defined id) → Fits a (n.Defined (d.Tuple es))
  tuple_fits st =
      defined_fits a (d.Tuple es)
      (subst (λ (ss : Slots). All (Stands a) (parts_in ss)) (sym tuple_slots) (All-cons (Stands a) (p.Defined id) (p.Defined id ∷ []) st (All-cons (Stands a) (p.Defined id) [] st (All-nil (Stands a)))))

  tuple_spares : (m : Replacement) → SparesOwn m (tree_at a (p.Defined id)) → SparesOwn m (tree_of (trees a.nodes) (n.Defined (d.Tuple es)))
  tuple_spares m s = (λ r o. absurd (false≢true o), subst (λ (ss : Slots). SparesOwnIn m (slot_parts (trees a.nodes) ss)) (sym tuple_slots) (s, (s, tt)))

  pub tuple_made : (b : Arena) (made : ComponentDefinedTypeId) → b ≡ with_node a (n.Defined (d.Tuple es)) → rank (p.Defined made) ≡ suc (length a.nodes) → Stands b (p.Defined made) →
      tree_at b (p.Defined made) ≡ tree_of (trees a.nodes) (n.Defined (d.Tuple es)) → (k : ℕ) → IsMadeOf a k (p.Defined id) → IsMadeOf b (suc k) (p.Defined made)
  tuple_made b made grown last there tree k h =
      joined a b k (p.Defined id) (p.Defined made) (n.Defined (d.Tuple es)) grown (found a b (n.Defined (d.Tuple es)) made.index grown last) there
      (λ r c. only_twice (p.Defined id) r (subst (λ (ss : Slots). Contains (parts_in ss) r) tuple_slots c)) (λ m s. subst (SparesOwn m) (sym tree) (tuple_spares m s)) h

-- ## Functions

-- one that takes one value
module _ (a : Arena) (id : ComponentDefinedTypeId) (name : Text) (s : ComponentFuncType) (e : s.params.items ≡ (name, v.Ty id) ∷ []) (g : s.result ≡ None) where
  func_slots : slots_of (n.Func s) ≡ (label name, at (p.Defined id)) ∷ (here, leaf None) ∷ []
  func_slots = λ j. field_slots (e j) ((here, option_slot (g j)) ∷ [])

  func_spares : (m : Replacement) → SparesOwn m (tree_at a (p.Defined id)) → SparesOwn m (tree_of (trees a.nodes) (n.Func s))
  func_spares m h =
      (λ r o. absurd (false≢true o), subst (λ (ss : Slots). SparesOwnIn m (slot_parts (trees a.nodes) ss)) (sym func_slots) (h, ((λ r o. absurd (false≢true o), tt), tt)))

  pub func_made : (b : Arena) (made : ComponentFuncTypeId) → b ≡ with_node a (n.Func s) → rank (p.Func made) ≡ suc (length a.nodes) → Stands b (p.Func made) →
      tree_at b (p.Func made) ≡ tree_of (trees a.nodes) (n.Func s) → (k : ℕ) → IsMadeOf a k (p.Defined id) → IsMadeOf b (suc k) (p.Func made)
  func_made b made grown last there tree k h =
      joined a b k (p.Defined id) (p.Func made) (n.Func s) grown (found a b (n.Func s) made.index grown last) there
      (λ r c. only (p.Defined id) r (subst (λ (ss : Slots). Contains (parts_in ss) r) func_slots c)) (λ m t. subst (SparesOwn m) (sym tree) (func_spares m t)) h

-- what it takes stands
pub param_stands : (a : Arena) (id : ComponentDefinedTypeId) (name : Text) (fs : List (Text × ComponentValType)) → fs ≡ (name, v.Ty id) ∷ [] → Stands a (p.Defined id) →
    All (Stands a) (parts_in (field_slots fs ((here, option_slot None) ∷ [])))
param_stands a id name fs e st =
    subst (λ (xs : List (Text × ComponentValType)). All (Stands a) (parts_in (field_slots xs ((here, option_slot None) ∷ [])))) (sym e) (All-cons (Stands a) (p.Defined id) [] st (All-nil (Stands a)))

-- ## The map

-- a resource that the arena gave just now
pub given_stands : (a b : Arena) (r : AliasableResourceId) → b ≡ record a { resources = a.resources + 1; stamps = a.stamps + 1 } → r ≡ record { resource = record { index = a.resources }; stamp = a.stamps } → Stands b (p.Resource r)
given_stands a b r e f = record {
  resource = omega (arith, ap (λ (c : Arena). c.resources) e, ap (λ (x : AliasableResourceId). x.resource.index) f);
  stamp = omega (arith, ap (λ (c : Arena). c.stamps) e, ap (λ (x : AliasableResourceId). x.stamp) f);
}

pub given_extends : (a b : Arena) → b ≡ record a { resources = a.resources + 1; stamps = a.stamps + 1 } → Extends a b
given_extends a b e = subst (Extends a) (sym e) (more_given a (a.resources + 1) (a.stamps + 1) (omega arith) (omega arith))

-- one resource is replaced
pub one_given : (a : Arena) (old new : ResourceId) (rs : List (ResourceId × ResourceId)) → rs ≡ (old, new) ∷ [] → new.index < a.resources → (r q : ResourceId) → Contains rs (r, q) → q.index < a.resources
one_given a old new rs e h r q c =
    subst (λ (x : ResourceId × ResourceId). x.1.index < a.resources) (only (old, new) (r, q) (subst (λ (xs : List (ResourceId × ResourceId)). Contains xs (r, q)) e c)) h

-- and no type
pub no_type_given : (ts : List (Part × Sent)) → ts ≡ [] → (q : Part) (s : Sent) → Contains ts (q, s) → s.given ≡ false
no_type_given ts e q s c = absurd (none_in (q, s) (subst (λ (xs : List (Part × Sent)). Contains xs (q, s)) e c))
