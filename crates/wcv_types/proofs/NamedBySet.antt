-- Whether value types are named by a set of types.
use Rattle.std.proofs.Common.{◌≡◌, ℕ, zero, suc, ◌+◌, ◌<◌, ◌≤◌, List, [], ◌∷◌, length, drop, refl, sym, ◌∙◌, ap, subst, arith, Bool, true, false, ◌&&◌, ◌||◌, eqb, Some, None, drop-cons, add-one}
use Rattle.std.specs.Prelude.{Option, slice_get, All}
use Rattle.std.specs.Option.{option_map}
use Rattle.std.proofs.lemmas.Bool.{false≢true, eqb-true}
use Rattle.std.proofs.lemmas.List.Elements.{All-head, All-tail}
use Rattle.std.proofs.lemmas.Option.{same_Some, slice_get_within, get_or_from_slice_get}
use Rattle.std.proofs.Math.ListN.{drop_of_length-le}
use Rattle.wcv_core.specs.Names.{Name, number, stamp}
use Rattle.wcv_types.specs.Tree.{Role, defined, node}
use Rattle.wcv_types.specs.Arena.{Arena}
use Rattle.wcv_types.specs.Entities.{any_part, SlotStands}
use Rattle.wcv_types.specs.Identity.{Identity, of_node, of_reference, same_identity}
use Rattle.wcv_types.specs.Named.{is_in, is_named, are_named}
use Rattle.wcv_types.specs.NamedBySet.{names_itself, handle_of, node_id}
use Rattle.wcv_types.specs.Sets.{same_type, has_type, AllStand, identities}
use Rattle.wcv_types.specs.Standing.{Stands, StandsBefore, identity_of}
use Rattle.wcv_types.specs.Unfold.{Type_tree, Slot, Slots, slot_refs, parts_in, handle_parts, value_parts, value_slots, defined_slots, former_of, option_slot, slot_tree, slot_parts, trees, tree_at, unfolded}
use Rattle.wcv_types.specs.declared.arena.Node.{Node}
use Rattle.wcv_types.specs.declared.arena.Node.TheVariants as n
use Rattle.wcv_types.specs.declared.ids.AliasableResourceId.{AliasableResourceId}
use Rattle.wcv_types.specs.declared.ids.ComponentAnyTypeId.{ComponentAnyTypeId}
use Rattle.wcv_types.specs.declared.ids.ComponentAnyTypeId.TheVariants as any
use Rattle.wcv_types.specs.declared.ids.ComponentDefinedTypeId.{ComponentDefinedTypeId}
use Rattle.wcv_types.specs.declared.ids.Part.{Part}
use Rattle.wcv_types.specs.declared.ids.Part.TheVariants as p
use Rattle.wcv_types.specs.declared.shapes.ComponentDefinedType.{ComponentDefinedType}
use Rattle.wcv_types.specs.declared.shapes.ComponentDefinedType.TheVariants as d
use Rattle.wcv_types.specs.declared.shapes.ComponentValType.{ComponentValType}
use Rattle.wcv_types.specs.declared.shapes.ComponentValType.TheVariants as v
use Rattle.wcv_types.proofs.Rebuilding.{defined_parts}
use Rattle.wcv_types.proofs.Unfolding.{all_left, all_right}
use Rattle.wcv_types.proofs.Knowing.{slot_at}
use Rattle.wcv_types.proofs.Each.{length-mapped}

-- ## Members of a set

module _ (a : Arena) where
  -- nodes of two sorts have two places
  apart : (i j : ℕ) (x y : Node) → slice_get a.nodes i ≡ Some x → slice_get a.nodes j ≡ Some y → (x ≡ y → ⊥) → false ≡ eqb i j
  apart i j x y s t d = go (eqb i j) refl
    where
      go : (b : Bool) → eqb i j ≡ b → false ≡ b
      go false e = refl
      go true e = absurd (d (same_Some x y (sym s ∙ ap (slice_get a.nodes) (eqb-true i j e) ∙ t)))

  same_here : (x y : ComponentAnyTypeId) → Stands a (any_part x) → Stands a (any_part y) → same_type x y ≡ same_identity (identity_of (any_part x)) (identity_of (any_part y))
  same_here (any.Defined i) (any.Func j) s t = apart i.index j.index (n.Defined s.0) (n.Func t.0) s.1 t.1 (λ e. cc)
  same_here (any.Defined i) (any.Instance j) s t = apart i.index j.index (n.Defined s.0) (n.Instance t.0) s.1 t.1 (λ e. cc)
  same_here (any.Defined i) (any.Component j) s t = apart i.index j.index (n.Defined s.0) (n.Component t.0) s.1 t.1 (λ e. cc)
  same_here (any.Func i) (any.Defined j) s t = apart i.index j.index (n.Func s.0) (n.Defined t.0) s.1 t.1 (λ e. cc)
  same_here (any.Func i) (any.Instance j) s t = apart i.index j.index (n.Func s.0) (n.Instance t.0) s.1 t.1 (λ e. cc)
  same_here (any.Func i) (any.Component j) s t = apart i.index j.index (n.Func s.0) (n.Component t.0) s.1 t.1 (λ e. cc)
  same_here (any.Instance i) (any.Defined j) s t = apart i.index j.index (n.Instance s.0) (n.Defined t.0) s.1 t.1 (λ e. cc)
  same_here (any.Instance i) (any.Func j) s t = apart i.index j.index (n.Instance s.0) (n.Func t.0) s.1 t.1 (λ e. cc)
  same_here (any.Instance i) (any.Component j) s t = apart i.index j.index (n.Instance s.0) (n.Component t.0) s.1 t.1 (λ e. cc)
  same_here (any.Component i) (any.Defined j) s t = apart i.index j.index (n.Component s.0) (n.Defined t.0) s.1 t.1 (λ e. cc)
  same_here (any.Component i) (any.Func j) s t = apart i.index j.index (n.Component s.0) (n.Func t.0) s.1 t.1 (λ e. cc)
  same_here (any.Component i) (any.Instance j) s t = apart i.index j.index (n.Component s.0) (n.Instance t.0) s.1 t.1 (λ e. cc)
  same_here (any.Resource q) (any.Resource r) s t = refl
  same_here (any.Resource q) (any.Defined j) s t = refl
  same_here (any.Resource q) (any.Func j) s t = refl
  same_here (any.Resource q) (any.Instance j) s t = refl
  same_here (any.Resource q) (any.Component j) s t = refl
  same_here (any.Defined i) (any.Resource r) s t = refl
  same_here (any.Defined i) (any.Defined j) s t = refl
  same_here (any.Func i) (any.Resource r) s t = refl
  same_here (any.Func i) (any.Func j) s t = refl
  same_here (any.Instance i) (any.Resource r) s t = refl
  same_here (any.Instance i) (any.Instance j) s t = refl
  same_here (any.Component i) (any.Resource r) s t = refl
  same_here (any.Component i) (any.Component j) s t = refl

  -- a type is in a set where its identity is among theirs
  pub in_set : (c : ComponentAnyTypeId) → Stands a (any_part c) → (ids : List ComponentAnyTypeId) → AllStand a ids → has_type ids c ≡ is_in (identities ids) (identity_of (any_part c))
  in_set c s [] h = refl
  in_set c s (y ∷ ids) h =
      let e = same_here c y s (All-head (λ z. Stands a (any_part z)) y ids h) in
      let e' = in_set c s ids (All-tail (λ z. Stands a (any_part z)) y ids h) in
      λ j. e j || e' j

-- ## One defined type

pub and_true : (b : Bool) → (b && true) ≡ b
and_true true = refl
and_true false = refl

pub some_same : (x y : AliasableResourceId) → Some x ≡ Some y → x ≡ y
some_same x y e = cc

module _ (ids : List Identity) (ts : List Type_tree) where
  abbrev shape_named : Name → ComponentDefinedType → Bool
  shape_named x s = is_named ids (node (defined x (former_of s)) (slot_parts ts (defined_slots s)))

  pub by_itself : (x : Name) (s : ComponentDefinedType) → names_itself s ≡ true → shape_named x s ≡ is_in ids (of_node x)
  by_itself x (d.Record a) h = refl
  by_itself x (d.Variant a) h = refl
  by_itself x (d.Flags a) h = refl
  by_itself x (d.Enum a) h = refl
  by_itself x y h = absurd (false≢true h)

  by_handle : (x : Name) (s : ComponentDefinedType) (r : AliasableResourceId) → handle_of s ≡ Some r → shape_named x s ≡ is_in ids (of_reference (number r.resource.index) (stamp r.stamp))
  by_handle x (d.Own a) q h = and_true (is_in ids (of_reference (number a.resource.index) (stamp a.stamp))) ∙ ap (λ (y : AliasableResourceId). is_in ids (of_reference (number y.resource.index) (stamp y.stamp))) (some_same a q h)
  by_handle x (d.Borrow a) q h = and_true (is_in ids (of_reference (number a.resource.index) (stamp a.stamp))) ∙ ap (λ (y : AliasableResourceId). is_in ids (of_reference (number y.resource.index) (stamp y.stamp))) (some_same a q h)
  by_handle x y q h = absurd (cc)

  by_parts : (x : Name) (s : ComponentDefinedType) → names_itself s ≡ false → handle_of s ≡ None → shape_named x s ≡ are_named ids (slot_parts ts (value_slots (value_parts s)))
  by_parts x (d.Own a) h e = absurd (cc)
  by_parts x (d.Borrow a) h e = absurd (cc)
  by_parts x (d.Record a) h e = absurd (false≢true (sym h))
  by_parts x (d.Variant a) h e = absurd (false≢true (sym h))
  by_parts x (d.Flags a) h e = absurd (false≢true (sym h))
  by_parts x (d.Enum a) h e = absurd (false≢true (sym h))
  by_parts x y h e = refl

-- ## The value types that it is made of, one after another

-- how far they stand from the first node
abbrev pub value_rank : Option ComponentValType → ℕ
value_rank None = 0
value_rank (Some (v.Primitive q)) = 0
value_rank (Some (v.Ty i)) = suc i.index

-- those from the k-th on are named
abbrev pub named_from : List Identity → List Type_tree → ComponentDefinedType → ℕ → Bool
named_from ids ts s k = are_named ids (slot_parts ts (drop k (value_slots (value_parts s))))

-- the k-th, and those behind it
values_next : (s : ComponentDefinedType) (k : ℕ) (ty : Option ComponentValType) → option_map (λ (x : Role × Option ComponentValType). x.1) (slice_get (value_parts s) k) ≡ Some ty →
    (r : Role) × (drop k (value_slots (value_parts s)) ≡ (r, option_slot ty) ∷ drop (k + 1) (value_slots (value_parts s)))
values_next s k ty e =
    let ss : Slots = value_slots (value_parts s) in
    let w = slot_at s k ty e in
    let x : Role × Slot = (w.0, option_slot ty) in
    (w.0, drop-cons ss k x (slice_get_within ss k x w.1) ∙ ap (λ (y : Role × Slot). y ∷ drop (suc k) ss) (get_or_from_slice_get ss k x x w.1) ∙ ap (λ (j : ℕ). x ∷ drop j ss) (sym (add-one k)))

pub named_next : (ids : List Identity) (ts : List Type_tree) (s : ComponentDefinedType) (k : ℕ) (ty : Option ComponentValType) → option_map (λ (x : Role × Option ComponentValType). x.1) (slice_get (value_parts s) k) ≡ Some ty →
    named_from ids ts s k ≡ (is_named ids (slot_tree ts (option_slot ty)) && named_from ids ts s (k + 1))
named_next ids ts s k ty e = ap (λ ss. are_named ids (slot_parts ts ss)) (values_next s k ty e).1

abbrev pub slot_of : Role × Option ComponentValType → Role × Slot
slot_of q = (q.0, option_slot q.1)

pub named_all : (ids : List Identity) (ts : List Type_tree) (s : ComponentDefinedType) (k : ℕ) → length (value_parts s) ≤ k → named_from ids ts s k ≡ true
named_all ids ts s k h = ap (λ ss. are_named ids (slot_parts ts ss)) (drop_of_length-le (value_slots (value_parts s)) (omega (arith, h, length-mapped slot_of (value_parts s))))

-- a fact of the parts of slots, for those of one slot
pub slot_all : (P : Part → Type 0) (ss : Slots) (k : ℕ) (x : Role × Slot) → All P (parts_in ss) → slice_get ss k ≡ Some x → All P (slot_refs x.1)
slot_all P [] k x h e = absurd (cc)
slot_all P (s ∷ ss) zero x h e =
    let same : s ≡ x = cc in
    subst (λ (y : Role × Slot). All P (slot_refs y.1)) same (all_left P (slot_refs s.1) (parts_in ss) h)
slot_all P (s ∷ ss) (suc k) x h e = slot_all P ss k x (all_right P (slot_refs s.1) (parts_in ss) h) e

-- so for the reference of a handle
pub handle_all : (P : Part → Type 0) (s : ComponentDefinedType) (r : AliasableResourceId) → All P (parts_in (defined_slots s)) → handle_of s ≡ Some r → P (p.Resource r)
handle_all P (d.Own x) r h e = subst (λ (y : AliasableResourceId). P (p.Resource y)) (some_same x r e) (All-head P (p.Resource x) [] h)
handle_all P (d.Borrow x) r h e = subst (λ (y : AliasableResourceId). P (p.Resource y)) (some_same x r e) (All-head P (p.Resource x) [] h)
handle_all P x r h e = absurd (cc)

-- it stands, before the whole
pub value_before : (a : Arena) (bound : ℕ) (s : ComponentDefinedType) (k : ℕ) (ty : Option ComponentValType) → All (StandsBefore a (suc bound)) (parts_in (defined_slots s)) →
    option_map (λ (x : Role × Option ComponentValType). x.1) (slice_get (value_parts s) k) ≡ Some ty → SlotStands a (option_slot ty) × (value_rank ty < suc bound)
value_before a bound s k ty h e =
    let w = slot_at s k ty e in
    let all : All (StandsBefore a (suc bound)) (parts_in (value_slots (value_parts s))) = all_right (StandsBefore a (suc bound)) (handle_parts s) (parts_in (value_slots (value_parts s))) (subst (All (StandsBefore a (suc bound))) (defined_parts s) h) in
    go ty (slot_all (StandsBefore a (suc bound)) (value_slots (value_parts s)) k (w.0, option_slot ty) all w.1)
  where
    go : (x : Option ComponentValType) → All (StandsBefore a (suc bound)) (slot_refs (option_slot x)) → SlotStands a (option_slot x) × (value_rank x < suc bound)
    go None w = (tt, omega arith)
    go (Some (v.Primitive q)) w = (tt, omega arith)
    go (Some (v.Ty i)) w = let t = All-head (StandsBefore a (suc bound)) (p.Defined i) [] w in (t.stands, t.before)

-- ## The value type itself

module _ (a : Arena) (ids : List ComponentAnyTypeId) (ty : Option ComponentValType) (i : ComponentDefinedTypeId) (s : ComponentDefinedType)
    (is : ty ≡ Some (v.Ty i)) (stands : SlotStands a (option_slot ty)) (set : AllStand a ids) (unfolds : tree_at a (p.Defined i) ≡ unfolded a i.index (n.Defined s)) where
  whole : is_named (identities ids) (slot_tree (trees a.nodes) (option_slot ty)) ≡ shape_named (identities ids) (trees a.nodes) (number i.index) s
  whole = ap (λ (x : Option ComponentValType). is_named (identities ids) (slot_tree (trees a.nodes) (option_slot x))) is ∙ ap (is_named (identities ids)) unfolds

  pub named_itself : names_itself s ≡ true → has_type ids (any.Defined i) ≡ is_named (identities ids) (slot_tree (trees a.nodes) (option_slot ty))
  named_itself h =
      in_set a (any.Defined i) (subst (λ (x : Option ComponentValType). SlotStands a (option_slot x)) is stands) ids set ∙
      sym (by_itself (identities ids) (trees a.nodes) (number i.index) s h) ∙ sym whole

  pub named_handle : (r : AliasableResourceId) → Stands a (p.Resource r) → handle_of s ≡ Some r → has_type ids (any.Resource r) ≡ is_named (identities ids) (slot_tree (trees a.nodes) (option_slot ty))
  named_handle r w h = in_set a (any.Resource r) w ids set ∙ sym (by_handle (identities ids) (trees a.nodes) (number i.index) s r h) ∙ sym whole

  pub named_parts : names_itself s ≡ false → handle_of s ≡ None → named_from (identities ids) (trees a.nodes) s 0 ≡ is_named (identities ids) (slot_tree (trees a.nodes) (option_slot ty))
  named_parts h e = sym (by_parts (identities ids) (trees a.nodes) (number i.index) s h e) ∙ sym whole

pub is_node : (ty : Option ComponentValType) (i : ComponentDefinedTypeId) → node_id ty ≡ Some i → ty ≡ Some (v.Ty i)
is_node None i h = cc
is_node (Some (v.Primitive q)) i h = cc
is_node (Some (v.Ty j)) i h = let e : j ≡ i = cc in ap (λ k. Some (v.Ty k)) e
