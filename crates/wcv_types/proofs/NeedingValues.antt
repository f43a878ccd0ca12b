-- What value types need to be named.
use Rattle.std.proofs.Common.{◌≡◌, ℕ, suc, ◌<◌, ◌≤◌, List, [], ◌∷◌, refl, sym, ◌∙◌, ap, subst, arith, Bool, true, false, Some, None}
use Rattle.std.specs.Prelude.{Option, slice_get, All}
use Rattle.std.specs.Option.{option_map}
use Rattle.std.proofs.lemmas.Bool.{false≢true}
use Rattle.std.proofs.lemmas.List.Elements.{All-nil, All-cons, All-head, All-tail}
use Rattle.wcv_core.specs.Names.{Name, number, stamp}
use Rattle.wcv_types.specs.Arena.{Arena}
use Rattle.wcv_types.specs.Entities.{SlotStands}
use Rattle.wcv_types.specs.Identity.{Identity, of_reference}
use Rattle.wcv_types.specs.Named.{is_in, is_named, are_named}
use Rattle.wcv_types.specs.NamedBySet.{names_itself, handle_of}
use Rattle.wcv_types.specs.Standing.{Stands, StandsBefore, identity_of}
use Rattle.wcv_types.specs.Tree.{Role, defined, node}
use Rattle.wcv_types.specs.Unfold.{Type_tree, parts_in, slots_of, value_parts, defined_slots, former_of, option_slot, slot_tree, slot_parts, trees, tree_at, unfolded, value_slots}
use Rattle.wcv_types.specs.declared.arena.Node.TheVariants as n
use Rattle.wcv_types.specs.declared.ids.AliasableResourceId.{AliasableResourceId}
use Rattle.wcv_types.specs.declared.ids.ComponentDefinedTypeId.{ComponentDefinedTypeId}
use Rattle.wcv_types.specs.declared.ids.Part.{Part}
use Rattle.wcv_types.specs.declared.ids.Part.TheVariants as p
use Rattle.wcv_types.specs.declared.shapes.ComponentDefinedType.{ComponentDefinedType}
use Rattle.wcv_types.specs.declared.shapes.ComponentDefinedType.TheVariants as d
use Rattle.wcv_types.specs.declared.shapes.ComponentValType.{ComponentValType}
use Rattle.wcv_types.specs.declared.shapes.ComponentValType.TheVariants as v
use Rattle.wcv_types.proofs.Gathered.{ranks}
use Rattle.wcv_types.proofs.NamedBySet.{and_true, some_same, value_rank, value_before, by_itself}
use Rattle.wcv_types.proofs.Knowing.{slot_at, slot_stands_at}

-- a type without a handle is made of value types
pub made_of_values : (s : ComponentDefinedType) → handle_of s ≡ None → defined_slots s ≡ value_slots (value_parts s)
made_of_values (d.Own a) h = cc
made_of_values (d.Borrow a) h = cc
made_of_values x h = refl

abbrev reference_in : List Identity → AliasableResourceId → Bool
reference_in ids r = is_in ids (of_reference (number r.resource.index) (stamp r.stamp))

-- a handle is made of its reference
pub handle_named : (ids : List Identity) (ts : List Type_tree) (s : ComponentDefinedType) (r : AliasableResourceId) → handle_of s ≡ Some r → reference_in ids r ≡ are_named ids (slot_parts ts (defined_slots s))
handle_named ids ts (d.Own a) r h = ap (reference_in ids) (sym (some_same a r h)) ∙ sym (and_true (reference_in ids a))
handle_named ids ts (d.Borrow a) r h = ap (reference_in ids) (sym (some_same a r h)) ∙ sym (and_true (reference_in ids a))
handle_named ids ts x r h = absurd (cc)

-- what is not named by itself is named by what it is made of
by_contents : (ids : List Identity) (ts : List Type_tree) (x : Name) (s : ComponentDefinedType) → names_itself s ≡ false →
    is_named ids (node (defined x (former_of s)) (slot_parts ts (defined_slots s))) ≡ are_named ids (slot_parts ts (defined_slots s))
by_contents ids ts x (d.Record a) h = absurd (false≢true (sym h))
by_contents ids ts x (d.Variant a) h = absurd (false≢true (sym h))
by_contents ids ts x (d.Flags a) h = absurd (false≢true (sym h))
by_contents ids ts x (d.Enum a) h = absurd (false≢true (sym h))
by_contents ids ts x y h = refl

module _ (a : Arena) (ty : Option ComponentValType) (i : ComponentDefinedTypeId) (s : ComponentDefinedType) (is : ty ≡ Some (v.Ty i)) (unfolds : tree_at a (p.Defined i) ≡ unfolded a i.index (n.Defined s)) where
  whole : (ids : List Identity) → is_named ids (slot_tree (trees a.nodes) (option_slot ty)) ≡ is_named ids (node (defined (number i.index) (former_of s)) (slot_parts (trees a.nodes) (defined_slots s)))
  whole ids = ap (λ (x : Option ComponentValType). is_named ids (slot_tree (trees a.nodes) (option_slot x))) is ∙ ap (is_named ids) unfolds

  pub value_itself : names_itself s ≡ true → (ids : List Identity) → is_in ids (identity_of (p.Defined i)) ≡ is_named ids (slot_tree (trees a.nodes) (option_slot ty))
  value_itself h ids = sym (by_itself ids (trees a.nodes) (number i.index) s h) ∙ sym (whole ids)

  pub value_made : names_itself s ≡ false → (ids : List Identity) → are_named ids (slot_parts (trees a.nodes) (slots_of (n.Defined s))) ≡ is_named ids (slot_tree (trees a.nodes) (option_slot ty))
  value_made h ids = sym (by_contents ids (trees a.nodes) (number i.index) s h) ∙ sym (whole ids)

-- the k-th value type stands
pub value_stands : (a : Arena) (s : ComponentDefinedType) (k : ℕ) (ty : Option ComponentValType) → All (Stands a) (parts_in (defined_slots s)) → handle_of s ≡ None →
    option_map (λ (x : Role × Option ComponentValType). x.1) (slice_get (value_parts s) k) ≡ Some ty → SlotStands a (option_slot ty)
value_stands a s k ty h none e =
    let w = slot_at s k ty e in
    slot_stands_at a (value_slots (value_parts s)) k (w.0, option_slot ty) (subst (λ ss. All (Stands a) (parts_in ss)) (made_of_values s none) h) w.1

-- ## Ranks, by which calls end

ranked : (a : Arena) (bound : ℕ) (qs : List Part) → All (Stands a) qs → ranks qs < bound → All (StandsBefore a bound) qs
ranked a bound [] h w = All-nil (StandsBefore a bound)
ranked a bound (q ∷ qs) h w =
    All-cons (StandsBefore a bound) q qs record { stands = All-head (Stands a) q qs h; before = omega (arith, w) }
    (ranked a bound qs (All-tail (Stands a) q qs h) (omega (arith, w)))

-- the k-th value type that a defined type is made of
pub value_within : (a : Arena) (s : ComponentDefinedType) (k : ℕ) (ty : Option ComponentValType) → All (Stands a) (parts_in (defined_slots s)) →
    option_map (λ (x : Role × Option ComponentValType). x.1) (slice_get (value_parts s) k) ≡ Some ty → value_rank ty ≤ ranks (parts_in (defined_slots s))
value_within a s k ty h e =
    let w = value_before a (ranks (parts_in (defined_slots s))) s k ty (ranked a (suc (ranks (parts_in (defined_slots s)))) (parts_in (defined_slots s)) h (omega arith)) e in
    omega (arith, w.1)
