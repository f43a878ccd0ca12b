-- Streams and futures by ids, and as the rules see them.
use Rattle.std.proofs.Common.{◌≡◌, ℕ, suc, [], ◌∷◌, refl, sym, ◌∙◌, ap, subst, Bool, true, false, not, ◌||◌, Some, None, inl, inr}
use Rattle.std.specs.Prelude.{All, Option, is_some, slice_get}
use Rattle.std.proofs.lemmas.Bool.{false≢true}
use Rattle.std.proofs.lemmas.List.Elements.{All-head}
use Rattle.wcv_core.specs.Names.{Name}
use Rattle.wcv_core.specs.Refusal.{error_kind, error_offset}
use Rattle.wcv_core.specs.declared.error.Error.{Error}
use Rattle.wcv_core.specs.declared.error.ErrorKind.{ErrorKind}
use Rattle.wcv_core.specs.declared.error.ErrorKind.TheVariants as error
use Rattle.wcv_core.proofs.Causes.{cause_left}
use Rattle.wcv_types.specs.Abi.{pointer, contains, any_contains}
use Rattle.wcv_types.specs.Arena.{Arena}
use Rattle.wcv_types.specs.Entities.{SlotStands}
use Rattle.wcv_types.specs.Rename.{rename_head, no_identity}
use Rattle.wcv_types.specs.Standing.{Stands, StandsBefore}
use Rattle.wcv_types.specs.Tree.{Head, nothing, primitive, resource, defined, func, instance, component, type_entity, core_module, core_instance, core_type, core_item, node, Parts, is_value, sort, sort_at}
use Rattle.wcv_types.specs.Unfold.{any_part, option_slot, parts_of, slot_tree, tree_at, trees, unfolded}
use Rattle.wcv_types.specs.declared.arena.Node.TheVariants as n
use Rattle.wcv_types.specs.declared.ids.ComponentAnyTypeId.{ComponentAnyTypeId}
use Rattle.wcv_types.specs.declared.ids.ComponentAnyTypeId.TheVariants as any
use Rattle.wcv_types.specs.declared.ids.ComponentDefinedTypeId.{ComponentDefinedTypeId}
use Rattle.wcv_types.specs.declared.ids.Part.TheVariants as id
use Rattle.wcv_types.specs.declared.shapes.ComponentDefinedType.{ComponentDefinedType}
use Rattle.wcv_types.specs.declared.shapes.ComponentDefinedType.TheVariants as d
use Rattle.wcv_types.specs.declared.shapes.ComponentValType.{ComponentValType}
use Rattle.wcv_types.specs.declared.shapes.ComponentValType.TheVariants as v
use Rattle.wcv_types.proofs.AbiRenamed.{contains-rename}
use Rattle.wcv_types.proofs.Unfolding.{sort_stands}
use Rattle.wcv_lower.specs.Checks.{Checks, Cause, IsFree, is_none, missing, same_sort}
use Rattle.wcv_lower.specs.Context.{in_types}
use Rattle.wcv_lower.specs.CoreInstances.{test_found}
use Rattle.wcv_lower.specs.Outlines.{outline, is_stream, is_future, carried, has_value}
use Rattle.wcv_lower.specs.Trees.{Type_tree, tree_reader}
use Rattle.wcv_lower.specs.Values.{type_at}
use Rattle.wcv_flat.specs.Rows as row
use Rattle.wcv_flat.specs.Rows.{Carrier_sort, of_stream, of_future}
use Rattle.wcv_spaces.specs.Contents.{Contents, context_of, id_tree, StateStands}
use Rattle.wcv_spaces.specs.Promises.{CausedBy, MemoryOrCausedBy}
use Rattle.wcv_spaces.proofs.Calls.{caused_more}
use Rattle.wcv_spaces.proofs.CoreItems.{missing_mapped}
use Rattle.wcv_spaces.proofs.Found.{get_same, type_is}
use Rattle.wcv_canon.specs.Operands.{asked}
use Rattle.wcv_canon.specs.Carriers.{carrier_of, is_of_stream, is_of_future, value_of, IsPayload, Carries, Shows}
use Rattle.wcv_canon.specs.declared.ask_types.Carrier.{Carrier}
use Rattle.wcv_canon.specs.declared.ask_types.Carrier.TheVariants as carrier
use Rattle.wcv_canon.proofs.OptionLists.{or_false}

-- ## What is carried

sort_at-outlined : (h : Head Name Name) → sort_at (rename_head no_identity no_identity h) ≡ sort_at h
sort_at-outlined nothing = refl
sort_at-outlined x = refl

sort-outlined : (t : Type_tree) → sort (outline t) ≡ sort t
sort-outlined (node h ps) = sort_at-outlined h

module _ (a : Arena) where
  payload_value : (o : Option ComponentValType) → SlotStands a (option_slot o) → (same_sort is_value (sort (outline (slot_tree (trees a.nodes) (option_slot o)))) || false) ≡ is_some o
  payload_value None h = refl
  payload_value (Some (v.Primitive q)) h = refl
  payload_value (Some (v.Ty i)) h = ap (λ s. same_sort is_value s || false) (sort-outlined (tree_at a (id.Defined i)) ∙ sort_stands a (id.Defined i) h)

  payload_points : (o : Option ComponentValType) → (contains pointer (outline (slot_tree (trees a.nodes) (option_slot o))) || false) ≡ contains pointer (slot_tree (trees a.nodes) (option_slot o))
  payload_points o = or_false (contains pointer (outline (slot_tree (trees a.nodes) (option_slot o)))) ∙ contains-rename no_identity no_identity pointer (slot_tree (trees a.nodes) (option_slot o))

  payload_stands : (k : ℕ) (o : Option ComponentValType) → All (StandsBefore a k) (parts_of (n.Defined (d.Future o))) → SlotStands a (option_slot o)
  payload_stands k None h = tt
  payload_stands k (Some (v.Primitive q)) h = tt
  payload_stands k (Some (v.Ty i)) h = (All-head (StandsBefore a k) (id.Defined i) [] h).stands

  -- ## Defined types

  shown : (k : ℕ) (x : ComponentDefinedType) → All (StandsBefore a (suc k)) (parts_of (n.Defined x)) → Shows a (unfolded a k (n.Defined x)) (carrier_of x)
  shown k (d.Stream o) h = let s : SlotStands a (option_slot o) = payload_stands (suc k) o h in record { stream = refl; future = refl; value = value s; points = points; stands = stands s }
    where
      value : SlotStands a (option_slot o) → (q : Carrier_sort) → has_value (carried (outline (unfolded a k (n.Defined (d.Stream o)))) q) ≡ is_some (value_of (carrier.Stream o) q)
      value s of_stream = payload_value o s
      value s of_future = refl

      points : (q : Carrier_sort) → any_contains pointer (carried (outline (unfolded a k (n.Defined (d.Stream o)))) q) ≡ contains pointer (slot_tree (trees a.nodes) (option_slot (value_of (carrier.Stream o) q)))
      points of_stream = payload_points o
      points of_future = refl

      stands : SlotStands a (option_slot o) → (q : Carrier_sort) → SlotStands a (option_slot (value_of (carrier.Stream o) q))
      stands s of_stream = s
      stands s of_future = tt
  shown k (d.Future o) h = let s : SlotStands a (option_slot o) = payload_stands (suc k) o h in record { stream = refl; future = refl; value = value s; points = points; stands = stands s }
    where
      value : SlotStands a (option_slot o) → (q : Carrier_sort) → has_value (carried (outline (unfolded a k (n.Defined (d.Future o)))) q) ≡ is_some (value_of (carrier.Future o) q)
      value s of_stream = refl
      value s of_future = payload_value o s

      points : (q : Carrier_sort) → any_contains pointer (carried (outline (unfolded a k (n.Defined (d.Future o)))) q) ≡ contains pointer (slot_tree (trees a.nodes) (option_slot (value_of (carrier.Future o) q)))
      points of_stream = refl
      points of_future = payload_points o

      stands : SlotStands a (option_slot o) → (q : Carrier_sort) → SlotStands a (option_slot (value_of (carrier.Future o) q))
      stands s of_stream = tt
      stands s of_future = s
  shown k (d.Primitive q) h = record { stream = refl; future = refl; value = λ q. refl; points = λ q. refl; stands = λ q. tt }
  shown k (d.Record fs) h = record { stream = refl; future = refl; value = λ q. refl; points = λ q. refl; stands = λ q. tt }
  shown k (d.Variant cs) h = record { stream = refl; future = refl; value = λ q. refl; points = λ q. refl; stands = λ q. tt }
  shown k (d.List t) h = record { stream = refl; future = refl; value = λ q. refl; points = λ q. refl; stands = λ q. tt }
  shown k (d.Map q t) h = record { stream = refl; future = refl; value = λ q. refl; points = λ q. refl; stands = λ q. tt }
  shown k (d.FixedLengthList t m) h = record { stream = refl; future = refl; value = λ q. refl; points = λ q. refl; stands = λ q. tt }
  shown k (d.Tuple ts) h = record { stream = refl; future = refl; value = λ q. refl; points = λ q. refl; stands = λ q. tt }
  shown k (d.Flags ns) h = record { stream = refl; future = refl; value = λ q. refl; points = λ q. refl; stands = λ q. tt }
  shown k (d.Enum ns) h = record { stream = refl; future = refl; value = λ q. refl; points = λ q. refl; stands = λ q. tt }
  shown k (d.Option t) h = record { stream = refl; future = refl; value = λ q. refl; points = λ q. refl; stands = λ q. tt }
  shown k (d.Result o e) h = record { stream = refl; future = refl; value = λ q. refl; points = λ q. refl; stands = λ q. tt }
  shown k (d.Own r) h = record { stream = refl; future = refl; value = λ q. refl; points = λ q. refl; stands = λ q. tt }
  shown k (d.Borrow r) h = record { stream = refl; future = refl; value = λ q. refl; points = λ q. refl; stands = λ q. tt }

  -- ## Other types

  no_value : (h : Head Name Name) (ps : Parts Name Name) → same_sort is_value (sort_at h) ≡ false → Shows a (node h ps) carrier.Other
  no_value (defined i k) ps e = absurd (false≢true (sym e))
  no_value (primitive q) ps e = absurd (false≢true (sym e))
  no_value nothing ps e = record { stream = refl; future = refl; value = λ q. refl; points = λ q. refl; stands = λ q. tt }
  no_value (resource r s) ps e = record { stream = refl; future = refl; value = λ q. refl; points = λ q. refl; stands = λ q. tt }
  no_value (func i b) ps e = record { stream = refl; future = refl; value = λ q. refl; points = λ q. refl; stands = λ q. tt }
  no_value (instance i own) ps e = record { stream = refl; future = refl; value = λ q. refl; points = λ q. refl; stands = λ q. tt }
  no_value (component i ins outs) ps e = record { stream = refl; future = refl; value = λ q. refl; points = λ q. refl; stands = λ q. tt }
  no_value type_entity ps e = record { stream = refl; future = refl; value = λ q. refl; points = λ q. refl; stands = λ q. tt }
  no_value (core_module i m) ps e = record { stream = refl; future = refl; value = λ q. refl; points = λ q. refl; stands = λ q. tt }
  no_value (core_instance i m) ps e = record { stream = refl; future = refl; value = λ q. refl; points = λ q. refl; stands = λ q. tt }
  no_value (core_type i) ps e = record { stream = refl; future = refl; value = λ q. refl; points = λ q. refl; stands = λ q. tt }
  no_value (core_item x) ps e = record { stream = refl; future = refl; value = λ q. refl; points = λ q. refl; stands = λ q. tt }

  neither : (t : Type_tree) → same_sort is_value (sort t) ≡ false → Shows a t carrier.Other
  neither (node h ps) e = no_value h ps e

  -- a type that is not defined
  abbrev is_defined : ComponentAnyTypeId → Bool
  is_defined (any.Defined i) = true
  is_defined r = false

  pub other_shows : (r : ComponentAnyTypeId) → Stands a (any_part r) → is_defined r ≡ false → Shows a (tree_at a (any_part r)) carrier.Other
  other_shows (any.Defined i) p q = absurd (false≢true (sym q))
  other_shows (any.Resource r) p q = neither (tree_at a (id.Resource r)) refl
  other_shows (any.Func i) p q = neither (tree_at a (id.Func i)) (ap (same_sort is_value) (sort_stands a (id.Func i) p))
  other_shows (any.Instance i) p q = neither (tree_at a (id.Instance i)) (ap (same_sort is_value) (sort_stands a (id.Instance i) p))
  other_shows (any.Component i) p q = neither (tree_at a (id.Component i)) (ap (same_sort is_value) (sort_stands a (id.Component i) p))

  pub defined_shows : (i : ComponentDefinedTypeId) (x : ComponentDefinedType) → tree_at a (id.Defined i) ≡ unfolded a i.index (n.Defined x) → All (StandsBefore a (suc i.index)) (parts_of (n.Defined x)) → Shows a (tree_at a (id.Defined i)) (carrier_of x)
  defined_shows i x u b = subst (λ (t : Type_tree). Shows a t (carrier_of x)) (sym u) (shown i.index x b)

-- nothing stands there
pub is_missing : {A : Type 0} (o : Option A) (q : ErrorKind) → Cause (missing o) q → is_none o ≡ true
is_missing o q (inl c) = c.1
is_missing o q (inr c) = absurd c

-- ## At an index

module _ (a : Arena) (s : Contents) (h : StateStands a s) (k : ℕ) where
  pub carries : (r : ComponentAnyTypeId) (x : Carrier) → slice_get s.spaces.types k ≡ Some r → Shows a (tree_at a (any_part r)) x → Carries a (context_of a s) k x
  carries r x e w =
      let t : type_at (context_of a s) k ≡ Some (tree_at a (any_part r)) = type_is a s h k r e in
      record {
        there = ap is_none t;
        stream = ap (test_found (λ (y : Type_tree). not (is_stream (outline y)))) t ∙ w.stream;
        future = ap (test_found (λ (y : Type_tree). not (is_future (outline y)))) t ∙ w.future;
        payload = λ q. record {
          value = ap (test_found (λ (y : Type_tree). has_value (carried (outline y) q))) t ∙ w.value q;
          points = ap (test_found (λ (y : Type_tree). any_contains pointer (carried (outline y) q))) t ∙ w.points q;
          stands = w.stands q;
        };
      }

  -- ## What is asked

  module _ (x : Carrier) (w : Carries a (context_of a s) k x) where
    pub stream_free : is_of_stream x ≡ true → IsFree (asked a s (row.stream_at k))
    stream_free e = (w.there, (w.stream ∙ ap not e, tt))

    pub future_free : is_of_future x ≡ true → IsFree (asked a s (row.future_at k))
    future_free e = (w.there, (w.future ∙ ap not e, tt))

    module _ {M : Type 0} (offset : ℕ) (e : Error M) (sort : error_kind e ≡ error.WrongSort) (at : error_offset e ≡ offset) where
      pub stream_other : is_of_stream x ≡ false → MemoryOrCausedBy (asked a s (row.stream_at k)) offset e
      stream_other f = inr (inr (inl (sort, w.stream ∙ ap not f)), at)

      pub future_other : is_of_future x ≡ false → MemoryOrCausedBy (asked a s (row.future_at k)) offset e
      future_other f = inr (inr (inl (sort, w.future ∙ ap not f)), at)

  module _ {M : Type 0} (offset : ℕ) (e : Error M) (t : MemoryOrCausedBy (missing (type_at (context_of a s) k)) offset e) where
    pub stream_missing : MemoryOrCausedBy (asked a s (row.stream_at k)) offset e
    stream_missing =
        caused_more (missing (type_at (context_of a s) k)) (asked a s (row.stream_at k)) offset e (λ c. cause_left (missing (type_at (context_of a s) k)) ((error.WrongSort, test_found (λ (y : Type_tree). not (is_stream (outline y))) (type_at (context_of a s) k)) ∷ []) (error_kind e) c) t

    pub future_missing : MemoryOrCausedBy (asked a s (row.future_at k)) offset e
    future_missing =
        caused_more (missing (type_at (context_of a s) k)) (asked a s (row.future_at k)) offset e (λ c. cause_left (missing (type_at (context_of a s) k)) ((error.WrongSort, test_found (λ (y : Type_tree). not (is_future (outline y))) (type_at (context_of a s) k)) ∷ []) (error_kind e) c) t

  -- nothing that stands there carries anything
  pub nothing_carried : (q : Carrier_sort) → is_none (type_at (context_of a s) k) ≡ true → IsPayload a (context_of a s) k q None
  nothing_carried q e = record { value = go (λ (y : Type_tree). has_value (carried (outline y) q)) (type_at (context_of a s) k) e; points = go (λ (y : Type_tree). any_contains pointer (carried (outline y) q)) (type_at (context_of a s) k) e; stands = tt }
    where
      go : (test : Type_tree → Bool) (o : Option Type_tree) → is_none o ≡ true → test_found test o ≡ false
      go test None e = refl
      go test (Some x) e = absurd (false≢true e)

  pub types_missing : {M : Type 0} (offset : ℕ) (e : Error M) → CausedBy (missing (slice_get s.spaces.types k)) offset e → CausedBy (missing (type_at (context_of a s) k)) offset e
  types_missing offset e t = subst (λ (cs : Checks). CausedBy cs offset e) (sym (missing_mapped tree_reader.referenced _ ∙ ap missing (get_same a s h in_types k) ∙ missing_mapped (id_tree (trees a.nodes) in_types) (slice_get s.spaces.types k))) t
