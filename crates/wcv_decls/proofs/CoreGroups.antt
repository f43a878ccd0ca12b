-- A group of core types joins a state.
use Rattle.std.proofs.Common.{◌≡◌, ℕ, ◌<◌, List, [], ◌∷◌, ◌++◌, map, length, take, refl, sym, ◌∙◌, ap, subst, append-nil, append_assoc, All, Option, Some, None, Bool, true, false, cond, inl, inr}
use Rattle.std.specs.Option.{option_map}
use Rattle.std.proofs.lemmas.List.Elements.{All-nil, All-cons, All-head, All-tail}
use Rattle.wcv_core.specs.CoreForm.{Group, group_form, sub_form}
use Rattle.wcv_core.specs.CoreGroups.{total}
use Rattle.wcv_core.specs.CoreJoining.{group_checks, group_ids, grown, with_types, IsLeft}
use Rattle.wcv_core.specs.CoreWritten.{Core_entry, sub_entry, IsKnown, closed_group}
use Rattle.wcv_core.specs.Names.{Place}
use Rattle.wcv_core.specs.Refusal.{error_kind}
use Rattle.wcv_core.specs.declared.core_types.RecGroup.{RecGroup}
use Rattle.wcv_core.specs.declared.error.Error.{Error}
use Rattle.wcv_syntax.specs.Model.{core_rec, core_type_item}
use Rattle.wcv_types.specs.Arena.{Arena}
use Rattle.wcv_types.specs.Standing.{Extends}
use Rattle.wcv_types.specs.declared.ids.ComponentCoreTypeId.TheVariants as core_type
use Rattle.wcv_types.proofs.Each.{length-mapped, map-push}
use Rattle.wcv_lower.specs.Checks.{Checks, IsFree, no_core_type_room}
use Rattle.wcv_lower.specs.Context.{counts}
use Rattle.wcv_lower.specs.CoreItems.{core_entries, may_join, types_join, closed_step}
use Rattle.wcv_lower.specs.Given.{none_given, names_of}
use Rattle.wcv_lower.specs.Growth.{call_checks}
use Rattle.wcv_lower.specs.Names.{Names}
use Rattle.wcv_lower.specs.Step.{Step, apply}
use Rattle.wcv_lower.specs.Trees.{Tree_context, Tree_stack, tree_reader, tree_maker}
use Rattle.wcv_lower.proofs.Causes.{cause_left, cause_right, free_both}
use Rattle.wcv_lower.proofs.ModulesMade.{joinable}
use Rattle.wcv_spaces.specs.Contents.{Contents, context_of, stack_of, core_entry_of, core_entries_of, with_sub, spent, StateStands}
use Rattle.wcv_spaces.specs.Promises.{MemoryOrCausedBy, Keeps, Grew}
use Rattle.wcv_spaces.proofs.Calls.{caused_more}
use Rattle.wcv_spaces.proofs.Keeping.{state_stands, same_context, keeps_grown, keeps_marked, keeps_trans}
use Rattle.wcv_state.proofs.CoreTypes.{entries_same, joined_types, keeps_types}
use Rattle.wcv_state.proofs.Stacks.{none_made}

-- ## Types that join their space

abbrev pub Below : ℕ → ℕ → Type 0
Below n i = i < n

pub subs_live : (s : Contents) (is : List ℕ) → (with_types with_sub s is).spent ≡ s.spent
subs_live s [] = refl
subs_live s (i ∷ is) = subs_live (with_sub s i) is

-- those that joined are of the table where all entries are
subs_below : (n : ℕ) (s : Contents) (is : List ℕ) → All (IsKnown n) (core_entries_of (with_types with_sub s is)) → All (Below n) is
subs_below n s is h = below is (right (core_entries_of s) (map sub_entry is) (subst (All (IsKnown n)) (joined s is) h))
  where
    joined : (t : Contents) (js : List ℕ) → core_entries_of (with_types with_sub t js) ≡ core_entries_of t ++ map sub_entry js
    joined t [] = sym (append-nil (core_entries_of t))
    joined t (j ∷ js) =
        joined (with_sub t j) js ∙ ap (λ (xs : List Core_entry). xs ++ map sub_entry js) (map-push core_entry_of t.spaces.core_types (core_type.Sub (record { index = j }))) ∙
        append_assoc (core_entries_of t) (sub_entry j ∷ []) (map sub_entry js)

    right : (xs ys : List Core_entry) → All (IsKnown n) (xs ++ ys) → All (IsKnown n) ys
    right [] ys k = k
    right (x ∷ xs) ys k = right xs ys (All-tail (IsKnown n) x (xs ++ ys) k)

    below : (js : List ℕ) → All (IsKnown n) (map sub_entry js) → All (Below n) js
    below [] k = All-nil (Below n)
    below (j ∷ js) k = All-cons (Below n) j js (All-head (IsKnown n) (sub_entry j) (map sub_entry js) k) (below js (All-tail (IsKnown n) (sub_entry j) (map sub_entry js) k))

-- ## A group

module _ (a b : Arena) (s s' : Contents) (rec : RecGroup) (h : StateStands a s) (ext : Extends a b) where
  abbrev Here : Tree_context
  Here = context_of a s

  abbrev closed : Group
  closed = closed_group (core_entries_of s) (group_form rec)

  abbrev Checked : Checks
  Checked = group_checks s.features a.core (core_entries_of s) (group_form rec)

  abbrev Room : Checks
  Room = no_core_type_room (length rec.types.items) (counts Here)

  checks_same : (outer : List Tree_context) (n : Names) (p : Place) → call_checks s.features (tree_maker n p) (stack_of a s outer) (core_type_item (core_rec (group_form rec))) ≡ Checked ++ Room
  checks_same outer n p =
      let es : core_entries Here ≡ core_entries_of s = entries_same a s h in
      let l : length (group_form rec) ≡ length rec.types.items = length-mapped sub_form rec.types.items in
      λ j. group_checks s.features a.core (es j) (group_form rec) ++ no_core_type_room (l j) (counts Here)

  module _ {M : Type 0} (outer : List Tree_context) (n : Names) (p : Place) (offset : ℕ) (e : Error M) where
    pub group_caused : MemoryOrCausedBy (group_checks s.features a.core (core_entries_of s) (group_form rec)) offset e → MemoryOrCausedBy (call_checks s.features (tree_maker n p) (stack_of a s outer) (core_type_item (core_rec (group_form rec)))) offset e
    group_caused m = subst (λ cs. MemoryOrCausedBy cs offset e) (sym (checks_same outer n p)) (caused_more Checked (Checked ++ Room) offset e (cause_left Checked Room (error_kind e)) m)

    pub room_caused : MemoryOrCausedBy (no_core_type_room (length rec.types.items) (counts (context_of a s))) offset e → MemoryOrCausedBy (call_checks s.features (tree_maker n p) (stack_of a s outer) (core_type_item (core_rec (group_form rec)))) offset e
    room_caused m = subst (λ cs. MemoryOrCausedBy cs offset e) (sym (checks_same outer n p)) (caused_more Room (Checked ++ Room) offset e (cause_right Checked Room (error_kind e)) m)

  -- the group can be closed, and joins the table and the space
  abbrev grow_if : List Tree_context → Bool → Group → Option Tree_stack
  grow_if outer b g = option_map (λ (x : Step tree_reader). apply x (stack_of a s outer)) (cond b (Some (closed_step tree_reader a.core g)) None)

  group_grows : (outer : List Tree_context) → b.core ≡ grown a.core closed → s' ≡ with_types with_sub s (group_ids a.core closed) → IsFree Checked →
      grow_if outer (may_join a.core (core_entries Here) (group_form rec)) (closed_group (core_entries Here) (group_form rec)) ≡ Some (stack_of b s' outer)
  group_grows outer table group free =
      let es : core_entries Here ≡ core_entries_of s = entries_same a s h in
      let closes : may_join a.core (core_entries_of s) (group_form rec) ≡ true = joinable s.features a.core (core_entries_of s) (group_form rec) free in
      let is : List ℕ = group_ids a.core closed in
      let e : context_of b s ≡ Here = same_context a b ext s h in
      let reached : stack_of b s' outer ≡ apply (closed_step tree_reader a.core closed) (stack_of a s outer) =
      ap (λ (z : Contents). stack_of b z outer) group ∙ joined_types b b.core outer s is ∙
      (λ j. apply (types_join tree_reader is) (record { top = e j; outer = outer; groups = table j })) in
      (λ j. grow_if outer (may_join a.core (es j) (group_form rec)) (closed_group (es j) (group_form rec))) ∙ ap (λ (x : Bool). grow_if outer x closed) closes ∙ ap Some (sym reached)

  pub group_grew : (outer : List Tree_context) (p : Place) → s.spent ≡ false → b.core ≡ grown a.core closed → s' ≡ with_types with_sub s (group_ids a.core closed) → IsFree Checked → IsFree Room → Grew a b outer p s s' (core_type_item (core_rec (group_form rec)))
  group_grew outer p live table group free room = record {
    names = none_given;
    given = none_made a b p;
    grown = group_grows outer table group free;
    free = subst IsFree (sym (checks_same outer (names_of none_given) p)) (free_both Checked Room free room);
    live = ap (λ (z : Contents). z.spent) group ∙ subs_live s (group_ids a.core closed) ∙ live;
  }

  -- what it leaves where it was refused
  pub group_left : {M : Type 0} (e : Error M) → All (IsKnown (total b.core)) (core_entries_of s') → IsLeft with_sub spent s s' a.core b.core closed e → Keeps a b s s'
  group_left e known (inl l) = subst (Keeps a b s) (sym l.0) (keeps_grown a b s ext h)
  group_left e known (inr l) =
      let is : List ℕ = take l.1.1.0 (group_ids a.core closed) in
      let t : Contents = with_types with_sub s is in
      let stands : StateStands b s = state_stands a b ext s h in
      let joined : Keeps b b s t = keeps_types b s is stands (subs_below (total b.core) s is (subst (λ (z : Contents). All (IsKnown (total b.core)) (core_entries_of z)) l.1.1.1 known)) in
      subst (Keeps a b s) (sym l.1.1.1) (keeps_trans a b b s s (spent t) (keeps_grown a b s ext h) (keeps_trans b b b s t (spent t) joined (keeps_marked b t t true refl joined.stands)))

  -- and where it joined
  pub group_keeps : s' ≡ with_types with_sub s (group_ids a.core closed) → All (IsKnown (total b.core)) (core_entries_of s') → Keeps a b s s'
  group_keeps e known =
      let is : List ℕ = group_ids a.core closed in
      let joined : Keeps b b s (with_types with_sub s is) = keeps_types b s is (state_stands a b ext s h) (subs_below (total b.core) s is (subst (λ (z : Contents). All (IsKnown (total b.core)) (core_entries_of z)) e known)) in
      subst (Keeps a b s) (sym e) (keeps_trans a b b s s (with_types with_sub s is) (keeps_grown a b s ext h) joined)
