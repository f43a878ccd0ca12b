-- An export by two calls: what both do together.
use Rattle.std.proofs.Common.{◌≡◌, ℕ, ◌≤◌, List, ◌++◌, refl, sym, ◌∙◌, ap, subst, arith, Bool, true, false, Some, ⊎_elim, length-append}
use Rattle.std.specs.Prelude.{Option, length}
use Rattle.std.specs.Option.{option_map}
use Rattle.wcv_core.specs.Names.{Name, Place, number, stamp, base, at, stamped, aside}
use Rattle.wcv_core.specs.Refusal.{error_kind}
use Rattle.wcv_core.specs.declared.error.Error.{Error}
use Rattle.wcv_syntax.specs.Model.{export_item}
use Rattle.wcv_syntax.specs.declared.component_type.ComponentTypeRef.{ComponentTypeRef}
use Rattle.wcv_syntax.specs.declared.name.ComponentExport.{ComponentExport}
use Rattle.wcv_syntax.specs.declared.name.ComponentExternName.{ComponentExternName}
use Rattle.wcv_types.specs.Arena.{Arena}
use Rattle.wcv_types.specs.Entities.{entity_tree, EntityStands}
use Rattle.wcv_types.specs.Standing.{Extends}
use Rattle.wcv_types.specs.Unfold.{Type_tree, trees}
use Rattle.wcv_types.specs.declared.shapes.ComponentEntityType.{ComponentEntityType}
use Rattle.wcv_lower.specs.Checks.{Checks, IsFree, if_found, full_side}
use Rattle.wcv_lower.specs.Context.{exporting, counts}
use Rattle.wcv_lower.specs.Entries.{extern_name, new_there, written, written_checks, exported_values, exported, exported_checks, entity_checks, join_checks}
use Rattle.wcv_lower.specs.Entries as entries
use Rattle.wcv_lower.specs.Given.{GivenNames, names_of, none_given, both_given, Numbers, IsNewResource, IsNewIdentity, GivesAt}
use Rattle.wcv_lower.specs.Names.{Under}
use Rattle.wcv_lower.specs.Marks.{uses_each, using, use_all}
use Rattle.wcv_lower.specs.Readers.{Maker, Brought}
use Rattle.wcv_lower.specs.Step.{Step, brought_at, apply, enters}
use Rattle.wcv_lower.specs.Trees.{Tree_context, tree_reader, tree_maker}
use Rattle.wcv_lower.proofs.EntryLaws.{new_found}
use Rattle.wcv_lower.proofs.NewNames.{trees_tell}
use Rattle.wcv_lower.proofs.Causes.{cause_left, cause_right, cause_either, free_both, free_left, free_right}
use Rattle.wcv_lower.proofs.Given.{given_weaker}
use Rattle.wcv_lower.proofs.MarkLaws.{uses-applied, apply-append}
use Rattle.wcv_spaces.specs.Contents.{Contents, with_uses, context_of, stack_of, StateStands}
use Rattle.wcv_spaces.specs.Promises.{MemoryOrCausedBy, numbers_of, is_instance_entity, Grew, WrittenEntity, Exported, Entered, EntryCaused, ExportDeclared, ExportCaused}
use Rattle.wcv_spaces.proofs.Brought.{as_it_is_at}
use Rattle.wcv_spaces.proofs.Calls.{caused_more}
use Rattle.wcv_spaces.proofs.Keeping.{same_context}
use Rattle.wcv_spaces.proofs.UsedValues.{uses_context}
use Rattle.wcv_instantiate.proofs.Opened.{both_none}

-- ## An entry that joins where it was looked up

module _ (a b : Arena) (outer : List Tree_context) (s t : Contents) (h : StateStands a s) (g : Extends a b) (core : b.core ≡ a.core) (ks : List ℕ) (same : t ≡ with_uses ks s) where
  context_same : context_of b t ≡ use_all ks (context_of a s)
  context_same = ap (context_of b) same ∙ uses_context b ks s ∙ ap (use_all ks) (same_context a b g s h)

  stack_same : stack_of b t outer ≡ apply (uses_each ks) (stack_of a s outer)
  stack_same = (λ j. record { top = context_same j; outer = outer; groups = core j }) ∙ sym (uses-applied ks (stack_of a s outer))

module _ (a b : Arena) (outer : List Tree_context) (s : Contents) (h : StateStands a s) (g : Extends a b) (core : b.core ≡ a.core) where
  stack_stays : stack_of b s outer ≡ stack_of a s outer
  stack_stays = λ j. record { top = same_context a b g s h j; outer = outer; groups = core j }

-- ## Names of two calls, one of which gives none

-- new from fewer numbers to more
module _ (a b a' b' : Numbers) (r : a'.resources ≤ a.resources) (n : a'.nodes ≤ a.nodes) (t : a'.stamps ≤ a.stamps) (r' : b.resources ≤ b'.resources) (n' : b.nodes ≤ b'.nodes) (t' : b.stamps ≤ b'.stamps) where
  resource_within : (x : Name) → IsNewResource a b x → IsNewResource a' b' x
  resource_within (number k) h = (omega (arith, r, h.0), omega (arith, r', h.1))
  resource_within (stamp k) h = absurd h
  resource_within (base p) h = absurd h
  resource_within (at p x) h = absurd h
  resource_within (stamped p) h = absurd h
  resource_within (aside x) h = absurd h

  identity_within : (x : Name) → IsNewIdentity a b x → IsNewIdentity a' b' x
  identity_within (number k) h = (omega (arith, n, h.0), omega (arith, n', h.1))
  identity_within (stamp k) h = (omega (arith, t, h.0), omega (arith, t', h.1))
  identity_within (base p) h = absurd h
  identity_within (at p x) h = absurd h
  identity_within (stamped p) h = absurd h
  identity_within (aside x) h = absurd h

  gives_within : (In : Place → Type 0) (g : GivenNames) → GivesAt In a b g → GivesAt In a' b' g
  gives_within In g h = record {
    resources = given_weaker (IsNewResource a b) (IsNewResource a' b') In In resource_within (λ p k. k) g.resources h.resources;
    identities = given_weaker (IsNewIdentity a b) (IsNewIdentity a' b') In In identity_within (λ p k. k) g.identities h.identities;
  }

more_nodes : (a b : Arena) → Extends a b → length a.nodes ≤ length b.nodes
more_nodes a b g = subst (λ xs. length a.nodes ≤ length xs) (sym g.nodes) (simp length-append (omega arith))

module _ (a b c : Arena) (p : Place) (x : ComponentEntityType) (g : Extends a b) (k : Extends b c) (first : GivenNames) (given_first : GivesAt (Under p) (numbers_of a) (numbers_of b) first) (instance : is_instance_entity x ≡ true → first ≡ none_given) (stands : EntityStands b x)
    (v : GivenNames) (given : GivesAt (Under p) (numbers_of b) (numbers_of c) v) (bare : is_instance_entity x ≡ false → v ≡ none_given) where
  abbrev tree : Type_tree
  tree = entity_tree (trees b.nodes) x

  abbrev both : GivenNames
  both = both_given first v

  abbrev mk : Maker tree_reader
  mk = tree_maker (names_of both) p

  both_given_at : GivesAt (Under p) (numbers_of a) (numbers_of c) both
  both_given_at = go (is_instance_entity x) refl
    where
      go : (e : Bool) → is_instance_entity x ≡ e → GivesAt (Under p) (numbers_of a) (numbers_of c) (both_given first v)
      go true e =
          subst (λ (n : GivenNames). GivesAt (Under p) (numbers_of a) (numbers_of c) (both_given n v)) (sym (instance e))
          (gives_within (numbers_of b) (numbers_of c) (numbers_of a) (numbers_of c) g.resources (more_nodes a b g) g.stamps (omega arith) (omega arith) (omega arith) (Under p) v given)
      go false e =
          subst (λ (n : GivenNames). GivesAt (Under p) (numbers_of a) (numbers_of c) (both_given first n)) (sym (bare e))
          (subst (GivesAt (Under p) (numbers_of a) (numbers_of c)) (sym (both_none first))
          (gives_within (numbers_of a) (numbers_of b) (numbers_of a) (numbers_of c) (omega arith) (omega arith) (omega arith) k.resources (more_nodes b c k) k.stamps (Under p) first given_first))

  -- what joins is the same by the names of both
  brought_both : brought_at mk tree ≡ brought_at (tree_maker (names_of v) p) tree
  brought_both = go (is_instance_entity x) refl
    where
      go : (e : Bool) → is_instance_entity x ≡ e → brought_at (tree_maker (names_of (both_given first v)) p) tree ≡ brought_at (tree_maker (names_of v) p) tree
      go true e = ap (λ (n : GivenNames). brought_at (tree_maker (names_of (both_given n v)) p) tree) (instance e)
      go false e = as_it_is_at b (tree_maker (names_of (both_given first v)) p) x stands e ∙ sym (as_it_is_at b (tree_maker (names_of v) p) x stands e)

-- the entity of an exported item, and then its entry, are the export, where a value is marked as used between
pub export_by_both : (a b c : Arena) (outer : List Tree_context) (p : Place) (s t s' : Contents) (e : ComponentExport) (x : ComponentEntityType) → StateStands a s → Extends a b → Extends b c → Exported a b p s e x → t ≡ with_uses (exported_values e) s →
    Entered true b c outer p t s' e.name x → Grew a c outer p s s' (export_item e)
export_by_both a b c outer p s t s' e x h g k w same v =
    let y : Tree_context = context_of a s in
    let ks : List ℕ = exported_values e in
    let brought : Brought tree_reader = brought_at (tree_maker (names_of v.names) p) (entity_tree (trees b.nodes) x) in
    let enter : Step tree_reader = enters exporting (extern_name e.name) brought in
    let all_names : GivenNames = both_given w.names v.names in
    let of_item : Checks = exported_checks s.features a.core (tree_maker (names_of all_names) p) y e in
    let of_entity : Checks = entity_checks s.features exporting (extern_name e.name) y brought.entity in
    let room : Checks = full_side true exporting (counts y) in
    let features : t.features ≡ s.features = ap (λ (z : Contents). z.features) same in
    let here : join_checks true t.features exporting (extern_name e.name) (context_of b t) brought.entity ≡ room ++ of_entity =
    λ j. join_checks true (features j) exporting (extern_name e.name) (context_same a b outer s t h g w.core ks same j) brought.entity in
    let joined : IsFree (room ++ of_entity) = subst IsFree here v.free in
    let all : IsFree (room ++ (of_item ++ of_entity)) = free_both room (of_item ++ of_entity) (free_left room of_entity joined) (free_both of_item of_entity (w.free v.names) (free_right room of_entity joined)) in
    let found : exported (tree_maker (names_of all_names) p) y e ≡ Some brought = w.brings v.names ∙ ap Some (brought_both a b c p x g k w.names w.given w.instance w.stands v.names v.given v.bare) in
    let new : new_there exporting (extern_name e.name) y (exported (tree_maker (names_of all_names) p) y e) ≡ Some brought =
    new_found tree_reader trees_tell s.features exporting (extern_name e.name) y (exported (tree_maker (names_of all_names) p) y e) brought found (free_right room of_entity joined) in
    record {
      names = all_names;
      given = both_given_at a b c p x g k w.names w.given w.instance w.stands v.names v.given v.bare;
      grown = ap (λ o. option_map (λ q. apply q (stack_of a s outer)) (using ks (option_map (enters exporting (extern_name e.name)) o))) new ∙
          ap Some (apply-append (uses_each ks) enter (stack_of a s outer) ∙ ap (apply enter) (sym (stack_same a b outer s t h g w.core ks same)) ∙ sym v.entered);
      free = subst (λ (o : Option (Brought tree_reader)). IsFree (entries.entry_checks s.features exporting (extern_name e.name) y of_item o)) (sym found) all;
      live = v.live;
    }

-- what a written type gives, by the names of both
written_both : (a b c : Arena) (p : Place) (s : Contents) (r : ComponentTypeRef) (x : ComponentEntityType) → Extends a b → Extends b c → (w : WrittenEntity a b p s r x) (v : GivenNames) → GivesAt (Under p) (numbers_of b) (numbers_of c) v → (is_instance_entity x ≡ false → v ≡ none_given) →
    written (tree_maker (names_of (both_given w.names v)) p) (context_of a s) r ≡ Some (brought_at (tree_maker (names_of v) p) (entity_tree (trees b.nodes) x))
written_both a b c p s r x g k w v given bare = w.brings v ∙ ap Some (brought_both a b c p x g k w.names w.given w.instance w.stands v given bare)

-- so of a written type
pub written_by_both : (a b c : Arena) (outer : List Tree_context) (p : Place) (s s' : Contents) (r : ComponentTypeRef) (n : ComponentExternName) (x : ComponentEntityType) → StateStands a s → Extends a b → Extends b c → WrittenEntity a b p s r x →
    Entered true b c outer p s s' n x → ExportDeclared a c outer p s s' n r
written_by_both a b c outer p s s' r n x h g k w v =
    let t : Tree_context = context_of a s in
    let brought : Brought tree_reader = brought_at (tree_maker (names_of v.names) p) (entity_tree (trees b.nodes) x) in
    let of_entity : Checks = entity_checks s.features exporting (extern_name n) t brought.entity in
    let room : Checks = full_side true exporting (counts t) in
    let joined : IsFree (room ++ of_entity) = subst (λ (y : Tree_context). IsFree (join_checks true s.features exporting (extern_name n) y brought.entity)) (same_context a b g s h) v.free in
    let all : IsFree (room ++ (written_checks s.features t r ++ of_entity)) = free_both room (written_checks s.features t r ++ of_entity) (free_left room of_entity joined) (free_both (written_checks s.features t r) of_entity w.free (free_right room of_entity joined)) in
    let found = written_both a b c p s r x g k w v.names v.given v.bare in
    let mk : Maker tree_reader = tree_maker (names_of (both_given w.names v.names)) p in
    let new : new_there exporting (extern_name n) t (written mk t r) ≡ Some brought = new_found tree_reader trees_tell s.features exporting (extern_name n) t (written mk t r) brought found (free_right room of_entity joined) in
    record {
      names = both_given w.names v.names;
      given = both_given_at a b c p x g k w.names w.given w.instance w.stands v.names v.given v.bare;
      read = ap (λ o. option_map (λ q. apply q (stack_of a s outer)) (option_map (enters exporting (extern_name n)) o)) new ∙
          (λ j. Some (apply (enters exporting (extern_name n) brought) (sym (stack_stays a b outer s h g w.core) j))) ∙ ap Some (sym v.entered);
      free = subst (λ (o : Option (Brought tree_reader)). IsFree (entries.entry_checks s.features exporting (extern_name n) t (written_checks s.features t r) o)) (sym found) all;
    }

-- a cause of the written type is one of the export
pub export_written_caused : {M : Type 0} (a b : Arena) (p : Place) (s : Contents) (r : ComponentTypeRef) (n : ComponentExternName) (offset : ℕ) (e : Error M) → MemoryOrCausedBy (written_checks s.features (context_of a s) r) offset e → ExportCaused a b p s n r offset e
export_written_caused a b p s r n offset e t =
    let c : Tree_context = context_of a s in
    let found : Option (Brought tree_reader) = written (tree_maker (names_of none_given) p) c r in
    let room : Checks = full_side true exporting (counts c) in
    let of_found : Checks = if_found (λ y. entity_checks s.features exporting (extern_name n) c y.entity) found in
    record {
      names = none_given;
      given = record { resources = tt; identities = tt };
      caused = caused_more (written_checks s.features c r) (room ++ (written_checks s.features c r ++ of_found)) offset e
          (λ q. cause_right room (written_checks s.features c r ++ of_found) (error_kind e) (cause_left (written_checks s.features c r) of_found (error_kind e) q))
          t;
    }

-- so is one of the entry
pub export_entry_caused : {M : Type 0} (a b c : Arena) (p : Place) (s : Contents) (r : ComponentTypeRef) (n : ComponentExternName) (x : ComponentEntityType) (offset : ℕ) (e : Error M) → StateStands a s → Extends a b → Extends b c → WrittenEntity a b p s r x →
    EntryCaused true b c p s n x offset e → ExportCaused a c p s n r offset e
export_entry_caused a b c p s r n x offset e h g k w v =
    let t : Tree_context = context_of a s in
    let brought : Brought tree_reader = brought_at (tree_maker (names_of v.names) p) (entity_tree (trees b.nodes) x) in
    let of_entity : Checks = entity_checks s.features exporting (extern_name n) t brought.entity in
    let room : Checks = full_side true exporting (counts t) in
    let met : MemoryOrCausedBy (room ++ of_entity) offset e =
    subst (λ (y : Tree_context). MemoryOrCausedBy (join_checks true s.features exporting (extern_name n) y brought.entity) offset e) (same_context a b g s h) v.caused in
    let found = written_both a b c p s r x g k w v.names v.given v.bare in
    record {
      names = both_given w.names v.names;
      given = both_given_at a b c p x g k w.names w.given w.instance w.stands v.names v.given v.bare;
      caused = subst (λ (o : Option (Brought tree_reader)). MemoryOrCausedBy (entries.entry_checks s.features exporting (extern_name n) t (written_checks s.features t r) o) offset e) (sym found)
          (caused_more (room ++ of_entity) (room ++ (written_checks s.features t r ++ of_entity)) offset e
          (λ q. ⊎_elim (λ l. cause_left room (written_checks s.features t r ++ of_entity) (error_kind e) l) (λ l. cause_right room (written_checks s.features t r ++ of_entity) (error_kind e) (cause_right (written_checks s.features t r) of_entity (error_kind e) l)) (cause_either room of_entity (error_kind e) q)) met);
    }
