-- What a call that reads an item promises, of what was found for it and how it joined. One for imports and exports.
use Rattle.std.proofs.Common.{◌≡◌, ℕ, List, ◌++◌, sym, ◌∙◌, ap, subst, true, Some, inl, inr, ⊎_elim}
use Rattle.std.specs.Prelude.{Option}
use Rattle.std.specs.Option.{option_map}
use Rattle.wcv_core.specs.Names.{Place}
use Rattle.wcv_core.specs.Refusal.{error_kind}
use Rattle.wcv_core.specs.declared.error.Error.{Error}
use Rattle.wcv_core.specs.declared.error.ErrorKind.TheVariants as kind
use Rattle.wcv_syntax.specs.Model.{Form}
use Rattle.wcv_syntax.specs.declared.name.ComponentExternName.{ComponentExternName}
use Rattle.wcv_types.specs.Arena.{Arena}
use Rattle.wcv_types.specs.Entities.{entity_tree}
use Rattle.wcv_types.specs.Unfold.{trees}
use Rattle.wcv_lower.specs.Checks.{Checks, Cause, IsFree, if_found, full_side}
use Rattle.wcv_lower.specs.Context.{Side, counts}
use Rattle.wcv_lower.specs.Entries as entries
use Rattle.wcv_lower.specs.Entries.{extern_name, new_there, entity_checks, join_checks}
use Rattle.wcv_lower.specs.Given.{GivenNames, none_given, names_of, GivesAt}
use Rattle.wcv_lower.specs.Growth.{step, call_checks}
use Rattle.wcv_lower.specs.Marks.{uses_each, using, use_all}
use Rattle.wcv_lower.specs.Names.{Under}
use Rattle.wcv_lower.specs.Readers.{Maker}
use Rattle.wcv_lower.specs.Step.{Step, Brought, apply, enters}
use Rattle.wcv_lower.specs.Trees.{Type_tree, Tree_context, Tree_stack, tree_reader, tree_maker}
use Rattle.wcv_lower.proofs.Causes.{cause_left, cause_right, cause_either, free_both, free_left, free_right}
use Rattle.wcv_spaces.specs.Bringing.{brought_new, Found, HasJoined}
use Rattle.wcv_lower.proofs.EntryLaws.{new_found}
use Rattle.wcv_lower.proofs.MarkLaws.{apply-append}
use Rattle.wcv_lower.proofs.NewNames.{trees_tell}
use Rattle.wcv_spaces.specs.Contents.{Contents, with_uses, context_of, stack_of, StateStands}
use Rattle.wcv_spaces.specs.Promises.{MemoryOrCausedBy, numbers_of, Grew, CausedAt}
use Rattle.wcv_spaces.specs.declared.new_entity.NewEntity.{NewEntity}
use Rattle.wcv_spaces.proofs.Found.{Brings}
use Rattle.wcv_spaces.proofs.Keeping.{same_context}
use Rattle.wcv_spaces.proofs.UsedValues.{uses_context, uses_stack}

pub caused_more : {M : Type 0} (cs ds : Checks) (offset : ℕ) (e : Error M) → (Cause cs (error_kind e) → Cause ds (error_kind e)) → MemoryOrCausedBy cs offset e → MemoryOrCausedBy ds offset e
caused_more cs ds offset e h (inl m) = inl m
caused_more cs ds offset e h (inr t) = inr (h t.0, t.1)

-- ## Causes at a place

-- what is caused under every maker is caused at each place, by no names
pub caused_at : {M : Type 0} (a b : Arena) (outer : List Tree_context) (s : Contents) (f : Form) (offset : ℕ) (e : Error M) → ((k : Maker tree_reader) → MemoryOrCausedBy (call_checks s.features k (stack_of a s outer) f) offset e) → (p : Place) → CausedAt a b outer p s f offset e
caused_at a b outer s f offset e h p = record { names = none_given; given = record { resources = tt; identities = tt }; caused = h (tree_maker (names_of none_given) p) }

-- out of memory
pub memory_at : {M : Type 0} (a b : Arena) (outer : List Tree_context) (s : Contents) (f : Form) (offset : ℕ) (e : Error M) → error_kind e ≡ kind.OutOfMemory → (p : Place) → CausedAt a b outer p s f offset e
memory_at a b outer s f offset e h p = caused_at a b outer s f offset e (λ k. inl h) p

-- ## Entries as items

-- the item is an entry of that side under that name, which uses these values: what it brings, and its causes, are those of a look-up
pub record IsEntry (outer : List Tree_context) (a : Arena) (s : Contents) (f : Form) (d : Side) (n : ComponentExternName) (ks : List ℕ) (looked : Maker tree_reader → Checks) (brings : Brings) : Type 0 where
  pub step : (k : Maker tree_reader) → step s.features k (stack_of a s outer) f ≡ using ks (option_map (enters d (extern_name n)) (new_there d (extern_name n) (context_of a s) (brings k)))
  pub checks : (k : Maker tree_reader) → call_checks s.features k (stack_of a s outer) f ≡ entries.entry_checks s.features d (extern_name n) (context_of a s) (looked k) (brings k)

module _ (a : Arena) (s : Contents) (outer : List Tree_context) (f : Form) (d : Side) (n : ComponentExternName) (ks : List ℕ) (looked : Maker tree_reader → Checks) (brings : Brings) (i : IsEntry outer a s f d n ks looked brings) where
  abbrev room : Checks
  room = full_side true d (counts (context_of a s))

  abbrev of_entity : Type_tree → Checks
  of_entity t = entity_checks s.features d (extern_name n) (context_of a s) t

  abbrev of_brought : Option (Brought tree_reader) → Checks
  of_brought o = if_found (λ x. of_entity x.entity) o

  -- some of the item's causes
  item_caused : {M : Type 0} (k : Maker tree_reader) (cs : Checks) (offset : ℕ) (e : Error M) → (Cause cs (error_kind e) → Cause (room ++ (looked k ++ of_brought (brings k))) (error_kind e)) → MemoryOrCausedBy cs offset e → MemoryOrCausedBy (call_checks s.features k (stack_of a s outer) f) offset e
  item_caused k cs offset e h t =
      subst (λ (cs : Checks). MemoryOrCausedBy cs offset e) (sym (i.checks k)) (caused_more cs (room ++ (looked k ++ of_brought (brings k))) offset e h t)

  -- a cause of what was looked up, by names that the arena gave
  pub looked_caused : {M : Type 0} (c : Arena) (offset : ℕ) (e : Error M) (p : Place) (names : GivenNames) → GivesAt (Under p) (numbers_of a) (numbers_of c) names → MemoryOrCausedBy (looked (tree_maker (names_of names) p)) offset e → CausedAt a c outer p s f offset e
  looked_caused c offset e p names g t =
      let k : Maker tree_reader = tree_maker (names_of names) p in
      record {
        names = names;
        given = g;
        caused = item_caused k (looked k) offset e (λ q. cause_right room (looked k ++ of_brought (brings k)) (error_kind e) (cause_left (looked k) (of_brought (brings k)) (error_kind e) q)) t;
      }

  module _ (c : Arena) (x : NewEntity) (w : Found a c x looked brings) (h : StateStands a s) where
    abbrev tree : Type_tree
    tree = entity_tree (trees c.nodes) x.ty

    abbrev maker : Place → Maker tree_reader
    maker p = tree_maker (names_of (w.given_names p)) p

    -- the causes of what it brings are those of the entity
    brought_checks : (p : Place) → of_brought (brings (maker p)) ≡ of_entity tree
    brought_checks p = ap of_brought (w.brought p)

    -- those of the entry, where the values are used, in the context before it
    joins_same : join_checks true s.features d (extern_name n) (context_of c (with_uses ks s)) tree ≡ room ++ of_entity tree
    joins_same = ap (λ (y : Tree_context). join_checks true s.features d (extern_name n) y tree) (uses_context c ks s ∙ ap (use_all ks) (same_context a c w.grown s h))

    -- a cause of the entry, by the names that the arena gave
    pub entry_caused : {M : Type 0} (offset : ℕ) (e : Error M) → MemoryOrCausedBy (join_checks true s.features d (extern_name n) (context_of c (with_uses ks s)) (entity_tree (trees c.nodes) x.ty)) offset e → (p : Place) → CausedAt a c outer p s f offset e
    entry_caused offset e t p =
        let more : Checks = looked (maker p) ++ of_brought (brings (maker p)) in
        record {
          names = w.given_names p;
          given = w.given p;
          caused = item_caused (maker p) (room ++ of_entity tree) offset e
              (λ q. ⊎_elim (λ k. cause_left room more (error_kind e) k)
              (λ k. cause_right room more (error_kind e) (cause_right (looked (maker p)) (of_brought (brings (maker p))) (error_kind e) (subst (λ (cs : Checks). Cause cs (error_kind e)) (sym (brought_checks p)) k)))
              (cause_either room (of_entity tree) (error_kind e) q))
              (subst (λ (cs : Checks). MemoryOrCausedBy cs offset e) joins_same t);
        }

    entry_free : (p : Place) → IsFree (room ++ of_entity tree) → IsFree (room ++ (looked (maker p) ++ of_brought (brings (maker p))))
    entry_free p k =
        free_both room (looked (maker p) ++ of_brought (brings (maker p))) (free_left room (of_entity tree) k)
        (free_both (looked (maker p)) (of_brought (brings (maker p))) (w.free p) (subst IsFree (sym (brought_checks p)) (free_right room (of_entity tree) k)))

    -- it joined, where the values are used
    pub entry_grew : (p : Place) (s' : Contents) → HasJoined true d c (with_uses ks s) s' n x → Grew a c outer p s s' f
    entry_grew p s' j =
        let before : stack_of c s outer ≡ stack_of a s outer = λ j. record { top = same_context a c w.grown s h j; outer = outer; groups = w.core j } in
        let joins : Step tree_reader = enters d (extern_name n) (brought_new c x) in
        let own : IsFree (room ++ of_entity tree) = subst IsFree joins_same j.free in
        let new : new_there d (extern_name n) (context_of a s) (brings (maker p)) ≡ Some (brought_new c x) =
        new_found tree_reader trees_tell s.features d (extern_name n) (context_of a s) (brings (maker p)) (brought_new c x) (w.brought p) (free_right room (of_entity tree) own) in
        record {
          names = w.given_names p;
          given = w.given p;
          grown = ap (option_map (λ (q : Step tree_reader). apply q (stack_of a s outer))) (i.step (maker p) ∙ ap (λ (o : Option (Brought tree_reader)). using ks (option_map (enters d (extern_name n)) o)) new) ∙
              ap Some (apply-append (uses_each ks) joins (stack_of a s outer)) ∙
              ap (λ (y : Tree_stack). Some (apply joins (apply (uses_each ks) y))) (sym before) ∙
              ap (λ (y : Tree_stack). Some (apply joins y)) (sym (uses_stack c ks s outer)) ∙
              ap Some (sym (j.entered outer));
          free = subst IsFree (sym (i.checks (maker p))) (entry_free p own);
          live = j.live;
        }
