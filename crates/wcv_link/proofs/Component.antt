-- A component inside another, from the state that is opened for it to its end.
use Rattle.std.proofs.Common.{◌≡◌, ℕ, ◌<◌, List, [], ◌∷◌, ◌++◌, length, ◌∙◌, ap, subst, inl, inr}
use Rattle.std.specs.Prelude.{◌⊎◌}
use Rattle.wcv_core.specs.Names.{Name, Place, number}
use Rattle.wcv_core.specs.Refusal.{error_kind, error_offset}
use Rattle.wcv_core.specs.declared.error.Error.{Error}
use Rattle.wcv_core.specs.declared.error.ErrorKind.TheVariants as kind
use Rattle.wcv_core.specs.declared.features.WasmFeatures.{WasmFeatures}
use Rattle.wcv_syntax.specs.Model.{component_item, Items}
use Rattle.wcv_types.specs.Arena.{Arena}
use Rattle.wcv_types.specs.ComponentTrees.{root_tree}
use Rattle.wcv_types.specs.Standing.{Extends}
use Rattle.wcv_types.specs.declared.component_type.ComponentType.{ComponentType}
use Rattle.wcv_types.proofs.Grown.{extends_refl, extends_trans}
use Rattle.wcv_lower.specs.Checks.{IsFree}
use Rattle.wcv_lower.specs.Context.{concrete}
use Rattle.wcv_lower.specs.Declared.{inside}
use Rattle.wcv_lower.specs.Ending.{component_end_checks, type_at_end}
use Rattle.wcv_lower.specs.Given.{names_of}
use Rattle.wcv_lower.specs.Items.{component_checks}
use Rattle.wcv_lower.specs.Trees.{Tree_stack, node_tree}
use Rattle.wcv_spaces.specs.Contents.{Contents}
use Rattle.wcv_spaces.specs.Promises.{MemoryOrCausedBy, numbers_of, Finished}
use Rattle.wcv_decls.specs.Declaring.{innermost, around, features_in, stack_in, top_in, Opened, Ends}
use Rattle.wcv_decls.specs.Stack.{all_uncharged, KeepsOn}
use Rattle.wcv_decls.proofs.Opening.{opened_stack}
use Rattle.wcv_decls.proofs.ReadingOn.{grown_numbers, extends_on, innermost_kept}
use Rattle.wcv_decls.proofs.Whole.{same_around, same_innermost, some_too}
use Rattle.wcv_growth.specs.Nested.{Nested_types, one_type, end_type}
use Rattle.wcv_link.specs.ItemCalls.{ItemTells, ItemsRead, ItemRefused, ItemsRefused}
use Rattle.wcv_link.specs.Progress.{RefusesItem, TellsItem, AcceptsItems, RefusesItems}
use Rattle.wcv_link.specs.Told.{Ended}
use Rattle.wcv_link.specs.declared.nesting.Nesting.{Nesting}
use Rattle.wcv_link.proofs.Open.{ready_then}
use Rattle.wcv_link.proofs.ItemsGlued.{component_read, component_refused, component_barred, ended_refused}

-- ## No item inside it was read

module _ (a : Arena) (ss : List Contents) (is : Items) (end : ℕ) where
  pub barred : {M : Type 0} (offset : ℕ) (e : Error M) → MemoryOrCausedBy (component_checks (stack_in a ss) is) offset e → RefusesItem a a ss (component_item is end) offset e
  barred offset e r = record { refused = λ p. go p r; arena = extends_refl a }
    where
      go : (p : Place) → MemoryOrCausedBy (component_checks (stack_in a ss) is) offset e →
          (error_kind e ≡ kind.OutOfMemory) ⊎ ItemRefused (features_in ss) p (stack_in a ss) offset (component_item is end) (error_kind e) (error_offset e) (numbers_of a) (numbers_of a)
      go p (inl m) = inl m
      go p (inr c) = inr (component_barred (features_in ss) p (stack_in a ss) is end offset (error_kind e) (error_offset e) (numbers_of a) (numbers_of a) c.0 c.1)

-- ## Its items were read

module _ (a : Arena) (ss ts : List Contents) (some : 0 < length ss) (w : Opened concrete a ss ts) (is : Items) (end : ℕ) (free : IsFree (component_checks (stack_in a ss) is)) where
  -- a refusal of one of them
  pub inside_refused : {M : Type 0} (m : Arena) (offset : ℕ) (e : Error M) → RefusesItems a m ts is e → RefusesItem a m ss (component_item is end) offset e
  inside_refused m offset e r = record { refused = λ p. go p (r.refused p end); arena = r.arena }
    where
      go : (p : Place) → (error_kind e ≡ kind.OutOfMemory) ⊎ ItemsRefused (features_in ts) p 0 (stack_in a ts) is end (error_kind e) (error_offset e) (numbers_of a) (numbers_of m) →
          (error_kind e ≡ kind.OutOfMemory) ⊎ ItemRefused (features_in ss) p (stack_in a ss) offset (component_item is end) (error_kind e) (error_offset e) (numbers_of a) (numbers_of m)
      go p (inl x) = inl x
      go p (inr x) =
          let here : ItemsRefused (features_in ss) p 0 (inside concrete (stack_in a ss)) is end (error_kind e) (error_offset e) (numbers_of a) (numbers_of m) =
          subst (λ (fs : WasmFeatures). ItemsRefused fs p 0 (inside concrete (stack_in a ss)) is end (error_kind e) (error_offset e) (numbers_of a) (numbers_of m)) w.features
          (subst (λ (s : Tree_stack). ItemsRefused (features_in ts) p 0 s is end (error_kind e) (error_offset e) (numbers_of a) (numbers_of m)) (opened_stack concrete a ss ts some w) x) in
          inr (component_refused (features_in ss) p (stack_in a ss) is end offset (error_kind e) (error_offset e) (numbers_of a) (numbers_of m) free here)

  module _ (m : Arena) (us : List Contents) (nested : Place → Nested_types) (r : AcceptsItems a m ts us is nested) where
    -- in the stack that is opened
    inside_read : (p : Place) → ItemsRead (features_in ss) p 0 (inside concrete (stack_in a ss)) is (stack_in m us) (numbers_of a) (numbers_of m) (nested p)
    inside_read p =
        subst (λ (fs : WasmFeatures). ItemsRead fs p 0 (inside concrete (stack_in a ss)) is (stack_in m us) (numbers_of a) (numbers_of m) (nested p)) w.features
        (subst (λ (s : Tree_stack). ItemsRead (features_in ts) p 0 s is (stack_in m us) (numbers_of a) (numbers_of m) (nested p)) (opened_stack concrete a ss ts some w) (r.reads p))

    -- the states around it are those that it was opened on, but for sizes
    same_states : all_uncharged (around us) ≡ all_uncharged ss
    same_states = r.goes_on.around ∙ ap all_uncharged w.around

    pub some_around : 0 < length (around us)
    some_around = some_too ss (around us) same_states some

    module _ (b : Arena) (vs : List Contents) (after : KeepsOn m b (around us) vs) where
      pub later : Extends m b
      later = extends_on m b (around us) vs some_around after

      -- a refusal at its end
      pub end_refused : {M : Type 0} (offset : ℕ) (e : Error M) → MemoryOrCausedBy (component_end_checks (top_in m us)) end e → RefusesItem a b ss (component_item is end) offset e
      end_refused offset e x = record { refused = λ p. go p x; arena = extends_trans a m b r.goes_on.arena later }
        where
          go : (p : Place) → MemoryOrCausedBy (component_end_checks (top_in m us)) end e →
              (error_kind e ≡ kind.OutOfMemory) ⊎ ItemRefused (features_in ss) p (stack_in a ss) offset (component_item is end) (error_kind e) (error_offset e) (numbers_of a) (numbers_of b)
          go p (inl y) = inl y
          go p (inr c) =
              inr (
              component_refused (features_in ss) p (stack_in a ss) is end offset (error_kind e) (error_offset e) (numbers_of a) (numbers_of b) free
              (ended_refused (features_in ss) p 0 (inside concrete (stack_in a ss)) (stack_in m us) is end (error_kind e) (error_offset e) (numbers_of a) (numbers_of m) (numbers_of b) (nested p) (grown_numbers m b later) (inside_read p) c.0 c.1)
              )

      -- out of memory behind its end
      pub memory_refused : {M : Type 0} (offset : ℕ) (e : Error M) → error_kind e ≡ kind.OutOfMemory → RefusesItem a b ss (component_item is end) offset e
      memory_refused offset e x = record { refused = λ p. inl x; arena = extends_trans a m b r.goes_on.arena later }

      -- the whole: the components that end in it, and then its own type
      module _ (z : Ends concrete m b us vs) (ty : ComponentType) (f : Finished m (innermost us) ty) where
        last_type : (p : Place) → nested p ++ end_type (names_of (z.names p)) p (stack_in m us) ≡ nested p ++ (p, root_tree m ty) ∷ []
        last_type p =
            ap (λ (xs : Nested_types). nested p ++ xs) (ap (λ (i : Name). one_type p (type_at_end (node_tree i) (top_in m us))) (z.named p) ∙ ap (one_type p) (f.tree (number (length m.nodes))))

        pub whole : (old new : Nesting) → Ended b old new (nested old.place.items ++ (old.place.items, root_tree m ty) ∷ []) → TellsItem a b old new ss vs (component_item is end)
        whole old new told =
            let same : features_in (around us) ≡ features_in ss = ap (λ (s : Contents). s.features) (same_innermost ss (around us) same_states) in
            record {
              nested = λ p. nested p ++ (p, root_tree m ty) ∷ [];
              reads = λ p.
                  subst (λ (xs : Nested_types). ItemTells (features_in ss) p (stack_in a ss) (component_item is end) (stack_in b vs) (numbers_of a) (numbers_of b) xs) (last_type p)
                  (component_read (features_in ss) p (stack_in a ss) is end (stack_in m us) (numbers_of a) (numbers_of m) (numbers_of b) (nested p) (z.names p) (inside_read p) (grown_numbers m b later) (z.given p) (stack_in b vs) free z.free (z.ended p));
              goes_on = record {
                ready = ready_then b vs z.ready.ready;
                around = z.ready.around ∙ same_around ss (around us) same_states;
                features = (innermost_kept m b (around us) vs some_around after).features ∙ same;
                arena = extends_trans a m b r.goes_on.arena later;
              };
              ended = told;
            }
