-- How a root is read, whose state alone is open.
use Rattle.std.proofs.Common.{◌≡◌, List, [], ◌∷◌, ◌++◌, length, refl, sym, ◌∙◌, ap, subst, arith, slice_set, slice_index_or, All, ◌⊎◌}
use Rattle.std.specs.Prelude.{ℕ, Result, IfOk, OnOk, Ok, Err}
use Rattle.std.specs.List.{AllZip}
use Rattle.std.proofs.lemmas.List.Elements.{All-nil, All-cons, All-head}
use Rattle.wcv_core.specs.Names.{Place}
use Rattle.wcv_core.specs.Refusal.{error_kind, error_offset}
use Rattle.wcv_core.specs.declared.error.Error.{Error}
use Rattle.wcv_core.specs.declared.error.ErrorKind.TheVariants as kind
use Rattle.wcv_core.specs.declared.features.WasmFeatures.{WasmFeatures}
use Rattle.wcv_syntax.specs.Model.{Items}
use Rattle.wcv_types.specs.Arena.{Arena}
use Rattle.wcv_types.specs.declared.component_type.ComponentType.{ComponentType}
use Rattle.wcv_lower.specs.Checks.{IsFree}
use Rattle.wcv_lower.specs.Context.{concrete}
use Rattle.wcv_lower.specs.Ending.{component_end_checks}
use Rattle.wcv_lower.specs.Marks.{unused_checks}
use Rattle.wcv_lower.specs.Owned.{IsCalm}
use Rattle.wcv_lower.specs.Trees.{Tree_stack}
use Rattle.wcv_lower.proofs.Calm.{calm_start}
use Rattle.wcv_spaces.specs.Contents.{Contents, context_of, stack_of, empty_state, finished}
use Rattle.wcv_spaces.specs.Promises.{MemoryOrCausedBy, numbers_of, Finished}
use Rattle.wcv_spaces.specs.declared.kind.ComponentKind.TheVariants.{Component}
use Rattle.wcv_spaces.proofs.Keeping.{empty_stands}
use Rattle.wcv_decls.specs.Declaring.{innermost, around, features_in, stack_in}
use Rattle.wcv_decls.specs.Stack.{IsOpen, all_uncharged, stack_on}
use Rattle.wcv_decls.proofs.InnermostStates.{parted, calm_all}
use Rattle.wcv_growth.specs.Nested.{Nested_types}
use Rattle.wcv_growth.specs.Valid.{start}
use Rattle.wcv_link.specs.Accepts.{AcceptsWith}
use Rattle.wcv_link.specs.ItemCalls.{ItemsRead, ItemsRefused}
use Rattle.wcv_link.specs.Progress.{IsReady, AcceptsItems, RefusesItems, MemoryOrRefused}
use Rattle.wcv_link.specs.Told.{Told, Ended}
use Rattle.wcv_link.specs.declared.nesting.Nested.{Nested}
use Rattle.wcv_link.specs.declared.nesting.Nesting.{Nesting}
use Rattle.wcv_link.proofs.Leading.{root_read, refused_root, refused_end, read_all}
use Rattle.wcv_link.proofs.Reaching.{empty_stack}

-- ## The beginning

none_around : (ss : List Contents) → all_uncharged ss ≡ [] → ss ≡ []
none_around [] e = refl
none_around (s ∷ ss) e = absurd (cc)

only : (s t : Contents) → s ∷ [] ≡ t ∷ [] → s ≡ t
only s t e = cc

module _ (a : Arena) (features : WasmFeatures) (none : a.core ≡ []) (ss : List Contents) (alone : ss ≡ empty_state Component features ∷ []) where
  abbrev root : Contents
  root = empty_state Component features

  root_calm : IsCalm (numbers_of a) (stack_on a [] root)
  root_calm = subst (IsCalm (numbers_of a)) (sym (empty_stack a features none)) (calm_start (numbers_of a) concrete [])

  root_ready : IsReady a (root ∷ [])
  root_ready = record {
    some = omega arith;
    usable = All-cons (IsOpen a) root [] (record { live = refl; stands = empty_stands a Component features }) (All-nil (IsOpen a));
    calm = calm_all a (root ∷ []) root_calm;
  }

  pub begins : IsReady a ss
  begins = subst (IsReady a) (sym alone) root_ready

  at_start : stack_in a ss ≡ start
  at_start = ap (stack_in a) alone ∙ empty_stack a features none

  same_features : features_in ss ≡ features
  same_features = ap features_in alone

  module _ (b : Arena) (is : Items) where
    -- what is said of the items by the states is said from the start
    from_start : (P : WasmFeatures → Tree_stack → Type 0) → P (features_in ss) (stack_in a ss) → P features start
    from_start P h = subst (λ (fs : WasmFeatures). P fs start) same_features (subst (P (features_in ss)) at_start h)

    -- one of them was refused
    pub stops : {M : Type 0} (end : ℕ) (x : Error M) → RefusesItems a b ss is x → MemoryOrRefused features is end x
    stops end x w =
        refused_root a b features is end x
        (from_start (λ fs s. (error_kind x ≡ kind.OutOfMemory) ⊎ ItemsRefused fs [] 0 s is end (error_kind x) (error_offset x) (numbers_of a) (numbers_of b)) (w.refused [] end))

    -- they were read
    module _ (ts : List Contents) (nested : Place → Nested_types) (w : AcceptsItems a b ss ts is nested) where
      still_alone : ts ≡ innermost ts ∷ []
      still_alone =
          let none_there : around ts ≡ [] = none_around (around ts) (w.goes_on.around ∙ ap (λ (xs : List Contents). all_uncharged (around xs)) alone) in
          parted ts w.goes_on.ready.some ∙ ap (λ (os : List Contents). os ++ innermost ts ∷ []) none_there

      pub looked_up : (s : Contents) → s ≡ slice_index_or ts 0 s → s ≡ innermost ts
      looked_up s first = first ∙ ap (λ (xs : List Contents). slice_index_or xs 0 s) still_alone

      -- the state is looked up as the first
      module _ (s : Contents) (first : s ≡ slice_index_or ts 0 s) where
        first_alone : ts ≡ s ∷ []
        first_alone = still_alone ∙ ap (λ (t : Contents). t ∷ []) (sym (looked_up s first))

        pub alone_open : IsOpen b s
        alone_open = All-head (IsOpen b) s [] (subst (All (IsOpen b)) first_alone w.goes_on.ready.usable)

        alone_read : ItemsRead features [] 0 start is (stack_of b s []) (numbers_of a) (numbers_of b) (nested [])
        alone_read =
            subst (λ (xs : List Contents). ItemsRead features [] 0 start is (stack_in b xs) (numbers_of a) (numbers_of b) (nested [])) first_alone
            (from_start (λ fs t. ItemsRead fs [] 0 t is (stack_in b ts) (numbers_of a) (numbers_of b) (nested [])) (w.reads []))

        -- the end was refused
        pub stops_at_end : {M : Type 0} (end : ℕ) (x : Error M) → MemoryOrCausedBy (component_end_checks (context_of b s)) end x → MemoryOrRefused features is end x
        stops_at_end end x h = refused_end a b features is end x s (nested []) alone_read h

        -- the type was taken, and those of components inside others are told
        pub ends : IsFree (unused_checks (context_of b s)) → (old new : Nesting) → old.place.items ≡ [] → old.ended.items ≡ [] → Ended b old new (nested old.place.items) → (s' t : Contents) (ty : ComponentType) → slice_set ts 0 s' ≡ t ∷ [] → s' ≡ finished s → Finished b s ty →
            AcceptsWith features is b t ty new.ended.items
        ends used old new place none n s' t ty set g h = λ x types state type those.
            let same : t ≡ s' = sym (only s' t (ap (λ (xs : List Contents). slice_set xs 0 s') (sym first_alone) ∙ set)) in
            let more : x.nested.items ≡ n.more = those ∙ n.ended ∙ ap (λ (xs : List Nested). xs ++ n.more) none in
            read_all a b s features is (nested []) (root_read a b s features is (nested []) w.goes_on.arena alone_read) alone_open.stands used x types (state ∙ same ∙ g) (subst (Finished b s) (sym type) h)
            (subst (λ (xs : List Nested). AllZip (Told b) xs (nested [])) (sym more) (subst (λ (p : Place). AllZip (Told b) n.more (nested p)) place n.told))

        pub still_one : (s' : Contents) → length (slice_set ts 0 s') ≡ 1
        still_one s' = ap (λ (xs : List Contents). length (slice_set xs 0 s')) first_alone

-- what two clauses say of a value
pub ok_and : {T E : Type 0} (r : Result T E) {P R : T → Type 0} {Q : Type 0} → ((x : T) → P x → Q → R x) → IfOk r P → OnOk r Q → IfOk r R
ok_and (Ok x) f p q = f x p q
ok_and (Err e) f p q = tt
