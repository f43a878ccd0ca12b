-- A declared type from the state that is opened for it to its end.
use Rattle.std.proofs.Common.{◌≡◌, ℕ, ◌<◌, List, [], ◌∷◌, ◌++◌, length, refl, sym, ◌∙◌, ap, subst, Bool, inl, inr}
use Rattle.std.specs.Prelude.{◌⊎◌, Option}
use Rattle.std.proofs.lemmas.List.{length-map}
use Rattle.std.proofs.lemmas.List.Elements.{All-nil}
use Rattle.wcv_core.specs.Names.{Name, Place}
use Rattle.wcv_core.specs.declared.core_types.ValType.{ValType}
use Rattle.wcv_core.specs.Refusal.{error_kind, error_offset}
use Rattle.wcv_core.specs.declared.error.Error.{Error}
use Rattle.wcv_core.specs.declared.error.ErrorKind.{ErrorKind}
use Rattle.wcv_core.specs.declared.error.ErrorKind.TheVariants as kind
use Rattle.wcv_core.specs.declared.features.WasmFeatures.{WasmFeatures}
use Rattle.wcv_syntax.specs.Model.{Decls, component_type, instance_type}
use Rattle.wcv_types.specs.Arena.{Arena}
use Rattle.wcv_types.specs.Led.{HasPath}
use Rattle.wcv_lower.specs.Checks.{Checks, Cause, IsFree, no_type_room}
use Rattle.wcv_lower.specs.Context.{Kind, declares_instance, declares_component, counts}
use Rattle.wcv_lower.specs.Declared.{inside, full_stack, decls_checks}
use Rattle.wcv_lower.specs.DeclaredCalls.{DeclsRead, DeclsRefused}
use Rattle.wcv_lower.specs.Ending.{end_checks}
use Rattle.wcv_lower.specs.Given.{names_of, none_given, AtMost}
use Rattle.wcv_lower.specs.Trees.{Tree_context, Tree_stack, tree_maker}
use Rattle.wcv_lower.proofs.Causes.{cause_left, cause_right, cause_either}
use Rattle.wcv_lower.proofs.DeclaredGlued.{instance_read, component_read, instance_refused, component_refused}
use Rattle.wcv_spaces.specs.Contents.{Contents, spent, context_of}
use Rattle.wcv_spaces.specs.Promises.{MemoryOrCausedBy, numbers_of}
use Rattle.wcv_state.specs.Stack.{uncharged}
use Rattle.wcv_spaces.proofs.Keeping.{same_context}
use Rattle.wcv_state.proofs.Stacks.{none_made}
use Rattle.wcv_decls.specs.Declaring.{innermost, around, features_in, stack_in, top_in, AreReady, StayReady, SameAround, IsInstanceBody, DeclaresInstance, Opened, ReadsType, ReadsDecls, MemoryOr, RefusesType, RefusesDecls, Ends}
use Rattle.wcv_decls.specs.Stack.{all_spent, all_uncharged, KeepsOn}
use Rattle.wcv_decls.proofs.InnermostStates.{open_here}
use Rattle.wcv_decls.proofs.Opening.{opened_stack}
use Rattle.wcv_decls.proofs.Plain.{SameSides, same_body}
use Rattle.wcv_decls.proofs.ReadingOn.{grown_numbers, extends_on, kept_both, around_of_kept, end_refused}

-- those around, of states that were marked
pub around_spent : (ss : List Contents) → around (all_spent ss) ≡ all_spent (around ss)
around_spent [] = refl
around_spent (s ∷ []) = refl
around_spent (s ∷ t ∷ ss) = ap (λ (xs : List Contents). spent s ∷ xs) (around_spent (t ∷ ss))

-- so of the sizes of what was aliased into them
around_uncharged : (ss : List Contents) → around (all_uncharged ss) ≡ all_uncharged (around ss)
around_uncharged [] = refl
around_uncharged (s ∷ []) = refl
around_uncharged (s ∷ t ∷ ss) = ap (λ (xs : List Contents). uncharged s ∷ xs) (around_uncharged (t ∷ ss))

around_marked : (ss : List Contents) → around (all_spent (all_uncharged ss)) ≡ all_spent (all_uncharged (around ss))
around_marked ss = around_spent (all_uncharged ss) ∙ ap all_spent (around_uncharged ss)

innermost_uncharged : (ss : List Contents) → innermost (all_uncharged ss) ≡ uncharged (innermost ss)
innermost_uncharged [] = refl
innermost_uncharged (s ∷ []) = refl
innermost_uncharged (s ∷ t ∷ ss) = innermost_uncharged (t ∷ ss)

-- states that are the same but for these sizes
module _ (ss ts : List Contents) (e : all_uncharged ts ≡ all_uncharged ss) where
  pub same_around : all_uncharged (around ts) ≡ all_uncharged (around ss)
  same_around = sym (around_uncharged ts) ∙ ap around e ∙ around_uncharged ss

  pub same_innermost : uncharged (innermost ts) ≡ uncharged (innermost ss)
  same_innermost = sym (innermost_uncharged ts) ∙ ap innermost e ∙ innermost_uncharged ss

  pub some_too : 0 < length ss → 0 < length ts
  some_too h = subst (λ (n : ℕ). 0 < n) (sym (length-map ss uncharged) ∙ sym (ap length e) ∙ length-map ts uncharged) h

-- the sides of a context do not tell these
uncharged_sides : (a : Arena) (s : Contents) → SameSides (context_of a s) (context_of a (uncharged s))
uncharged_sides a s = record { kind = refl; side = λ j. refl; defined = refl }

charged_sides : (a : Arena) (s : Contents) → SameSides (context_of a (uncharged s)) (context_of a s)
charged_sides a s = record { kind = refl; side = λ j. refl; defined = refl }

-- ## No declaration was read

module _ (limited : Bool) (a b : Arena) (ss : List Contents) where
  abbrev Barred : Checks
  Barred = full_stack (stack_in a ss) ++ no_type_room limited (counts (top_in a ss))

  barred_cause : (own : Checks) (e : ErrorKind) → Cause Barred e → Cause (full_stack (stack_in a ss) ++ (own ++ no_type_room limited (counts (top_in a ss)))) e
  barred_cause own e c = go (cause_either (full_stack (stack_in a ss)) (no_type_room limited (counts (top_in a ss))) e c)
    where
      room : Checks
      room = no_type_room limited (counts (top_in a ss))

      go : Cause (full_stack (stack_in a ss)) e ⊎ Cause room e → Cause (full_stack (stack_in a ss) ++ (own ++ room)) e
      go (inl x) = cause_left (full_stack (stack_in a ss)) (own ++ room) e x
      go (inr x) = cause_right (full_stack (stack_in a ss)) (own ++ room) e (cause_right own room e x)

  pub component_barred : {M : Type 0} (ds : Decls) (offset : ℕ) (e : Error M) → MemoryOrCausedBy (full_stack (stack_in a ss) ++ no_type_room limited (counts (top_in a ss))) offset e → MemoryOr (RefusesType limited a b ss (component_type ds)) offset e
  component_barred ds offset e r p = go r
    where
      go : MemoryOrCausedBy Barred offset e → (error_kind e ≡ kind.OutOfMemory) ⊎ (RefusesType limited a b ss (component_type ds) p (error_kind e) × (error_offset e ≡ offset))
      go (inl m) = inl m
      go (inr c) = inr ((none_given, none_made a b p, barred_cause (decls_checks (features_in ss) (tree_maker (names_of none_given)) p 0 declares_component (inside declares_component (stack_in a ss)) ds) (error_kind e) c.0), c.1)

  pub instance_barred : {M : Type 0} (ds : Decls) (offset : ℕ) (e : Error M) → MemoryOrCausedBy (full_stack (stack_in a ss) ++ no_type_room limited (counts (top_in a ss))) offset e → MemoryOr (RefusesType limited a b ss (instance_type ds)) offset e
  instance_barred ds offset e r p = go r
    where
      go : MemoryOrCausedBy Barred offset e → (error_kind e ≡ kind.OutOfMemory) ⊎ (RefusesType limited a b ss (instance_type ds) p (error_kind e) × (error_offset e ≡ offset))
      go (inl m) = inl m
      go (inr c) = inr ((none_given, none_made a b p, barred_cause (decls_checks (features_in ss) (tree_maker (names_of none_given)) p 0 declares_instance (inside declares_instance (stack_in a ss)) ds) (error_kind e) c.0), c.1)

-- ## Its declarations were read

module _ (k : Kind) (a : Arena) (ss ts : List Contents) (h : AreReady a ss) (w : Opened k a ss ts) where
  -- in the stack that the rules open
  pub inside_read : (m : Arena) (us : List Contents) (ds : Decls) → ReadsDecls a m ts us ds → (p : Place) → DeclsRead (features_in ss) p 0 (inside k (stack_in a ss)) ds (stack_in m us) (numbers_of a) (numbers_of m)
  inside_read m us ds r p =
      subst (λ (fs : WasmFeatures). DeclsRead fs p 0 (inside k (stack_in a ss)) ds (stack_in m us) (numbers_of a) (numbers_of m)) w.features
      (subst (λ (s : Tree_stack). DeclsRead (features_in ts) p 0 s ds (stack_in m us) (numbers_of a) (numbers_of m)) (opened_stack k a ss ts h.some w) (r p))

  pub inside_refused : (m : Arena) (ds : Decls) (p : Place) (e : ErrorKind) → RefusesDecls k a m ts ds p e → DeclsRefused (features_in ss) p 0 k (inside k (stack_in a ss)) ds e (numbers_of a) (numbers_of m)
  inside_refused m ds p e r =
      subst (λ (fs : WasmFeatures). DeclsRefused fs p 0 k (inside k (stack_in a ss)) ds e (numbers_of a) (numbers_of m)) w.features
      (subst (λ (s : Tree_stack). DeclsRefused (features_in ts) p 0 k s ds e (numbers_of a) (numbers_of m)) (opened_stack k a ss ts h.some w) r)

  module _ (m : Arena) (us : List Contents) (kept : KeepsOn a m ts us) where
    -- the states around it keep what they had
    pub kept_around : KeepsOn a m ss (around us)
    kept_around = subst (λ (xs : List Contents). KeepsOn a m xs (around us)) w.around (around_of_kept a m ts us kept)

    -- but for marks and sizes, those around these stay
    pub marks_around : SameAround ts us → SameAround ss (around us)
    marks_around e =
        let marked : all_spent (all_uncharged (around us)) ≡ all_spent (all_uncharged ss) = e ∙ ap (λ (xs : List Contents). all_spent (all_uncharged xs)) w.around in
        sym (around_marked (around us)) ∙ ap around marked ∙ around_marked ss

    module _ (stay : StayReady m ts us) where
      same_states : all_uncharged (around us) ≡ all_uncharged ss
      same_states = stay.around ∙ ap all_uncharged w.around

      -- and those around them
      same_further : all_uncharged (around (around us)) ≡ all_uncharged (around ss)
      same_further = same_around ss (around us) same_states

      pub some_around : 0 < length (around us)
      some_around = some_too ss (around us) same_states h.some

      -- a refusal at its end leaves them so
      pub marks_further : (vs : List Contents) → SameAround (around us) vs → SameAround ss vs
      marks_further vs e = e ∙ ap all_spent same_further

      -- what an instance type declares around it stays so
      pub body_around : DeclaresInstance a ss → DeclaresInstance m (around us)
      body_around i =
          let c : context_of m (innermost ss) ≡ context_of a (innermost ss) = same_context a m (extends_on a m ss (around us) h.some kept_around) (innermost ss) (open_here a ss h.some h.each).stands in
          let n : uncharged (innermost ss) ≡ uncharged (innermost (around us)) = sym (same_innermost ss (around us) same_states) in
          let here : IsInstanceBody (context_of m (uncharged (innermost ss))) = same_body (context_of m (innermost ss)) (context_of m (uncharged (innermost ss))) (uncharged_sides m (innermost ss)) (subst (λ (x : Tree_context). IsInstanceBody x) (sym c) i) in
          same_body (context_of m (uncharged (innermost (around us)))) (context_of m (innermost (around us))) (charged_sides m (innermost (around us))) (subst (λ (s : Contents). IsInstanceBody (context_of m s)) n here)

      module _ (b : Arena) (vs : List Contents) (z : Ends k m b us vs) (after : KeepsOn m b (around us) vs) where
        pub whole_kept : KeepsOn a b ss vs
        whole_kept = kept_both a m b ss (around us) vs kept_around after

        pub whole_stays : StayReady b ss vs
        whole_stays = record { ready = z.ready.ready; around = z.ready.around ∙ same_further }

        pub whole_declares : DeclaresInstance a ss → DeclaresInstance b vs
        whole_declares i = z.declares (body_around i)

        pub later : AtMost (numbers_of m) (numbers_of b)
        later = grown_numbers m b (extends_on m b (around us) vs some_around after)

-- ## The whole

module _ (limited : Bool) (a : Arena) (ss ts : List Contents) (h : AreReady a ss) (full : IsFree (full_stack (stack_in a ss))) (room : IsFree (no_type_room limited (counts (top_in a ss)))) (m : Arena) (us : List Contents) (ds : Decls) where
  module _ (w : Opened declares_component a ss ts) where
    pub component_whole : (kept : KeepsOn a m ts us) (stay : StayReady m ts us) (b : Arena) (vs : List Contents) → ReadsDecls a m ts us ds → Ends declares_component m b us vs → KeepsOn m b (around us) vs → ReadsType limited a b ss vs (component_type ds)
    component_whole kept stay b vs r z after p =
        component_read (features_in ss) p limited (stack_in a ss) (stack_in m us) (stack_in b vs) ds (numbers_of a) (numbers_of m) (numbers_of b) (z.names p) full (inside_read declares_component a ss ts h w m us ds r p) z.free room
        (later declares_component a ss ts h w m us kept stay b vs z after) (z.given p) (z.ended p)

    pub component_inside_refused : {M : Type 0} (offset : ℕ) (e : Error M) → MemoryOr (RefusesDecls declares_component a m ts ds) offset e → MemoryOr (RefusesType limited a m ss (component_type ds)) offset e
    component_inside_refused offset e r p = go (r p)
      where
        go : (error_kind e ≡ kind.OutOfMemory) ⊎ (RefusesDecls declares_component a m ts ds p (error_kind e) × (error_offset e ≡ offset)) → (error_kind e ≡ kind.OutOfMemory) ⊎ (RefusesType limited a m ss (component_type ds) p (error_kind e) × (error_offset e ≡ offset))
        go (inl x) = inl x
        go (inr c) = inr (component_refused (features_in ss) p limited (stack_in a ss) ds (error_kind e) (numbers_of a) (numbers_of m) (inside_refused declares_component a ss ts h w m ds p (error_kind e) c.0), c.1)

    pub component_end_refused : {M : Type 0} (b : Arena) (offset : ℕ) (e : Error M) → AtMost (numbers_of m) (numbers_of b) → ReadsDecls a m ts us ds → MemoryOrCausedBy (end_checks (top_in m us)) offset e → MemoryOr (RefusesType limited a b ss (component_type ds)) offset e
    component_end_refused b offset e l r x p = go x
      where
        go : MemoryOrCausedBy (end_checks (top_in m us)) offset e → (error_kind e ≡ kind.OutOfMemory) ⊎ (RefusesType limited a b ss (component_type ds) p (error_kind e) × (error_offset e ≡ offset))
        go (inl y) = inl y
        go (inr c) =
            inr (
              component_refused (features_in ss) p limited (stack_in a ss) ds (error_kind e) (numbers_of a) (numbers_of b)
                  (end_refused (features_in ss) p 0 declares_component (inside declares_component (stack_in a ss)) (stack_in m us) ds (error_kind e) (numbers_of a) (numbers_of m) (numbers_of b) l (inside_read declares_component a ss ts h w m us ds r p) c.0),
              c.1,
            )

  module _ (w : Opened declares_instance a ss ts) where
    pub instance_whole : (kept : KeepsOn a m ts us) (stay : StayReady m ts us) (b : Arena) (vs : List Contents) → ReadsDecls a m ts us ds → Ends declares_instance m b us vs → KeepsOn m b (around us) vs → ReadsType limited a b ss vs (instance_type ds)
    instance_whole kept stay b vs r z after p =
        instance_read (features_in ss) p limited (stack_in a ss) (stack_in m us) (stack_in b vs) ds (numbers_of a) (numbers_of m) (numbers_of b) (z.names p) full (inside_read declares_instance a ss ts h w m us ds r p) z.free room
        (later declares_instance a ss ts h w m us kept stay b vs z after) (z.given p) (z.ended p)

    pub instance_inside_refused : {M : Type 0} (offset : ℕ) (e : Error M) → MemoryOr (RefusesDecls declares_instance a m ts ds) offset e → MemoryOr (RefusesType limited a m ss (instance_type ds)) offset e
    instance_inside_refused offset e r p = go (r p)
      where
        go : (error_kind e ≡ kind.OutOfMemory) ⊎ (RefusesDecls declares_instance a m ts ds p (error_kind e) × (error_offset e ≡ offset)) → (error_kind e ≡ kind.OutOfMemory) ⊎ (RefusesType limited a m ss (instance_type ds) p (error_kind e) × (error_offset e ≡ offset))
        go (inl x) = inl x
        go (inr c) = inr (instance_refused (features_in ss) p limited (stack_in a ss) ds (error_kind e) (numbers_of a) (numbers_of m) (inside_refused declares_instance a ss ts h w m ds p (error_kind e) c.0), c.1)

-- a state that is new declares an instance type
pub opened_body : (a : Arena) (ss ts : List Contents) → Opened declares_instance a ss ts → DeclaresInstance a ts
opened_body a ss ts w = subst (λ (c : Tree_context). IsInstanceBody c) (sym w.empty) (record { kind = refl; imports = refl; led = All-nil (λ (d : Name × Option ValType). HasPath [] d.0) })
