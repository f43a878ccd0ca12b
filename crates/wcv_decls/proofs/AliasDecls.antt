-- Aliases that are declared: what was read, what is kept, and why one is refused.
use Rattle.std.proofs.Common.{◌≡◌, ℕ, zero, suc, List, [], ◌∷◌, ◌++◌, refl, sym, ◌∙◌, ap, subst, Bool, true, false, cond, Some, None, inl, inr}
use Rattle.std.specs.Prelude.{Option, ◌&&◌}
use Rattle.std.specs.Option.{option_map}
use Rattle.wcv_core.specs.Names.{Place}
use Rattle.wcv_core.specs.declared.core_types.EntityType.{EntityType}
use Rattle.wcv_core.specs.declared.error.Error.{Error}
use Rattle.wcv_core.specs.declared.features.WasmFeatures.{WasmFeatures}
use Rattle.wcv_syntax.specs.Model.{alias_item, alias_decl}
use Rattle.wcv_syntax.specs.declared.instance.ComponentAlias.{ComponentAlias}
use Rattle.wcv_syntax.specs.declared.instance.ComponentAlias.TheVariants as alias
use Rattle.wcv_syntax.specs.declared.instance.ComponentOuterAliasKind.{ComponentOuterAliasKind}
use Rattle.wcv_syntax.specs.declared.instance.ComponentOuterAliasKind.TheVariants as outer
use Rattle.wcv_types.specs.Arena.{Arena}
use Rattle.wcv_types.specs.Unfold.{Type_tree}
use Rattle.wcv_lower.specs.Aliases.{outer_at, outer_joins, charged, concrete_at, is_charged, alias_step}
use Rattle.wcv_lower.specs.Context.{charge}
use Rattle.wcv_lower.specs.CoreInstances.{item_joins}
use Rattle.wcv_lower.specs.Declared.{applied}
use Rattle.wcv_lower.specs.DeclaredCalls.{DeclRead}
use Rattle.wcv_lower.specs.Given.{names_of, none_given}
use Rattle.wcv_lower.specs.Growth.{call_checks}
use Rattle.wcv_lower.specs.Names.{Under}
use Rattle.wcv_lower.specs.Readers.{sort_of}
use Rattle.wcv_lower.specs.Step.{Step, charges, on_outer, apply, joins}
use Rattle.wcv_lower.specs.Trees.{Tree_context, Tree_stack, tree_reader, tree_maker}
use Rattle.wcv_lower.proofs.CalmGrowth.{calm_grows}
use Rattle.wcv_state.specs.Aliasing.{AliasedOn}
use Rattle.wcv_spaces.specs.Contents.{Contents, stack_of}
use Rattle.wcv_spaces.specs.Promises.{MemoryOrCausedBy, numbers_of, CausedAt}
use Rattle.wcv_state.proofs.Stacks.{none_made}
use Rattle.wcv_decls.specs.Declaring.{innermost, features_in, stack_in, AreReady, StayReady, SameAround, IsInstanceBody, DeclaresInstance, MemoryOr, ReadsDecl, RefusesDecl}
use Rattle.wcv_decls.specs.Stack.{stack_on, contexts_around, RefusedOn, KeepsOn}
use Rattle.wcv_decls.proofs.ChargedStates.{still_ready}
use Rattle.wcv_decls.proofs.InnermostStates.{innermost_at, stack_at}
use Rattle.wcv_decls.proofs.OverInnermost.{refused_marks}
use Rattle.wcv_decls.proofs.Plain.{own_given, SameSides, same_body}
use Rattle.wcv_decls.proofs.ReadingOn.{grown_numbers, extends_on, innermost_kept}
use Rattle.wcv_decls.proofs.SimpleDecls.{Refused, joined_sides}

-- ## It changes neither side

module _ (s u : Tree_stack) where
  of_found : {A : Type 0} (f : A → Step tree_reader) (o : Option A) → ((x : A) → SameSides s.top (apply (f x) s).top) → applied s (option_map f o) ≡ Some u → SameSides s.top u.top
  of_found f None g e = absurd (cc)
  of_found f (Some x) g e = let i : apply (f x) s ≡ u = cc in subst (λ (t : Tree_stack). SameSides s.top t.top) i (g x)

outer_joined : (w : ComponentOuterAliasKind) (x : Type_tree) (s : Tree_stack) → SameSides s.top (apply (outer_joins {X = tree_reader} w x) s).top
outer_joined outer.CoreModule x s = record { kind = refl; side = λ k. refl; defined = refl }
outer_joined outer.CoreType x s = record { kind = refl; side = λ k. refl; defined = refl }
outer_joined outer.Ty x s = record { kind = refl; side = λ k. refl; defined = refl }
outer_joined outer.Component x s = record { kind = refl; side = λ k. refl; defined = refl }

charged_sides : (n size : ℕ) (s : Tree_stack) → SameSides s.top (on_outer n (charge size) s).top
charged_sides zero size s = record { kind = refl; side = λ k. refl; defined = refl }
charged_sides (suc n) size s = record { kind = refl; side = λ k. refl; defined = refl }

outer_sides : (s : Tree_stack) (w : ComponentOuterAliasKind) (n : ℕ) (x : Type_tree) → SameSides s.top (apply (charged s w n x ++ outer_joins w x) s).top
outer_sides s w zero x = outer_joined w x s
outer_sides s w (suc n) x = go (is_charged w && concrete_at n s)
  where
    go : (b : Bool) → SameSides s.top (apply (cond b (charges n (tree_reader.size x) ∷ []) [] ++ outer_joins w x) s).top
    go false = outer_joined w x s
    go true =
        let t : Tree_stack = on_outer n (charge (tree_reader.size x)) s in
        let c : SameSides s.top t.top = charged_sides n (tree_reader.size x) s in
        let j : SameSides t.top (apply (outer_joins {X = tree_reader} w x) t).top = outer_joined w x t in
        record { kind = j.kind ∙ c.kind; side = λ k. j.side k ∙ c.side k; defined = j.defined ∙ c.defined }

alias_sides : (s u : Tree_stack) (x : ComponentAlias) → applied s (alias_step s x) ≡ Some u → SameSides s.top u.top
alias_sides s u (alias.InstanceExport w i n) e = of_found s u (λ (y : Type_tree). joins tree_reader false (sort_of tree_reader y) y) _ (λ y. joined_sides false (sort_of tree_reader y) y s) e
alias_sides s u (alias.CoreInstanceExport w i n) e = of_found s u (item_joins tree_reader w) _ (λ (y : EntityType). record { kind = refl; side = λ k. refl; defined = refl }) e
alias_sides s u (alias.Outer w n i) e = of_found s u (λ (y : Type_tree). charged s w n y ++ outer_joins w y) (outer_at s w n i) (outer_sides s w n) e

-- ## The states

module _ (a b : Arena) (ss ss' : List Contents) (h : AreReady a ss) (kept : KeepsOn a b ss ss') (x : ComponentAlias) where
  module _ (w : AliasedOn a b ss ss' x) where
    before : stack_in a ss ≡ stack_on a w.outer w.old
    before = stack_at a ss w.outer w.old w.was

    after : stack_in b ss' ≡ stack_on b w.outer' w.new
    after = stack_at b ss' w.outer' w.new w.becomes

    features : features_in ss ≡ w.old.features
    features = ap (λ (s : Contents). s.features) (ap innermost w.was ∙ innermost_at w.outer w.old)

    pub alias_reads : ReadsDecl a b ss ss' (alias_decl x)
    alias_reads p =
        subst (λ (fs : WasmFeatures). DeclRead fs p (stack_in a ss) (alias_decl x) (stack_in b ss') (numbers_of a) (numbers_of b)) (sym features)
        (subst (λ (s : Tree_stack). DeclRead w.old.features p s (alias_decl x) (stack_in b ss') (numbers_of a) (numbers_of b)) (sym before)
        (subst (λ (u : Tree_stack). DeclRead w.old.features p (stack_on a w.outer w.old) (alias_decl x) u (numbers_of a) (numbers_of b)) (sym after)
        (none_given, none_made a b p, w.free, w.grown)))

    pub alias_stays : StayReady b ss ss'
    alias_stays =
        still_ready a b ss ss' h kept w.outer w.outer' w.old w.new w.was w.becomes w.same w.live
        (calm_grows (Under []) (numbers_of a) (numbers_of b) none_given [] (stack_in a ss) (grown_numbers a b (extends_on a b ss ss' h.some kept)) (none_made a b []) h.calm (features_in ss) (stack_in b ss') (alias_item x) tt
        (own_given b (innermost ss') (innermost_kept a b ss ss' h.some kept).stands) (subst (λ (s : Tree_stack). applied s (alias_step s x) ≡ Some (stack_in b ss')) (sym before) (w.grown ∙ ap Some (sym after))))

    pub alias_body : DeclaresInstance a ss → DeclaresInstance b ss'
    alias_body d =
        subst (λ (t : Tree_stack). IsInstanceBody t.top) (sym after)
        (same_body (stack_on a w.outer w.old).top (stack_on b w.outer' w.new).top (alias_sides (stack_on a w.outer w.old) (stack_on b w.outer' w.new) x w.grown) (subst (λ (t : Tree_stack). IsInstanceBody t.top) before d))

  -- ## It was refused

  module _ {M : Type 0} (offset : ℕ) (e : Error M) (f : (p : Place) → RefusedOn a b p ss ss' (alias_item x) offset e) where
    alias_refused : (outer : List Tree_context) (p : Place) (s : Contents) → CausedAt a b outer p s (alias_item x) offset e → Refused a b (alias_decl x) p offset e s.features (stack_of a s outer)
    alias_refused outer p s w = go w.caused
      where
        go : MemoryOrCausedBy (call_checks s.features (tree_maker (names_of w.names) p) (stack_of a s outer) (alias_item x)) offset e → Refused a b (alias_decl x) p offset e s.features (stack_of a s outer)
        go (inl m) = inl m
        go (inr c) = inr ((w.names, w.given, c.0), c.1)

    pub alias_refuses : MemoryOr (RefusesDecl a b ss (alias_decl x)) offset e
    alias_refuses p =
        let w = (f p).last in
        let fs : features_in ss ≡ w.old.features = ap (λ (s : Contents). s.features) (ap innermost w.was ∙ innermost_at w.outer w.old) in
        subst (λ (z : WasmFeatures). Refused a b (alias_decl x) p offset e z (stack_in a ss)) (sym fs)
        (subst (Refused a b (alias_decl x) p offset e w.old.features) (sym (stack_at a ss w.outer w.old w.was)) (alias_refused (contexts_around a w.outer) p w.old (f p).refused.1))

    pub alias_marks : SameAround ss ss'
    alias_marks = refused_marks ss ss' (f []).last
