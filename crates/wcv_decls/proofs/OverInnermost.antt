-- Calls on the innermost of the states, as they are said over all of them.
use Rattle.std.proofs.Common.{◌≡◌, ℕ, Bool, ◌<◌, List, [], ◌∷◌, length, refl, sym, ◌∙◌, ap, subst, true, false, inl, inr}
use Rattle.std.specs.Prelude.{◌⊎◌}
use Rattle.wcv_core.specs.Names.{Place}
use Rattle.wcv_core.specs.Refusal.{error_kind, error_offset}
use Rattle.wcv_core.specs.declared.error.Error.{Error}
use Rattle.wcv_core.specs.declared.error.ErrorKind.TheVariants as kind
use Rattle.wcv_core.specs.declared.features.WasmFeatures.{WasmFeatures}
use Rattle.wcv_syntax.specs.Model.{Type_form, Form, Decl, core_type_decl, export_decl, import_decl, Core_type_form, core_type_item, import_item}
use Rattle.wcv_syntax.specs.declared.component_type.ComponentTypeRef.{ComponentTypeRef}
use Rattle.wcv_syntax.specs.declared.name.ComponentExternName.{ComponentExternName}
use Rattle.wcv_syntax.specs.declared.name.ComponentImport.{ComponentImport}
use Rattle.wcv_types.specs.Arena.{Arena}
use Rattle.wcv_lower.specs.Checks.{IsFree}
use Rattle.wcv_lower.specs.Context.{is_concrete}
use Rattle.wcv_lower.specs.DeclaredCalls.{TypeRead, TypeRefused, DeclRead}
use Rattle.wcv_lower.specs.Given.{names_of, none_given}
use Rattle.wcv_lower.specs.Names.{Names}
use Rattle.wcv_lower.specs.Owned.{ItemRegular, IsLed}
use Rattle.wcv_lower.specs.Trees.{Tree_context, Tree_stack, tree_maker}
use Rattle.wcv_lower.specs.Types.{is_plain_type, type_checks}
use Rattle.wcv_spaces.specs.Contents.{Contents, spent, context_of, stack_of}
use Rattle.wcv_instantiate.specs.Instances.{MayOpen}
use Rattle.wcv_state.specs.Stack.{uncharged}
use Rattle.wcv_spaces.specs.Promises.{MemoryOrCausedBy, numbers_of, Keeps, Grew, CausedAt, ExportDeclared, ExportCaused}
use Rattle.wcv_decls.specs.Declaring.{innermost, around, features_in, stack_in, AreReady, StayReady, SameAround, DeclaresInstance, MemoryOr, ReadsType, ReadsDecl, RefusesType, RefusesDecl}
use Rattle.wcv_decls.specs.Items.{Declares}
use Rattle.wcv_decls.specs.Stack.{stay, all_spent, all_uncharged, ChangesLast, KeepsOn, GrewOn, RefusedOn, contexts_around}
use Rattle.wcv_decls.proofs.SimpleDecls.{Refused, core_read, core_refused, import_read, import_refused, export_read, export_refused, grown_calm, export_calm, may_open, core_sides, export_body}
use Rattle.wcv_decls.proofs.InnermostStates.{innermost_at, around_at, stack_at, outer_contexts, old_open, old_calm, stays, over_stack, over_before, body_stays}
use Rattle.wcv_decls.proofs.ReadingOn.{extends_on, innermost_kept}
use Rattle.wcv_decls.proofs.Plain.{plain_read, plain_refused, plain_sides, plain_calm, same_body}

module _ (a b : Arena) (ss ss' : List Contents) (w : ChangesLast stay ss ss') (h : AreReady a ss) where
  abbrev cs : List Tree_context
  cs = outer_contexts a b ss ss' w

  -- ## A type that is made in one step

  module _ (limited : Bool) (t : Type_form) (e : is_plain_type t ≡ true) where
    pub plain_reads : Declares a b w.old w.new t → ((outer : List Tree_context) (n : Names) (q : Place) → IsFree (type_checks limited w.old.features (tree_maker n q) (stack_of a w.old outer) t)) → ReadsType limited a b ss ss' t
    plain_reads d free p =
        over_stack a b ss ss' w h.each d.keeps.arena (λ (fs : WasmFeatures) (u v : Tree_stack). TypeRead limited fs p u t v (numbers_of a) (numbers_of b)) (plain_read limited a b w.old cs t e w.new d (free cs) p)

    pub plain_stays : Declares a b w.old w.new t → StayReady b ss ss'
    plain_stays d = stays a b ss ss' w h.each d.keeps d.live (plain_calm a b w.old w.new cs t d (old_calm a b ss ss' w h.calm))

    pub plain_declares : Declares a b w.old w.new t → DeclaresInstance a ss → DeclaresInstance b ss'
    plain_declares d = body_stays a b ss ss' w h.each d.keeps.arena
        (λ i. same_body (context_of a w.old) (context_of b w.new) (plain_sides w.old.features (tree_maker (names_of (d.given_names [])) []) (stack_of a w.old cs) (stack_of b w.new cs) t (ap is_concrete i.kind) (d.grown cs [])) i)

    pub plain_refuses : {M : Type 0} (offset : ℕ) (x : Error M) → ((outer : List Tree_context) (n : Names) (q : Place) → MemoryOrCausedBy (type_checks limited w.old.features (tree_maker n q) (stack_of a w.old outer) t) offset x) → MemoryOr (RefusesType limited a b ss t) offset x
    plain_refuses offset x c p = go (c cs (names_of none_given) p)
      where
        go : MemoryOrCausedBy (type_checks limited w.old.features (tree_maker (names_of none_given) p) (stack_of a w.old cs) t) offset x → (error_kind x ≡ kind.OutOfMemory) ⊎ (RefusesType limited a b ss t p (error_kind x) × (error_offset x ≡ offset))
        go (inl m) = inl m
        go (inr y) = inr (over_before a b ss ss' w (λ (fs : WasmFeatures) (u : Tree_stack). TypeRefused limited fs p u t (error_kind x) (numbers_of a) (numbers_of b)) (plain_refused limited a b w.old cs t e (error_kind x) p y.0), y.1)

  -- ## Declarations

  module _ (k : Keeps a b w.old w.new) where
    read_over : (d : Decl) → ((p : Place) → DeclRead w.old.features p (stack_of a w.old cs) d (stack_of b w.new cs) (numbers_of a) (numbers_of b)) → ReadsDecl a b ss ss' d
    read_over d r p = over_stack a b ss ss' w h.each k.arena (λ (fs : WasmFeatures) (u v : Tree_stack). DeclRead fs p u d v (numbers_of a) (numbers_of b)) (r p)

    pub import_reads : (i : ComponentImport) → ((p : Place) → Grew a b cs p w.old w.new (import_item i)) → ReadsDecl a b ss ss' (import_decl i)
    import_reads i g = read_over (import_decl i) (λ p. import_read a b cs p w.old i w.new (g p))

    pub export_reads : (n : ComponentExternName) (r : ComponentTypeRef) → ((p : Place) → ExportDeclared a b cs p w.old w.new n r) → ReadsDecl a b ss ss' (export_decl n r)
    export_reads n r g = read_over (export_decl n r) (λ p. export_read a b cs p w.old n r w.new (g p))

    pub grown_stays : (f : Form) → ((top : Tree_context) → ItemRegular top f) → Grew a b cs [] w.old w.new f → StayReady b ss ss'
    grown_stays f regular g = stays a b ss ss' w h.each k g.live (grown_calm a b cs w.old w.new k (old_calm a b ss ss' w h.calm) f regular g)

    pub export_stays : (n : ComponentExternName) (r : ComponentTypeRef) → w.new.spent ≡ false → ExportDeclared a b cs [] w.old w.new n r → StayReady b ss ss'
    export_stays n r live g = stays a b ss ss' w h.each k live (export_calm a b cs w.old w.new k (old_calm a b ss ss' w h.calm) n r g)

    pub core_declares : (t : Core_type_form) → Grew a b cs [] w.old w.new (core_type_item t) → DeclaresInstance a ss → DeclaresInstance b ss'
    core_declares t g = body_stays a b ss ss' w h.each k.arena
        (same_body (context_of a w.old) (context_of b w.new) (core_sides w.old.features (tree_maker (names_of g.names) []) (stack_of a w.old cs) (stack_of b w.new cs) t g.grown))

    pub export_declares : (n : ComponentExternName) (r : ComponentTypeRef) → ExportDeclared a b cs [] w.old w.new n r → (IsLed (context_of a w.old) → IsLed (context_of b w.new)) → DeclaresInstance a ss → DeclaresInstance b ss'
    export_declares n r g led = body_stays a b ss ss' w h.each k.arena
        (λ i. export_body (tree_maker (names_of g.names) []) (stack_of a w.old cs) (stack_of b w.new cs) n r g.read i (led i.led))

  refused_over : {M : Type 0} (d : Decl) (offset : ℕ) (x : Error M) → ((p : Place) → Refused a b d p offset x w.old.features (stack_of a w.old cs)) → MemoryOr (RefusesDecl a b ss d) offset x
  refused_over d offset x r p = over_before a b ss ss' w (Refused a b d p offset x) (r p)

  pub import_refuses : {M : Type 0} (i : ComponentImport) → (offset : ℕ) (x : Error M) → ((p : Place) → CausedAt a b cs p w.old (import_item i) offset x) → MemoryOr (RefusesDecl a b ss (import_decl i)) offset x
  import_refuses i offset x c = refused_over (import_decl i) offset x (λ p. import_refused a b cs p w.old i offset x (c p))

  pub export_refuses : {M : Type 0} (n : ComponentExternName) (r : ComponentTypeRef) (offset : ℕ) (x : Error M) → ((p : Place) → ExportCaused a b p w.old n r offset x) → MemoryOr (RefusesDecl a b ss (export_decl n r)) offset x
  export_refuses n r offset x c = refused_over (export_decl n r) offset x (λ p. export_refused a b cs p w.old n r offset x (c p))

  -- a written instance type may be opened
  pub opens : (r : ComponentTypeRef) → MayOpen a w.old.spaces.types r
  opens r = may_open a cs w.old r (old_open a b ss ss' w h.each).stands (old_calm a b ss ss' w h.calm)

-- ## Core types, of which is said what they do over all states

-- what the innermost keeps, where each state keeps what stood
changed_kept : (a b : Arena) (ss ss' : List Contents) (w : ChangesLast stay ss ss') → 0 < length ss → KeepsOn a b ss ss' → Keeps a b w.old w.new
changed_kept a b ss ss' w some k =
    subst (λ (s : Contents). Keeps a b s w.new) (ap innermost w.was ∙ innermost_at w.outer w.old)
    (subst (Keeps a b (innermost ss)) (ap innermost w.becomes ∙ innermost_at w.outer w.new) (innermost_kept a b ss ss' some k))

-- those around that were marked
pub refused_marks : (ss ss' : List Contents) → ChangesLast all_spent ss ss' → SameAround ss ss'
refused_marks ss ss' w =
    ap marked (ap around w.becomes ∙ around_at (all_spent w.outer) w.new) ∙ twice w.outer ∙ sym (ap marked (ap around w.was ∙ around_at w.outer w.old))
  where
    marked : List Contents → List Contents
    marked xs = all_spent (all_uncharged xs)

    twice : (xs : List Contents) → all_spent (all_uncharged (all_spent xs)) ≡ all_spent (all_uncharged xs)
    twice [] = refl
    twice (y ∷ ys) = ap (λ (zs : List Contents). spent (uncharged y) ∷ zs) (twice ys)

module _ (a b : Arena) (ss ss' : List Contents) (h : AreReady a ss) (kept : KeepsOn a b ss ss') (t : Core_type_form) where
  module _ (f : (p : Place) → GrewOn a b p ss ss' (core_type_item t)) where
    own_kept : Keeps a b (f []).last.old (f []).last.new
    own_kept = changed_kept a b ss ss' (f []).last h.some kept

    pub core_reads : ReadsDecl a b ss ss' (core_type_decl t)
    core_reads p =
        let w = (f p).last in
        over_stack a b ss ss' w h.each (extends_on a b ss ss' h.some kept) (λ (fs : WasmFeatures) (u v : Tree_stack). DeclRead fs p u (core_type_decl t) v (numbers_of a) (numbers_of b))
        (core_read a b (outer_contexts a b ss ss' w) p w.old w.new t (f p).grew)

    pub core_stays : StayReady b ss ss'
    core_stays = grown_stays a b ss ss' (f []).last h own_kept (core_type_item t) (λ top. tt) (f []).grew

    pub core_body : DeclaresInstance a ss → DeclaresInstance b ss'
    core_body = core_declares a b ss ss' (f []).last h own_kept t (f []).grew

  module _ {M : Type 0} (offset : ℕ) (x : Error M) (f : (p : Place) → RefusedOn a b p ss ss' (core_type_item t) offset x) where
    pub core_refuses : MemoryOr (RefusesDecl a b ss (core_type_decl t)) offset x
    core_refuses p =
        let w = (f p).last in
        let fs : features_in ss ≡ w.old.features = ap (λ (s : Contents). s.features) (ap innermost w.was ∙ innermost_at w.outer w.old) in
        subst (λ (z : WasmFeatures). Refused a b (core_type_decl t) p offset x z (stack_in a ss)) (sym fs)
        (subst (Refused a b (core_type_decl t) p offset x w.old.features) (sym (stack_at a ss w.outer w.old w.was)) (core_refused a b (contexts_around a w.outer) p w.old t offset x (f p).refused.1))

    pub core_marks : SameAround ss ss'
    core_marks = refused_marks ss ss' (f []).last
