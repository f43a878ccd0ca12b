-- The states that are open, before and after an item in the innermost of them.
use Rattle.std.proofs.Common.{◌≡◌, ℕ, ◌<◌, ◌-◌, List, [], ◌∷◌, ◌++◌, length, refl, sym, ◌∙◌, ap, subst, slice_set, slice_index_or, true, false, ◌⊎◌, inl, inr}
use Rattle.wcv_core.specs.Names.{Place}
use Rattle.wcv_core.specs.Refusal.{error_kind, error_offset}
use Rattle.wcv_core.specs.declared.error.Error.{Error}
use Rattle.wcv_core.specs.declared.error.ErrorKind.{ErrorKind}
use Rattle.wcv_core.specs.declared.error.ErrorKind.TheVariants as kind
use Rattle.wcv_core.specs.declared.features.WasmFeatures.{WasmFeatures}
use Rattle.wcv_syntax.specs.Model.{Form, Type_form, type_item, alias_item}
use Rattle.wcv_syntax.specs.declared.instance.ComponentAlias.{ComponentAlias}
use Rattle.wcv_types.specs.Arena.{Arena}
use Rattle.wcv_types.specs.Standing.{AllFit, Extends}
use Rattle.wcv_types.proofs.Grown.{extends_refl}
use Rattle.wcv_lower.specs.Aliases.{alias_left}
use Rattle.wcv_lower.specs.Checks.{IsFree}
use Rattle.wcv_lower.specs.Declared.{declared_left}
use Rattle.wcv_lower.specs.Given.{names_of}
use Rattle.wcv_lower.specs.Growth.{left_checks}
use Rattle.wcv_lower.specs.Names.{Under}
use Rattle.wcv_lower.specs.Owned.{ItemRegular, IsCalm}
use Rattle.wcv_lower.specs.Trees.{Tree_context, Tree_stack, tree_maker}
use Rattle.wcv_lower.proofs.CalmGrowth.{calm_grows}
use Rattle.wcv_state.specs.Aliasing.{AliasedOn}
use Rattle.wcv_spaces.specs.Contents.{Contents, context_of, stack_of}
use Rattle.wcv_spaces.specs.Promises.{MemoryOrCausedBy, numbers_of, Keeps}
use Rattle.wcv_state.proofs.Stacks.{around_same}
use Rattle.wcv_decls.specs.Declaring.{innermost, around, features_in, stack_in, AreReady}
use Rattle.wcv_decls.specs.Stack.{IsOpen, AreCalm, ChangesLast, stay, all_uncharged, contexts_around, stack_on, GrewOn, RefusedOn, DeclaresOn, RefusesOn, KeepsOn}
use Rattle.wcv_decls.proofs.ChargedStates.{last_kept, still_ready}
use Rattle.wcv_decls.proofs.InnermostStates.{innermost_at, around_at, indexed, stack_at, calm_here, calm_all, open_here, open_around, kept, last_changed}
use Rattle.wcv_decls.proofs.Plain.{own_given}
use Rattle.wcv_decls.proofs.ReadingOn.{grown_numbers, extends_on}
use Rattle.wcv_decls.proofs.SimpleDecls as simple
use Rattle.wcv_instances.specs.ComponentInstances.{AllMayInstantiate}
use Rattle.wcv_link.specs.ItemCalls.{ItemRead, ItemRefused}
use Rattle.wcv_link.specs.Progress.{IsReady, GrewAt, RefusedAt, MemoryOrRefusedItem, TakesItem, AcceptsItem, RefusesItem, LeavesItem, AllMayOpen, LastMayInstantiate}
use Rattle.wcv_link.proofs.Regular.{item_regular}
use Rattle.wcv_link.proofs.Steps.{OneStep, one_step, grew_here, step_refused, alias_grew, type_grew, type_caused, type_left_caused}

-- ## The innermost, as it is looked up

is_innermost : (ss : List Contents) (k : ℕ) (s : Contents) → 0 < length ss → k ≡ length ss - 1 → s ≡ slice_index_or ss k s → s ≡ innermost ss
is_innermost ss k s h e i = i ∙ indexed ss k s h e

module _ (a : Arena) (ss : List Contents) (k : ℕ) (s : Contents) (e : k ≡ length ss - 1) (i : s ≡ slice_index_or ss k s) (h : IsReady a ss) where
  pub last_open : IsOpen a s
  last_open = subst (IsOpen a) (sym (is_innermost ss k s h.some e i)) (open_here a ss h.some h.usable)

  -- an instance may be made of each instance type in it
  pub last_may_open : AllMayOpen a s
  last_may_open =
      let was : ss ≡ around ss ++ s ∷ [] = (last_changed ss k s s h.some e (is_innermost ss k s h.some e i)).was in
      let calm : IsCalm (numbers_of a) (stack_on a (around ss) s) = h.calm (around ss) s was in
      ((λ r. simple.may_open a (contexts_around a (around ss)) s r last_open.stands calm), (λ x. simple.item_may_open a (contexts_around a (around ss)) s x last_open.stands calm))

  -- and of each component
  pub last_may_instantiate : LastMayInstantiate a ss → AllMayInstantiate a s
  last_may_instantiate m = subst (AllMayInstantiate a) (sym (is_innermost ss k s h.some e i)) m

-- ## An item that the innermost took

-- the innermost of the states took it at that place, and the others stay but for what was aliased into them
pub record TakenOn (a b : Arena) (p : Place) (ss ss' : List Contents) (f : Form) : Type 0 where
  pub outer : List Contents
  pub outer' : List Contents
  pub old : Contents
  pub new : Contents
  pub was : ss ≡ outer ++ old ∷ []
  pub becomes : ss' ≡ outer' ++ new ∷ []
  pub same : all_uncharged outer' ≡ all_uncharged outer
  pub grew : GrewAt a b (contexts_around a outer) (contexts_around b outer') old new f p
  pub features : new.features ≡ old.features

-- that state is the innermost, and the contexts are of those around it
module _ (a b : Arena) (p : Place) (ss ss' : List Contents) (f : Form) (t : TakenOn a b p ss ss' f) where
  features_were : features_in ss ≡ t.old.features
  features_were = ap (λ (s : Contents). s.features) (ap innermost t.was ∙ innermost_at t.outer t.old)

  taken_features : features_in ss' ≡ features_in ss
  taken_features = ap (λ (s : Contents). s.features) (ap innermost t.becomes ∙ innermost_at t.outer' t.new) ∙ t.features ∙ sym features_were

  taken_read : ItemRead (features_in ss) p (stack_in a ss) f (stack_in b ss') (numbers_of a) (numbers_of b)
  taken_read =
      subst (λ (fs : WasmFeatures). ItemRead fs p (stack_in a ss) f (stack_in b ss') (numbers_of a) (numbers_of b)) (sym features_were)
      (subst (λ (s : Tree_stack). ItemRead t.old.features p s f (stack_in b ss') (numbers_of a) (numbers_of b)) (sym (stack_at a ss t.outer t.old t.was))
      (subst (λ (u : Tree_stack). ItemRead t.old.features p (stack_on a t.outer t.old) f u (numbers_of a) (numbers_of b)) (sym (stack_at b ss' t.outer' t.new t.becomes)) (t.grew.names, t.grew.given, t.grew.free, t.grew.grown)))

-- calls on the states may be made where items may be read
pub ready_here : (a : Arena) (ss : List Contents) → IsReady a ss → AreReady a ss
ready_here a ss h = record { some = h.some; each = h.usable; calm = calm_here a ss h.some h.calm }

-- and items may be read behind them
pub ready_then : (a : Arena) (ss : List Contents) → AreReady a ss → IsReady a ss
ready_then a ss h = record { some = h.some; usable = h.each; calm = calm_all a ss h.calm }

module _ (a b : Arena) (ss ss' : List Contents) (h : IsReady a ss) (keeps : KeepsOn a b ss ss') (f : Form) (taken : (p : Place) → TakenOn a b p ss ss' f) (live : (taken []).new.spent ≡ false) where
  abbrev t : TakenOn a b [] ss ss' f
  t = taken []

  -- the states may be used further
  accepts_so : IsCalm (numbers_of b) (stack_in b ss') → AcceptsItem a b ss ss' f
  accepts_so calm =
      let r = still_ready a b ss ss' (ready_here a ss h) keeps t.outer t.outer' t.old t.new t.was t.becomes t.same live calm in
      record {
        reads = λ p. taken_read a b p ss ss' f (taken p);
        goes_on = record {
          ready = ready_then b ss' r.ready;
          around = r.around;
          features = taken_features a b [] ss ss' f t;
          arena = extends_on a b ss ss' h.some keeps;
        };
      }

  -- what is read in one step leaves them calm
  pub accepts_step : OneStep f → ItemRegular (context_of a t.old) f → AcceptsItem a b ss ss' f
  accepts_step one regular =
      let own : Keeps a b t.old t.new = last_kept a b ss ss' (ready_here a ss h) keeps t.outer t.outer' t.old t.new t.was t.becomes t.same in
      accepts_so
      (subst (IsCalm (numbers_of b)) (sym (stack_at b ss' t.outer' t.new t.becomes))
      (calm_grows (Under []) (numbers_of a) (numbers_of b) t.grew.names [] (stack_on a t.outer t.old) (grown_numbers a b own.arena) t.grew.given (h.calm t.outer t.old t.was)
      t.old.features (stack_on b t.outer' t.new) f regular (own_given b t.new own.stands)
      (sym (one.read t.old.features (tree_maker (names_of t.grew.names)) [] (stack_on a t.outer t.old)) ∙ t.grew.grown)))

  -- a type is said to
  pub accepts_calm : AreCalm b ss' → AcceptsItem a b ss ss' f
  accepts_calm calm = accepts_so (subst (IsCalm (numbers_of b)) (sym (stack_at b ss' t.outer' t.new t.becomes)) (calm t.outer' t.new t.becomes))

-- a state took it
module _ (a b : Arena) (ss : List Contents) (k : ℕ) (s s' : Contents) (e : k ≡ length ss - 1) (i : s ≡ slice_index_or ss k s) (h : IsReady a ss) (f : Form) (one : OneStep f) (fit : AllFit a) (w : TakesItem a b s s' f) where
  abbrev changed : ChangesLast stay ss (slice_set ss k s')
  changed = last_changed ss k s s' h.some e (is_innermost ss k s h.some e i)

  abbrev taken_last : (p : Place) → TakenOn a b p ss (slice_set ss k s') f
  taken_last p =
      let same : contexts_around b (around ss) ≡ contexts_around a (around ss) = around_same a b w.keeps.arena (around ss) (open_around a ss h.some h.usable) in
      record {
        outer = around ss;
        outer' = around ss;
        old = s;
        new = s';
        was = changed.was;
        becomes = changed.becomes;
        same = refl;
        grew = subst (λ (cs : List Tree_context). GrewAt a b (contexts_around a (around ss)) cs s s' f p) (sym same) (w.grew (contexts_around a (around ss)) p);
        features = w.keeps.features;
      }

  pub accepts_last : AcceptsItem a b ss (slice_set ss k s') f
  accepts_last = accepts_step a b ss (slice_set ss k s') h (kept a b ss (slice_set ss k s') changed h.usable w.keeps) f taken_last w.live one (item_regular a s (last_open a ss k s e i h).stands fit f)

-- ## An item that it left

-- the error is out of memory, or its kind and its offset refuse the item
refused_of : {M : Type 0} (a b : Arena) (s : Contents) (outer : List Tree_context) (f : Form) (p : Place) (offset : ℕ) (x : Error M) → (r : RefusedAt a b outer s f p offset x) → MemoryOrRefusedItem s.features (names_of r.names) p (stack_of a s outer) offset f x →
    (error_kind x ≡ kind.OutOfMemory) ⊎ ItemRefused s.features p (stack_of a s outer) offset f (error_kind x) (error_offset x) (numbers_of a) (numbers_of b)
refused_of a b s outer f p offset x r (inl m) = inl m
refused_of a b s outer f p offset x r (inr t) = inr (r.names, r.given, t)

-- the innermost of the states left it
refuses_so : {M : Type 0} (a b : Arena) (ss : List Contents) (f : Form) (offset : ℕ) (x : Error M) → Extends a b → ((p : Place) → RefusedAt a b (contexts_around a (around ss)) (innermost ss) f p offset x) → RefusesItem a b ss f offset x
refuses_so a b ss f offset x arena w = record { refused = λ p. refused_of a b (innermost ss) (contexts_around a (around ss)) f p offset x (w p) (w p).caused; arena = arena }

-- the last of them is the innermost
at_innermost : {M : Type 0} (a b : Arena) (ss outer : List Contents) (s : Contents) (f : Form) (p : Place) (offset : ℕ) (x : Error M) → ss ≡ outer ++ s ∷ [] → RefusedAt a b (contexts_around a outer) s f p offset x →
    RefusedAt a b (contexts_around a (around ss)) (innermost ss) f p offset x
at_innermost a b ss outer s f p offset x e w =
    let i : s ≡ innermost ss = sym (ap innermost e ∙ innermost_at outer s) in
    let o : outer ≡ around ss = sym (ap around e ∙ around_at outer s) in
    subst (λ (y : Contents). RefusedAt a b (contexts_around a (around ss)) y f p offset x) i (subst (λ (os : List Contents). RefusedAt a b (contexts_around a os) s f p offset x) o w)

-- a state left it
pub refuses_last : {M : Type 0} (a b : Arena) (ss : List Contents) (k : ℕ) (s : Contents) (e : k ≡ length ss - 1) (some : 0 < length ss) (i : s ≡ slice_index_or ss k s) (f : Form) (offset : ℕ) (x : Error M) →
    LeavesItem a b s f offset x → RefusesItem a b ss f offset x
refuses_last a b ss k s e some i f offset x w =
    refuses_so a b ss f offset x w.arena
    (λ p. subst (λ (y : Contents). RefusedAt a b (contexts_around a (around ss)) y f p offset x) (is_innermost ss k s some e i) (w.refused (contexts_around a (around ss)) p))

-- ## Items over all states, and types

module _ (a b : Arena) (ss ss' : List Contents) (h : IsReady a ss) (keeps : KeepsOn a b ss ss') where
  -- an item that is read in one step was taken
  module _ (f : Form) (one : OneStep f) (regular : (s : Contents) → ItemRegular (context_of a s) f) (left : (s : Contents) → IsFree (left_checks (context_of a s) f)) (grew : (p : Place) → GrewOn a b p ss ss' f) where
    abbrev one_taken : (p : Place) → TakenOn a b p ss ss' f
    one_taken p =
        let g = grew p in
        record {
          outer = g.last.outer;
          outer' = g.last.outer;
          old = g.last.old;
          new = g.last.new;
          was = g.last.was;
          becomes = g.last.becomes;
          same = refl;
          grew = subst (λ (cs : List Tree_context). GrewAt a b (contexts_around a g.last.outer) cs g.last.old g.last.new f p) (sym g.around)
              (grew_here a b g.last.old g.last.new f one (contexts_around a g.last.outer) p (left g.last.old) g.grew);
          features = (last_kept a b ss ss' (ready_here a ss h) keeps g.last.outer g.last.outer g.last.old g.last.new g.last.was g.last.becomes refl).features;
        }

    pub accepts_one : AcceptsItem a b ss ss' f
    accepts_one = accepts_step a b ss ss' h keeps f one_taken (grew []).grew.live one (regular (grew []).last.old)

  -- an alias was
  module _ (x : ComponentAlias) (left : IsFree (alias_left x)) (w : AliasedOn a b ss ss' x) where
    abbrev alias_taken : (p : Place) → TakenOn a b p ss ss' (alias_item x)
    alias_taken p = record {
      outer = w.outer;
      outer' = w.outer';
      old = w.old;
      new = w.new;
      was = w.was;
      becomes = w.becomes;
      same = w.same;
      grew = alias_grew a b ss ss' x p left w;
      features = (last_kept a b ss ss' (ready_here a ss h) keeps w.outer w.outer' w.old w.new w.was w.becomes w.same).features;
    }

    pub accepts_alias : AcceptsItem a b ss ss' (alias_item x)
    accepts_alias = accepts_step a b ss ss' h keeps (alias_item x) alias_taken w.live (one_step (alias_item x) refl) tt

  -- a type was
  module _ (t : Type_form) (left : IsFree (declared_left t)) (declares : (p : Place) → DeclaresOn true a b p ss ss' t) where
    abbrev type_taken : (p : Place) → TakenOn a b p ss ss' (type_item t)
    type_taken p =
        let g = declares p in
        record {
          outer = g.outer;
          outer' = g.outer';
          old = g.old;
          new = g.new;
          was = g.was;
          becomes = g.becomes;
          same = g.same;
          grew = type_grew a b (contexts_around a g.outer) p g.old t (contexts_around b g.outer') g.new left g.declared;
          features = (last_kept a b ss ss' (ready_here a ss h) keeps g.outer g.outer' g.old g.new g.was g.becomes g.same).features;
        }

    pub accepts_type : AreCalm b ss' → AcceptsItem a b ss ss' (type_item t)
    accepts_type calm = accepts_calm a b ss ss' h keeps (type_item t) type_taken (declares []).declared.live calm

module _ {M : Type 0} (a b : Arena) (ss ss' : List Contents) (some : 0 < length ss) (keeps : KeepsOn a b ss ss') (offset : ℕ) (x : Error M) where
  pub refuses_one : (f : Form) → OneStep f → ((p : Place) → RefusedOn a b p ss ss' f offset x) → RefusesItem a b ss f offset x
  refuses_one f one w =
      refuses_so a b ss f offset x (extends_on a b ss ss' some keeps)
      (λ p.
      let r = w p in
      at_innermost a b ss r.last.outer r.last.old f p offset x r.last.was (step_refused a b r.last.old f one offset x (contexts_around a r.last.outer) p r.refused.1))

  pub refuses_type : (t : Type_form) → ((p : Place) → RefusesOn true a b p ss ss' t offset x) → RefusesItem a b ss (type_item t) offset x
  refuses_type t w =
      refuses_so a b ss (type_item t) offset x (extends_on a b ss ss' some keeps)
      (λ p.
      let r = w p in
      at_innermost a b ss r.outer r.old (type_item t) p offset x r.was (type_caused a b (contexts_around a r.outer) p r.old t offset x r.caused))

-- ## Refusals before the call

module _ {M : Type 0} (a : Arena) (ss : List Contents) (offset : ℕ) (x : Error M) where
  -- whatever state is the innermost
  pub refuses_left : (f : Form) → ((s : Contents) → LeavesItem a a s f offset x) → RefusesItem a a ss f offset x
  refuses_left f w = refuses_so a a ss f offset x (extends_refl a) (λ p. (w (innermost ss)).refused (contexts_around a (around ss)) p)

  -- so of a type
  pub refuses_type_left : (t : Type_form) → MemoryOrCausedBy (declared_left t) offset x → RefusesItem a a ss (type_item t) offset x
  refuses_type_left t w = refuses_so a a ss (type_item t) offset x (extends_refl a) (λ p. type_left_caused a a (contexts_around a (around ss)) p (innermost ss) t offset x w)

-- ## Messages

-- another error of that kind and that offset is as good a refusal
pub refused_same : {M N : Type 0} (a b : Arena) (ss : List Contents) (f : Form) (offset : ℕ) (e : Error M) (x : Error N) → error_kind x ≡ error_kind e → error_offset x ≡ error_offset e → RefusesItem a b ss f offset e → RefusesItem a b ss f offset x
refused_same a b ss f offset e x k o r = record { refused = λ p. go p (r.refused p); arena = r.arena }
  where
    -- so of that kind, at that offset
    Refused : Place → ErrorKind → ℕ → Type 0
    Refused p kind at = ItemRefused (features_in ss) p (stack_in a ss) offset f kind at (numbers_of a) (numbers_of b)

    go : (p : Place) → (error_kind e ≡ kind.OutOfMemory) ⊎ Refused p (error_kind e) (error_offset e) → (error_kind x ≡ kind.OutOfMemory) ⊎ Refused p (error_kind x) (error_offset x)
    go p (inl m) = inl (k ∙ m)
    go p (inr t) = inr (subst (λ (z : ErrorKind). Refused p z (error_offset x)) (sym k) (subst (Refused p (error_kind e)) (sym o) t))
