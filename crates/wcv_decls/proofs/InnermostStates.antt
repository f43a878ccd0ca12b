-- The innermost of the states and those around it, before and after a change of the innermost.
use Rattle.std.proofs.Common.{◌≡◌, ℕ, suc, ◌<◌, ◌-◌, List, [], ◌∷◌, ◌++◌, length, refl, ap, subst, sym, ◌∙◌, arith, slice_set, slice_index_or, All, false}
use Rattle.std.proofs.lemmas.List.Elements.{All-push, AllZip-push}
use Rattle.wcv_core.specs.declared.features.WasmFeatures.{WasmFeatures}
use Rattle.wcv_types.specs.Arena.{Arena}
use Rattle.wcv_types.specs.Standing.{Extends}
use Rattle.wcv_lower.specs.Owned.{IsCalm}
use Rattle.wcv_lower.specs.Trees.{Tree_context, Tree_stack}
use Rattle.wcv_spaces.specs.Contents.{Contents, spent, context_of, stack_of}
use Rattle.wcv_spaces.specs.Promises.{numbers_of, Keeps}
pub use Rattle.wcv_state.proofs.Stacks.{innermost_at, around_at, parted, some_at, indexed}
use Rattle.wcv_state.proofs.Stacks.{open_split, around_kept, around_same, marked}
use Rattle.wcv_decls.specs.Declaring.{innermost, around, features_in, stack_in, IsInstanceBody, DeclaresInstance, StayReady, SameAround}
use Rattle.wcv_decls.specs.Stack.{IsOpen, stay, all_spent, all_uncharged, ChangesLast, KeepsOn, AreCalm, contexts_around, stack_on}
use Rattle.wcv_spaces.proofs.Keeping.{state_stands}

-- ## Stacks

pub stack_at : (a : Arena) (ss outer : List Contents) (s : Contents) → ss ≡ outer ++ s ∷ [] → stack_in a ss ≡ stack_on a outer s
stack_at a ss outer s e =
    let i : innermost ss ≡ s = ap innermost e ∙ innermost_at outer s in
    let o : around ss ≡ outer = ap around e ∙ around_at outer s in
    λ j. stack_on a (o j) (i j)

pub calm_here : (a : Arena) (ss : List Contents) → 0 < length ss → AreCalm a ss → IsCalm (numbers_of a) (stack_in a ss)
calm_here a ss h c = c (around ss) (innermost ss) (parted ss h)

pub calm_all : (a : Arena) (ss : List Contents) → IsCalm (numbers_of a) (stack_in a ss) → AreCalm a ss
calm_all a ss c outer s e = subst (IsCalm (numbers_of a)) (stack_at a ss outer s e) c

pub open_here : (a : Arena) (ss : List Contents) → 0 < length ss → All (IsOpen a) ss → IsOpen a (innermost ss)
open_here a ss h o = (open_split a (around ss) (innermost ss) (subst (All (IsOpen a)) (parted ss h) o)).1

pub open_around : (a : Arena) (ss : List Contents) → 0 < length ss → All (IsOpen a) ss → All (IsOpen a) (around ss)
open_around a ss h o = (open_split a (around ss) (innermost ss) (subst (All (IsOpen a)) (parted ss h) o)).0

-- states that stayed while the arena grew are open
pub still_open : (a b : Arena) → Extends a b → (ss : List Contents) → All (IsOpen a) ss → All (IsOpen b) ss
still_open a b g ss h = λ i d l. record { live = (h i d l).live; stands = state_stands a b g (slice_index_or ss i d) (h i d l).stands }

-- ## The innermost became another

-- those around it stay
pub around_stays : (ss ss' : List Contents) → ChangesLast stay ss ss' → around ss' ≡ around ss
around_stays ss ss' w = ap around w.becomes ∙ around_at w.outer w.new ∙ sym (ap around w.was ∙ around_at w.outer w.old)

module _ (a b : Arena) (ss ss' : List Contents) (w : ChangesLast stay ss ss') where
  abbrev pub outer_contexts : List Tree_context
  outer_contexts = contexts_around a w.outer

  pub stack_before : stack_in a ss ≡ stack_of a w.old outer_contexts
  stack_before = stack_at a ss w.outer w.old w.was

  pub features_before : features_in ss ≡ w.old.features
  features_before = ap (λ (s : Contents). s.features) (ap innermost w.was ∙ innermost_at w.outer w.old)

  pub old_calm : IsCalm (numbers_of a) (stack_in a ss) → IsCalm (numbers_of a) (stack_of a w.old outer_contexts)
  old_calm c = subst (IsCalm (numbers_of a)) stack_before c

  module _ (h : All (IsOpen a) ss) where
    pub outer_open : All (IsOpen a) w.outer
    outer_open = (open_split a w.outer w.old (subst (All (IsOpen a)) w.was h)).0

    pub old_open : IsOpen a w.old
    old_open = (open_split a w.outer w.old (subst (All (IsOpen a)) w.was h)).1

    pub stack_after : Extends a b → stack_in b ss' ≡ stack_of b w.new outer_contexts
    stack_after g = stack_at b ss' w.outer w.new w.becomes ∙ ap (λ (cs : List Tree_context). stack_of b w.new cs) (around_same a b g w.outer outer_open)

    pub stays : Keeps a b w.old w.new → w.new.spent ≡ false → IsCalm (numbers_of b) (stack_of b w.new outer_contexts) → StayReady b ss ss'
    stays k live c = record {
      ready = record {
        some = subst (λ (xs : List Contents). 0 < length xs) (sym w.becomes) (some_at w.outer w.new);
        each = subst (All (IsOpen b)) (sym w.becomes) (All-push (IsOpen b) w.outer w.new (still_open a b k.arena w.outer outer_open) (record { live = live; stands = k.stands }));
        calm = subst (IsCalm (numbers_of b)) (sym (stack_after k.arena)) c;
      };
      around = ap all_uncharged (around_stays ss ss' w);
    }

    pub kept : Keeps a b w.old w.new → KeepsOn a b ss ss'
    kept k =
        subst (KeepsOn a b ss) (sym w.becomes) (subst (λ (xs : List Contents). KeepsOn a b xs (w.outer ++ w.new ∷ [])) (sym w.was)
        (AllZip-push (Keeps a b) w.outer w.outer w.old w.new (around_kept a b k.arena w.outer outer_open) k))

-- a call on the last of them
pub set_last : (ss : List Contents) (k : ℕ) (s' : Contents) → 0 < length ss → k ≡ length ss - 1 → slice_set ss k s' ≡ around ss ++ s' ∷ []
set_last [] k s' h e = absurd (omega (arith, h))
set_last (s ∷ []) k s' h e = let z : k ≡ 0 = omega (arith, e) in ap (λ (i : ℕ). slice_set (s ∷ []) i s') z
set_last (s ∷ t ∷ ss) k s' h e =
    let z : k ≡ suc (length (t ∷ ss) - 1) = omega (arith, e) in
    ap (λ (i : ℕ). slice_set (s ∷ t ∷ ss) i s') z ∙ ap (λ (zs : List Contents). s ∷ zs) (set_last (t ∷ ss) (length (t ∷ ss) - 1) s' (omega arith) refl)

abbrev pub last_changed : (ss : List Contents) (k : ℕ) (s s' : Contents) → 0 < length ss → k ≡ length ss - 1 → s ≡ innermost ss → ChangesLast stay ss (slice_set ss k s')
last_changed ss k s s' h e i = record { outer = around ss; old = s; new = s'; was = parted ss h ∙ ap (λ (x : Contents). around ss ++ x ∷ []) (sym i); becomes = set_last ss k s' h e }

-- what is read of the states, as it is said of the innermost
module _ (a b : Arena) (ss ss' : List Contents) (w : ChangesLast stay ss ss') (h : All (IsOpen a) ss) (g : Extends a b) where
  abbrev cs : List Tree_context
  cs = outer_contexts a b ss ss' w

  pub over_stack : (P : WasmFeatures → Tree_stack → Tree_stack → Type 0) → P w.old.features (stack_of a w.old cs) (stack_of b w.new cs) → P (features_in ss) (stack_in a ss) (stack_in b ss')
  over_stack P x =
      subst (λ (fs : WasmFeatures). P fs (stack_in a ss) (stack_in b ss')) (sym (features_before a b ss ss' w))
      (subst (λ (s : Tree_stack). P w.old.features s (stack_in b ss')) (sym (stack_before a b ss ss' w))
      (subst (λ (s : Tree_stack). P w.old.features (stack_of a w.old cs) s) (sym (stack_after a b ss ss' w h g)) x))

-- of the stack before alone
pub over_before : (a b : Arena) (ss ss' : List Contents) (w : ChangesLast stay ss ss') (P : WasmFeatures → Tree_stack → Type 0) → P w.old.features (stack_of a w.old (outer_contexts a b ss ss' w)) → P (features_in ss) (stack_in a ss)
over_before a b ss ss' w P x =
    subst (λ (fs : WasmFeatures). P fs (stack_in a ss)) (sym (features_before a b ss ss' w)) (subst (λ (s : Tree_stack). P w.old.features s) (sym (stack_before a b ss ss' w)) x)

-- the context of an instance type stays one
pub body_stays : (a b : Arena) (ss ss' : List Contents) (w : ChangesLast stay ss ss') → All (IsOpen a) ss → Extends a b → (IsInstanceBody (context_of a w.old) → IsInstanceBody (context_of b w.new)) → DeclaresInstance a ss → DeclaresInstance b ss'
body_stays a b ss ss' w h g f d =
    subst (λ (t : Tree_stack). IsInstanceBody t.top) (sym (stack_after a b ss ss' w h g)) (f (subst (λ (t : Tree_stack). IsInstanceBody t.top) (stack_before a b ss ss' w) d))

pub marks_same : (ss ss' : List Contents) → ChangesLast stay ss ss' → SameAround ss ss'
marks_same ss ss' w = ap (λ (xs : List Contents). all_spent (all_uncharged xs)) (around_stays ss ss' w)

-- where it was spent, all are alike once they are marked
pub spent_alike : (ss : List Contents) (k : ℕ) (s s' : Contents) → 0 < length ss → k ≡ length ss - 1 → s ≡ innermost ss → s' ≡ spent s → all_spent (slice_set ss k s') ≡ all_spent ss
spent_alike ss k s s' h e i w =
    let was : ss ≡ around ss ++ s ∷ [] = parted ss h ∙ ap (λ (x : Contents). around ss ++ x ∷ []) (sym i) in
    let now : slice_set ss k s' ≡ around ss ++ spent s ∷ [] = set_last ss k s' h e ∙ ap (λ (x : Contents). around ss ++ x ∷ []) w in
    marked (spent s) (around ss) (slice_set ss k s') now ∙ sym (marked s (around ss) ss was)
