-- Turns only fall, so that no more instantiations stand inside one another than there are turns.
use Rattle.std.proofs.Common.{◌≡◌, ◌∙◌, ℕ, zero, suc, ◌≤◌, refl, sym, ap, subst, arith, Option, Some, None}
use Rattle.std.specs.Option.{option_map}
use Rattle.wcv_core.specs.Names.{Place, deeper}
use Rattle.wcv_core.specs.declared.features.WasmFeatures.{WasmFeatures}
use Rattle.wcv_syntax.specs.Model.{Form, instance_item, instantiate, bag, Items, no_items, next_item}
use Rattle.wcv_lower.specs.Instances.{component_at}
use Rattle.wcv_lower.specs.Names.{Names, introduced}
use Rattle.wcv_world.specs.Growth.{Arguments, grow_values}
use Rattle.wcv_world.specs.Machine.{World, State, Outcome, ended, out_of_turns, stuck, End, after, or_stuck, start_in, world_of, Instantiating, arguments_at, joined_by, with_stack, read_value_item, read_value_items, read_in, taking_a_turn, instantiated}
use Rattle.wcv_world.specs.Naming.{Naming}
use Rattle.wcv_world.specs.Reading.{Value_stack}
use Rattle.wcv_world.specs.Values.{Run, Value, typed, an_instance, closure, Levels}
use Rattle.wcv_world.proofs.Outcomes.{after-ended, after-same}

-- it leaves no more turns than there were
abbrev pub Falls : Instantiating → Type 0
Falls I = (w : World) (v : Value) (args : Arguments) (e : End) → I w v args ≡ ended e → e.world.turns ≤ w.turns

-- both do the same with so many turns at most
abbrev pub SameBelow : ℕ → Instantiating → Instantiating → Type 0
SameBelow t I J = (w : World) (v : Value) (args : Arguments) → w.turns ≤ t → J w v args ≡ I w v args

ended-turns : (s t : State) → ended s ≡ ended t → t.turns ≤ s.turns
ended-turns s t e = subst (λ (n : ℕ). t.turns ≤ n) (sym (ap turns_of e)) (omega arith)
  where
    turns_of : Outcome State → ℕ
    turns_of (ended x) = x.turns
    turns_of out_of_turns = 0
    turns_of stuck = 0

module _ (fs : WasmFeatures) (n : Naming) where
  -- ## Falling

  appended-falls : (s t : State) (o : Option Value_stack) → or_stuck (option_map (with_stack s) o) ≡ ended t → t.turns ≤ s.turns
  appended-falls s t None e = cc
  appended-falls s t (Some u) e = ended-turns (with_stack s u) t e

  module _ (I : Instantiating) (falls : Falls I) where
    item-falls : (names : Names) (R : Run) (p : Place) (args : Arguments) (s t : State) (f : Form) → read_value_item fs n I names R p args s f ≡ ended t → t.turns ≤ s.turns
    item-falls names R p args s t (instance_item (instantiate c qs)) e =
        let joined : End → Outcome State = λ x. ended (joined_by (names.identity (introduced p)) s x) in
        let v = after-ended (λ v. after (λ vs. after joined (I (world_of s) v vs)) (or_stuck (arguments_at s.stack.top qs))) (or_stuck (component_at s.stack.top c)) t e in
        let vs = after-ended (λ vs. after joined (I (world_of s) v.0 vs)) (or_stuck (arguments_at s.stack.top qs)) t v.2 in
        let x = after-ended joined (I (world_of s) v.0 vs.0) t vs.2 in
        let a = falls (world_of s) v.0 vs.0 x.0 x.1 in
        let b = ended-turns (joined_by (names.identity (introduced p)) s x.0) t x.2 in
        omega (arith, a, b)
    item-falls names R p args s t (instance_item (bag es)) e = appended-falls s t (grow_values fs n names R p args s.stack (instance_item (bag es))) e
    item-falls names R p args s t f e = appended-falls s t (grow_values fs n names R p args s.stack f) e

    items-fall : (names : Names) (R : Run) (p : Place) (k : ℕ) (args : Arguments) (s : State) (is : Items) (e : End) → read_value_items fs n I names R p k args s is ≡ ended e → e.world.turns ≤ s.turns
    items-fall names R p k args s no_items e h = subst (λ (x : ℕ). x ≤ s.turns) (ap turns_of h) (omega arith)
      where
        turns_of : Outcome End → ℕ
        turns_of (ended x) = x.world.turns
        turns_of out_of_turns = 0
        turns_of stuck = 0
    items-fall names R p k args s (next_item at f is) e h =
        let t = after-ended (λ t. read_value_items fs n I names R p (suc k) args t is) (read_value_item fs n I names R (deeper p k) args s f) e h in
        let a = item-falls names R (deeper p k) args s t.0 f t.1 in
        let b = items-fall names R p (suc k) args t.0 is e t.2 in
        omega (arith, a, b)

    pub read_in-falls : (w : World) (R : Run) (p : Place) (is : Items) (ls : Levels) (args : Arguments) (e : End) → read_in fs n I w R p is ls args ≡ ended e → e.world.turns ≤ w.turns
    read_in-falls w R p is ls args e h = items-fall (n.reading R.number w.readings) R p 0 args (start_in ls (record w { readings = suc w.readings })) is e h

  pub instantiated-falls : (most : ℕ) → Falls (instantiated fs n most)
  instantiated-falls zero w v args e h = cc
  instantiated-falls (suc most) w (closure R p is ls t) args e h = go (instantiated-falls most) w.turns h
    where
      go : Falls (instantiated fs n most) → (turns : ℕ) → taking_a_turn turns (λ turns. read_in fs n (instantiated fs n most) (record w { turns = turns }) R p is ls args) ≡ ended e → e.world.turns ≤ turns
      go falls zero h = cc
      go falls (suc turns) h =
          let a = read_in-falls (instantiated fs n most) falls (record w { turns = turns }) R p is ls args e h in
          omega (arith, a)
  instantiated-falls (suc most) w (typed t) args e h = go w.turns h
    where
      go : (turns : ℕ) → taking_a_turn turns (λ turns. stuck) ≡ ended e → e.world.turns ≤ turns
      go zero h = cc
      go (suc turns) h = cc
  instantiated-falls (suc most) w (an_instance i vs) args e h = go w.turns h
    where
      go : (turns : ℕ) → taking_a_turn turns (λ turns. stuck) ≡ ended e → e.world.turns ≤ turns
      go zero h = cc
      go (suc turns) h = cc

  -- ## Any bound that is no less than the turns

  module _ (t : ℕ) (I J : Instantiating) (falls : Falls I) (same : SameBelow t I J) where
    item-same : (names : Names) (R : Run) (p : Place) (args : Arguments) (s : State) (f : Form) → s.turns ≤ t → read_value_item fs n J names R p args s f ≡ read_value_item fs n I names R p args s f
    item-same names R p args s (instance_item (instantiate c qs)) l =
        λ j. after (λ v. after (λ vs. after (λ e. ended (joined_by (names.identity (introduced p)) s e)) (same (world_of s) v vs l j)) (or_stuck (arguments_at s.stack.top qs))) (or_stuck (component_at s.stack.top c))
    item-same names R p args s (instance_item (bag es)) l = refl
    item-same names R p args s f l = refl

    items-same : (names : Names) (R : Run) (p : Place) (k : ℕ) (args : Arguments) (s : State) (is : Items) → s.turns ≤ t → read_value_items fs n J names R p k args s is ≡ read_value_items fs n I names R p k args s is
    items-same names R p k args s no_items l = refl
    items-same names R p k args s (next_item at f is) l =
        ap (after (λ u. read_value_items fs n J names R p (suc k) args u is)) (item-same names R (deeper p k) args s f l) ∙
        after-same (λ u. read_value_items fs n I names R p (suc k) args u is) (λ u. read_value_items fs n J names R p (suc k) args u is) (read_value_item fs n I names R (deeper p k) args s f)
        (λ u e. let a = item-falls I falls names R (deeper p k) args s u f e in items-same names R p (suc k) args u is (omega (arith, a, l)))

    read_in-same : (w : World) (R : Run) (p : Place) (is : Items) (ls : Levels) (args : Arguments) → w.turns ≤ t → read_in fs n J w R p is ls args ≡ read_in fs n I w R p is ls args
    read_in-same w R p is ls args l = items-same (n.reading R.number w.readings) R p 0 args (start_in ls (record w { readings = suc w.readings })) is l

  no_turn : (m : ℕ) (w : World) (v : Value) (args : Arguments) → w.turns ≡ 0 → instantiated fs n m w v args ≡ out_of_turns
  no_turn zero w v args e = refl
  no_turn (suc m) w (closure R p is ls t) args e = ap (λ x. taking_a_turn x (λ turns. read_in fs n (instantiated fs n m) (record w { turns = turns }) R p is ls args)) e
  no_turn (suc m) w (typed t) args e = ap (λ x. taking_a_turn x (λ turns. stuck)) e
  no_turn (suc m) w (an_instance i vs) args e = ap (λ x. taking_a_turn x (λ turns. stuck)) e

  bounded : (k m t : ℕ) (w : World) (v : Value) (args : Arguments) → w.turns ≡ t → t ≤ k → t ≤ m → instantiated fs n m w v args ≡ instantiated fs n k w v args
  bounded k m zero w v args e a b = no_turn m w v args e ∙ sym (no_turn k w v args e)
  bounded zero m (suc t) w v args e a b = Prim.absurd (omega (arith, a))
  bounded (suc k) zero (suc t) w v args e a b = Prim.absurd (omega (arith, b))
  bounded (suc k) (suc m) (suc t) w (closure R p is ls x) args e a b =
      ap (λ y. taking_a_turn y (λ turns. read_in fs n (instantiated fs n m) (record w { turns = turns }) R p is ls args)) e ∙
      read_in-same t (instantiated fs n k) (instantiated fs n m) (instantiated-falls k) (λ u y xs l. bounded k m u.turns u y xs refl (omega (arith, a, l)) (omega (arith, b, l))) (record w { turns = t }) R p is ls args (omega arith) ∙
      sym (ap (λ y. taking_a_turn y (λ turns. read_in fs n (instantiated fs n k) (record w { turns = turns }) R p is ls args)) e)
  bounded (suc k) (suc m) (suc t) w (typed x) args e a b = refl
  bounded (suc k) (suc m) (suc t) w (an_instance i vs) args e a b = refl

  pub bound-free : (k m : ℕ) (w : World) (v : Value) (args : Arguments) → w.turns ≤ k → w.turns ≤ m → instantiated fs n m w v args ≡ instantiated fs n k w v args
  bound-free k m w v args a b = bounded k m w.turns w v args refl a b
