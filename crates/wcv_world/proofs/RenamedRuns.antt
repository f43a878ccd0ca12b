-- The machine by renamed names, in a renamed world, comes to what it comes to, renamed.
use Rattle.std.proofs.Common.{◌≡◌, ◌∙◌, ℕ, zero, suc, List, [], ◌∷◌, map, refl, sym, ap, Bool, true, false, cond, Option, Some, None}
use Rattle.std.specs.Prelude.{not}
use Rattle.std.specs.List.{list_all}
use Rattle.std.specs.Map.{lookup}
use Rattle.std.specs.Option.{option_map, option_map_or}
use Rattle.wcv_core.specs.CoreForm.{Group}
use Rattle.wcv_core.specs.Names.{Name, Place, deeper, same_place}
use Rattle.wcv_core.specs.declared.features.WasmFeatures.{WasmFeatures}
use Rattle.wcv_syntax.specs.Model.{Form, component_item, instance_item, instantiate, bag, Items, no_items, next_item}
use Rattle.wcv_syntax.specs.declared.instance.ComponentInstantiationArg.{ComponentInstantiationArg}
use Rattle.wcv_types.specs.Unfold.{Type_tree}
use Rattle.wcv_lower.specs.Checks.{is_none}
use Rattle.wcv_lower.specs.Context.{Space, in_components, in_instances, concrete, empty, exporting, same_space}
use Rattle.wcv_lower.specs.Declared.{inside}
use Rattle.wcv_lower.specs.Instances.{component_at, argument_at, arguments}
use Rattle.wcv_lower.specs.Items.{read_item}
use Rattle.wcv_lower.specs.Mapped.{map_context, map_stack}
use Rattle.wcv_lower.specs.Names.{Names, introduced, Under, AreRenamed}
use Rattle.wcv_lower.specs.Renamed.{Renaming, renaming}
use Rattle.wcv_lower.specs.Trees.{Tree_stack, tree_maker}
use Rattle.wcv_lower.proofs.EndingLaws.{none-mapped}
use Rattle.wcv_lower.proofs.EntryLaws.{items-mapped}
use Rattle.wcv_lower.proofs.ItemLaws.{read_item-renamed}
use Rattle.wcv_lower.proofs.Joined.{map-joined}
use Rattle.wcv_lower.proofs.Mapping.{get-mapped}
use Rattle.wcv_growth.specs.Nested.{Nested_types}
use Rattle.wcv_growth.proofs.NestedNames.{to_type, nested_from-renamed}
use Rattle.wcv_matching.specs.ModuleItems.{before}
use Rattle.wcv_world.specs.Growth.{Arguments, grow_values}
use Rattle.wcv_world.specs.Machine.{World, State, Outcome, ended, out_of_turns, stuck, End, after, or_stuck, context_over, start_in, world_of, end_of, Instantiating, arguments_at, joined_by, with_stack, read_value_item, read_value_items, read_in, taking_a_turn, instantiated, linked, run_root}
use Rattle.wcv_world.specs.Naming.{Naming}
use Rattle.wcv_world.specs.Reading.{Value_context, Value_stack, value_reader}
use Rattle.wcv_world.specs.Recorded.{recorded_type, run_of, start_over, table_behind, table_from, table_in}
use Rattle.wcv_world.specs.Renamed.{Renames, outcome_map, rename_type, rename_run, rename_value, rename_values, rename_levels, value_renaming, rename_arguments, rename_world, rename_end, rename_outcome}
use Rattle.wcv_world.specs.Values.{Run, Value, typed, an_instance, closure, Values, no_values, value, Levels, no_levels, level, listed_values}
use Rattle.wcv_world.proofs.RenamedGrowth.{to, growth-renamed}
use Rattle.wcv_world.proofs.RenamedValues.{values-follow, values-renamed}

-- ## Outcomes

after-mapped : {A B C D : Type 0} (f : A → C) (g : B → D) (k : A → Outcome B) (l : C → Outcome D) → ((a : A) → l (f a) ≡ outcome_map g (k a)) → (o : Outcome A) → after l (outcome_map f o) ≡ outcome_map g (after k o)
after-mapped f g k l h (ended a) = h a
after-mapped f g k l h out_of_turns = refl
after-mapped f g k l h stuck = refl

found-mapped : {A C : Type 0} (f : A → C) (o : Option A) → or_stuck (option_map f o) ≡ outcome_map f (or_stuck o)
found-mapped f None = refl
found-mapped f (Some a) = refl

before-mapped : {K A B : Type 0} (f : A → B) (k : K) (o : Option A) (es : List (K × A)) → before k (option_map f o) (map (λ e. (e.0, f e.1)) es) ≡ map (λ e. (e.0, f e.1)) (before k o es)
before-mapped f k None es = refl
before-mapped f k (Some x) es = refl

module _ (w : Renaming) where
  abbrev rename_state : State → State
  rename_state s = record { turns = s.turns; readings = s.readings; stack = to w s.stack }

  -- ## Readings begin and end

  listed-renamed : (vs : Values) → listed_values (rename_values w vs) ≡ map (rename_value w) (listed_values vs)
  listed-renamed no_values = refl
  listed-renamed (value n v vs) = ap (λ xs. rename_value w v ∷ xs) (listed-renamed vs)

  contexts-renamed : (ls : Levels) → context_over (rename_levels w ls) ≡ map (map_context (value_renaming w)) (context_over ls)
  contexts-renamed no_levels = refl
  contexts-renamed (level f g ls) = λ j. record (empty value_reader concrete) { space = λ k. listed-renamed (f k) j; core = λ k. listed-renamed (g k) j } ∷ contexts-renamed ls j

  start-renamed : (ls : Levels) (u : World) → start_in (rename_levels w ls) (rename_world w u) ≡ rename_state (start_in ls u)
  start-renamed ls u = λ j. record (rename_state (start_in ls u)) { stack = record (to w (start_in ls u).stack) { outer = contexts-renamed ls j } }

  end-renamed : (s : State) → end_of (rename_state s) ≡ rename_end w (end_of s)
  end-renamed s = λ j. record { world = rename_world w (world_of s); exports = values-renamed w (s.stack.top.side exporting) j }

  -- ## Instantiations

  component-renamed : (c : Value_context) (i : ℕ) → component_at (map_context (value_renaming w) c) i ≡ option_map (rename_value w) (component_at c i)
  component-renamed c i = get-mapped (value_renaming w) (values-follow w) (c.space in_components) i

  given-renamed : (c : Value_context) (qs : List ComponentInstantiationArg) → arguments (map_context (value_renaming w) c) qs ≡ rename_arguments w (arguments c qs)
  given-renamed c [] = refl
  given-renamed c (a ∷ qs) = (λ j. before a.name (items-mapped (value_renaming w) (values-follow w) c a.kind a.index j) (given-renamed c qs j)) ∙ before-mapped (rename_value w) a.name (argument_at c a) (arguments c qs)

  missing-renamed : (c : Value_context) (a : ComponentInstantiationArg) → is_none (argument_at (map_context (value_renaming w) c) a) ≡ is_none (argument_at c a)
  missing-renamed c a = ap is_none (items-mapped (value_renaming w) (values-follow w) c a.kind a.index) ∙ none-mapped (rename_value w) (argument_at c a)

  arguments-renamed : (c : Value_context) (qs : List ComponentInstantiationArg) → arguments_at (map_context (value_renaming w) c) qs ≡ option_map (rename_arguments w) (arguments_at c qs)
  arguments-renamed c qs =
      (λ j. cond (list_all (λ (a : ComponentInstantiationArg). not (missing-renamed c a j)) qs) (Some (given-renamed c qs j)) None) ∙ go (list_all (λ (a : ComponentInstantiationArg). not (is_none (argument_at c a))) qs)
    where
      go : (b : Bool) → cond b (Some (rename_arguments w (arguments c qs))) None ≡ option_map (rename_arguments w) (cond b (Some (arguments c qs)) None)
      go true = refl
      go false = refl

  joined-renamed : (i j : Name) → j ≡ w.identities.to i → (s : State) (e : End) → joined_by j (rename_state s) (rename_end w e) ≡ rename_state (joined_by i s e)
  joined-renamed i j q s e = λ x. record (rename_state (joined_by i s e)) {
    stack = record (rename_state (joined_by i s e)).stack {
      top = record (rename_state (joined_by i s e)).stack.top { space = λ k. instances k x };
    };
  }
    where
      instances : (k : Space) → (joined_by j (rename_state s) (rename_end w e)).stack.top.space k ≡ (rename_state (joined_by i s e)).stack.top.space k
      instances k = (λ x. (joined_by (q x) (rename_state s) (rename_end w e)).stack.top.space k) ∙ sym (map-joined (rename_value w) (same_space k in_instances) (s.stack.top.space k) (an_instance i e.exports))

  module _ (fs : WasmFeatures) (n m : Naming) (r : Renames w n m) where
    -- what instantiations come to
    abbrev Follows : Instantiating → Instantiating → Type 0
    Follows I J = (u : World) (v : Value) (args : Arguments) → J (rename_world w u) (rename_value w v) (rename_arguments w args) ≡ rename_outcome w (I u v args)

    module _ (I J : Instantiating) (h : Follows I J) (a b : Names) (q : AreRenamed (λ p. Unit {0}) w.resources.to w.identities.to a b) (R : Run) (args : Arguments) where
      appended-renamed : (s : State) (o g : Option Value_stack) → g ≡ option_map (to w) o → or_stuck (option_map (with_stack (rename_state s)) g) ≡ outcome_map rename_state (or_stuck (option_map (with_stack s) o))
      appended-renamed s o g e = ap (λ x. or_stuck (option_map (with_stack (rename_state s)) x)) e ∙ go o
        where
          go : (o : Option Value_stack) → or_stuck (option_map (with_stack (rename_state s)) (option_map (to w) o)) ≡ outcome_map rename_state (or_stuck (option_map (with_stack s) o))
          go None = refl
          go (Some t) = refl

      item-renamed : (p : Place) (s : State) (f : Form) → read_value_item fs m J b (rename_run w R) p (rename_arguments w args) (rename_state s) f ≡ outcome_map rename_state (read_value_item fs n I a R p args s f)
      item-renamed p s (instance_item (instantiate c qs)) =
          let join : End → Outcome State = λ e. ended (joined_by (a.identity (introduced p)) s e) in
          let join' : End → Outcome State = λ e. ended (joined_by (b.identity (introduced p)) (rename_state s) e) in
          let over : Value → Outcome State = λ v. after (λ vs. after join (I (world_of s) v vs)) (or_stuck (arguments_at s.stack.top qs)) in
          let over' : Value → Outcome State = λ v. after (λ vs. after join' (J (rename_world w (world_of s)) v vs)) (or_stuck (arguments_at (to w s.stack).top qs)) in
          ap (λ o. after over' (or_stuck o)) (component-renamed s.stack.top c) ∙
          ap (after over') (found-mapped (rename_value w) (component_at s.stack.top c)) ∙
          after-mapped (rename_value w) rename_state over over'
          (λ v.
          ap (λ o. after (λ vs. after join' (J (rename_world w (world_of s)) (rename_value w v) vs)) (or_stuck o)) (arguments-renamed s.stack.top qs) ∙
          ap (after (λ vs. after join' (J (rename_world w (world_of s)) (rename_value w v) vs))) (found-mapped (rename_arguments w) (arguments_at s.stack.top qs)) ∙
          after-mapped (rename_arguments w) rename_state (λ vs. after join (I (world_of s) v vs)) (λ vs. after join' (J (rename_world w (world_of s)) (rename_value w v) vs))
          (λ vs. ap (after join') (h (world_of s) v vs) ∙ after-mapped (rename_end w) rename_state join join' (λ e. ap ended (joined-renamed (a.identity (introduced p)) (b.identity (introduced p)) (q.identity (introduced p) tt) s e)) (I (world_of s) v vs))
          (or_stuck (arguments_at s.stack.top qs)))
          (or_stuck (component_at s.stack.top c))
      item-renamed p s (instance_item (bag es)) = appended-renamed s (grow_values fs n a R p args s.stack (instance_item (bag es))) _ (growth-renamed w fs n m r a b q R args p s.stack (instance_item (bag es)))
      item-renamed p s f = appended-renamed s (grow_values fs n a R p args s.stack f) _ (growth-renamed w fs n m r a b q R args p s.stack f)

      items-renamed : (p : Place) (k : ℕ) (s : State) (is : Items) → read_value_items fs m J b (rename_run w R) p k (rename_arguments w args) (rename_state s) is ≡ rename_outcome w (read_value_items fs n I a R p k args s is)
      items-renamed p k s no_items = ap ended (end-renamed s)
      items-renamed p k s (next_item at f is) =
          ap (after (λ t. read_value_items fs m J b (rename_run w R) p (suc k) (rename_arguments w args) t is)) (item-renamed (deeper p k) s f) ∙
          after-mapped rename_state (rename_end w) (λ t. read_value_items fs n I a R p (suc k) args t is) (λ t. read_value_items fs m J b (rename_run w R) p (suc k) (rename_arguments w args) t is) (λ t. items-renamed p (suc k) t is) (read_value_item fs n I a R (deeper p k) args s f)

    read_in-renamed : (I J : Instantiating) → Follows I J → (u : World) (R : Run) (p : Place) (is : Items) (ls : Levels) (args : Arguments) →
        read_in fs m J (rename_world w u) (rename_run w R) p is (rename_levels w ls) (rename_arguments w args) ≡ rename_outcome w (read_in fs n I u R p is ls args)
    read_in-renamed I J h u R p is ls args =
        ap (λ s. read_value_items fs m J (m.reading R.number u.readings) (rename_run w R) p 0 (rename_arguments w args) s is) (start-renamed ls (record u { readings = suc u.readings })) ∙
        items-renamed I J h (n.reading R.number u.readings) (m.reading R.number u.readings) (r.reading R.number u.readings) R args p 0 (start_in ls (record u { readings = suc u.readings })) is

    instantiated-renamed : (most : ℕ) → Follows (instantiated fs n most) (instantiated fs m most)
    instantiated-renamed zero u v args = refl
    instantiated-renamed (suc most) u (closure R p is ls t) args = go (instantiated-renamed most) u.turns
      where
        go : Follows (instantiated fs n most) (instantiated fs m most) → (turns : ℕ) → taking_a_turn turns (λ turns. read_in fs m (instantiated fs m most) (record (rename_world w u) { turns = turns }) (rename_run w R) p is (rename_levels w ls) (rename_arguments w args)) ≡
            rename_outcome w (taking_a_turn turns (λ turns. read_in fs n (instantiated fs n most) (record u { turns = turns }) R p is ls args))
        go h zero = refl
        go h (suc turns) = read_in-renamed (instantiated fs n most) (instantiated fs m most) h (record u { turns = turns }) R p is ls args
    instantiated-renamed (suc most) u (typed t) args = go u.turns
      where
        go : (turns : ℕ) → taking_a_turn turns (λ turns. stuck) ≡ rename_outcome w (taking_a_turn turns (λ turns. stuck))
        go zero = refl
        go (suc turns) = refl
    instantiated-renamed (suc most) u (an_instance i vs) args = go u.turns
      where
        go : (turns : ℕ) → taking_a_turn turns (λ turns. stuck) ≡ rename_outcome w (taking_a_turn turns (λ turns. stuck))
        go zero = refl
        go (suc turns) = refl

    pub linked-renamed : (u : World) (R : Run) (is : Items) (args : Arguments) → linked fs m (rename_world w u) (rename_run w R) is (rename_arguments w args) ≡ rename_outcome w (linked fs n u R is args)
    linked-renamed u R is args = read_in-renamed (instantiated fs n u.turns) (instantiated fs m u.turns) (instantiated-renamed u.turns) u R [] is no_levels args

  -- ## Recorded types

  module _ (fs : WasmFeatures) (a b : Names) (q : AreRenamed (λ p. Unit {0}) w.resources.to w.identities.to a b) where
    abbrev to_tree : Tree_stack → Tree_stack
    to_tree s = map_stack (renaming w) s

    at_place : (p : Place) → AreRenamed (Under p) w.resources.to w.identities.to a b
    at_place p = record { resource = λ o u. q.resource o tt; identity = λ o u. q.identity o tt }

    looked-renamed : (p : Place) (xs : Nested_types) → lookup (same_place p) (map (to_type w) xs) ≡ option_map (rename_type w) (lookup (same_place p) xs)
    looked-renamed p [] = refl
    looked-renamed p (x ∷ xs) = ap (cond (same_place p x.0) (Some (rename_type w x.1))) (looked-renamed p xs) ∙ go (same_place p x.0) (lookup (same_place p) xs)
      where
        go : (c : Bool) (o : Option Type_tree) → cond c (Some (rename_type w x.1)) (option_map (rename_type w) o) ≡ option_map (rename_type w) (cond c (Some x.1) o)
        go true o = refl
        go false o = refl

    pub recorded-renamed : (gs : List Group) (is : Items) (p : Place) → recorded_type fs b gs is p ≡ option_map (rename_type w) (recorded_type fs a gs is p)
    recorded-renamed gs is p = ap (lookup (same_place p)) (nested_from-renamed w fs a b at_place [] 0 (start_over gs) is) ∙ looked-renamed p _

    mutual
      table_in-renamed : (p : Place) (s : Tree_stack) (f : Form) → table_in fs b p (to_tree s) f ≡ table_in fs a p s f
      table_in-renamed p s (component_item is end) = table_from-renamed p 0 (inside concrete s) is
      table_in-renamed p s f = refl

      table_from-renamed : (p : Place) (k : ℕ) (s : Tree_stack) (is : Items) → table_from fs b p k (to_tree s) is ≡ table_from fs a p k s is
      table_from-renamed p k s no_items = refl
      table_from-renamed p k s (next_item at f is) =
          (λ j. option_map_or (λ u. table_from fs b p (suc k) u is) (read_item-renamed w a b (deeper p k) (at_place (deeper p k)) fs s f j) (table_in-renamed (deeper p k) s f j)) ∙ go (λ u. table_from-renamed p (suc k) u is) (read_item fs (tree_maker a) (deeper p k) s f)
        where
          go : ((u : Tree_stack) → table_from fs b p (suc k) (to_tree u) is ≡ table_from fs a p (suc k) u is) → (o : Option Tree_stack) → option_map_or (λ u. table_from fs b p (suc k) u is) (option_map to_tree o) (table_in fs a (deeper p k) s f) ≡ option_map_or (λ u. table_from fs a p (suc k) u is) o (table_in fs a (deeper p k) s f)
          go h None = refl
          go h (Some u) = h u

  module _ (fs : WasmFeatures) (n m : Naming) (r : Renames w n m) where
    pub root-renamed : (u : World) (k : ℕ) (is : Items) (args : Arguments) → run_root fs m (rename_world w u) k is (rename_arguments w args) ≡ rename_outcome w (run_root fs n u k is args)
    root-renamed u k is args =
        (λ j. linked fs m (record (rename_world w u) { groups = table_from-renamed fs (n.run k) (m.run k) (r.run k) [] 0 (start_over u.groups) is j }) (record { number = k; recorded = λ p. recorded-renamed fs (n.run k) (m.run k) (r.run k) u.groups is p j }) is (rename_arguments w args)) ∙
        linked-renamed fs n m r (record u { groups = table_behind fs (n.run k) u.groups is }) (run_of fs n k u.groups is) is args
