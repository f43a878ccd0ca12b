-- The linking machine: items one after another over lists of values, and instantiations, which read other items and take turns.
use Rattle.std.specs.Prelude.{ℕ, zero, suc, List, [], ◌∷◌, not, cond, Option, Some, None}
use Rattle.std.specs.List.{list_all}
use Rattle.std.specs.Option.{option_map}
use Rattle.wcv_core.specs.CoreForm.{Group}
use Rattle.wcv_core.specs.Names.{Name, Place, deeper}
use Rattle.wcv_core.specs.declared.features.WasmFeatures.{WasmFeatures}
use Rattle.wcv_syntax.specs.Model.{Form, instance_item, instantiate, Items, no_items, next_item}
use Rattle.wcv_syntax.specs.declared.instance.ComponentInstantiationArg.{ComponentInstantiationArg}
use Rattle.wcv_lower.specs.Checks.{is_none}
use Rattle.wcv_lower.specs.Context.{empty, concrete, push, in_instances, exporting}
use Rattle.wcv_lower.specs.Instances.{component_at, argument_at, arguments}
use Rattle.wcv_lower.specs.Names.{Names, introduced}
use Rattle.wcv_world.specs.Growth.{Arguments, Tokens, grow_values}
use Rattle.wcv_world.specs.Naming.{Naming}
use Rattle.wcv_world.specs.Reading.{Value_context, Value_stack, value_reader}
use Rattle.wcv_world.specs.Recorded.{run_of, table_behind}
use Rattle.wcv_world.specs.Values.{Run, Value, an_instance, closure, Values, Levels, no_levels, level, listed_values, values}

-- what goes on from one reading to the next: the turns that are left, how many readings there were, the tokens, the table of core types
pub record World : Type 0 where
  pub turns : ℕ
  pub readings : ℕ
  pub tokens : Tokens
  pub groups : List Group

-- within a reading: the tokens stand in the context on top, the table in the stack
pub record State : Type 0 where
  pub turns : ℕ
  pub readings : ℕ
  pub stack : Value_stack

-- what reading comes to. The first that is no end is the outcome of all
pub data Outcome (A : Type 0) : Type 0 where
  ended : A → Outcome A
  out_of_turns stuck : Outcome A

-- the end of a reading: the world then, and what the instance exports
pub record End : Type 0 where
  pub world : World
  pub exports : Values

abbrev pub after : {A B : Type 0} → (A → Outcome B) → Outcome A → Outcome B
after k (ended a) = k a
after k out_of_turns = out_of_turns
after k stuck = stuck

-- where there is nothing the machine is stuck
abbrev pub or_stuck : {A : Type 0} → Option A → Outcome A
or_stuck None = stuck
or_stuck (Some a) = ended a

-- ## Readings begin and end

abbrev pub context_over : Levels → List Value_context
context_over no_levels = []
context_over (level f g ls) = record (empty value_reader concrete) { space = λ k. listed_values (f k); core = λ k. listed_values (g k) } ∷ context_over ls

-- before the first item, in the lists around it
abbrev pub start_in : Levels → World → State
start_in ls w = record { turns = w.turns; readings = w.readings; stack = record { top = record (empty value_reader concrete) { defined = w.tokens }; outer = context_over ls; groups = w.groups } }

abbrev pub world_of : State → World
world_of s = record { turns = s.turns; readings = s.readings; tokens = s.stack.top.defined; groups = s.stack.groups }

abbrev pub end_of : State → End
end_of s = record { world = world_of s; exports = values (s.stack.top.side exporting) }

-- ## Instantiations

-- what an instantiation of a value comes to
abbrev pub Instantiating : Type 0
Instantiating = World → Value → Arguments → Outcome End

-- where something stands at each index
abbrev pub arguments_at : Value_context → List ComponentInstantiationArg → Option Arguments
arguments_at c qs = cond (list_all (λ (a : ComponentInstantiationArg). not (is_none (argument_at c a))) qs) (Some (arguments c qs)) None

-- the instance joins, with that identity; the world is that of the end
abbrev pub joined_by : Name → State → End → State
joined_by i s e = record {
  turns = e.world.turns;
  readings = e.world.readings;
  stack = record { top = record (push in_instances (an_instance i e.exports) s.stack.top) { defined = e.world.tokens }; outer = s.stack.outer; groups = e.world.groups };
}

abbrev pub with_stack : State → Value_stack → State
with_stack s t = record s { stack = t }

-- ## Items

-- the item at place p of the root of run R: an instantiation, or what it appends
abbrev pub read_value_item : WasmFeatures → Naming → Instantiating → Names → Run → Place → Arguments → State → Form → Outcome State
read_value_item fs n I names R p args s (instance_item (instantiate c qs)) =
    after (λ v. after (λ vs. after (λ e. ended (joined_by (names.identity (introduced p)) s e)) (I (world_of s) v vs)) (or_stuck (arguments_at s.stack.top qs))) (or_stuck (component_at s.stack.top c))
read_value_item fs n I names R p args s f = or_stuck (option_map (with_stack s) (grow_values fs n names R p args s.stack f))

-- items of which the first stands at position k of the list at place p
abbrev pub read_value_items : WasmFeatures → Naming → Instantiating → Names → Run → Place → ℕ → Arguments → State → Items → Outcome End
read_value_items fs n I names R p k args s no_items = ended (end_of s)
read_value_items fs n I names R p k args s (next_item at f is) = after (λ t. read_value_items fs n I names R p (suc k) args t is) (read_value_item fs n I names R (deeper p k) args s f)

-- one reading more: of the items at place p of the root of run R, in the lists around them, with arguments
abbrev pub read_in : WasmFeatures → Naming → Instantiating → World → Run → Place → Items → Levels → Arguments → Outcome End
read_in fs n I w R p is ls args = read_value_items fs n I (n.reading R.number w.readings) R p 0 args (start_in ls (record w { readings = suc w.readings })) is

-- a turn is taken, if there is one
abbrev pub taking_a_turn : ℕ → (ℕ → Outcome End) → Outcome End
taking_a_turn zero k = out_of_turns
taking_a_turn (suc turns) k = k turns

-- At most so many instantiations stand inside one another. Each takes a turn, so there are never more than turns.
abbrev pub instantiated : WasmFeatures → Naming → ℕ → Instantiating
instantiated fs n zero w v args = out_of_turns
instantiated fs n (suc most) w (closure R p is ls t) args = taking_a_turn w.turns (λ turns. read_in fs n (instantiated fs n most) (record w { turns = turns }) R p is ls args)
instantiated fs n (suc most) w v args = taking_a_turn w.turns (λ turns. stuck)

-- a root, read as run R with these arguments
abbrev pub linked : WasmFeatures → Naming → World → Run → Items → Arguments → Outcome End
linked fs n w R is args = read_in fs n (instantiated fs n w.turns) w R [] is no_levels args

-- a root that is the r-th run of a world. Its types are recorded first, so that the table has the core types which these name; over that
-- table it is read
abbrev pub run_root : WasmFeatures → Naming → World → ℕ → Items → Arguments → Outcome End
run_root fs n w r is args = linked fs n (record w { groups = table_behind fs (n.run r) w.groups is }) (run_of fs n r w.groups is) is args
