-- Values, worlds and outcomes under a renaming of names.
use Rattle.std.specs.Prelude.{ℕ, ◌≡◌}
use Rattle.std.specs.Option.{option_map}
use Rattle.wcv_types.specs.Identity.{rename_identity}
use Rattle.wcv_types.specs.Rename.{rename}
use Rattle.wcv_types.specs.Unfold.{Type_tree}
use Rattle.wcv_lower.specs.Mapped.{Map, map_named, map_defined}
use Rattle.wcv_lower.specs.Names.{AreRenamed}
use Rattle.wcv_lower.specs.Renamed.{Renaming}
use Rattle.wcv_world.specs.Growth.{Arguments}
use Rattle.wcv_world.specs.Machine.{World, Outcome, ended, out_of_turns, stuck, End}
use Rattle.wcv_world.specs.Naming.{Naming}
use Rattle.wcv_world.specs.Reading.{value_reader}
use Rattle.wcv_world.specs.Values.{Run, Value, typed, an_instance, closure, Values, no_values, value, Levels, no_levels, level}

-- at all places the second naming gives the renamed names of the first
pub record Renames (w : Renaming) (n m : Naming) : Type 0 where
  pub run : (r : ℕ) → AreRenamed (λ p. Unit {0}) w.resources.to w.identities.to (n.run r) (m.run r)
  pub reading : (r k : ℕ) → AreRenamed (λ p. Unit {0}) w.resources.to w.identities.to (n.reading r k) (m.reading r k)
  pub token : (k : ℕ) → m.token k ≡ w.resources.to (n.token k)

abbrev pub outcome_map : {A B : Type 0} → (A → B) → Outcome A → Outcome B
outcome_map f (ended a) = ended (f a)
outcome_map f out_of_turns = out_of_turns
outcome_map f stuck = stuck

module _ (w : Renaming) where
  abbrev pub rename_type : Type_tree → Type_tree
  rename_type t = rename w.resources.to w.identities.to t

  abbrev pub rename_run : Run → Run
  rename_run r = record { number = r.number; recorded = λ p. option_map rename_type (r.recorded p) }

  abbrev mutual
    pub rename_value : Value → Value
    rename_value (typed t) = typed (rename_type t)
    rename_value (an_instance i vs) = an_instance (w.identities.to i) (rename_values vs)
    rename_value (closure r p is ls t) = closure (rename_run r) p is (rename_levels ls) (rename_type t)

    pub rename_values : Values → Values
    rename_values no_values = no_values
    rename_values (value n v vs) = value n (rename_value v) (rename_values vs)

    pub rename_levels : Levels → Levels
    rename_levels no_levels = no_levels
    rename_levels (level f g ls) = level (λ k. rename_values (f k)) (λ k. rename_values (g k)) (rename_levels ls)

  -- as a map of entries
  abbrev pub value_renaming : Map value_reader value_reader
  value_renaming = record { entry = rename_value; resource = w.resources.to; identity = rename_identity w.resources.to w.identities.to }

  abbrev pub rename_arguments : Arguments → Arguments
  rename_arguments args = map_named rename_value args

  abbrev pub rename_world : World → World
  rename_world u = record { turns = u.turns; readings = u.readings; tokens = map_defined value_renaming u.tokens; groups = u.groups }

  abbrev pub rename_end : End → End
  rename_end e = record { world = rename_world e.world; exports = rename_values e.exports }

  abbrev pub rename_outcome : Outcome End → Outcome End
  rename_outcome o = outcome_map rename_end o
