-- The names that a world gives: of each run, of each reading in it, and of tokens.
use Rattle.std.specs.Prelude.{ℕ, [], ◌∷◌}
use Rattle.wcv_core.specs.Names.{Name, number, at}
use Rattle.wcv_lower.specs.Names.{Origin, introduced, again, stamp_at, by_place, Names}

pub record Naming : Type 0 where
  -- of the run with that number: those of its declared types, of its contexts and of its recorded types
  pub run : ℕ → Names
  -- in that run, of the reading with that number: resources are those of the run, and what the reading makes is its own
  pub reading : ℕ → ℕ → Names
  -- of the token with that number
  pub token : ℕ → Name

-- ## By numbers and places

-- the origin at a place of the root of that run
abbrev pub in_run : ℕ → Origin → Origin
in_run r (introduced p) = introduced (r ∷ p)
in_run r (again p x) = again (r ∷ p) x
in_run r (stamp_at p) = stamp_at (r ∷ p)

abbrev pub run_names : ℕ → Names
run_names r = record { resource = λ o. by_place (in_run r o); identity = λ o. by_place (in_run r o) }

-- no item has an empty place, so the names of a reading are none of a run
abbrev pub reading_names : ℕ → ℕ → Names
reading_names r n = record { resource = λ o. by_place (in_run r o); identity = λ o. at (n ∷ []) (by_place (in_run r o)) }

abbrev pub naming_by_number : Naming
naming_by_number = record { run = run_names; reading = reading_names; token = number }
