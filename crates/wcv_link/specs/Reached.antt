-- States of which the stack was reached by valid items.
use Rattle.std.specs.Prelude.{ℕ, List}
use Rattle.wcv_core.specs.Names.{Place}
use Rattle.wcv_types.specs.Arena.{Arena}
use Rattle.wcv_lower.specs.Given.{GivenNames, names_of, no_numbers, GivesAt}
use Rattle.wcv_spaces.specs.Contents.{Contents}
use Rattle.wcv_spaces.specs.Promises.{numbers_of}
use Rattle.wcv_decls.specs.Declaring.{features_in, stack_in}
use Rattle.wcv_growth.specs.Reached.{Reached, Earlier}

-- the stack that the states stand for was reached by valid items, by names that the arena gave before
pub record IsReached (a : Arena) (ss : List Contents) : Type 0 where
  pub place : Place
  pub position : ℕ
  pub names : GivenNames
  pub given : GivesAt (Earlier place position) no_numbers (numbers_of a) names
  pub reached : Reached (features_in ss) (names_of names) place position (stack_in a ss)
