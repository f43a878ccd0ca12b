-- Fitting arguments, and what is due of an outcome: the statement of safety.
use Rattle.std.specs.Prelude.{ℕ, List, map, All, true, slice_get, Some, Option, ◌≡◌}
use Rattle.wcv_core.specs.CoreForm.{Group}
use Rattle.wcv_core.specs.Names.{Name, number, member}
use Rattle.wcv_core.specs.declared.core_types.ValType.{ValType}
use Rattle.wcv_core.specs.declared.features.WasmFeatures.{WasmFeatures}
use Rattle.wcv_syntax.specs.Model.{Items}
use Rattle.wcv_types.specs.Tree.{Text, head, imported_at}
use Rattle.wcv_types.specs.Unfold.{Type_tree}
use Rattle.wcv_closed.specs.ClosedMatching.{SupersKeepForm}
use Rattle.wcv_closed.specs.ClosedTable.{IsTable}
use Rattle.wcv_matching.specs.Matching.{named, named_exports}
use Rattle.wcv_matching.specs.SameTypes.{made_at}
use Rattle.wcv_matching.specs.TableMatching.{Opens}
use Rattle.wcv_growth.specs.Kept.{IsPrefix}
use Rattle.wcv_world.specs.Growth.{Arguments, Tokens}
use Rattle.wcv_world.specs.Machine.{World, Outcome, ended, out_of_turns, stuck, End, run_root}
use Rattle.wcv_world.specs.Naming.{naming_by_number, run_names}
use Rattle.wcv_world.specs.Recorded.{table_behind}
use Rattle.wcv_world.specs.Values.{type_over, types_over}
use Rattle.wcv_safety.specs.Agreeing.{IsToken}
use Rattle.wcv_safety.specs.Fitting.{FitsEach, in_all}
use Rattle.wcv_safety.specs.Places.{IsRoot}
use Rattle.wcv_safety.specs.Sound.{Sound, SoundEach}

-- ## Worlds

-- matching goes on over the table of core types, and each token has its number: so it is where runs began in a world without any
pub record IsWorld (w : World) : Type 0 where
  pub table : IsTable w.groups
  pub supers : SupersKeepForm w.groups
  pub numbered : (k : ℕ) (r : Name) (o : Option ValType) → slice_get w.tokens k ≡ Some (r, o) → r ≡ number k

-- the tokens and core types of the first stand in the second, so what is sound in the first is sound there
pub record IsLater (w u : World) : Type 0 where
  pub tokens : IsPrefix w.tokens u.tokens
  pub groups : IsPrefix w.groups u.groups

-- ## Arguments

-- by name, with their types
abbrev pub arguments_over : Arguments → List (Text × Type_tree)
arguments_over args = map (λ a. (a.0, type_over a.1)) args

-- each argument is sound, and they open what the component imports, where g gives a token for each resource that it imports
pub record ArgumentsFit (fs : WasmFeatures) (gs : List Group) (ts : Tokens) (g : Name → Name) (args : Arguments) (t : Type_tree) : Type 0 where
  pub sound : All (λ a. Sound fs gs ts a.1) args
  pub tokens : (r : Name) → member r (imported_at (head t)) ≡ true → IsToken ts (g r)
  pub opens : Opens gs g (arguments_over args) t

-- ## Outcomes

-- what the instance exports is sound, and opens the exports of the component, whose imported resources are read by g and those that it
-- defines as tokens
pub record EndsSafely (fs : WasmFeatures) (w : World) (g : Name → Name) (t : Type_tree) (e : End) : Type 0 where
  pub world : IsWorld e.world
  pub later : IsLater w e.world
  pub sound : SoundEach fs e.world.groups e.world.tokens e.exports
  pub defined : Name → Name
  pub tokens : (r : Name) → member r (made_at (head t)) ≡ true → IsToken e.world.tokens (defined r)
  pub opens : FitsEach e.world.groups (in_all (head t) g defined (λ r. r)) (named (types_over e.exports)) (named_exports t)

-- not stuck
abbrev pub Safe : WasmFeatures → World → (Name → Name) → Type_tree → Outcome End → Type 0
Safe fs w g t (ended e) = EndsSafely fs w g t e
Safe fs w g t out_of_turns = Unit {0}
Safe fs w g t stuck = ⊥

-- ## The statement

-- Where a root is valid over the table of a world, and arguments fit its type over the table that has its core types too, the root as a
-- run comes to no stuck outcome, for any number of turns; and where it ends, it ends safely.
abbrev pub LinkingIsSafe : Type 0
LinkingIsSafe =
    (fs : WasmFeatures) (w : World) (r : ℕ) (is : Items) (t : Type_tree) (g : Name → Name) (args : Arguments) → IsWorld w → IsRoot fs r w.groups is t →
    ArgumentsFit fs (table_behind fs (run_names r) w.groups is) w.tokens g args t → Safe fs w g t (run_root fs naming_by_number w r is args)
