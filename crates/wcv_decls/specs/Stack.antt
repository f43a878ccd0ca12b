-- Type items over the states that are open, the innermost last.
use Rattle.std.specs.Prelude.{ℕ, List, [], ◌∷◌, ◌++◌, Bool, true, ◌≡◌}
use Rattle.wcv_core.specs.Names.{Place}
use Rattle.wcv_core.specs.declared.error.Error.{Error}
use Rattle.wcv_syntax.specs.Model.{Type_form}
use Rattle.wcv_types.specs.Arena.{Arena}
use Rattle.wcv_lower.specs.Owned.{IsCalm}
use Rattle.wcv_spaces.specs.Contents.{Contents}
use Rattle.wcv_spaces.specs.Promises.{numbers_of}
pub use Rattle.wcv_state.specs.Stack.{IsOpen, contexts_around, stack_on, stay, all_spent, all_uncharged, ChangesLast, GrewOn, RefusedOn, KeepsOn}
use Rattle.wcv_decls.specs.Items.{Declared, TypeCaused}

-- what stands in the states owns apart, and none that is open has a resource of another
abbrev pub AreCalm : Arena → List Contents → Type 0
AreCalm a ss = (outer : List Contents) (s : Contents) → ss ≡ outer ++ s ∷ [] → IsCalm (numbers_of a) (stack_on a outer s)

-- the type item was read in the innermost at that place, and the others stay but for what was aliased into them
pub record DeclaresOn (limited : Bool) (a a' : Arena) (p : Place) (ss ss' : List Contents) (t : Type_form) : Type 0 where
  pub outer : List Contents
  pub outer' : List Contents
  pub old : Contents
  pub new : Contents
  pub was : ss ≡ outer ++ old ∷ []
  pub becomes : ss' ≡ outer' ++ new ∷ []
  pub same : all_uncharged outer' ≡ all_uncharged outer
  pub declared : Declared limited a a' (contexts_around a outer) (contexts_around a' outer') p old new t

-- it was refused by a cause of the type item, and all are spent
pub record RefusesOn {M : Type 0} (limited : Bool) (a a' : Arena) (p : Place) (ss ss' : List Contents) (t : Type_form) (offset : ℕ) (e : Error M) : Type 0 where
  pub outer : List Contents
  pub outer' : List Contents
  pub old : Contents
  pub new : Contents
  pub was : ss ≡ outer ++ old ∷ []
  pub becomes : ss' ≡ outer' ++ new ∷ []
  pub same : all_uncharged outer' ≡ all_spent (all_uncharged outer)
  pub spent : new.spent ≡ true
  pub caused : TypeCaused limited a a' (contexts_around a outer) p old t offset e
