-- The states that are open around an item, the innermost last.
use Rattle.std.specs.Prelude.{ℕ, List, [], ◌∷◌, ◌++◌, false, map, reverse, ◌≡◌}
use Rattle.std.specs.List.{AllZip}
use Rattle.wcv_core.specs.Features.{default_features}
use Rattle.wcv_core.specs.Names.{Place}
use Rattle.wcv_core.specs.declared.error.Error.{Error}
use Rattle.wcv_syntax.specs.Model.{Form}
use Rattle.wcv_types.specs.Arena.{Arena}
use Rattle.wcv_lower.specs.Trees.{Tree_context, Tree_stack}
use Rattle.wcv_spaces.specs.Contents.{Contents, empty_state, spent, context_of, stack_of, StateStands}
use Rattle.wcv_spaces.specs.Promises.{Keeps, Grew, Refuses}
use Rattle.wcv_spaces.specs.declared.kind.ComponentKind.TheVariants as state_kind

-- the state may be used, and its ids stand in the arena
pub record IsOpen (a : Arena) (s : Contents) : Type 0 where
  pub live : s.spent ≡ false
  pub stands : StateStands a s

-- the contexts of the states, the nearest first
abbrev pub contexts_around : Arena → List Contents → List Tree_context
contexts_around a ss = reverse (map (context_of a) ss)

-- the stack of the states, with that one on top of those
abbrev pub stack_on : Arena → List Contents → Contents → Tree_stack
stack_on a outer s = stack_of a s (contexts_around a outer)

-- the innermost of them; of none, a state that is never looked at
abbrev pub innermost : List Contents → Contents
innermost [] = empty_state state_kind.Component default_features
innermost (s ∷ []) = s
innermost (s ∷ t ∷ ss) = innermost (t ∷ ss)

-- those around it
abbrev pub around : List Contents → List Contents
around [] = []
around (s ∷ []) = []
around (s ∷ t ∷ ss) = s ∷ around (t ∷ ss)

-- what becomes of states: they stay as they are, or each is spent
abbrev pub stay : List Contents → List Contents
stay ss = ss

abbrev pub all_spent : List Contents → List Contents
all_spent ss = map spent ss

-- the sizes of what was aliased into them aside
abbrev pub uncharged : Contents → Contents
uncharged s = record s { aliased = 0 }

abbrev pub all_uncharged : List Contents → List Contents
all_uncharged ss = map uncharged ss

-- the innermost of the states became another, and those around it what `around` makes of them
pub record ChangesLast (around : List Contents → List Contents) (ss ss' : List Contents) : Type 0 where
  pub outer : List Contents
  pub old : Contents
  pub new : Contents
  pub was : ss ≡ outer ++ old ∷ []
  pub becomes : ss' ≡ around outer ++ new ∷ []

-- the innermost grew by the item at that place, and the others stay, with their contexts
pub record GrewOn (a a' : Arena) (p : Place) (ss ss' : List Contents) (f : Form) : Type 0 where
  pub last : ChangesLast stay ss ss'
  pub around : contexts_around a' last.outer ≡ contexts_around a last.outer
  pub grew : Grew a a' (contexts_around a last.outer) p last.old last.new f

-- it was refused by a cause of the item that the call looks at, and all are spent
pub record RefusedOn {M : Type 0} (a a' : Arena) (p : Place) (ss ss' : List Contents) (f : Form) (offset : ℕ) (e : Error M) : Type 0 where
  pub last : ChangesLast all_spent ss ss'
  pub refused : Refuses a a' (contexts_around a last.outer) p last.old last.new f offset e

-- whatever is answered, each state keeps what stood
abbrev pub KeepsOn : Arena → Arena → List Contents → List Contents → Type 0
KeepsOn a a' ss ss' = AllZip (Keeps a a') ss ss'
