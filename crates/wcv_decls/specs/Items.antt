-- What a type item does to a state, and the type of a component at its end.
use Rattle.std.specs.Prelude.{ℕ, suc, List, Bool, false, Some, length, ◌≡◌}
use Rattle.wcv_core.specs.Names.{Place, number}
use Rattle.wcv_core.specs.declared.error.Error.{Error}
use Rattle.wcv_syntax.specs.Model.{Type_form, type_item}
use Rattle.wcv_types.specs.Arena.{Arena}
use Rattle.wcv_types.specs.Unfold.{Type_tree, tree_of, trees}
use Rattle.wcv_types.specs.declared.arena.Node.{Node}
use Rattle.wcv_lower.specs.Checks.{IsFree}
use Rattle.wcv_lower.specs.Context.{Space, in_types, push}
use Rattle.wcv_lower.specs.Declared.{read_type, declared_checks}
use Rattle.wcv_lower.specs.Given.{GivenNames, names_of, GivesAt}
use Rattle.wcv_lower.specs.Growth.{grow}
use Rattle.wcv_lower.specs.Names.{Under}
use Rattle.wcv_lower.specs.Readers.{New_node}
use Rattle.wcv_lower.specs.Trees.{Tree_context, tree_reader, tree_maker, node_tree, type_entry}
use Rattle.wcv_lower.specs.Types.{type_made}
use Rattle.wcv_spaces.specs.Contents.{Contents, context_of, stack_of}
use Rattle.wcv_spaces.specs.Promises.{MemoryOrCausedBy, numbers_of, Keeps}

-- a type as an entry of a space: among types it stands for what it creates and for what it refers to
abbrev pub entry_in : Space → Type_tree → Type_tree
entry_in in_types t = type_entry t
entry_in k t = t

-- the node is the arena's next one, and joined the space
pub record Stored (k : Space) (a b : Arena) (s s' : Contents) (x : Node) : Type 0 where
  pub grown : context_of b s' ≡ push k (entry_in k (tree_of (trees a.nodes) x)) (context_of a s)
  pub nodes : length b.nodes ≡ suc (length a.nodes)
  pub core : b.core ≡ a.core
  pub live : s'.spent ≡ false
  pub keeps : Keeps a b s s'

-- so of the node of a type item
pub record Added (a b : Arena) (s s' : Contents) (t : Type_form) : Type 0 where
  pub node : New_node tree_reader
  pub made : type_made (context_of a s) t ≡ Some node
  pub grown : context_of b s' ≡ push in_types (type_entry (node_tree (number (length a.nodes)) node)) (context_of a s)
  pub nodes : length b.nodes ≡ suc (length a.nodes)
  pub core : b.core ≡ a.core
  pub live : s'.spent ≡ false
  pub keeps : Keeps a b s s'

-- the state grew by the type item at any place, by names that the arena gave
pub record Declares (a b : Arena) (s s' : Contents) (t : Type_form) : Type 0 where
  pub given_names : Place → GivenNames
  pub given : (p : Place) → GivesAt (Under p) (numbers_of a) (numbers_of b) (given_names p)
  pub grown : (outer : List Tree_context) (p : Place) → grow s.features (tree_maker (names_of (given_names p)) p) (stack_of a s outer) (type_item t) ≡ Some (stack_of b s' outer)
  pub live : s'.spent ≡ false
  pub keeps : Keeps a b s s'

-- the type item was read at that place, by names that the arena gave, in the contexts further out, which became others, and has no cause
-- that is looked at
pub record Declared (limited : Bool) (a a' : Arena) (outer outer' : List Tree_context) (p : Place) (s s' : Contents) (t : Type_form) : Type 0 where
  pub names : GivenNames
  pub given : GivesAt (Under p) (numbers_of a) (numbers_of a') names
  pub read : read_type s.features (tree_maker (names_of names)) p (stack_of a s outer) t ≡ Some (stack_of a' s' outer')
  pub free : IsFree (declared_checks limited s.features (tree_maker (names_of names)) p (stack_of a s outer) t)
  pub live : s'.spent ≡ false

-- the error is out of memory, or a cause of the type item at that place by names that the arena gave
pub record TypeCaused {M : Type 0} (limited : Bool) (a a' : Arena) (outer : List Tree_context) (p : Place) (s : Contents) (t : Type_form) (offset : ℕ) (e : Error M) : Type 0 where
  pub names : GivenNames
  pub given : GivesAt (Under p) (numbers_of a) (numbers_of a') names
  pub caused : MemoryOrCausedBy (declared_checks limited s.features (tree_maker (names_of names)) p (stack_of a s outer) t) offset e
