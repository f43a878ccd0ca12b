-- What contracts see of an arena.
use Rattle.std.specs.Prelude.{ℕ, List}
use Rattle.wcv_core.specs.CoreForm.{Group}
use Rattle.wcv_types.specs.declared.arena.Node.{Node}

-- its nodes in order, how many resources and stamps it gave, and its table of core types
pub record Arena : Type 0 where
  pub nodes : List Node
  pub resources : ℕ
  pub stamps : ℕ
  pub core : List Group
