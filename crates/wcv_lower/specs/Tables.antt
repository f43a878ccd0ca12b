-- The table of core types that items lead to, with the spaces whose core types are of it.
use Rattle.std.specs.Prelude.{List, All}
use Rattle.wcv_core.specs.CoreForm.{Group}
use Rattle.wcv_core.specs.CoreGroups.{total}
use Rattle.wcv_core.specs.CoreWritten.{Core_entry, IsKnown}
use Rattle.wcv_closed.specs.ClosedMatching.{SupersKeepForm}
use Rattle.wcv_closed.specs.ClosedTable.{IsTable}
use Rattle.wcv_lower.specs.CoreItems.{outer_entries}
use Rattle.wcv_lower.specs.Trees.{Tree_stack}

-- matching goes on over the table, and the spaces name types of it
pub record StandsOver (gs : List Group) (ess : List (List Core_entry)) : Type 0 where
  pub table : IsTable gs
  pub forms : SupersKeepForm gs
  pub known : All (λ es. All (IsKnown (total gs)) es) ess

-- the groups that were read are a table, over which the core types of each open context stand
abbrev pub TableStands : Tree_stack → Type 0
TableStands s = StandsOver s.groups (outer_entries s)
