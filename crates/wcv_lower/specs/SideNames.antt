-- Names that differ: in the lists of a context, and which causes tell a name that a list has.
use Rattle.std.specs.Prelude.{ℕ, false, Some, ◌≡◌}
use Rattle.wcv_core.specs.declared.features.WasmFeatures.{WasmFeatures}
use Rattle.wcv_types.specs.ByName.{NamesDiffer}
use Rattle.wcv_types.specs.Tree.{Extern_name}
use Rattle.wcv_matching.specs.Matching.{named}
use Rattle.wcv_names.specs.Externs.{entry_names}
use Rattle.wcv_lower.specs.Checks.{IsFree, is_among}
use Rattle.wcv_lower.specs.Context.{Side, at_distance}
use Rattle.wcv_lower.specs.Readers.{Reader, Named}
use Rattle.wcv_lower.specs.Trees.{Tree_context, Tree_stack}

-- no two imports, and no two exports, have one name
abbrev pub SidesDiffer : Tree_context → Type 0
SidesDiffer c = (d : Side) → NamesDiffer (named (c.side d))

-- names differ on the sides of each open context
abbrev pub AllSidesDiffer : Tree_stack → Type 0
AllSidesDiffer s = (j : ℕ) (c : Tree_context) → at_distance j s ≡ Some c → SidesDiffer c

-- a whole name that has no cause among entries is the name of none, whether resources have names there or not
pub record TellsRepeats (X : Reader) : Type 0 where
  pub joining : (fs : WasmFeatures) (es : Named X) (n : Extern_name) (x : X.Entry) → IsFree (X.name_checks fs es n x) → is_among n.name (entry_names es) ≡ false
  pub listed : (fs : WasmFeatures) (es : Named X) (n : Extern_name) (x : X.Entry) → IsFree (X.bare_name_checks fs es n x) → is_among n.name (entry_names es) ≡ false
