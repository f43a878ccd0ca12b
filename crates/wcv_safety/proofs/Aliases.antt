-- All aliases.
use Rattle.std.proofs.Common.{◌≡◌, Some}
use Rattle.wcv_core.specs.Names.{Name}
use Rattle.wcv_closed.specs.ClosedMatching.{SupersKeepForm}
use Rattle.wcv_closed.specs.ClosedTable.{IsTable}
use Rattle.wcv_syntax.specs.declared.instance.ComponentAlias.{ComponentAlias}
use Rattle.wcv_syntax.specs.declared.instance.ComponentAlias.TheVariants as alias
use Rattle.wcv_lower.specs.Aliases.{alias_step}
use Rattle.wcv_lower.specs.Step.{Step, apply}
use Rattle.wcv_lower.specs.Trees.{Tree_stack, tree_reader}
use Rattle.wcv_world.specs.Reading.{Value_stack, value_reader}
use Rattle.wcv_safety.specs.Agreeing.{AgreeReadings}
use Rattle.wcv_safety.specs.Standing.{BothStand}
use Rattle.wcv_safety.proofs.CoreAliases.{core-follows}
use Rattle.wcv_safety.proofs.ExportAliases.{export-follows}
use Rattle.wcv_safety.proofs.OuterAliases.{outer-follows}

module _ (g : Name → Name) (v : Value_stack) (s : Tree_stack) (table : IsTable v.groups) (supers : SupersKeepForm v.groups) (h : BothStand v s) (a : AgreeReadings g v s) where
  pub alias-follows : (i : ComponentAlias) (y : Step tree_reader) → alias_step s i ≡ Some y → (x : Step value_reader) × (alias_step v i ≡ Some x) × AgreeReadings g (apply x v) (apply y s)
  alias-follows (alias.InstanceExport w i n) y e = export-follows g v s table supers h a w i n y e
  alias-follows (alias.CoreInstanceExport w i n) y e = core-follows g v s h a w i n y e
  alias-follows (alias.Outer w n i) y e = outer-follows g w n i v s y a e
