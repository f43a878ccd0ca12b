use Rattle.std.proofs.Common.{List, subst, sym}
use Rattle.std.specs.Prelude.{IfErr}
use Rattle.wcv_core.specs.Names.{Place}
use Rattle.wcv_syntax.specs.Model.{alias_item}
use Rattle.wcv_syntax.specs.declared.instance.ComponentAlias.{ComponentAlias}
use Rattle.wcv_lower.specs.Growth.{call_checks}
use Rattle.wcv_lower.specs.Names.{Names}
use Rattle.wcv_lower.specs.Trees.{Tree_context, tree_maker}
use Rattle.wcv_spaces.specs.Contents.{stack_of}
use Rattle.wcv_spaces.specs.Promises.{MemoryOrCausedBy}
use Rattle.wcv_state.proofs.state.ComponentState.add_alias_here.Goals as goal

pub returns-in-InstanceExport-clause-err : goal.returns-in-InstanceExport-clause-err
returns-in-InstanceExport-clause-err c =
    subst (λ (x : ComponentAlias). IfErr c.add_export_alias.result (λ e. (outer : List Tree_context) (n : Names) (p : Place) → MemoryOrCausedBy (call_checks c.args.self.now.features (tree_maker n p) (stack_of c.args.types.now c.args.self.now outer) (alias_item x)) c.args.offset e))
    (sym c.in-InstanceExport.is) c.add_export_alias.ensures.err

pub returns-in-CoreInstanceExport-clause-err : goal.returns-in-CoreInstanceExport-clause-err
returns-in-CoreInstanceExport-clause-err c =
    subst (λ (x : ComponentAlias). IfErr c.add_core_alias.result (λ e. (outer : List Tree_context) (n : Names) (p : Place) → MemoryOrCausedBy (call_checks c.args.self.now.features (tree_maker n p) (stack_of c.args.types.now c.args.self.now outer) (alias_item x)) c.args.offset e))
    (sym c.in-CoreInstanceExport.is) c.add_core_alias.ensures.err
