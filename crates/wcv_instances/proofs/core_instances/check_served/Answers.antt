use Rattle.std.proofs.Common.{ap, not, subst}
use Rattle.std.proofs.lemmas.Result.{on_ok_weaker, IfErr-weaker}
use Rattle.wcv_core.specs.CoreGroups.{AreClosed}
use Rattle.wcv_core.specs.CoreTable.{AreDistinct}
use Rattle.wcv_types.specs.Tree.{parts}
use Rattle.wcv_types.specs.Unfold.{tree_at}
use Rattle.wcv_types.specs.declared.ids.Part.TheVariants as p
use Rattle.wcv_matching.specs.CoreArguments.{argument_exports}
use Rattle.wcv_matching.specs.ModuleItems.{core_imports_in}
use Rattle.wcv_lower.proofs.Served.{served_told}
use Rattle.wcv_instances.proofs.CoreInstances.{args_within, imports_within, mismatch_caused}
use Rattle.wcv_instances.proofs.core_instances.check_served.Goals as goal

pub returns-clause-ok : goal.returns-clause-ok
returns-clause-ok c =
    let a = c.args.types.now in
    on_ok_weaker c.core_arguments.result
    (λ s. (
      ap not ((served_told a.core (argument_exports a c.args.args.now) (core_imports_in (parts (tree_at a (p.Module c.args.id)))) (record { closed = subst (AreClosed 0) c.core_types.ensures c.len-count.ensures.closed; distinct = subst AreDistinct c.core_types.ensures c.len-count.ensures.distinct })
          (args_within a c.nodes_fit.ensures.all c.args.args.now c.requires.args) (imports_within a c.nodes_fit.ensures.all c.args.id c.requires.stands)).1 s),
      tt,
    ))
    c.core_arguments.ensures.ok

pub returns-clause-err : goal.returns-clause-err
returns-clause-err c =
    let a = c.args.types.now in
    IfErr-weaker c.core_arguments.result _ _
    (λ e m. mismatch_caused _ _ c.args.offset e
    ((served_told a.core (argument_exports a c.args.args.now) (core_imports_in (parts (tree_at a (p.Module c.args.id)))) (record { closed = subst (AreClosed 0) c.core_types.ensures c.len-count.ensures.closed; distinct = subst AreDistinct c.core_types.ensures c.len-count.ensures.distinct })
    (args_within a c.nodes_fit.ensures.all c.args.args.now c.requires.args) (imports_within a c.nodes_fit.ensures.all c.args.id c.requires.stands)).0) m)
    c.core_arguments.ensures.err
