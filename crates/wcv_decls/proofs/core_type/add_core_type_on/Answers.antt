use Rattle.std.proofs.Common.{ap, subst, sym}
use Rattle.std.specs.Prelude.{OnOk, IfErr}
use Rattle.wcv_core.specs.Names.{Place}
use Rattle.wcv_syntax.specs.Model.{Core_type_form, core_type_item}
use Rattle.wcv_syntax.specs.View.{core_type_view}
use Rattle.wcv_decls.specs.CoreItems.{JoinsCoreType}
use Rattle.wcv_decls.specs.Stack.{GrewOn, RefusedOn}
use Rattle.wcv_decls.proofs.core_type.add_core_type_on.Goals as goal

pub returns-in-Module-clause-ok : goal.returns-in-Module-clause-ok
returns-in-Module-clause-ok c =
    subst (λ (t : Core_type_form). OnOk c.add_module_type_on.result ((p : Place) → GrewOn c.args.types.now c.add_module_type_on.new.types p c.args.components.now c.add_module_type_on.new.components (core_type_item t)))
    (sym (ap core_type_view c.in-Module.is)) c.add_module_type_on.ensures.ok

pub returns-in-Module-clause-types : goal.returns-in-Module-clause-types
returns-in-Module-clause-types c =
    subst (λ (t : Core_type_form). OnOk c.add_module_type_on.result (JoinsCoreType c.args.types.now c.add_module_type_on.new.types c.args.components.now c.add_module_type_on.new.components t))
    (sym (ap core_type_view c.in-Module.is)) c.add_module_type_on.ensures.types

pub returns-in-Module-clause-err : goal.returns-in-Module-clause-err
returns-in-Module-clause-err c =
    subst (λ (t : Core_type_form). IfErr c.add_module_type_on.result (λ e. (p : Place) → RefusedOn c.args.types.now c.add_module_type_on.new.types p c.args.components.now c.add_module_type_on.new.components (core_type_item t) c.args.offset e))
    (sym (ap core_type_view c.in-Module.is)) c.add_module_type_on.ensures.err
