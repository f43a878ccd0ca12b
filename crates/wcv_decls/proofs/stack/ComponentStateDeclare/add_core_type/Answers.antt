use Rattle.std.proofs.Common.{subst}
use Rattle.std.specs.Prelude.{All, OnOk, IfErr}
use Rattle.wcv_core.specs.Names.{Place}
use Rattle.wcv_syntax.specs.Model.{core_type_item}
use Rattle.wcv_syntax.specs.View.{core_type_view}
use Rattle.wcv_types.proofs.Lists.{map-id}
use Rattle.wcv_decls.specs.CoreItems.{JoinsCoreType}
use Rattle.wcv_decls.specs.Stack.{IsOpen, GrewOn, RefusedOn, KeepsOn}
use Rattle.wcv_decls.proofs.Stacks.{both_mapped}
use Rattle.wcv_decls.proofs.stack.ComponentStateDeclare.add_core_type.Goals as goal

pub add_core_type_on-requires-clause-open : goal.add_core_type_on-requires-clause-open
add_core_type_on-requires-clause-open c = subst (All (IsOpen c.args.types.now)) (map-id c.args.components.now) c.requires.open

pub returns-clause-ok : goal.returns-clause-ok
returns-clause-ok c =
    both_mapped (λ ss ss'. OnOk c.add_core_type_on.result ((p : Place) → GrewOn c.args.types.now c.add_core_type_on.new.types p ss ss' (core_type_item (core_type_view c.args.ty))))
    c.args.components.now c.add_core_type_on.new.components c.add_core_type_on.ensures.ok

pub returns-clause-types : goal.returns-clause-types
returns-clause-types c =
    both_mapped (λ ss ss'. OnOk c.add_core_type_on.result (JoinsCoreType c.args.types.now c.add_core_type_on.new.types ss ss' (core_type_view c.args.ty)))
    c.args.components.now c.add_core_type_on.new.components c.add_core_type_on.ensures.types

pub returns-clause-err : goal.returns-clause-err
returns-clause-err c =
    both_mapped (λ ss ss'. IfErr c.add_core_type_on.result (λ e. (p : Place) → RefusedOn c.args.types.now c.add_core_type_on.new.types p ss ss' (core_type_item (core_type_view c.args.ty)) c.args.offset e))
    c.args.components.now c.add_core_type_on.new.components c.add_core_type_on.ensures.err

pub returns-clause-keeps : goal.returns-clause-keeps
returns-clause-keeps c =
    both_mapped (KeepsOn c.args.types.now c.add_core_type_on.new.types) c.args.components.now c.add_core_type_on.new.components c.add_core_type_on.ensures.keeps
