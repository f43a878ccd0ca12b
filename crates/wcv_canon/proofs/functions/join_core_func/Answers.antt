use Rattle.std.proofs.Common.{[], ◌++◌, ◌∙◌, ap, subst, sym}
use Rattle.std.proofs.lemmas.Result.{err_from_is_err_and}
use Rattle.wcv_core.specs.CoreTable.{limit_checks}
use Rattle.wcv_core.proofs.Closing.{caused_same}
use Rattle.wcv_syntax.specs.View.{canon_view}
use Rattle.wcv_flat.specs.RowTypes.{appended, row_checks, row_group}
use Rattle.wcv_flat.specs.Rows.{canon_row}
use Rattle.wcv_lower.specs.Context.{core_funcs}
use Rattle.wcv_spaces.specs.Contents.{Contents, spent, with_core}
use Rattle.wcv_spaces.specs.Promises.{Keeps}
use Rattle.wcv_spaces.proofs.Keeping.{keeps_grown}
use Rattle.wcv_canon.proofs.CoreJoined.{type_made, facts_stand, facts_known, signature_caused, signature_within, core_grew, joined_keeps, spent_keeps, slots_live}
use Rattle.wcv_canon.proofs.functions.join_core_func.Goals as goal

pub row_signature-requires-clause-told : goal.row_signature-requires-clause-told
row_signature-requires-clause-told c = type_made c.args.types.now c.args.state.now c.requires.open.stands (canon_view c.args.func.now) c.requires.kind [] (c.requires.free []) c.args.facts.now c.requires.facts

pub row_signature-requires-clause-stands : goal.row_signature-requires-clause-stands
row_signature-requires-clause-stands c = facts_stand c.args.types.now c.args.state.now c.requires.open.stands (canon_view c.args.func.now) c.requires.kind [] (c.requires.free []) c.args.facts.now c.requires.facts

pub row_signature-requires-clause-known : goal.row_signature-requires-clause-known
row_signature-requires-clause-known c = facts_known c.args.types.now c.args.state.now c.requires.open.stands (canon_view c.args.func.now) c.requires.kind [] (c.requires.free []) c.args.facts.now c.requires.facts

pub returns-in_err-id-clause-err : goal.returns-in_err-id-clause-err
returns-in_err-id-clause-err c =
    let q = err_from_is_err_and c.from_residual.result c.from_residual.ensures.1 in
    let signed = row_checks c.args.types.now c.args.facts.now (appended c.args.func.now) ++ limit_checks c.args.types.now.core (row_group c.args.types.now c.args.facts.now (appended c.args.func.now)) in
    rw q.1 (λ outer.
    signature_caused c.args.types.now c.args.state.now c.requires.open.stands (canon_view c.args.func.now) c.requires.kind outer (c.requires.free outer) c.args.facts.now c.requires.facts c.args.offset q.0
    (caused_same signed c.args.offset c.in_err-id.field-0.0 q.0 q.2.0 q.2.1 c.in_err-id.ensures.cause))

pub returns-in_err-id-clause-keeps : goal.returns-in_err-id-clause-keeps
returns-in_err-id-clause-keeps c = keeps_grown c.args.types.now c.row_signature.new.types c.args.state.now c.row_signature.ensures.grown c.requires.open.stands

pub push_core_func-requires : goal.push_core_func-requires
push_core_func-requires c = record { live = ap (λ (z : Contents). z.spent) c.say_slots.ensures ∙ slots_live (canon_row (canon_view c.args.func.now)).asks c.args.state.now ∙ c.requires.open.live }

pub returns-in_err-push_core_func-clause-keeps : goal.returns-in_err-push_core_func-clause-keeps
returns-in_err-push_core_func-clause-keeps c =
    subst (Keeps c.args.types.now c.row_signature.new.types c.args.state.now) (sym (c.in_err-push_core_func.ensures.err ∙ ap spent c.say_slots.ensures))
    (spent_keeps c.args.types.now c.row_signature.new.types c.args.state.now c.requires.open.stands c.row_signature.ensures.grown (canon_row (canon_view c.args.func.now)).asks)

pub returns-clause-keeps : goal.returns-clause-keeps
returns-clause-keeps c =
    subst (Keeps c.args.types.now c.row_signature.new.types c.args.state.now) (sym (c.in_ok-push_core_func.ensures.ok ∙ ap (with_core core_funcs c.in_ok-id.id) c.say_slots.ensures))
    (joined_keeps c.args.types.now c.row_signature.new.types c.args.state.now c.requires.open.stands c.row_signature.ensures.grown (canon_row (canon_view c.args.func.now)).asks c.in_ok-id.id
    (signature_within c.args.types.now c.args.state.now c.requires.open.stands (canon_view c.args.func.now) c.requires.kind [] (c.requires.free []) c.args.facts.now c.requires.facts c.row_signature.new.types c.push_core_func.new.self c.in_ok-id.id c.in_ok-id.ensures.groups c.in_ok-id.ensures.id))

pub returns-clause-ok : goal.returns-clause-ok
returns-clause-ok c = λ outer p.
    core_grew c.args.types.now c.args.state.now c.requires.open.stands (canon_view c.args.func.now) c.requires.kind outer (c.requires.free outer) c.args.facts.now c.requires.facts c.row_signature.new.types c.push_core_func.new.self c.in_ok-id.id c.in_ok-id.ensures.groups c.in_ok-id.ensures.id
    (c.in_ok-push_core_func.ensures.ok ∙ ap (with_core core_funcs c.in_ok-id.id) c.say_slots.ensures) c.requires.open.live c.in_ok-id.ensures.free p
