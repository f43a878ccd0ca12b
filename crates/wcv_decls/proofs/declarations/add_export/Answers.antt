use Rattle.std.proofs.Common.{◌≡◌, [], ap, subst, sym, ◌∙◌, true}
use Rattle.std.proofs.lemmas.Result.{err_from_is_err_and, on_ok_weaker, IfErr-weaker}
use Rattle.wcv_lower.specs.Owned.{IsLed}
use Rattle.wcv_lower.specs.Trees.{Tree_context}
use Rattle.wcv_spaces.specs.Contents.{Contents, context_of}
use Rattle.wcv_spaces.specs.Promises.{Entered, EntryCaused}
use Rattle.wcv_spaces.proofs.Keeping.{keeps_trans, same_context}
use Rattle.wcv_state.proofs.BothCalls.{written_by_both, export_written_caused, export_entry_caused}
use Rattle.wcv_decls.proofs.declarations.add_export.Goals as goal

pub returns-in_err-entity-clause-err : goal.returns-in_err-entity-clause-err
returns-in_err-entity-clause-err c =
    let p = err_from_is_err_and c.from_residual.result c.from_residual.ensures.1 in
    rw (p.1, p.2) (λ q. export_written_caused c.args.types.now c.check_type_ref.new.types q c.args.state.now c.args.ty c.args.name c.args.offset c.in_err-entity.field-0.0 c.in_err-entity.ensures.err.1)

pub add_export-requires-clause-live : goal.add_export-requires-clause-live
add_export-requires-clause-live c = ap (λ (s : Contents). s.spent) c.in_ok-entity.ensures.same ∙ c.requires.live

pub add_export-requires-clause-opens : goal.add_export-requires-clause-opens
add_export-requires-clause-opens c = c.in_ok-entity.ensures.opens c.requires.opens

pub returns-clause-ok : goal.returns-clause-ok
returns-clause-ok c =
    let a = c.args.types.now in
    let b = c.check_type_ref.new.types in
    let d = c.add_export.new.types in
    let s : Contents = c.args.state.now in
    let t : Contents = c.add_export.new.self in
    let x = c.in_ok-entity.entity in
    on_ok_weaker c.add_export.result
    (λ f outer p. written_by_both a b d outer p s t c.args.ty c.args.name x c.requires.stands c.check_type_ref.ensures.keeps.arena c.add_export.ensures.keeps.arena (c.in_ok-entity.ensures.ok p)
    (subst (λ (u : Contents). Entered true b d outer p u t c.args.name x) c.in_ok-entity.ensures.same (f outer p)))
    c.add_export.ensures.ok

pub returns-clause-led : goal.returns-clause-led
returns-clause-led c =
    let a = c.args.types.now in
    let b = c.check_type_ref.new.types in
    let s : Contents = c.args.state.now in
    let same : context_of b c.check_type_ref.new.self ≡ context_of a s = ap (context_of b) c.in_ok-entity.ensures.same ∙ same_context a b c.check_type_ref.ensures.keeps.arena s c.requires.stands in
    on_ok_weaker c.add_export.result (λ f l. (f [] []).led (subst (λ (x : Tree_context). IsLed x) (sym same) l)) c.add_export.ensures.ok

pub returns-clause-live : goal.returns-clause-live
returns-clause-live c = on_ok_weaker c.add_export.result (λ f. (f [] []).live) c.add_export.ensures.ok

pub returns-clause-err : goal.returns-clause-err
returns-clause-err c =
    let a = c.args.types.now in
    let b = c.check_type_ref.new.types in
    let d = c.add_export.new.types in
    let s : Contents = c.args.state.now in
    let x = c.in_ok-entity.entity in
    IfErr-weaker c.add_export.result _ _
    (λ e f p. export_entry_caused a b d p s c.args.ty c.args.name x c.args.offset e c.requires.stands c.check_type_ref.ensures.keeps.arena c.add_export.ensures.keeps.arena (c.in_ok-entity.ensures.ok p)
    (subst (λ (u : Contents). EntryCaused true b d p u c.args.name x c.args.offset e) c.in_ok-entity.ensures.same (f p)))
    c.add_export.ensures.err

pub returns-clause-keeps : goal.returns-clause-keeps
returns-clause-keeps c = keeps_trans c.args.types.now c.check_type_ref.new.types c.add_export.new.types c.args.state.now c.check_type_ref.new.self c.add_export.new.self c.check_type_ref.ensures.keeps c.add_export.ensures.keeps
