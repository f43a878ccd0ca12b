use Rattle.std.proofs.Common.{◌≡◌, ℕ, length, ◌∙◌, subst}
use Rattle.std.proofs.lemmas.Result.{err_from_is_err_and}
use Rattle.wcv_core.specs.CoreForm.{group_form}
use Rattle.wcv_core.specs.CoreJoining.{group_checks}
use Rattle.wcv_types.specs.Arena.{Arena}
use Rattle.wcv_types.proofs.Grown.{extends_refl}
use Rattle.wcv_lower.specs.Checks.{IsFree, no_core_type_room}
use Rattle.wcv_lower.specs.Context.{counts}
use Rattle.wcv_spaces.specs.Contents.{Contents, context_of, core_entries_of}
use Rattle.wcv_spaces.specs.Promises.{MemoryOrCausedBy}
use Rattle.wcv_state.proofs.CoreTypes.{entries_known}
use Rattle.wcv_spaces.proofs.Keeping.{keeps_grown}
use Rattle.wcv_core.proofs.Closing.{caused_same}
use Rattle.wcv_decls.proofs.CoreGroups.{group_caused, room_caused, group_grew, group_left, group_keeps}
use Rattle.wcv_decls.proofs.core_type.add_group.Goals as goal

pub returns-in_err-check_core_types-clause-err : goal.returns-in_err-check_core_types-clause-err
returns-in_err-check_core_types-clause-err c =
    let p = err_from_is_err_and c.from_residual.result c.from_residual.ensures.1 in
    let a : Arena = c.args.types.now in
    let s : Contents = c.args.state.now in
    let l : c.len.result ≡ length c.args.rec.types.items = c.len.ensures ∙ c.args.rec.types.ok.0 in
    let e = c.in_err-check_core_types.field-0.0 in
    rw p.1
    (λ outer n q. room_caused a a s s c.args.rec c.requires.stands (extends_refl a) outer n q c.args.offset p.0
    (subst (λ (m : ℕ). MemoryOrCausedBy (no_core_type_room m (counts (context_of a s))) c.args.offset p.0) l
    (caused_same (no_core_type_room c.len.result (counts (context_of a s))) c.args.offset e p.0 p.2.0 p.2.1 c.in_err-check_core_types.ensures.err)))

pub returns-in_err-check_core_types-clause-keeps : goal.returns-in_err-check_core_types-clause-keeps
returns-in_err-check_core_types-clause-keeps c = keeps_grown c.args.types.now c.args.types.now c.args.state.now (extends_refl c.args.types.now) c.requires.stands

pub intern_rec_group-requires-clause-known : goal.intern_rec_group-requires-clause-known
intern_rec_group-requires-clause-known c = entries_known c.args.types.now c.args.state.now c.requires.stands

pub returns-in-Ok-clause-ok : goal.returns-in-Ok-clause-ok
returns-in-Ok-clause-ok c =
    let a : Arena = c.args.types.now in
    let s : Contents = c.args.state.now in
    let l : c.len.result ≡ length c.args.rec.types.items = c.len.ensures ∙ c.args.rec.types.ok.0 in
    λ outer p. group_grew a c.intern_rec_group.new.self s c.intern_rec_group.new.group c.args.rec c.requires.stands c.in-Ok.ensures.grown outer p c.requires.live c.in-Ok.ensures.table c.in-Ok.ensures.group c.in-Ok.ensures.free
    (subst (λ (n : ℕ). IsFree (no_core_type_room n (counts (context_of a s)))) l c.in_ok-check_core_types.ensures.ok)

pub returns-in-Ok-clause-keeps : goal.returns-in-Ok-clause-keeps
returns-in-Ok-clause-keeps c =
    group_keeps c.args.types.now c.intern_rec_group.new.self c.args.state.now c.intern_rec_group.new.group c.args.rec c.requires.stands c.in-Ok.ensures.grown c.in-Ok.ensures.group c.in-Ok.ensures.known

pub returns-in-Err-clause-err : goal.returns-in-Err-clause-err
returns-in-Err-clause-err c = λ outer n p.
    let s : Contents = c.args.state.now in
    group_caused c.args.types.now c.intern_rec_group.new.self s c.intern_rec_group.new.group c.args.rec c.requires.stands c.in-Err.ensures.grown outer n p c.args.offset c.from.result
    (caused_same (group_checks s.features c.args.types.now.core (core_entries_of s) (group_form c.args.rec)) c.args.offset c.in-Err.err c.from.result c.from.ensures.0 c.from.ensures.1 c.in-Err.ensures.cause)

pub returns-in-Err-clause-keeps : goal.returns-in-Err-clause-keeps
returns-in-Err-clause-keeps c =
    group_left c.args.types.now c.intern_rec_group.new.self c.args.state.now c.intern_rec_group.new.group c.args.rec c.requires.stands c.in-Err.ensures.grown c.in-Err.err c.in-Err.ensures.known c.in-Err.ensures.err
