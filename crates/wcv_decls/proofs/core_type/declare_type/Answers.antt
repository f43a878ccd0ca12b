use Rattle.std.proofs.Common.{map, refl, true}
use Rattle.std.proofs.lemmas.Result.{err_from_is_err_and}
use Rattle.wcv_syntax.specs.View.{module_decl_view}
use Rattle.wcv_types.proofs.Grown.{extends_refl}
use Rattle.wcv_core.proofs.Closing.{caused_same}
use Rattle.wcv_decls.proofs.CoreEntries.{around_known}
use Rattle.wcv_decls.proofs.CoreModules.{made_in, free_in, declared_caused, room_caused}
use Rattle.wcv_lower.specs.Checks.{no_type_room}
use Rattle.wcv_lower.specs.Context.{counts}
use Rattle.wcv_spaces.specs.Contents.{context_of}
use Rattle.wcv_decls.proofs.core_type.declare_type.Goals as goal

pub returns-in_err-check_types-clause-err : goal.returns-in_err-check_types-clause-err
returns-in_err-check_types-clause-err c =
    let p = err_from_is_err_and c.from_residual.result c.from_residual.ensures.1 in
    let x = c.innermost-state.result.now in
    rw p.1
    (room_caused c.args.types.now c.args.components.now x x.features (map module_decl_view c.args.decls.items) c.requires.open c.innermost-state.ensures refl c.args.offset p.0
    (caused_same (no_type_room true (counts (context_of c.args.types.now x))) c.args.offset c.in_err-check_types.field-0.0 p.0 p.2.0 p.2.1 c.in_err-check_types.ensures.err))

pub returns-in_err-check_types-clause-grown : goal.returns-in_err-check_types-clause-grown
returns-in_err-check_types-clause-grown c = extends_refl c.args.types.now

pub declare-requires : goal.declare-requires
declare-requires c = record { around = around_known c.args.types.now c.args.components.now c.requires.open }

pub returns-in-Ok-clause-ok : goal.returns-in-Ok-clause-ok
returns-in-Ok-clause-ok c =
    made_in c.args.types.now c.args.components.now c.innermost-state.result.now c.features-features.result.now (map module_decl_view c.args.decls.items) c.requires.open c.innermost-state.ensures c.features-features.ensures
    c.declare.new.types c.in-Ok.made c.in-Ok.ensures.ok

pub returns-in-Ok-clause-free : goal.returns-in-Ok-clause-free
returns-in-Ok-clause-free c =
    free_in c.args.types.now c.args.components.now c.innermost-state.result.now c.features-features.result.now (map module_decl_view c.args.decls.items) c.requires.open c.innermost-state.ensures c.features-features.ensures
    c.in-Ok.ensures.free c.in_ok-check_types.ensures.ok

pub returns-in-Err-clause-err : goal.returns-in-Err-clause-err
returns-in-Err-clause-err c =
    declared_caused c.args.types.now c.args.components.now c.innermost-state.result.now c.features-features.result.now (map module_decl_view c.args.decls.items) c.requires.open c.innermost-state.ensures c.features-features.ensures
    c.args.offset c.in-Err.err c.in-Err.ensures.cause
