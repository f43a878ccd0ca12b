use Rattle.std.proofs.Common.{ℕ, ◌≡◌, ◌<◌, List, [], ◌∷◌, subst, sym, true, false, inr}
use Rattle.std.proofs.lemmas.Result.{err_from_is_err_and}
use Rattle.wcv_core.specs.CoreForm.{Group}
use Rattle.wcv_core.specs.CoreGroups.{total}
use Rattle.wcv_core.specs.declared.core_types.EntityType.TheVariants as entity
use Rattle.wcv_core.proofs.Closing.{caused_same}
use Rattle.std.specs.Prelude.{Option, slice_get}
use Rattle.wcv_lower.specs.Checks.{IsFree, missing}
use Rattle.wcv_lower.specs.Types.{takes_and_gives, dtor_checks}
use Rattle.wcv_spaces.specs.Contents.{stack_of}
use Rattle.wcv_spaces.specs.Promises.{MemoryOrCausedBy}
use Rattle.wcv_lower.specs.Context.{core_funcs}
use Rattle.wcv_spaces.proofs.Found.{core_stands_at}
use Rattle.wcv_decls.proofs.Destructors.{dtor_free, dtor_missing, dtor_other}
use Rattle.wcv_decls.proofs.resource.check_dtor.Goals as goal

pub is_dtor-requires : goal.is_dtor-requires
is_dtor-requires c =
    subst (λ (gs : List Group). c.in_ok-id.id.index < total gs) (sym c.core_types-core.ensures) (core_stands_at c.args.types.now c.args.state.now c.requires core_funcs c.in-Some.index c.in_ok-id.id c.in_ok-id.ensures.ok)

pub get-found-requires : goal.get-found-requires
get-found-requires c =
    subst (λ (gs : List Group). c.in_ok-id.id.index < total gs) (sym c.core_types-core.ensures) (core_stands_at c.args.types.now c.args.state.now c.requires core_funcs c.in-Some.index c.in_ok-id.id c.in_ok-id.ensures.ok)

pub returns-in_err-id-clause-err : goal.returns-in_err-id-clause-err
returns-in_err-id-clause-err c =
    let p = err_from_is_err_and c.from_residual.result c.from_residual.ensures.1 in
    rw p.1 (λ outer.
    subst (λ (o : Option ℕ). MemoryOrCausedBy (dtor_checks (stack_of c.args.types.now c.args.state.now outer) c.args.rep o) c.args.offset p.0) (sym c.in-Some.is)
    (dtor_missing c.args.types.now c.args.state.now c.args.rep c.in-Some.index outer c.args.offset p.0
    (caused_same (missing (slice_get c.args.state.now.spaces.core_funcs c.in-Some.index)) c.args.offset c.in_err-id.field-0.0 p.0 p.2.0 p.2.1 (inr c.in_err-id.ensures.err))))

pub returns-then-is_dtor-clause-ok : goal.returns-then-is_dtor-clause-ok
returns-then-is_dtor-clause-ok c = λ outer.
    subst (λ (o : Option ℕ). IsFree (dtor_checks (stack_of c.args.types.now c.args.state.now outer) c.args.rep o)) (sym c.in-Some.is)
    (dtor_free c.args.types.now c.args.state.now c.args.rep c.in-Some.index outer c.in_ok-id.id c.in_ok-id.ensures.ok
    (subst (λ (gs : List Group). takes_and_gives gs (c.args.rep ∷ []) [] (entity.Func c.in_ok-id.id) ≡ true) c.core_types-core.ensures (sym c.if-is_dtor.ensures)))

pub returns-clause-err : goal.returns-clause-err
returns-clause-err c = λ outer.
    subst (λ (o : Option ℕ). MemoryOrCausedBy (dtor_checks (stack_of c.args.types.now c.args.state.now outer) c.args.rep o) c.args.offset c.told.result) (sym c.in-Some.is)
    (dtor_other c.args.types.now c.args.state.now c.args.rep c.in-Some.index outer c.args.offset c.told.result c.in_ok-id.id c.in_ok-id.ensures.ok
    (subst (λ (gs : List Group). takes_and_gives gs (c.args.rep ∷ []) [] (entity.Func c.in_ok-id.id) ≡ false) c.core_types-core.ensures (sym c.if-is_dtor.ensures)) c.told.ensures.kind c.told.ensures.offset)
