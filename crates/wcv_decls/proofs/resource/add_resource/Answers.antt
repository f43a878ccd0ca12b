use Rattle.std.proofs.Common.{◌∙◌, ap, subst, sym, Some, not, ◌≡◌, false, [], ◌∷◌}
use Rattle.std.proofs.lemmas.Result.{err_from_is_err_and}
use Rattle.wcv_core.specs.declared.error.ErrorKind.TheVariants as kind
use Rattle.wcv_core.specs.declared.features.WasmFeatures.{WasmFeatures}
use Rattle.wcv_core.proofs.Closing.{caused_same}
use Rattle.wcv_types.specs.declared.ids.ComponentAnyTypeId.TheVariants as any
use Rattle.wcv_lower.specs.Checks.{IsFree}
use Rattle.wcv_lower.specs.Types.{rep_checks}
use Rattle.wcv_lower.specs.Context.{in_types, is_concrete}
use Rattle.wcv_lower.specs.Trees.{tree_reader}
use Rattle.wcv_lower.proofs.TypeLaws.{dtor_there}
use Rattle.wcv_lower.proofs.ValueLaws.{not-false}
use Rattle.wcv_spaces.specs.declared.kind.ComponentKind.{ComponentKind}
use Rattle.wcv_spaces.specs.Contents.{Contents, kind_of, stack_of, with_id, with_defined, spent}
use Rattle.wcv_spaces.specs.Promises.{MemoryOrCausedBy, Keeps}
use Rattle.wcv_decls.proofs.Destructors.{resource_free, scope_caused, rep_caused, dtor_caused}
use Rattle.wcv_decls.proofs.Defining.{rep_is_number, is_new_import, is_new_definition, made_keeps, defined_keeps, spent_keeps, resource_declares}
use Rattle.wcv_decls.proofs.resource.add_resource.Goals as goal

pub define_resource-requires-clause-imported : goal.define_resource-requires-clause-imported
define_resource-requires-clause-imported c = is_new_import c.args.types.now c.alloc_resource_id.new.self c.args.state.now c.in_ok-id.id c.requires.stands c.in_ok-id.ensures.made c.in_ok-id.ensures.last

pub define_resource-requires-clause-defined : goal.define_resource-requires-clause-defined
define_resource-requires-clause-defined c = is_new_definition c.args.types.now c.alloc_resource_id.new.self c.args.state.now c.in_ok-id.id c.requires.stands c.in_ok-id.ensures.made c.in_ok-id.ensures.last

pub returns-in_err-define_resource-clause-keeps : goal.returns-in_err-define_resource-clause-keeps
returns-in_err-define_resource-clause-keeps c =
    let p = err_from_is_err_and c.from_residual-in_err-define_resource.result c.from_residual-in_err-define_resource.ensures.1 in
    rw p.1 (subst (Keeps c.args.types.now c.alloc_resource_id.new.self c.args.state.now) (sym c.in_err-define_resource.ensures.err) (spent_keeps c.args.types.now c.alloc_resource_id.new.self c.args.state.now c.in_ok-id.id c.requires.stands c.in_ok-id.ensures.made c.in_ok-id.ensures.last c.args.state.now (made_keeps c.args.types.now c.alloc_resource_id.new.self c.args.state.now c.in_ok-id.id c.requires.stands c.in_ok-id.ensures.made c.in_ok-id.ensures.last)))

pub returns-in_err-push_type-clause-keeps : goal.returns-in_err-push_type-clause-keeps
returns-in_err-push_type-clause-keeps c =
    let t : Contents = with_defined c.in_ok-id.id.resource (Some c.args.rep) c.args.state.now in
    let p = err_from_is_err_and c.from_residual-in_err-push_type.result c.from_residual-in_err-push_type.ensures.1 in
    rw p.1 (subst (Keeps c.args.types.now c.alloc_resource_id.new.self c.args.state.now) (sym (c.in_err-push_type.ensures.err ∙ ap spent c.in_ok-define_resource.ensures.ok)) (spent_keeps c.args.types.now c.alloc_resource_id.new.self c.args.state.now c.in_ok-id.id c.requires.stands c.in_ok-id.ensures.made c.in_ok-id.ensures.last t (defined_keeps c.args.types.now c.alloc_resource_id.new.self c.args.state.now c.in_ok-id.id c.requires.stands c.in_ok-id.ensures.made c.in_ok-id.ensures.last (Some c.args.rep) (rep_is_number _ c.args.rep c.in_ok-check_rep.ensures.ok))))

pub returns-clause-ok : goal.returns-clause-ok
returns-clause-ok c =
    let free : not (is_concrete (kind_of c.args.state.now.kind)) ≡ false = subst (λ (k : ComponentKind). not (is_concrete (kind_of k)) ≡ false) c.kind.ensures c.in_ok-check_scope.ensures.ok.0 in
    resource_declares c.args.types.now c.alloc_resource_id.new.self c.args.state.now c.in_ok-id.id c.requires.stands c.in_ok-id.ensures.made c.in_ok-id.ensures.last c.args.rep c.args.dtor c.push_type.new.self (not-false (is_concrete (kind_of c.args.state.now.kind)) free)
    (dtor_there tree_reader (stack_of c.args.types.now c.args.state.now []) c.args.rep c.args.dtor (c.in_ok-check_dtor.ensures.ok [])) c.requires.live (rep_is_number _ c.args.rep c.in_ok-check_rep.ensures.ok)
    (c.in_ok-push_type.ensures.ok ∙ ap (with_id in_types (any.Resource c.in_ok-id.id)) c.in_ok-define_resource.ensures.ok)

pub returns-in_err-check_scope-clause-err : goal.returns-in_err-check_scope-clause-err
returns-in_err-check_scope-clause-err c =
    let p = err_from_is_err_and c.from_residual.result c.from_residual.ensures.1 in
    rw p.1 (λ outer n q. scope_caused c.args.types.now c.args.state.now c.args.state.now.features c.args.rep c.args.dtor outer c.args.offset p.0
    (subst (λ (k : ComponentKind). MemoryOrCausedBy ((kind.ResourceScope, not (is_concrete (kind_of k))) ∷ []) c.args.offset p.0) c.kind.ensures
    (caused_same ((kind.ResourceScope, not (is_concrete (kind_of c.kind.result))) ∷ []) c.args.offset c.in_err-check_scope.field-0.0 p.0 p.2.0 p.2.1 c.in_err-check_scope.ensures.err)))

pub returns-in_err-check_rep-clause-err : goal.returns-in_err-check_rep-clause-err
returns-in_err-check_rep-clause-err c =
    let p = err_from_is_err_and c.from_residual-in_err-check_rep.result c.from_residual-in_err-check_rep.ensures.1 in
    rw p.1 (λ outer n q. rep_caused c.args.types.now c.args.state.now c.args.state.now.features c.args.rep c.args.dtor outer c.args.offset p.0
    (subst (λ (fs : WasmFeatures). MemoryOrCausedBy (rep_checks fs c.args.rep) c.args.offset p.0) c.features.ensures
    (caused_same (rep_checks c.features.result.now c.args.rep) c.args.offset c.in_err-check_rep.field-0.0 p.0 p.2.0 p.2.1 c.in_err-check_rep.ensures.err)))

pub returns-in_err-check_dtor-clause-err : goal.returns-in_err-check_dtor-clause-err
returns-in_err-check_dtor-clause-err c =
    let p = err_from_is_err_and c.from_residual-in_err-check_dtor.result c.from_residual-in_err-check_dtor.ensures.1 in
    rw (p.1, p.2) (λ outer n q. dtor_caused c.args.types.now c.args.state.now c.args.state.now.features c.args.rep c.args.dtor outer c.args.offset c.in_err-check_dtor.field-0.0 (c.in_err-check_dtor.ensures.err outer))

pub returns-clause-free : goal.returns-clause-free
returns-clause-free c = λ outer n q.
    resource_free c.args.types.now c.args.state.now c.args.state.now.features c.args.rep c.args.dtor outer
    (subst (λ (k : ComponentKind). IsFree ((kind.ResourceScope, not (is_concrete (kind_of k))) ∷ [])) c.kind.ensures c.in_ok-check_scope.ensures.ok)
    (subst (λ (fs : WasmFeatures). IsFree (rep_checks fs c.args.rep)) c.features.ensures c.in_ok-check_rep.ensures.ok) (c.in_ok-check_dtor.ensures.ok outer)
