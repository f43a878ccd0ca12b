use Rattle.std.proofs.Common.{◌≡◌, ◌<◌, ◌∙◌, List, Some, ap, arith, inl, inr, subst, sym}
use Rattle.wcv_core.specs.CoreForm.{CompositeForm, func_form, Group}
use Rattle.wcv_core.specs.CoreGroups.{id_of, total}
use Rattle.wcv_types.specs.Arena.{Arena}
use Rattle.wcv_types.specs.CoreCalls.{with_core, func_group}
use Rattle.wcv_canon.proofs.LiftChecks.{signature_same, signature_other, both_within}
use Rattle.wcv_canon.proofs.lift.check_signature.Goals as goal

pub returns-then-id-core-clause-ok : goal.returns-then-id-core-clause-ok
returns-then-id-core-clause-ok c =
    let w : CompositeForm = func_form c.args.ty.params.items c.args.ty.results.items in
    let found = subst (λ (x : Arena). id_of x.core (func_group c.args.ty) ≡ Some c.in_ok-id.id.index) c.in_ok-id.ensures.groups c.in_ok-id.ensures.id in
    (signature_same c.args.types.now.core w c.args.core c.in_ok-id.id.index found c.if-id-core.true c.requires.core).0

pub returns-then-id-core-clause-same : goal.returns-then-id-core-clause-same
returns-then-id-core-clause-same c =
    let w : CompositeForm = func_form c.args.ty.params.items c.args.ty.results.items in
    let found = subst (λ (x : Arena). id_of x.core (func_group c.args.ty) ≡ Some c.in_ok-id.id.index) c.in_ok-id.ensures.groups c.in_ok-id.ensures.id in
    c.in_ok-id.ensures.groups ∙ ap (with_core c.args.types.now) (signature_same c.args.types.now.core w c.args.core c.in_ok-id.id.index found c.if-id-core.true c.requires.core).1

pub get-expected-requires : goal.get-expected-requires
get-expected-requires c =
    subst (λ (gs : List Group). c.in_ok-id.id.index < total gs) (sym c.core_types-table.ensures)
    (both_within c.args.types.now c.intern_func.new.types (func_group c.args.ty) c.in_ok-id.id.index c.args.core.index (omega arith) c.in_ok-id.ensures.groups c.in_ok-id.ensures.id c.requires.core).0

pub get-found-requires : goal.get-found-requires
get-found-requires c =
    subst (λ (gs : List Group). c.args.core.index < total gs) (sym c.core_types-table.ensures)
    (both_within c.args.types.now c.intern_func.new.types (func_group c.args.ty) c.in_ok-id.id.index c.args.core.index (omega arith) c.in_ok-id.ensures.groups c.in_ok-id.ensures.id c.requires.core).1

pub returns-clause-err : goal.returns-clause-err
returns-clause-err c =
    let w : CompositeForm = func_form c.args.ty.params.items c.args.ty.results.items in
    let found = subst (λ (x : Arena). id_of x.core (func_group c.args.ty) ≡ Some c.in_ok-id.id.index) c.in_ok-id.ensures.groups c.in_ok-id.ensures.id in
    inr (inl (c.told.ensures.kind, signature_other c.args.types.now.core w c.args.core c.in_ok-id.id.index found c.if-id-core.false), c.told.ensures.offset)
