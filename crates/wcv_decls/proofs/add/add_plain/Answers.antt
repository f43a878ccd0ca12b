use Rattle.std.proofs.Common.{◌≡◌, ◌∙◌, ap, subst, sym}
use Rattle.std.specs.Prelude.{List, OnOk, IfErr}
use Rattle.std.proofs.lemmas.Result.{on_ok_weaker, IfErr-weaker}
use Rattle.wcv_core.specs.Names.{Place}
use Rattle.wcv_syntax.specs.Model.{Type_form, defined_type, func_type, resource_type}
use Rattle.wcv_syntax.specs.View.{defined_view, func_view, type_view}
use Rattle.wcv_syntax.proofs.Views.{type_view-Defined, type_view-Func, type_view-Resource}
use Rattle.wcv_lower.specs.Checks.{IsFree}
use Rattle.wcv_lower.specs.Names.{Names}
use Rattle.wcv_lower.specs.Trees.{Tree_context, tree_maker}
use Rattle.wcv_lower.specs.Types.{tree_checks}
use Rattle.wcv_spaces.specs.Contents.{stack_of}
use Rattle.wcv_spaces.specs.Promises.{MemoryOrCausedBy}
use Rattle.wcv_decls.specs.Items.{Declares}
use Rattle.wcv_decls.proofs.Naming.{node_declares}
use Rattle.wcv_decls.proofs.add.add_plain.Goals as goal

pub returns-in-Defined-clause-ok : goal.returns-in-Defined-clause-ok
returns-in-Defined-clause-ok c =
    let e : type_view c.args.ty ≡ defined_type (defined_view c.in-Defined.ty) = ap type_view c.in-Defined.is ∙ type_view-Defined c.in-Defined.ty in
    subst (λ (t : Type_form). OnOk c.add_defined.result (Declares c.args.types.now c.add_defined.new.types c.args.state.now c.add_defined.new.state t)) (sym e)
    (on_ok_weaker c.add_defined.result (node_declares c.args.types.now c.add_defined.new.types c.args.state.now c.add_defined.new.state (defined_type (defined_view c.in-Defined.ty))) c.add_defined.ensures.ok)

pub returns-in-Func-clause-ok : goal.returns-in-Func-clause-ok
returns-in-Func-clause-ok c =
    let e : type_view c.args.ty ≡ func_type (func_view c.in-Func.func) = ap type_view c.in-Func.is ∙ type_view-Func c.in-Func.func in
    subst (λ (t : Type_form). OnOk c.add_func.result (Declares c.args.types.now c.add_func.new.types c.args.state.now c.add_func.new.state t)) (sym e)
    (on_ok_weaker c.add_func.result (node_declares c.args.types.now c.add_func.new.types c.args.state.now c.add_func.new.state (func_type (func_view c.in-Func.func))) c.add_func.ensures.ok)

pub returns-in-Defined-clause-free : goal.returns-in-Defined-clause-free
returns-in-Defined-clause-free c =
    let e : type_view c.args.ty ≡ defined_type (defined_view c.in-Defined.ty) = ap type_view c.in-Defined.is ∙ type_view-Defined c.in-Defined.ty in
    subst (λ (t : Type_form). OnOk c.add_defined.result ((outer : List Tree_context) (n : Names) (p : Place) → IsFree (tree_checks c.args.state.now.features (tree_maker n p) (stack_of c.args.types.now c.args.state.now outer) t))) (sym e)
    (on_ok_weaker c.add_defined.result (λ f outer n p. f n p) c.add_defined.ensures.free)

pub returns-in-Defined-clause-err : goal.returns-in-Defined-clause-err
returns-in-Defined-clause-err c =
    let e : type_view c.args.ty ≡ defined_type (defined_view c.in-Defined.ty) = ap type_view c.in-Defined.is ∙ type_view-Defined c.in-Defined.ty in
    subst (λ (t : Type_form). IfErr c.add_defined.result (λ x. (outer : List Tree_context) (n : Names) (p : Place) → MemoryOrCausedBy (tree_checks c.args.state.now.features (tree_maker n p) (stack_of c.args.types.now c.args.state.now outer) t) c.args.offset x)) (sym e)
    (IfErr-weaker c.add_defined.result _ _ (λ x f outer n p. f n p) c.add_defined.ensures.err)

pub returns-in-Func-clause-free : goal.returns-in-Func-clause-free
returns-in-Func-clause-free c =
    let e : type_view c.args.ty ≡ func_type (func_view c.in-Func.func) = ap type_view c.in-Func.is ∙ type_view-Func c.in-Func.func in
    subst (λ (t : Type_form). OnOk c.add_func.result ((outer : List Tree_context) (n : Names) (p : Place) → IsFree (tree_checks c.args.state.now.features (tree_maker n p) (stack_of c.args.types.now c.args.state.now outer) t))) (sym e)
    (on_ok_weaker c.add_func.result (λ f outer n p. f n p) c.add_func.ensures.free)

pub returns-in-Func-clause-err : goal.returns-in-Func-clause-err
returns-in-Func-clause-err c =
    let e : type_view c.args.ty ≡ func_type (func_view c.in-Func.func) = ap type_view c.in-Func.is ∙ type_view-Func c.in-Func.func in
    subst (λ (t : Type_form). IfErr c.add_func.result (λ x. (outer : List Tree_context) (n : Names) (p : Place) → MemoryOrCausedBy (tree_checks c.args.state.now.features (tree_maker n p) (stack_of c.args.types.now c.args.state.now outer) t) c.args.offset x)) (sym e)
    (IfErr-weaker c.add_func.result _ _ (λ x f outer n p. f n p) c.add_func.ensures.err)

pub returns-in-Resource-clause-free : goal.returns-in-Resource-clause-free
returns-in-Resource-clause-free c =
    let e : type_view c.args.ty ≡ resource_type c.in-Resource.rep c.in-Resource.dtor = ap type_view c.in-Resource.is ∙ type_view-Resource c.in-Resource.rep c.in-Resource.dtor in
    subst (λ (t : Type_form). OnOk c.add_resource.result ((outer : List Tree_context) (n : Names) (p : Place) → IsFree (tree_checks c.args.state.now.features (tree_maker n p) (stack_of c.args.types.now c.args.state.now outer) t))) (sym e)
    c.add_resource.ensures.free

pub returns-in-Resource-clause-err : goal.returns-in-Resource-clause-err
returns-in-Resource-clause-err c =
    let e : type_view c.args.ty ≡ resource_type c.in-Resource.rep c.in-Resource.dtor = ap type_view c.in-Resource.is ∙ type_view-Resource c.in-Resource.rep c.in-Resource.dtor in
    subst (λ (t : Type_form). IfErr c.add_resource.result (λ x. (outer : List Tree_context) (n : Names) (p : Place) → MemoryOrCausedBy (tree_checks c.args.state.now.features (tree_maker n p) (stack_of c.args.types.now c.args.state.now outer) t) c.args.offset x)) (sym e)
    c.add_resource.ensures.err
