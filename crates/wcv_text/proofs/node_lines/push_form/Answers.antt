use Rattle.std.proofs.Common.{◌≡◌, ℕ, [], ◌∙◌, ◌++◌, ap, append-nil, subst, sym, codes, string_bytes}
use Rattle.std.proofs.lemmas.Result.{on_ok_weaker}
use Rattle.wcv_types.specs.Text.{form_text, resource_number, with_resources}
use Rattle.wcv_types.specs.declared.ids.ResourceId.{ResourceId}
use Rattle.wcv_types.specs.Tree.{Text, Head, head, parts}
use Rattle.wcv_types.specs.Arena.{Arena}
use Rattle.wcv_types.specs.Unfold.{Type_tree, tree_at, tree_in, trees}
use Rattle.wcv_types.specs.declared.arena.Node.TheVariants as n
use Rattle.wcv_types.specs.declared.ids.Part.{Part}
use Rattle.wcv_types.specs.declared.ids.Part.TheVariants as part
use Rattle.wcv_types.specs.Standing.{Stands}
use Rattle.wcv_core.specs.Names.{Name}
use Rattle.wcv_types.proofs.Unfolding.{head_in}
use Rattle.wcv_text.specs.Nodes.{form_of}
use Rattle.wcv_text.specs.Numbers.{so_far, name_of}
use Rattle.wcv_text.proofs.DefinedForm.{defined_form}
use Rattle.wcv_text.proofs.EntryForm.{instance_form, component_form, module_form}
use Rattle.wcv_text.proofs.FuncForm.{func_form}
use Rattle.wcv_text.proofs.node_lines.push_form.Goals as goal

pub returns-in-Defined-clause-form : goal.returns-in-Defined-clause-form
returns-in-Defined-clause-form c =
    let a : Arena = c.args.types.now in
    on_ok_weaker c.push_defined.result
    (λ said t. said t ∙ ap (λ (x : Text). string_bytes c.args.text.now ++ x)
    (sym (ap (λ (q : Part). form_of (so_far c.args.numbers.now t) (tree_at a q)) c.in-Defined.is ∙
    defined_form a _ (so_far c.args.numbers.now t) c.in-Defined.id.index c.get.result.now _ c.get.ensures.unfolds c.get.ensures.before)))
    c.push_defined.ensures

pub returns-in-Func-clause-form : goal.returns-in-Func-clause-form
returns-in-Func-clause-form c =
    let a : Arena = c.args.types.now in
    on_ok_weaker c.push_func.result
    (λ said t. said t ∙ ap (λ (x : Text). string_bytes c.args.text.now ++ x)
    (sym (ap (λ (q : Part). form_of (so_far c.args.numbers.now t) (tree_at a q)) c.in-Func.is ∙
    func_form a _ (so_far c.args.numbers.now t) c.in-Func.id.index c.get-in-Func.result.now _ c.get-in-Func.ensures.unfolds c.get-in-Func.ensures.before)))
    c.push_func.ensures

pub returns-in-Resource-clause-form : goal.returns-in-Resource-clause-form
returns-in-Resource-clause-form c =
    let a : Arena = c.args.types.now in
    on_ok_weaker c.push_reference.result
    (λ said t. said t ∙ ap (λ (x : Text). string_bytes c.args.text.now ++ x)
    (ap (λ (r : ResourceId). codes "resource " ++ resource_number (so_far c.push_reference.new.numbers t) (name_of r)) c.resource.ensures ∙
    sym (ap (λ (q : Part). form_of (so_far c.push_reference.new.numbers t) (tree_at a q)) c.in-Resource.is)))
    c.push_reference.ensures.form

pub returns-in-Instance-clause-form : goal.returns-in-Instance-clause-form
returns-in-Instance-clause-form c =
    let a : Arena = c.args.types.now in
    on_ok_weaker c.push_instance.result
    (λ said t. said t ∙ ap (λ (x : Text). string_bytes c.args.text.now ++ x)
    (sym (ap (λ (q : Part). form_of (so_far c.push_instance.new.numbers t) (tree_at a q)) c.in-Instance.is ∙
    instance_form a _ (so_far c.push_instance.new.numbers t) c.in-Instance.id.index c.get-in-Instance.result.now _ c.get-in-Instance.ensures.unfolds c.get-in-Instance.ensures.before)))
    c.push_instance.ensures.form

pub returns-in-Component-clause-form : goal.returns-in-Component-clause-form
returns-in-Component-clause-form c =
    let a : Arena = c.args.types.now in
    on_ok_weaker c.push_component.result
    (λ said t. said t ∙ ap (λ (x : Text). string_bytes c.args.text.now ++ x)
    (sym (ap (λ (q : Part). form_of (so_far c.push_component.new.numbers t) (tree_at a q)) c.in-Component.is ∙
    component_form a _ (so_far c.push_component.new.numbers t) c.in-Component.id.index c.get-in-Component.result.now _ c.get-in-Component.ensures.unfolds c.get-in-Component.ensures.before)))
    c.push_component.ensures.form

pub returns-in-Module-clause-form : goal.returns-in-Module-clause-form
returns-in-Module-clause-form c =
    let a : Arena = c.args.types.now in
    on_ok_weaker c.push_module.result
    (λ said t. said t ∙ ap (λ (x : Text). string_bytes c.args.text.now ++ x)
    (sym (ap (λ (q : Part). form_of (so_far c.args.numbers.now t) (tree_at a q)) c.in-Module.is ∙
    module_form (trees a.nodes) (so_far c.args.numbers.now t) c.in-Module.id.index c.get-in-Module.result.now _ c.get-in-Module.ensures.unfolds)))
    c.push_module.ensures

pub returns-in-Instance-clause-given : goal.returns-in-Instance-clause-given
returns-in-Instance-clause-given c =
    let a : Arena = c.args.types.now in
    on_ok_weaker c.push_instance.result
    (λ given t. given t ∙ sym (ap (λ (q : Part). with_resources (so_far c.args.numbers.now t) (head (tree_at a q))) c.in-Instance.is ∙ ap (λ (x : Type_tree). with_resources (so_far c.args.numbers.now t) (head x)) c.get-in-Instance.ensures.unfolds))
    c.push_instance.ensures.given

pub returns-in-Component-clause-given : goal.returns-in-Component-clause-given
returns-in-Component-clause-given c =
    let a : Arena = c.args.types.now in
    on_ok_weaker c.push_component.result
    (λ given t. given t ∙ sym (ap (λ (q : Part). with_resources (so_far c.args.numbers.now t) (head (tree_at a q))) c.in-Component.is ∙ ap (λ (x : Type_tree). with_resources (so_far c.args.numbers.now t) (head x)) c.get-in-Component.ensures.unfolds))
    c.push_component.ensures.given

pub returns-in-CoreInstance-clause-given : goal.returns-in-CoreInstance-clause-given
returns-in-CoreInstance-clause-given c = λ t.
    let a : Arena = c.args.types.now in
    let k : ℕ = c.in-CoreInstance.field-0.index in
    let stands : Stands a (part.CoreInstance c.in-CoreInstance.field-0) = subst (Stands a) c.in-CoreInstance.is c.requires.stands in
    sym (ap (λ (q : Part). with_resources (so_far c.args.numbers.now t) (head (tree_at a q))) c.in-CoreInstance.is ∙ ap (with_resources (so_far c.args.numbers.now t)) (head_in a.nodes k (n.CoreInstance stands.0) stands.1))

pub returns-in-CoreInstance-clause-form : goal.returns-in-CoreInstance-clause-form
returns-in-CoreInstance-clause-form c = λ t.
    let a : Arena = c.args.types.now in
    let k : ℕ = c.in-CoreInstance.field-0.index in
    let stands : Stands a (part.CoreInstance c.in-CoreInstance.field-0) = subst (Stands a) c.in-CoreInstance.is c.requires.stands in
    let empty : form_of (so_far c.args.numbers.now t) (tree_at a c.args.part) ≡ [] =
    ap (λ (q : Part). form_of (so_far c.args.numbers.now t) (tree_at a q)) c.in-CoreInstance.is ∙
    ap (λ (h : Head Name Name). form_text (so_far c.args.numbers.now t) h (parts (tree_in (trees a.nodes) k))) (head_in a.nodes k (n.CoreInstance stands.0) stands.1) in
    sym (append-nil (string_bytes c.args.text.now)) ∙ ap (λ (x : Text). string_bytes c.args.text.now ++ x) (sym empty)
