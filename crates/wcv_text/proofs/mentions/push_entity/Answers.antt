use Rattle.std.proofs.Common.{◌++◌, ◌∙◌, ap, sym, string_bytes}
use Rattle.std.proofs.lemmas.Result.{on_ok_weaker}
use Rattle.wcv_types.specs.declared.shapes.ComponentEntityType.{ComponentEntityType}
use Rattle.wcv_text.specs.Mentions.{entity_said}
use Rattle.wcv_text.specs.Numbers.{so_far}
use Rattle.wcv_text.proofs.mentions.push_entity.Goals as goal

pub returns-in-Module : goal.returns-in-Module
returns-in-Module c =
    on_ok_weaker c.push_mention.result
    (λ said t. said t ∙ ap (λ (x : ComponentEntityType). string_bytes c.args.text.now ++ entity_said (so_far c.args.numbers.now t) x) (sym c.in-Module.is))
    c.push_mention.ensures

pub returns-in-Func : goal.returns-in-Func
returns-in-Func c =
    on_ok_weaker c.push_mention-in-Func.result
    (λ said t. said t ∙ ap (λ (x : ComponentEntityType). string_bytes c.args.text.now ++ entity_said (so_far c.args.numbers.now t) x) (sym c.in-Func.is))
    c.push_mention-in-Func.ensures

pub returns-in-Ty : goal.returns-in-Ty
returns-in-Ty c =
    on_ok_weaker c.push_type_pair.result
    (λ said t. said t ∙ ap (λ (x : ComponentEntityType). string_bytes c.args.text.now ++ entity_said (so_far c.args.numbers.now t) x) (sym c.in-Ty.is))
    c.push_type_pair.ensures

pub returns-in-Instance : goal.returns-in-Instance
returns-in-Instance c =
    on_ok_weaker c.push_mention-in-Instance.result
    (λ said t. said t ∙ ap (λ (x : ComponentEntityType). string_bytes c.args.text.now ++ entity_said (so_far c.args.numbers.now t) x) (sym c.in-Instance.is))
    c.push_mention-in-Instance.ensures

pub returns-in-Component : goal.returns-in-Component
returns-in-Component c =
    on_ok_weaker c.push_mention-in-Component.result
    (λ said t. said t ∙ ap (λ (x : ComponentEntityType). string_bytes c.args.text.now ++ entity_said (so_far c.args.numbers.now t) x) (sym c.in-Component.is))
    c.push_mention-in-Component.ensures
