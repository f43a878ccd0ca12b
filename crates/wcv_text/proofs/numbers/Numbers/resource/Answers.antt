use Rattle.std.proofs.Common.{◌∙◌, ap, sym, refl}
use Rattle.wcv_core.specs.Names.{same}
use Rattle.wcv_types.specs.declared.ids.ResourceId.{ResourceId}
use Rattle.wcv_text.specs.Numbers.{name_of}
use Rattle.wcv_text.specs.declared.numbers.Numbers.{Numbers}
use Rattle.wcv_text.proofs.Keys.{position_mapped, there_mapped, resource_new, resource_old}
use Rattle.wcv_text.proofs.numbers.Numbers.resource.Goals as goal
use Rattle.wcv_text.proofs.numbers.Numbers.resource.Goals.{then-not-has+in_ok-push, else-not-has}

pub returns-clause-given : goal.returns-clause-given
returns-clause-given c =
    let n : Numbers = c.args.self.now in
    let r : ResourceId = c.args.resource in
    let there = there_mapped name_of _ same (λ x y. refl) r n.resources ∙ sym c.has.ensures in
    elim c.if-not-has.branch [
      | then-not-has+in_ok-push w ↦ resource_new n c.if-not-has.self r (w.self-is ∙ ap (λ rs. record n { resources = rs }) w.in_ok-push.ensures) (there ∙ w.if-not-has.true)
      | else-not-has w ↦ resource_old n c.if-not-has.self r w.self-is (there ∙ w.if-not-has.false)
    ]

pub returns-clause-number : goal.returns-clause-number
returns-clause-number c = c.number.ensures ∙ sym (position_mapped name_of _ same (λ x y. refl) c.args.resource c.if-not-has.self.resources)
