use Rattle.std.proofs.Common.{◌≡◌, Option, sym, ◌∙◌, ap, subst}
use Rattle.std.specs.Prelude.{OnOk, IfErr, IfSome}
use Rattle.wcv_core.specs.CoreGroups.{total}
use Rattle.wcv_core.specs.CoreSizes.{IsEntityWithin}
use Rattle.wcv_core.specs.declared.core_types.EntityType.{EntityType}
use Rattle.wcv_types.specs.Tree.{Text}
use Rattle.wcv_matching.specs.ByName.{held_pair}
use Rattle.wcv_matching.specs.ModuleItems.{ItemsMatch}
use Rattle.wcv_matching.specs.Refusals.{IsMismatch}
use Rattle.wcv_matching.specs.Standings.{FoundAs}
use Rattle.wcv_matching.proofs.modules.check_import.Goals as goal

pub returns-clause-ok : goal.returns-clause-ok
returns-clause-ok c =
    let found : c.copied-found.result ≡ held_pair c.args.items.now c.args.import.now.0 = c.copied-found.ensures ∙ (c.get.ensures.value ∙ (ap (λ (t : Text). held_pair c.args.items.now (t, c.as_str-name.result.now)) c.as_str-module.ensures ∙ ap (λ (t : Text). held_pair c.args.items.now (c.args.import.now.0.0, t)) c.as_str-name.ensures)) in
    subst (λ (o : Option EntityType). OnOk c.check_item.result (FoundAs (ItemsMatch c.args.types.now) o c.args.import.now.1)) found c.check_item.ensures.ok

pub returns-clause-err : goal.returns-clause-err
returns-clause-err c =
    let found : c.copied-found.result ≡ held_pair c.args.items.now c.args.import.now.0 = c.copied-found.ensures ∙ (c.get.ensures.value ∙ (ap (λ (t : Text). held_pair c.args.items.now (t, c.as_str-name.result.now)) c.as_str-module.ensures ∙ ap (λ (t : Text). held_pair c.args.items.now (c.args.import.now.0.0, t)) c.as_str-name.ensures)) in
    subst (λ (o : Option EntityType). IfErr c.check_item.result (IsMismatch c.args.offset (FoundAs (ItemsMatch c.args.types.now) o c.args.import.now.1))) found c.check_item.ensures.err

pub check_item-requires : goal.check_item-requires
check_item-requires c =
    let found : c.copied-found.result ≡ held_pair c.args.items.now c.args.import.now.0 = c.copied-found.ensures ∙ (c.get.ensures.value ∙ (ap (λ (t : Text). held_pair c.args.items.now (t, c.as_str-name.result.now)) c.as_str-module.ensures ∙ ap (λ (t : Text). held_pair c.args.items.now (c.args.import.now.0.0, t)) c.as_str-name.ensures)) in
    record { found = subst (λ (o : Option EntityType). IfSome o (IsEntityWithin (total c.args.types.now))) (sym found) c.requires.found; expected = c.requires.expected }
