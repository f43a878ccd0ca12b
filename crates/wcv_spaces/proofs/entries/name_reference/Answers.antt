use Rattle.std.proofs.Common.{sym, ◌∙◌, ap}
use Rattle.std.specs.Prelude.{Option, option_to_list}
use Rattle.wcv_types.specs.declared.ids.AliasableResourceId.{AliasableResourceId}
use Rattle.wcv_spaces.proofs.EntryNames.{one_key}
use Rattle.wcv_spaces.proofs.entries.name_reference.Goals as goal

pub returns-in_ok-register-clause-names : goal.returns-in_ok-register-clause-names
returns-in_ok-register-clause-names c =
    one_key c.args.resources.now.names c.register.new.self.names c.args.name.now c.args.ty.now c.in-Some.id c.in_ok-register.ensures.names
    (sym (ap (λ (o : Option AliasableResourceId). option_to_list o) c.in-Some.is) ∙ c.created_reference.ensures)
