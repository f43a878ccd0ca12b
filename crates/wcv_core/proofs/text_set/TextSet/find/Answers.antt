use Rattle.std.proofs.Common.{is_some, sym, ◌∙◌, ap}
use Rattle.wcv_core.specs.TextSet.{texts_of, checked}
use Rattle.wcv_core.proofs.Texts.{found_seen}
use Rattle.wcv_core.proofs.text_set.TextSet.find.Goals as goal

pub returns-in-None-clause-among : goal.returns-in-None-clause-among
returns-in-None-clause-among c =
    ap is_some (c.check-in-None.ensures ∙ ap (checked c.args.self.now c.args.text.now) c.get-in-None.ensures.value) ∙
    found_seen c.self.inside.by_number c.self.inside.by_bytes c.args.text.now (texts_of c.self.inside.texts.items) c.args.self.now c.mix-number.result c.self.invariant c.self.view_is c.mix-number.ensures
    (sym c.in-None.is ∙ c.check.ensures ∙ ap (checked c.args.self.now c.args.text.now) c.get.ensures.value)
