use Rattle.std.proofs.Common.{sym, ◌∙◌, ap}
use Rattle.wcv_core.specs.TextSet.{checked}
use Rattle.wcv_types.specs.ByName.{texts_in}
use Rattle.wcv_types.proofs.FirstPlaces.{by_number, by_bytes}
use Rattle.wcv_types.proofs.by_name.Firsts.place_from.Goals as goal

pub returns-in-Some : goal.returns-in-Some
returns-in-Some g c f e =
    let us = texts_in c.args.entries.now in
    by_number c.args.self.now.by_number c.args.self.now.by_bytes us f c.args.text.now c.in-Some.k (sym c.in-Some.is ∙ c.check.ensures ∙ ap (checked us c.args.text.now) e)

pub returns-in-None : goal.returns-in-None
returns-in-None g c f e =
    let us = texts_in c.args.entries.now in
    c.check-in-None.ensures ∙ ap (checked us c.args.text.now) (c.copied.ensures ∙ c.get.ensures.value) ∙
    by_bytes c.args.self.now.by_number c.args.self.now.by_bytes us f c.args.text.now (sym c.in-None.is ∙ c.check.ensures ∙ ap (checked us c.args.text.now) e)
