use Rattle.std.proofs.Common.{◌≡◌, ◌∙◌, sym, ap, not, is_some, true, false, length}
use Rattle.std.proofs.lemmas.List.{length-map}
use Rattle.std.specs.BTreeMap.{get}
use Rattle.std.specs.Ordering.{nat_cmp}
use Rattle.wcv_core.specs.LabelSet.{mixed}
use Rattle.wcv_types.specs.ByName.{texts_in, first_place}
use Rattle.wcv_types.proofs.FirstPlaces.{joins_old, number_joins, bytes_join}
use Rattle.wcv_types.proofs.by_name.Firsts.join.Goals as goal

pub returns-then-is_none : goal.returns-then-is_none
returns-then-is_none g c f =
    let us = texts_in c.args.before.now in
    let led : c.copied-place.result ≡ get nat_cmp c.args.self.now.by_number (mixed c.args.text.now) = c.copied-place.ensures ∙ c.get.ensures.value ∙ ap (get nat_cmp c.args.self.now.by_number) c.mix-number.ensures in
    let new : is_some (first_place c.args.text.now us) ≡ false = sym (ap is_some (c.place_from.ensures f led)) ∙ sym c.is_some.ensures ∙ c.if-is_some.false in
    let free : is_some (get nat_cmp c.args.self.now.by_number c.mix-number.result) ≡ false = sym (ap is_some (c.copied-place.ensures ∙ c.get.ensures.value)) ∙ c.is_none.ensures ∙ ap not c.if-is_none.true in
    number_joins c.args.self.now.by_number c.args.self.now.by_bytes us c.args.text.now f new c.insert.new.self c.mix-number.result (length c.args.before.now)
    c.mix-number.ensures (sym (length-map c.args.before.now (λ e. e.0))) free c.in_ok-insert.ensures.updates

pub returns : goal.returns
returns g c f =
    let us = texts_in c.args.before.now in
    let led : c.copied-place.result ≡ get nat_cmp c.args.self.now.by_number (mixed c.args.text.now) = c.copied-place.ensures ∙ c.get.ensures.value ∙ ap (get nat_cmp c.args.self.now.by_number) c.mix-number.ensures in
    let new : is_some (first_place c.args.text.now us) ≡ false = sym (ap is_some (c.place_from.ensures f led)) ∙ sym c.is_some.ensures ∙ c.if-is_some.false in
    bytes_join c.args.self.now.by_number c.args.self.now.by_bytes us c.args.text.now f new c.insert-2.new.self c.in_ok-key.key (length c.args.before.now)
    c.in_ok-key.ensures.ok (sym (length-map c.args.before.now (λ e. e.0))) c.in_ok-insert-2.ensures.updates

pub returns-then-is_some : goal.returns-then-is_some
returns-then-is_some g c f =
    let us = texts_in c.args.before.now in
    let led : c.copied-place.result ≡ get nat_cmp c.args.self.now.by_number (mixed c.args.text.now) = c.copied-place.ensures ∙ c.get.ensures.value ∙ ap (get nat_cmp c.args.self.now.by_number) c.mix-number.ensures in
    let old : is_some (first_place c.args.text.now us) ≡ true = sym (ap is_some (c.place_from.ensures f led)) ∙ sym c.is_some.ensures ∙ c.if-is_some.true in
    joins_old c.args.self.now.by_number c.args.self.now.by_bytes us c.args.text.now f old
