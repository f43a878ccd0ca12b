use Rattle.std.proofs.Common.{◌∙◌, List, ap, sym, subst, take_all}
use Rattle.wcv_types.specs.ByName.{AreFirsts, texts_in}
use Rattle.wcv_types.specs.Tree.{Text}
use Rattle.wcv_types.proofs.FirstPlaces.{texts_next}
use Rattle.wcv_types.proofs.by_name.firsts_of.Goals as goal

pub loop-place-preserved : goal.loop-place-preserved
loop-place-preserved g c =
    subst (λ (us : List Text). AreFirsts c.join.new.self.by_number c.join.new.self.by_bytes us)
    (sym (texts_next c.args.entries.now c.loop-place.place c.index-entries-place.result c.as_str.result.now c.loop-place-test.true c.index-entries-place.is (c.as_str.ensures ∙ ap (λ e. e.0) (sym c.index-entries-place.is)))) (c.in_ok-join.ensures c.loop-place.invariant)

pub returns : goal.returns
returns g c =
    subst (λ (us : List Text). AreFirsts c.loop-place.firsts.by_number c.loop-place.firsts.by_bytes us) (ap texts_in (take_all c.loop-place.place c.args.entries.now c.loop-place-test.false)) c.loop-place.invariant
