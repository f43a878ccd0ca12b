use Rattle.std.proofs.Common.{◌≡◌, ◌<◌, length, option_copied, sym, ap, ◌∙◌, subst}
use Rattle.std.specs.Prelude.{slice_get}
use Rattle.std.proofs.lemmas.Option.{slice_get_within}
use Rattle.wcv_types.specs.Arena.{Arena}
use Rattle.wcv_types.specs.ShapeNumbers.{codes_in, IsGiven}
use Rattle.wcv_types.specs.declared.arena.Node.TheVariants as n
use Rattle.wcv_types.proofs.ShapeCodes.{shared_number}
use Rattle.wcv_types.proofs.shape_numbers.ShapeNumbers.known.Goals as goal

pub shares-requires-clause-b : goal.shares-requires-clause-b
shares-requires-clause-b c =
    let g : IsGiven (codes_in c.args.self.now.codes) c.args.types.now.nodes c.in-Some.given.now = c.requires.numbers.given c.position.result c.in-Some.given.now (sym c.get.ensures.value ∙ ap option_copied c.in-Some.is) in
    subst (λ (a : Arena). c.in-Some.given.now.place < length a.nodes) (sym c.types.view_is) (slice_get_within c.args.types.now.nodes c.in-Some.given.now.place (n.Defined g.shape) g.there)

pub returns-else-not-shares : goal.returns-else-not-shares
returns-else-not-shares c =
    let g : IsGiven (codes_in c.args.self.now.codes) c.args.types.now.nodes c.in-Some.given.now = c.requires.numbers.given c.position.result c.in-Some.given.now (sym c.get.ensures.value ∙ ap option_copied c.in-Some.is) in
    let one : slice_get c.args.types.now.nodes c.args.id.index ≡ slice_get c.args.types.now.nodes c.in-Some.given.now.place =
    subst (λ (a : Arena). slice_get a.nodes c.args.id.index ≡ slice_get a.nodes c.in-Some.given.now.place) c.types.view_is (c.shares.ensures c.if-not-shares.false) in
    shared_number (codes_in c.args.self.now.codes) c.args.types.now c.args.id (record { index = c.in-Some.given.now.place }) c.get-in-Some.result.now c.get-in-Some-2.result.now c.in-Some.given.now.number
    one c.get-in-Some.ensures.found c.get-in-Some-2.ensures.found c.get-in-Some.ensures.unfolds c.get-in-Some-2.ensures.unfolds g.number
