use Rattle.std.proofs.Common.{◌∙◌, ℕ, eqb, map, ap, refl, sym}
use Rattle.wcv_types.specs.Positions.{position_of}
use Rattle.wcv_text.specs.Numbers.{first_of}
use Rattle.wcv_text.proofs.Keys.{position_mapped}
use Rattle.wcv_text.proofs.numbers.Numbers.group.Goals as goal

pub returns-clause-number : goal.returns-clause-number
returns-clause-number c =
    c.number.ensures ∙ sym (position_mapped first_of _ eqb (λ x y. refl) c.first-first.result c.args.self.now.groups) ∙
    ap (λ (n : ℕ). position_of eqb n (map first_of c.args.self.now.groups)) c.first-first.ensures
