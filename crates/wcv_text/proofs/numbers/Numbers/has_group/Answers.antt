use Rattle.std.proofs.Common.{◌∙◌, ℕ, eqb, map, ap, refl, sym}
use Rattle.wcv_types.specs.Positions.{is_there}
use Rattle.wcv_text.specs.Numbers.{first_of}
use Rattle.wcv_text.proofs.Keys.{there_mapped}
use Rattle.wcv_text.proofs.numbers.Numbers.has_group.Goals as goal

pub returns : goal.returns
returns c =
    c.has.ensures ∙ sym (there_mapped first_of _ eqb (λ x y. refl) c.first.result c.args.self.now.groups) ∙
    ap (λ (n : ℕ). is_there eqb n (map first_of c.args.self.now.groups)) c.first.ensures
