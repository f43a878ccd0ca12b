use Rattle.std.proofs.Common.{◌∙◌, ℕ, eqb, map, ap, refl, sym}
use Rattle.wcv_types.specs.Positions.{is_there}
use Rattle.wcv_text.specs.Numbers.{first_of}
use Rattle.wcv_text.proofs.Keys.{there_mapped}
use Rattle.wcv_text.proofs.numbers.Numbers.add_group.Goals as goal

pub push-requires : goal.push-requires
push-requires c =
    sym (there_mapped first_of _ eqb (λ x y. refl) c.first-first.result c.args.self.now.groups) ∙
    ap (λ (n : ℕ). is_there eqb n (map first_of c.args.self.now.groups)) c.first-first.ensures ∙ c.requires
