use Rattle.std.proofs.Common.{◌≡◌, rules, None, Some, option_copied, refl, sym, ap, ◌∙◌}
use Rattle.std.specs.BTreeMap.{get, Updates}
use Rattle.wcv_types.proofs.ShapeTables.{key_cmp, codes_stay, numbered_code, numbered_kept}
use Rattle.wcv_types.proofs.shape_numbers.ShapeNumbers.number_of_code.Goals as goal

pub returns-in-Ok-clause-keeps : goal.returns-in-Ok-clause-keeps
returns-in-Ok-clause-keeps c =
    let none : get key_cmp c.args.self.now.codes c.args.code ≡ None = sym c.get.ensures.value ∙ ap option_copied c.in_default.is in
    let u : Updates key_cmp c.args.self.now.codes c.insert.new.self c.args.code (Some c.args.self.now.next) = search rules in
    codes_stay c.args.self.now.codes c.insert.new.self c.args.code c.args.self.now.next none u

pub returns-in-Ok-clause-numbers : goal.returns-in-Ok-clause-numbers
returns-in-Ok-clause-numbers c =
    let none : get key_cmp c.args.self.now.codes c.args.code ≡ None = sym c.get.ensures.value ∙ ap option_copied c.in_default.is in
    let u : Updates key_cmp c.args.self.now.codes c.insert.new.self c.args.code (Some c.args.self.now.next) = search rules in
    numbered_code c.args.types.now.nodes c.args.self.now _ c.args.code c.args.self.now.next c.requires refl refl refl none u

pub returns-in-Err-clause-numbers : goal.returns-in-Err-clause-numbers
returns-in-Err-clause-numbers c =
    let e : c.insert.new.self.entries ≡ c.args.self.now.codes.entries = search rules in
    numbered_kept c.args.types.now.nodes c.args.self.now _ c.requires e refl refl
