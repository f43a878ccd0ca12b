use Rattle.std.proofs.Common.{◌≡◌, rules, arith, string_bytes, not, false}
use Rattle.std.proofs.lemmas.Grind.{common_steps}
use Rattle.wcv_core.specs.Label.{is_among}
use Rattle.wcv_module.proofs.Names.{kept_push, kept_again}
use Rattle.wcv_module.proofs.module.Module.add_export.Goals as goal

pub invariant_of-self-in-Ok-true : goal.invariant_of-self-in-Ok-true
invariant_of-self-in-Ok-true c = record {
  few = c.self.invariant.few;
  named = λ t. kept_push t c.args.name.now (string_bytes c.in_ok-texts.texts.1) c.self.inside.export_names c.insert_text.new.self c.self.inside.exports c.push.new.self c.args.ty (c.in-Ok-true.ensures.has t) (search rules) (search rules) (c.self.invariant.named t);
  small = c.in_ok-size.ensures.small;
}

pub invariant_of-self-in-Ok-false : goal.invariant_of-self-in-Ok-false
invariant_of-self-in-Ok-false c =
    let back : c.truncate.new.self ≡ c.self.inside.exports = grind (arith, common_steps) in
    let there : false ≡ not (is_among (string_bytes c.in_ok-texts.texts.1) c.self.inside.export_names) = search rules in
    record {
      few = c.self.invariant.few;
      named = λ t. kept_again t (string_bytes c.in_ok-texts.texts.1) c.self.inside.export_names c.insert_text.new.self c.self.inside.exports c.truncate.new.self (c.in-Ok-false.ensures.has t) there back (c.self.invariant.named t);
      small = c.self.invariant.small;
    }
