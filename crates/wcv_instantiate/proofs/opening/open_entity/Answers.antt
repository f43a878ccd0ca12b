use Rattle.std.proofs.Common.{refl, sym, ◌∙◌}
use Rattle.std.proofs.lemmas.Bool.{false≢true}
use Rattle.wcv_types.proofs.Grown.{extends_refl}
use Rattle.wcv_spaces.proofs.Brought.{not_instance}
use Rattle.wcv_instantiate.proofs.Opened.{bare_opened}
use Rattle.wcv_instantiate.proofs.opening.open_entity.Goals as goal

pub returns-in_ok-new-in_default : goal.returns-in_ok-new-in_default
returns-in_ok-new-in_default c = record {
  ok = bare_opened c.args.types.now c.args.ty c.requires.stands c.in_ok-new-in_default.new (λ e. absurd (false≢true (sym (not_instance c.args.ty c.in_default.not-Instance) ∙ e))) c.in_ok-new-in_default.ensures.ty c.in_ok-new-in_default.ensures.resources;
  grown = extends_refl c.args.types.now;
  same = λ e. refl;
}

pub returns-in_err-new-in_default-clause-grown : goal.returns-in_err-new-in_default-clause-grown
returns-in_err-new-in_default-clause-grown c = extends_refl c.args.types.now
