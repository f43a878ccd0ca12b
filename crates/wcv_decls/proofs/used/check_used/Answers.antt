use Rattle.std.proofs.Common.{◌∙◌, ap, sym, inl, inr}
use Rattle.std.specs.Prelude.{is_some}
use Rattle.wcv_decls.proofs.Unused.{unused_is}
use Rattle.wcv_decls.proofs.used.check_used.Goals as goal

pub returns-in-None-clause-ok : goal.returns-in-None-clause-ok
returns-in-None-clause-ok c = (unused_is 0 c.args.state.now.spaces.values ∙ sym (ap is_some c.unused_value.ensures) ∙ ap is_some c.in-None.is, tt)

pub returns-in-Some-clause-err : goal.returns-in-Some-clause-err
returns-in-Some-clause-err c =
    inr (inl (c.new.ensures.kind, unused_is 0 c.args.state.now.spaces.values ∙ sym (ap is_some c.unused_value.ensures) ∙ ap is_some c.in-Some.is), c.new.ensures.offset)
