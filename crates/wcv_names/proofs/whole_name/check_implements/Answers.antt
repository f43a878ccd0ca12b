use Rattle.std.proofs.Common.{◌≡◌, true, sym, ◌∙◌}
use Rattle.std.proofs.lemmas.Result.{IfErr-weaker}
use Rattle.wcv_core.specs.Refusal.{Told, error_kind, error_offset}
use Rattle.wcv_core.specs.declared.error.ErrorKind.TheVariants as kinds
use Rattle.wcv_names.specs.WholeNames.{extern_name, says_more, NameRefused}
use Rattle.wcv_names.proofs.NameRules.{by_more}
use Rattle.wcv_names.proofs.whole_name.check_implements.Goals as goal

pub returns-then-not-contains-clause-err : goal.returns-then-not-contains-clause-err
returns-then-not-contains-clause-err c =
    IfErr-weaker c.check_plain.result (λ (e : Told). (error_kind e ≡ kinds.Feature) × (error_offset e ≡ c.args.offset) × (says_more (extern_name c.args.name.now) ≡ true))
    (NameRefused c.args.is_instance c.args.features.now (extern_name c.args.name.now) c.args.offset)
    (λ e h. by_more c.args.is_instance c.args.features.now (extern_name c.args.name.now) (sym (c.contains.ensures tt) ∙ c.if-not-contains.true) c.args.offset e h.0 h.1 h.2) c.check_plain.ensures.err
