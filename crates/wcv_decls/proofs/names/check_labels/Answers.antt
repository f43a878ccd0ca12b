use Rattle.std.proofs.Common.{map, take}
use Rattle.std.proofs.lemmas.Result.{err_from_is_err_and}
use Rattle.wcv_core.specs.Label.{lower_case}
use Rattle.wcv_spaces.specs.NameLists.{list_names}
use Rattle.wcv_decls.proofs.Repeats.{names_caused, names_push, keys_push}
use Rattle.wcv_decls.proofs.names.check_labels.Goals as goal

pub returns-in_err-insert_label-clause-err : goal.returns-in_err-insert_label-clause-err
returns-in_err-insert_label-clause-err c =
    let p = err_from_is_err_and c.from_residual-in_err-insert_label.result c.from_residual-in_err-insert_label.ensures.1 in
    rw (p.1, p.2)
    (names_caused c.loop-k.keys (list_names c.args.list) c.loop-k.k c.text_at.result.now c.text_at.ensures c.args.offset c.in_err-insert_label.field-0.0 c.loop-k.invariant.keys c.in_err-insert_label.ensures.err)

pub loop-k-preserved : goal.loop-k-preserved
loop-k-preserved c =
    record {
      keys = keys_push c.insert_label.new.keys (list_names c.args.list) c.loop-k.k c.text_at.result.now c.text_at.ensures
          (c.in_ok-insert_label.ensures.keys (map lower_case (take c.loop-k.k (list_names c.args.list))) c.loop-k.invariant.keys);
      free = names_push c.loop-k.keys (list_names c.args.list) c.loop-k.k c.text_at.result.now c.text_at.ensures c.loop-k.invariant.keys c.loop-k.invariant.free c.in_ok-insert_label.ensures.ok;
    }
