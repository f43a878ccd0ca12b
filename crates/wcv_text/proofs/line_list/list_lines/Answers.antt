use Rattle.std.proofs.lemmas.Result.{on_ok_weaker}
use Rattle.wcv_text.proofs.line_list.list_lines.Goals as goal

pub returns : goal.returns
returns c =
    on_ok_weaker c.list_paths-2.result
    (λ defined start w h. defined c.args.types.now c.list_entries-2.new.seen start _ (c.in_ok-list_paths.ensures c.args.types.now c.list_entries-2.new.seen start _ (c.in_ok-list_entries-2.ensures start _ (c.in_ok-list_entries.ensures start w h))))
    c.list_paths-2.ensures
