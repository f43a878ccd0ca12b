use Rattle.std.proofs.Common.{◌≡◌, ◌++◌, cond, codes, rules, Some, string_bytes}
use Rattle.std.specs.Prelude.{slice_get}
use Rattle.wcv_text.specs.EntryList.{one_entry}
use Rattle.wcv_text.specs.Mentions.{separator}
use Rattle.wcv_text.specs.Numbers.{so_far}
use Rattle.wcv_text.proofs.Listing.{next_behind, all_listed}
use Rattle.wcv_text.proofs.entry_list.push_list.Goals as goal

pub loop-k-preserved : goal.loop-k-preserved
loop-k-preserved c = λ t.
    let before : string_bytes c.push_str.new.self ≡ string_bytes c.loop-k.text ++ cond c.args.behind (codes ", ") (separator (codes ", ") c.loop-k.k) = search rules in
    let found : slice_get c.args.list.now c.loop-k.k ≡ Some c.in-Some.entry.now = search rules in
    next_behind (one_entry (so_far c.args.numbers.now t) c.args.word.now) c.args.behind (string_bytes c.loop-k.text) (string_bytes c.push_str.new.self) (string_bytes c.push_entry.new.text) _ c.loop-k.k c.in-Some.entry.now c.args.list.now found before
    (c.in_ok-push_entry-in-Some.ensures t) (c.loop-k.invariant t)

pub returns : goal.returns
returns c = λ t. all_listed (one_entry (so_far c.args.numbers.now t) c.args.word.now) (string_bytes c.loop-k.text) _ (cond c.args.behind (codes ", ") (separator (codes ", ") c.loop-k.k)) c.loop-k.k c.args.list.now (search rules) (c.loop-k.invariant t)
