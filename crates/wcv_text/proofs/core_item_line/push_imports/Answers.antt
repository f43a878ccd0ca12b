use Rattle.std.proofs.Common.{◌≡◌, ◌++◌, cond, codes, rules, Some, string_bytes}
use Rattle.std.specs.Prelude.{slice_get}
use Rattle.wcv_text.specs.EntryList.{core_import_said}
use Rattle.wcv_text.specs.Mentions.{separator}
use Rattle.wcv_text.specs.Numbers.{so_far}
use Rattle.wcv_text.proofs.Listing.{next_behind, all_listed}
use Rattle.wcv_text.proofs.core_item_line.push_imports.Goals as goal

pub loop-k-preserved : goal.loop-k-preserved
loop-k-preserved c = λ t.
    let before : string_bytes c.push_str.new.self ≡ string_bytes c.loop-k.text ++ cond c.args.behind (codes ", ") (separator (codes ", ") c.loop-k.k) = search rules in
    let found : slice_get c.args.imports.now c.loop-k.k ≡ Some c.in-Some.entry.now = search rules in
    next_behind (core_import_said (so_far c.args.numbers.now t)) c.args.behind (string_bytes c.loop-k.text) (string_bytes c.push_str.new.self) (string_bytes c.push_import.new.text) _ c.loop-k.k c.in-Some.entry.now c.args.imports.now found before
    (c.in_ok-push_import-in-Some.ensures t) (c.loop-k.invariant t)

pub returns : goal.returns
returns c = λ t. all_listed (core_import_said (so_far c.args.numbers.now t)) (string_bytes c.loop-k.text) _ (cond c.args.behind (codes ", ") (separator (codes ", ") c.loop-k.k)) c.loop-k.k c.args.imports.now (search rules) (c.loop-k.invariant t)
