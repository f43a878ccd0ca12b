use Rattle.std.proofs.Common.{◌≡◌, ◌++◌, ◌∙◌, ap, ℕ, [], List, cond, codes, rules, append_assoc, sym, Some, string_bytes}
use Rattle.std.specs.Fmt.{decimal}
use Rattle.std.specs.Prelude.{slice_get}
use Rattle.wcv_types.specs.Text.{path_text, positions_text}
use Rattle.wcv_types.specs.Tree.{Text}
use Rattle.wcv_types.specs.declared.ids.ResourceId.{ResourceId}
use Rattle.wcv_text.specs.Mentions.{separator}
use Rattle.wcv_text.specs.Numbers.{name_of, so_far}
use Rattle.wcv_text.proofs.Listing.{next_behind, all_listed}
use Rattle.wcv_text.proofs.entry_list.push_path_list.Goals as goal

pub loop-k-preserved : goal.loop-k-preserved
loop-k-preserved c = λ t.
    let word : Text = c.args.word.now in
    let entry : ResourceId × List ℕ = (c.in-Some.resource.now, c.in-Some.place.now) in
    let before : string_bytes c.push_str.new.self ≡ string_bytes c.loop-k.text ++ cond c.args.behind (codes ", ") (separator (codes ", ") c.loop-k.k) = search rules in
    let found : slice_get c.args.paths.now c.loop-k.k ≡ Some entry = sym c.in-Some.ensures in
    let said : string_bytes c.push_path_text.new.text ≡ string_bytes c.push_str.new.self ++ path_text (so_far c.args.numbers.now t) word (name_of entry.0) entry.1 =
    c.in_ok-push_path_text-in-Some.ensures ∙
    (λ j. string_bytes c.push_str.new.self ++ (word ++ codes "r" ++ decimal (c.resource_number-number.ensures j) ++ codes " [" ++ positions_text [] (c.positions.ensures j) ++ codes "]")) ∙
    ap (λ (x : Text). string_bytes c.push_str.new.self ++ (x ++ codes " [" ++ positions_text [] entry.1 ++ codes "]")) (append_assoc word (codes "r") _) in
    next_behind (λ (p : ResourceId × List ℕ). path_text (so_far c.args.numbers.now t) word (name_of p.0) p.1) c.args.behind (string_bytes c.loop-k.text) (string_bytes c.push_str.new.self) (string_bytes c.push_path_text.new.text) _ c.loop-k.k entry c.args.paths.now
    found before said (c.loop-k.invariant t)

pub returns : goal.returns
returns c = λ t.
    all_listed (λ (p : ResourceId × List ℕ). path_text (so_far c.args.numbers.now t) c.args.word.now (name_of p.0) p.1) (string_bytes c.loop-k.text) _ (cond c.args.behind (codes ", ") (separator (codes ", ") c.loop-k.k)) c.loop-k.k c.args.paths.now (search rules)
    (c.loop-k.invariant t)
