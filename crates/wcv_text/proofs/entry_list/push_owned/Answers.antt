use Rattle.std.proofs.Common.{◌≡◌, ◌++◌, ◌∙◌, ap, codes, ℕ, refl, sym, false, rules, append_assoc, Some, string_bytes}
use Rattle.std.specs.Fmt.{decimal}
use Rattle.std.specs.Prelude.{slice_get}
use Rattle.wcv_types.specs.Tree.{Text}
use Rattle.wcv_text.specs.EntryList.{own_said}
use Rattle.wcv_text.specs.Mentions.{separator}
use Rattle.wcv_text.specs.Numbers.{so_far}
use Rattle.wcv_text.proofs.Listing.{next_behind, all_listed}
use Rattle.wcv_text.proofs.entry_list.push_owned.Goals as goal

pub loop-k-preserved : goal.loop-k-preserved
loop-k-preserved c = λ t.
    let before : Text = string_bytes c.loop-k.text ++ separator (codes ", ") c.loop-k.k in
    let found : slice_get c.args.owned.now c.loop-k.k ≡ Some c.in-Some.resource.now = search rules in
    let said : string_bytes c.write.new.self ≡ string_bytes c.loop-k.text ++ (separator (codes ", ") c.loop-k.k ++ (codes "own r" ++ decimal c.resource_number-number.result)) = search rules in
    let own : string_bytes c.write.new.self ≡ before ++ own_said (so_far c.args.numbers.now t) c.in-Some.resource.now =
    said ∙ sym (append_assoc (string_bytes c.loop-k.text) (separator (codes ", ") c.loop-k.k) (codes "own r" ++ decimal c.resource_number-number.result)) ∙
    ap (λ (n : ℕ). before ++ (codes "own r" ++ decimal n)) c.resource_number-number.ensures in
    next_behind (own_said (so_far c.args.numbers.now t)) false (string_bytes c.loop-k.text) before (string_bytes c.write.new.self) _ c.loop-k.k c.in-Some.resource.now c.args.owned.now found refl own (c.loop-k.invariant t)

pub returns : goal.returns
returns c = λ t. all_listed (own_said (so_far c.args.numbers.now t)) (string_bytes c.loop-k.text) _ (separator (codes ", ") c.loop-k.k) c.loop-k.k c.args.owned.now (search rules) (c.loop-k.invariant t)
