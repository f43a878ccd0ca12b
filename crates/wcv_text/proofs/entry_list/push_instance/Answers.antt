use Rattle.std.proofs.Common.{◌≡◌, ◌++◌, [], ap, codes, map, nat_lt, Bool, false, ℕ, rules, string_bytes, OnOk}
use Rattle.std.proofs.lemmas.Result.{on_ok_weaker}
use Rattle.wcv_types.specs.Quoting.{listed}
use Rattle.wcv_types.specs.Text.{Written}
use Rattle.wcv_types.specs.Tree.{Text}
use Rattle.wcv_text.specs.EntryList.{entries_said, own_said, instance_said}
use Rattle.wcv_text.specs.Mentions.{comma}
use Rattle.wcv_text.specs.Numbers.{so_far, Appends}
use Rattle.wcv_text.proofs.Listing.{both_listed}
use Rattle.wcv_text.proofs.Pieces.{two_in_braces}
use Rattle.wcv_text.proofs.entry_list.push_instance.Goals as goal

pub returns-clause-form : goal.returns-clause-form
returns-clause-form c =
    let start : Text = string_bytes c.args.text.now in
    let behind : Bool = nat_lt 0 c.len.result in
    let first : string_bytes c.push_str.new.self ≡ start ++ codes "instance {" = search rules in
    let end : OnOk c.push_str-2.result (string_bytes c.push_str-2.new.self ≡ string_bytes c.push_list.new.text ++ codes "}") = search rules in
    on_ok_weaker {Q = Appends c.number_owned.new.numbers start (string_bytes c.push_str-2.new.self) (λ w. instance_said w c.args.instance.now)} c.push_str-2.result
    (λ last t.
    let w : Written = so_far c.number_owned.new.numbers t in
    two_in_braces start (string_bytes c.push_str.new.self) (string_bytes c.push_owned.new.text) (string_bytes c.push_list.new.text) _ (codes "instance {")
    (listed [] (map (own_said w) c.args.instance.now.defined_resources)) (listed (comma behind) (entries_said w (codes "export ") c.args.instance.now.exports)) _
    first (c.in_ok-push_owned.ensures t) (c.in_ok-push_list.ensures t) last
    (both_listed (own_said w) false behind c.args.instance.now.defined_resources (entries_said w (codes "export ") c.args.instance.now.exports) (ap (λ (n : ℕ). nat_lt 0 n) c.len.ensures.value)))
    end
