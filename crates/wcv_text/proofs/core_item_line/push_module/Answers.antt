use Rattle.std.proofs.Common.{◌≡◌, ◌++◌, [], ap, codes, map, nat_lt, Bool, false, ℕ, rules, string_bytes, OnOk}
use Rattle.std.proofs.lemmas.Result.{on_ok_weaker}
use Rattle.wcv_types.specs.Quoting.{listed}
use Rattle.wcv_types.specs.Tree.{Text}
use Rattle.wcv_text.specs.EntryList.{core_import_said, core_export_said, module_said}
use Rattle.wcv_text.specs.Mentions.{comma}
use Rattle.wcv_text.specs.Numbers.{so_far, Appends}
use Rattle.wcv_text.proofs.Listing.{both_listed}
use Rattle.wcv_text.proofs.Pieces.{two_in_braces}
use Rattle.wcv_text.proofs.core_item_line.push_module.Goals as goal

pub returns : goal.returns
returns c =
    let start : Text = string_bytes c.args.text.now in
    let behind : Bool = nat_lt 0 c.len.result in
    let first : string_bytes c.push_str.new.self ≡ start ++ codes "module {" = search rules in
    let end : OnOk c.push_str-2.result (string_bytes c.push_str-2.new.self ≡ string_bytes c.push_exports.new.text ++ codes "}") = search rules in
    on_ok_weaker {Q = Appends c.args.numbers.now start (string_bytes c.push_str-2.new.self) (λ w. module_said w c.args.shape.now)} c.push_str-2.result
    (λ last t. two_in_braces start (string_bytes c.push_str.new.self) (string_bytes c.push_imports.new.text) (string_bytes c.push_exports.new.text) _ (codes "module {")
    (listed [] (map (core_import_said (so_far c.args.numbers.now t)) c.args.shape.now.imports)) (listed (comma behind) (map (core_export_said (so_far c.args.numbers.now t)) c.args.shape.now.exports)) _
    first (c.in_ok-push_imports.ensures t) (c.in_ok-push_exports.ensures t) last
    (both_listed (core_import_said (so_far c.args.numbers.now t)) false behind c.args.shape.now.imports (map (core_export_said (so_far c.args.numbers.now t)) c.args.shape.now.exports) (ap (λ (n : ℕ). nat_lt 0 n) c.len.ensures)))
    end
