use Rattle.std.proofs.Common.{◌≡◌, ◌++◌, [], ◌∙◌, ap, codes, map, rules, string_bytes, OnOk}
use Rattle.std.proofs.lemmas.Result.{on_ok_weaker}
use Rattle.wcv_types.specs.Quoting.{listed}
use Rattle.wcv_types.specs.Text.{Written, with_paths}
use Rattle.wcv_types.specs.Tree.{Text}
use Rattle.wcv_types.specs.Unfold.{resource_path}
use Rattle.wcv_text.specs.EntryList.{entries_said, paths_said, component_said}
use Rattle.wcv_text.specs.Numbers.{so_far, Appends}
use Rattle.wcv_text.proofs.Pieces.{in_braces}
use Rattle.wcv_text.proofs.entry_list.push_component.Goals as goal

pub returns-clause-given : goal.returns-clause-given
returns-clause-given c =
    let both : (t : Text) → so_far c.number_paths-2.new.numbers t ≡ with_paths (with_paths (so_far c.args.numbers.now t) (map resource_path c.args.component.now.imported_resources)) (map resource_path c.args.component.now.defined_resources) =
    λ t. c.in_ok-number_paths-2.ensures t ∙ ap (λ (w : Written). with_paths w (map resource_path c.args.component.now.defined_resources)) (c.in_ok-number_paths.ensures t) in
    search rules

pub returns-clause-form : goal.returns-clause-form
returns-clause-form c =
    let start : Text = string_bytes c.args.text.now in
    let first : string_bytes c.push_str.new.self ≡ start ++ codes "component {" = c.in_ok-push_str.ensures.bytes in
    let end : OnOk c.push_str-2.result (string_bytes c.push_str-2.new.self ≡ string_bytes c.push_lists.new.text ++ codes "}") = search rules in
    on_ok_weaker {Q = Appends c.number_paths-2.new.numbers start (string_bytes c.push_str-2.new.self) (λ w. component_said w c.args.component.now)} c.push_str-2.result
    (λ last t.
    let w : Written = so_far c.number_paths-2.new.numbers t in
    in_braces start (string_bytes c.push_str.new.self) (string_bytes c.push_lists.new.text) _ (codes "component {")
    (listed [] (entries_said w (codes "import ") c.args.component.now.imports ++ entries_said w (codes "export ") c.args.component.now.exports ++ paths_said w (codes "imported ") c.args.component.now.imported_resources ++ paths_said w (codes "defined ") c.args.component.now.defined_resources))
    first (c.in_ok-push_lists.ensures t) last)
    end
