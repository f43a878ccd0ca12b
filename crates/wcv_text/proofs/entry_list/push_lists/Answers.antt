use Rattle.std.proofs.Common.{◌≡◌, ◌++◌, [], ◌∙◌, ap, sym, codes, nat_lt, Bool, false, ◌||◌, ℕ, List, rules, append_assoc, string_bytes}
use Rattle.std.proofs.lemmas.Result.{on_ok_weaker}
use Rattle.wcv_types.specs.Quoting.{listed}
use Rattle.wcv_types.specs.Text.{Written, path_text}
use Rattle.wcv_types.specs.Tree.{Text}
use Rattle.wcv_types.specs.declared.component_type.ComponentType.{ComponentType}
use Rattle.wcv_types.specs.declared.ids.ResourceId.{ResourceId}
use Rattle.wcv_text.specs.EntryList.{entries_said, one_entry, paths_said}
use Rattle.wcv_text.specs.Mentions.{comma}
use Rattle.wcv_text.specs.Numbers.{name_of, so_far}
use Rattle.wcv_text.proofs.Listing.{both_listed}
use Rattle.wcv_text.proofs.entry_list.push_lists.Goals as goal

pub returns : goal.returns
returns c =
    let start : Text = string_bytes c.args.text.now in
    let shape : ComponentType = c.args.component.now in
    let some : ℕ → Bool = λ n. nat_lt 0 n in
    let imports : Bool = some c.len-imports.result in
    let entries : Bool = c.if-imports.entries in
    let entries_are : entries ≡ (imports || some c.len-exports.result) = search rules in
    let paths : Bool = c.if-entries.imported in
    let paths_are : paths ≡ (entries || some c.len-paths.result) = search rules in
    on_ok_weaker c.push_path_list-2.result
    (λ last t.
    let w : Written = so_far c.args.numbers.now t in
    let one : List Text = entries_said w (codes "import ") shape.imports in
    let two : List Text = entries_said w (codes "export ") shape.exports in
    let three : List Text = paths_said w (codes "imported ") shape.imported_resources in
    let four : List Text = paths_said w (codes "defined ") shape.defined_resources in
    let fourth : listed (comma entries) (three ++ four) ≡ listed (comma entries) three ++ listed (comma paths) four =
    both_listed (λ (p : ResourceId × List ℕ). path_text w (codes "imported ") (name_of p.0) p.1) entries paths shape.imported_resources four (paths_are ∙ ap (λ (n : ℕ). entries || some n) c.len-paths.ensures.value) in
    let third : listed (comma imports) (two ++ (three ++ four)) ≡ listed (comma imports) two ++ listed (comma entries) (three ++ four) =
    both_listed (one_entry w (codes "export ")) imports entries shape.exports (three ++ four) (entries_are ∙ ap (λ (n : ℕ). imports || some n) c.len-exports.ensures) in
    let second : listed [] (one ++ (two ++ (three ++ four))) ≡ listed [] one ++ listed (comma imports) (two ++ (three ++ four)) =
    both_listed (one_entry w (codes "import ")) false imports shape.imports (two ++ (three ++ four)) (ap some c.len-imports.ensures) in
    said start (string_bytes c.push_list.new.text) (string_bytes c.push_list-2.new.text) (string_bytes c.push_path_list.new.text) _ (listed [] one) (listed (comma imports) two) (listed (comma entries) three) (listed (comma paths) four)
    (listed (comma imports) (two ++ (three ++ four))) (listed (comma entries) (three ++ four)) _
    (c.in_ok-push_list.ensures t) (c.in_ok-push_list-2.ensures t) (c.in_ok-push_path_list.ensures t) (last t) fourth third (ap (λ (xs : List Text). listed [] xs) (regroup one two three four) ∙ second))
    c.push_path_list-2.ensures
  where
    regroup : (a b d e : List Text) → a ++ b ++ d ++ e ≡ a ++ (b ++ (d ++ e))
    regroup a b d e = simp append_assoc

    apart : (start x y z u : Text) → start ++ x ++ y ++ z ++ u ≡ start ++ (x ++ (y ++ (z ++ u)))
    apart start x y z u = simp append_assoc

    said : (start a b d e x y z u yzu zu all : Text) → a ≡ start ++ x → b ≡ a ++ y → d ≡ b ++ z → e ≡ d ++ u → zu ≡ z ++ u → yzu ≡ y ++ zu → all ≡ x ++ yzu → e ≡ start ++ all
    said start a b d e x y z u yzu zu all p q r s fourth third second =
        s ∙ ap (λ (i : Text). i ++ u) (r ∙ ap (λ (i : Text). i ++ z) (q ∙ ap (λ (i : Text). i ++ y) p)) ∙ apart start x y z u ∙
        ap (λ (i : Text). start ++ (x ++ (y ++ i))) (sym fourth) ∙ ap (λ (i : Text). start ++ (x ++ i)) (sym third) ∙ ap (λ (i : Text). start ++ i) (sym second)
