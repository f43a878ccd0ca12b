use Rattle.std.proofs.Common.{◌≡◌, ◌∙◌, ◌++◌, ◌∷◌, [], ap, List, codes, rules, append_assoc, string_bytes}
use Rattle.std.proofs.lemmas.Result.{on_ok_weaker}
use Rattle.wcv_types.specs.Identity.{Identity, same_identity}
use Rattle.wcv_types.specs.Positions.{is_there}
use Rattle.wcv_types.specs.Standing.{identity_of}
use Rattle.wcv_types.specs.Text.{Written}
use Rattle.wcv_types.specs.Tree.{Text, head}
use Rattle.wcv_types.specs.Unfold.{Type_tree, tree_at}
use Rattle.std.specs.Fmt.{decimal}
use Rattle.wcv_types.specs.declared.ids.Part.{Part}
use Rattle.wcv_text.specs.Nodes.{form_of}
use Rattle.wcv_text.specs.Numbers.{so_far}
use Rattle.wcv_text.specs.declared.numbers.Numbers.{Numbers}
use Rattle.wcv_text.proofs.Lines.{resources_keep, line_shown}
use Rattle.wcv_text.proofs.node_lines.push_line.Goals as goal

pub add_line-requires : goal.add_line-requires
add_line-requires c =
    let t : Type_tree = tree_at c.args.types.now c.args.part in
    let mid : List Identity = (so_far c.push_form.new.numbers []).nodes in
    ap (λ (i : Identity). is_there same_identity i mid) c.identity_of.ensures ∙
    ap (λ (ns : List Identity). is_there same_identity (identity_of c.args.part) ns) (ap (λ (w : Written). w.nodes) (c.in_ok-push_form.ensures.given []) ∙ resources_keep (so_far c.args.numbers.now []) (head t)) ∙
    c.requires.no_line

pub returns : goal.returns
returns c =
    let start : Text = string_bytes c.args.text.now in
    let t : Type_tree = tree_at c.args.types.now c.args.part in
    let q : Part = c.args.part in
    let mid : Numbers = c.push_form.new.numbers in
    let new : Numbers = c.add_line.new.self in
    let first : string_bytes c.write.new.self ≡ start ++ (decimal c.lines-number.result ++ codes ": ") = search rules in
    let last : string_bytes c.push_str.new.self ≡ string_bytes c.push_form.new.text ++ codes "\n" = search rules in
    on_ok_weaker c.add_line.result
    (λ added before w h. line_shown c.args.numbers.now mid new before start (string_bytes c.push_str.new.self) w c.lines-number.result q t c.lines-number.ensures c.in_ok-push_form.ensures.given
    (λ x. line_said start (string_bytes c.write.new.self) (string_bytes c.push_form.new.text) (string_bytes c.push_str.new.self) (decimal c.lines-number.result) (form_of (so_far mid x) t) first (c.in_ok-push_form.ensures.form x) last)
    (λ x. added x ∙ ap (λ (i : Identity). record (so_far mid x) { nodes = (so_far mid x).nodes ++ i ∷ [] }) c.identity_of.ensures) h)
    c.add_line.ensures
  where
    line_said : (a b d e number form : Text) → b ≡ a ++ (number ++ codes ": ") → d ≡ b ++ form → e ≡ d ++ codes "\n" → e ≡ a ++ (number ++ codes ": " ++ form ++ codes "\n")
    line_said a b d e number form p q r = r ∙ ap (λ (x : Text). x ++ codes "\n") (q ∙ ap (λ (x : Text). x ++ form) p) ∙ simp append_assoc
