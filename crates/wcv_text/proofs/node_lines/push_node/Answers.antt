use Rattle.std.proofs.Common.{◌≡◌, ◌∙◌, [], ap, sym, subst, List, Bool, Some, false, true, cond, rules, string_bytes}
use Rattle.std.proofs.lemmas.Result.{on_ok_weaker}
use Rattle.wcv_types.specs.Arena.{Arena}
use Rattle.wcv_types.specs.Identity.{Identity, same_identity}
use Rattle.wcv_types.specs.Positions.{is_there}
use Rattle.wcv_types.specs.Standing.{identity_of}
use Rattle.wcv_types.specs.Text.{Written, has_line}
use Rattle.wcv_types.specs.Unfold.{tree_at}
use Rattle.wcv_types.specs.declared.ids.Part.{Part}
use Rattle.wcv_text.specs.EntryList.{write_items}
use Rattle.wcv_text.specs.Nodes.{items_at, own_line}
use Rattle.wcv_text.specs.Numbers.{so_far, Shows}
use Rattle.wcv_text.proofs.Items.{nodes_stay}
use Rattle.wcv_text.proofs.node_lines.push_node.Goals as goal

pub returns-then-has_line : goal.returns-then-has_line
returns-then-has_line c = λ before w h.
    let a : Arena = c.args.types.now in
    let q : Part = c.args.part in
    let there : has_line w (Some (identity_of q)) ≡ true = ap (λ (v : Written). has_line v (Some (identity_of q))) h.numbers_are ∙
    sym (ap (λ i. has_line (so_far c.args.numbers.now []) (Some i)) c.identity_of.ensures) ∙ sym c.has_line.ensures ∙ c.if-has_line.true in
    subst (Shows c.args.numbers.now before (string_bytes c.args.text.now)) (sym (ap (λ (b : Bool). cond b w (own_line q (tree_at a q) (write_items (items_at a q) w))) there)) h

pub push_line-requires : goal.push_line-requires
push_line-requires c =
    let q : Part = c.args.part in
    let same = nodes_stay c.args.numbers.now c.push_items.new.numbers (string_bytes c.args.text.now) (string_bytes c.push_items.new.text) (items_at c.args.types.now q) c.in_ok-push_items.ensures in
    let none : has_line (so_far c.push_items.new.numbers []) (Some (identity_of q)) ≡ false =
    ap (λ (is : List Identity). is_there same_identity (identity_of q) is) same ∙ sym (ap (λ i. has_line (so_far c.args.numbers.now []) (Some i)) c.identity_of.ensures) ∙ sym c.has_line.ensures ∙ c.if-has_line.false in
    search rules

pub returns : goal.returns
returns c =
    let a : Arena = c.args.types.now in
    let q : Part = c.args.part in
    let none : has_line (so_far c.args.numbers.now []) (Some (identity_of q)) ≡ false = sym (ap (λ i. has_line (so_far c.args.numbers.now []) (Some i)) c.identity_of.ensures) ∙ sym c.has_line.ensures ∙ c.if-has_line.false in
    on_ok_weaker c.push_line.result
    (λ line before w h.
    let absent : has_line w (Some (identity_of q)) ≡ false = ap (λ (v : Written). has_line v (Some (identity_of q))) h.numbers_are ∙ none in
    subst (Shows c.push_line.new.numbers before (string_bytes c.push_line.new.text)) (sym (ap (λ (b : Bool). cond b w (own_line q (tree_at a q) (write_items (items_at a q) w))) absent))
    (line before _ (c.in_ok-push_items.ensures before w h)))
    c.push_line.ensures
