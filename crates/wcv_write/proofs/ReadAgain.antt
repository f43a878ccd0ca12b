-- What is written is read again.
use Rattle.std.proofs.Common.{◌≡◌, ◌≤◌, List, [], Some, refl, sym, ap, ◌∙◌, arith, append-nil}
use Rattle.json.specs.Json as json
use Rattle.json.specs.Lex.{tokens}
use Rattle.json.specs.Tree.{json_tokens, HasNumbers}
use Rattle.json.specs.Tree as tree
use Rattle.json.proofs.Printed.Tokens.{tokens-print}
use Rattle.json.proofs.Printed.Trees.{value-json_tokens, ArePrintable-json_tokens}
use Rattle.std.specs.Prelude.{option_and_then, suc, max, Option}
use Rattle.std.proofs.Common.{ap₂}
use Rattle.serde_json.specs.Data.{Data, null, boolean, number, string, array, object, Items, no_items, item, Members, no_members, member, depth, items_depth, members_depth}
use Rattle.serde_json.specs.Read.{read, of_json, max_depth}
use Rattle.serde_json.specs.Written.{outline, items_outline, members_outline, compact_text}
use Rattle.serde_json.proofs.Texts.{print-outline}
use Rattle.json.specs.Token.{Token}

-- ## Data

mutual
  pub depth-outline : (d : Data) → tree.depth (outline d) ≡ depth d
  depth-outline null = refl
  depth-outline (boolean b) = refl
  depth-outline (number n) = refl
  depth-outline (string s) = refl
  depth-outline (array ds) = ap suc (items_depth-outline ds)
  depth-outline (object ms) = ap suc (members_depth-outline ms)

  items_depth-outline : (ds : Items) → tree.items_depth (items_outline ds) ≡ items_depth ds
  items_depth-outline no_items = refl
  items_depth-outline (item d ds) = ap₂ max (depth-outline d) (items_depth-outline ds)

  members_depth-outline : (ms : Members) → tree.members_depth (members_outline ms) ≡ members_depth ms
  members_depth-outline no_members = refl
  members_depth-outline (member k d ms) = ap₂ max (depth-outline d) (members_depth-outline ms)

-- the compact text of data is read as these, where its numbers fit and its keys are in order
pub read-compact_text : (d : Data) → HasNumbers (outline d) → of_json (outline d) ≡ Some d → depth d ≤ max_depth → read (compact_text d) ≡ Some d
read-compact_text d fit same shallow =
    let j : json.Json = outline d in
    let text : tokens (compact_text d) ≡ json_tokens j = ap tokens (sym (print-outline d)) ∙ tokens-print (json_tokens j) (ArePrintable-json_tokens j fit) in
    let low : tree.depth j ≤ max_depth = omega (arith, depth-outline d) in
    let whole : Option (json.Json × List Token) → Option Data = λ o. option_and_then of_json (option_and_then (λ (p : json.Json × List Token). json.if_last p.0 p.1) o) in
    ap whole (ap (json.value max_depth) (text ∙ sym (append-nil (json_tokens j))) ∙ value-json_tokens j max_depth [] low) ∙ same
