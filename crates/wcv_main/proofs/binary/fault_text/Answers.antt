use Rattle.std.proofs.Common.{◌≡◌, ◌++◌, ◌∙◌, List, ℕ, ap, append_assoc, string_bytes, rules}
use Rattle.std.specs.Prelude.{codes}
use Rattle.std.specs.Fmt.{decimal}
use Rattle.wcv_main.specs.Report.{line}
use Rattle.wcv_main.proofs.binary.fault_text.Goals as goal

pub returns : goal.returns
returns c =
    let words : List ℕ = c.args.words.now in
    let at : List ℕ = decimal c.args.fault.at in
    let head : List ℕ = words ++ codes " at " ++ at in
    let message : List ℕ = string_bytes c.in_ok-message.message in
    let told : string_bytes c.in_ok-text.text ≡ words ++ ((codes " at " ++ at) ++ codes "\n") = search rules in
    let same : words ++ ((codes " at " ++ at) ++ codes "\n") ≡ line head = simp append_assoc in
    let whole : string_bytes c.push_str-2.new.self ≡ (string_bytes c.in_ok-text.text ++ message) ++ codes "\n" = search rules in
    (message, whole ∙ ap (λ (t : List ℕ). (t ++ message) ++ codes "\n") (told ∙ same) ∙ append_assoc (line head) message (codes "\n"))
