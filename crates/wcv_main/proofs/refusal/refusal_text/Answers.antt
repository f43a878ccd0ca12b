use Rattle.std.proofs.Common.{◌≡◌, ◌++◌, ◌∙◌, List, ℕ, ap, append_assoc, string_bytes, rules}
use Rattle.std.specs.Prelude.{codes}
use Rattle.std.specs.Fmt.{decimal}
use Rattle.wcv_core.specs.Kinds.{kind_name}
use Rattle.wcv_core.specs.Refusal.{error_kind, error_offset}
use Rattle.wcv_main.specs.Report.{line}
use Rattle.wcv_main.proofs.refusal.refusal_text.Goals as goal

pub returns : goal.returns
returns c =
    let head : List ℕ = codes "refused " ++ kind_name (error_kind c.args.error.now) ++ codes " at " ++ decimal (error_offset c.args.error.now) in
    let message : List ℕ = string_bytes c.in_ok-message.message in
    let made : string_bytes c.in_ok-text.text ≡ line head = search rules in
    let whole : string_bytes c.push_str-2.new.self ≡ (string_bytes c.in_ok-text.text ++ message) ++ codes "\n" = search rules in
    (message, whole ∙ ap (λ (t : List ℕ). (t ++ message) ++ codes "\n") made ∙ append_assoc (line head) message (codes "\n"))
