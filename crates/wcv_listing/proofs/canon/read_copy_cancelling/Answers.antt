use Rattle.std.proofs.Common.{◌≡◌, ◌∙◌, ℕ, Bool, true, false, List, ◌++◌, map, drop, Option, option_map, option_and_then, sym, ap}
use Rattle.wcv_syntax.specs.CanonRows.{type_and_async, Written, operand_rows, plain_rows, type_rows}
use Rattle.wcv_syntax.specs.Model.{Text, Canon_form}
use Rattle.wcv_listing.specs.Canons.{copy_cancelling_forms}
use Rattle.wcv_listing.specs.Fields.{named, is_among}
use Rattle.wcv_listing.specs.Seen.{view}
use Rattle.wcv_listing.proofs.Canons.{kind_found, kind_missed}
use Rattle.wcv_listing.proofs.canon.read_copy_cancelling.Goals as goal

abbrev apart : (ℕ × Bool → Canon_form) → ℕ → Bool → Canon_form
apart form ty async = form (ty, async)

abbrev behind : List (Text × Written)
behind = drop 10 operand_rows ++ (plain_rows ++ type_rows)

abbrev of_name : Text → ℕ × Bool → Option Canon_form
of_name name p = option_map (λ form. form p) (named copy_cancelling_forms name)

pub returns-then-not-is_one_of : goal.returns-then-not-is_one_of
returns-then-not-is_one_of c =
    let missed : is_among (map (λ row. row.0) copy_cancelling_forms) c.args.name.now ≡ false = sym c.is_one_of.ensures ∙ c.if-not-is_one_of.true in
    c.read_waiting.ensures ∙ kind_missed type_and_async apart copy_cancelling_forms behind c.args.name.now (view c.args.body) missed

pub returns-in_default : goal.returns-in_default
returns-in_default c =
    let found : is_among (map (λ row. row.0) copy_cancelling_forms) c.args.name.now ≡ true = sym c.is_one_of.ensures ∙ c.if-not-is_one_of.false in
    ap (option_and_then (of_name c.args.name.now)) (sym c.in_default.is)
    ∙ kind_found type_and_async apart copy_cancelling_forms behind c.args.name.now (view c.args.body) c.type_and_async_of.result (λ form. c.type_and_async_of.ensures (apart form)) found

pub returns : goal.returns
returns c =
    let found : is_among (map (λ row. row.0) copy_cancelling_forms) c.args.name.now ≡ true = sym c.is_one_of.ensures ∙ c.if-not-is_one_of.false in
    c.copy_cancelling_named.ensures ∙ ap (option_and_then (of_name c.args.name.now)) (sym c.in-Some.is)
    ∙ kind_found type_and_async apart copy_cancelling_forms behind c.args.name.now (view c.args.body) c.type_and_async_of.result (λ form. c.type_and_async_of.ensures (apart form)) found
