use Rattle.std.proofs.Common.{◌≡◌, ◌∙◌, ℕ, true, false, List, ◌++◌, map, drop, Some, None, option_map, sym, ap}
use Rattle.wcv_syntax.specs.CanonRows.{type_and_options, Written, option_rows, operand_rows, plain_rows, type_rows}
use Rattle.wcv_syntax.specs.declared.canonical.CanonicalOption.{CanonicalOption}
use Rattle.wcv_syntax.specs.Model.{Text, Canon_form}
use Rattle.wcv_listing.specs.Canons.{copying_forms}
use Rattle.wcv_listing.specs.Fields.{is_among}
use Rattle.wcv_listing.specs.Seen.{view}
use Rattle.wcv_listing.proofs.Canons.{kind_found, kind_missed}
use Rattle.wcv_listing.proofs.Grown.{if_ok}
use Rattle.wcv_listing.proofs.canon.read_copying.Goals as goal

abbrev apart : (ℕ × List CanonicalOption → Canon_form) → ℕ → List CanonicalOption → Canon_form
apart form ty options = form (ty, options)

abbrev behind : List (Text × Written)
behind = drop 7 option_rows ++ (operand_rows ++ (plain_rows ++ type_rows))

pub returns-then-not-is_one_of : goal.returns-then-not-is_one_of
returns-then-not-is_one_of c =
    let missed : is_among (map (λ row. row.0) copying_forms) c.args.name.now ≡ false = sym c.is_one_of.ensures ∙ c.if-not-is_one_of.true in
    if_ok c.read_error_context.result (λ func h. h ∙ kind_missed type_and_options apart copying_forms behind c.args.name.now (view c.args.body) missed) c.read_error_context.ensures

pub returns-in_default : goal.returns-in_default
returns-in_default c =
    let found : is_among (map (λ row. row.0) copying_forms) c.args.name.now ≡ true = sym c.is_one_of.ensures ∙ c.if-not-is_one_of.false in
    kind_found type_and_options apart copying_forms behind c.args.name.now (view c.args.body) None
    (λ form. ap (option_map (λ p. form (p.0, p.1.items))) (sym c.in_default.is) ∙ c.in_ok-ty.ensures (apart form)) found

pub returns : goal.returns
returns c =
    let found : is_among (map (λ row. row.0) copying_forms) c.args.name.now ≡ true = sym c.is_one_of.ensures ∙ c.if-not-is_one_of.false in
    c.copying_named.ensures
    ∙ kind_found type_and_options apart copying_forms behind c.args.name.now (view c.args.body) (Some (c.in-Some.ty, c.in-Some.options.items))
    (λ form. ap (option_map (λ p. form (p.0, p.1.items))) (sym c.in-Some.is) ∙ c.in_ok-ty.ensures (apart form)) found
