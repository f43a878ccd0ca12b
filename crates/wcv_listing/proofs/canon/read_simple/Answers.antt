use Rattle.std.proofs.Common.{◌≡◌, Bool, true, false, if◌then◌else◌, Option, Some, None, is_some, option_map, refl, sym, ap, ◌∙◌, rules}
use Rattle.serde_json.specs.Find.{as_null}
use Rattle.wcv_syntax.specs.CanonRows.{plain_forms, type_forms, type_rows}
use Rattle.wcv_syntax.specs.View.{canon_view}
use Rattle.wcv_syntax.specs.declared.canonical.CanonicalFunction.{CanonicalFunction}
use Rattle.wcv_listing.specs.Fields.{index}
use Rattle.wcv_listing.specs.Seen.{view}
use Rattle.wcv_listing.proofs.Canons.{plain_found, plain_missed, typed}
use Rattle.wcv_listing.proofs.canon.read_simple.Goals as goal

-- what is no function is none as a form
none_of : (o : Option CanonicalFunction) → ((func : CanonicalFunction) → o ≡ Some func → ⊥) → None ≡ option_map canon_view o
none_of None never = refl
none_of (Some func) never = absurd (never func refl)

pub returns-then-is_null : goal.returns-then-is_null
returns-then-is_null c =
    let here : true ≡ is_some (as_null (view c.args.body)) = cc in
    let form = canon_view c.in-Some.func in
    ap (λ (b : Bool). if b then Some form else None) here
    ∙ plain_found plain_forms type_rows c.args.name.now (view c.args.body) form (ap (option_map canon_view) (sym c.in-Some.is) ∙ c.plain_named.ensures)

pub returns-else-is_null : goal.returns-else-is_null
returns-else-is_null c =
    let here : false ≡ is_some (as_null (view c.args.body)) = cc in
    let form = canon_view c.in-Some.func in
    ap (λ (b : Bool). if b then Some form else None) here
    ∙ plain_found plain_forms type_rows c.args.name.now (view c.args.body) form (ap (option_map canon_view) (sym c.in-Some.is) ∙ c.plain_named.ensures)

pub returns : goal.returns
returns c =
    let at : Some c.in_ok-index_of.field-0 ≡ index (view c.args.body) = search rules in
    c.typed_named.ensures ∙ typed type_forms c.args.name.now (view c.args.body) (Some c.in_ok-index_of.field-0) at
    ∙ plain_missed plain_forms type_rows c.args.name.now (view c.args.body) (none_of c.plain_named.result c.in_default.not-Some ∙ c.plain_named.ensures)
