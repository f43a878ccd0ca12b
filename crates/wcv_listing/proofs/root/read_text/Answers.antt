use Rattle.std.proofs.Common.{◌≡◌, ◌≢◌, [], List, Some, subst}
use Rattle.json.specs.Json.{Json}
use Rattle.json.specs.Token.{Token}
use Rattle.wcv_listing.specs.Parsed.{data_of, value_in_range}
use Rattle.wcv_listing.proofs.Grown.{if_ok}
use Rattle.wcv_listing.proofs.Parsed.{parsed, not_parsed}
use Rattle.wcv_listing.proofs.root.read_text.Goals as goal

pub returns-clause-err : goal.returns-clause-err
returns-clause-err c never =
    not_parsed c.args.text.now (subst (λ (ts : List Token). (j : Json) → value_in_range 127 ts ≢ Some (j, [])) c.in_ok-reader.ensures.ok (c.read_whole.ensures.err never))

pub returns-clause-ok : goal.returns-clause-ok
returns-clause-ok c =
    if_ok c.read_whole.result
    (λ _ has. (data_of has.read, parsed c.args.text.now has.read (subst (λ (ts : List Token). value_in_range 127 ts ≡ Some (has.read, [])) c.in_ok-reader.ensures.ok has.is_read), has.seen)) c.read_whole.ensures.ok
