use Rattle.std.proofs.Common.{◌≡◌, [], ◌∷◌, option_map, refl, sym, ap, ◌∙◌, arith}
use Rattle.json.specs.Json.{array, parse_map}
use Rattle.json.specs.Reads.{token_of}
use Rattle.json.specs.Token.{Token}
use Rattle.wcv_listing.specs.Listing.{entries_from}
use Rattle.wcv_listing.specs.Parsed.{data_of, value_in_range}
use Rattle.wcv_listing.specs.Tape.{json_of}
use Rattle.wcv_listing.proofs.Grown.{if_ok}
use Rattle.wcv_listing.proofs.Kept.{nothing_read, array_read}
use Rattle.wcv_listing.proofs.Rooted.{no_list_read, items_put}
use Rattle.wcv_listing.proofs.root.read_list_of_items.Goals as goal

pub returns-in_default-clause-err : goal.returns-in_default-clause-err
returns-in_default-clause-err c invalid =
    let empty : c.args.reader.now ≡ [] = grind arith in
    ap (value_in_range 126) empty ∙ nothing_read 126

pub returns-in-BeginArray-clause-err : goal.returns-in-BeginArray-clause-err
returns-in-BeginArray-clause-err c never =
    let first : c.args.reader.now ≡ Token.begin_array ∷ c.next.new.self = grind arith in
    ap (value_in_range 126) first ∙ array_read 126 c.next.new.self (omega arith) ∙ ap (parse_map array) (c.read_items.ensures.err never)

pub returns-in-BeginArray-clause-ok : goal.returns-in-BeginArray-clause-ok
returns-in-BeginArray-clause-ok c =
    let first : c.args.reader.now ≡ Token.begin_array ∷ c.next.new.self = grind arith in
    let opened = ap (value_in_range 126) first ∙ array_read 126 c.next.new.self (omega arith) in
    if_ok c.read_items.result
    (λ _ has. record {
      read = array has.read;
      is_read = opened ∙ ap (parse_map array) has.is_read;
      seen = λ ms old. items_put c.args.seen.now c.read_items.new.seen (data_of (array has.read)) ms old has.keeps.version has.keeps.end has.keeps.features has.made has.keeps.other;
    }) c.read_items.ensures.ok

pub returns-in_default-token : goal.returns-in_default-token
returns-in_default-token c =
    let j = json_of c.read_behind.new.self in
    let first : c.args.reader.now ≡ token_of c.in-Some.token ∷ c.next.new.self = grind arith in
    record {
      ok = if_ok c.read_behind.result
          (λ _ is_read. record {
            read = j;
            is_read = ap (value_in_range 126) first ∙ is_read;
            seen = λ ms old. items_put c.args.seen.now _ (data_of j) ms old refl refl refl
                (sym (ap (option_map (entries_from 0)) (no_list_read 126 c.in-Some.token c.next.new.self c.read_behind.new.reader j c.in_default-token.not-BeginArray is_read))) refl;
          }) c.read_behind.ensures.ok;
      shorter = if_ok c.read_behind.result (λ _ less. rw first (omega (arith, less))) c.read_behind.ensures.shorter;
      err = λ never. ap (value_in_range 126) first ∙ c.read_behind.ensures.err never;
    }
