use Rattle.std.proofs.Common.{◌≡◌, [], ◌∷◌, refl, ap, ◌∙◌, arith}
use Rattle.json.specs.Json.{object, parse_map}
use Rattle.json.specs.Reads.{token_of}
use Rattle.json.specs.Token.{Token}
use Rattle.wcv_listing.specs.Parsed.{value_in_range}
use Rattle.wcv_listing.specs.Tape.{json_of}
use Rattle.wcv_listing.proofs.Grown.{if_ok}
use Rattle.wcv_listing.proofs.Kept.{nothing_read, object_read}
use Rattle.wcv_listing.proofs.Rooted.{no_object_read}
use Rattle.wcv_listing.proofs.root.read_root.Goals as goal

pub returns-in_default-clause-err : goal.returns-in_default-clause-err
returns-in_default-clause-err c invalid =
    let empty : c.args.reader.now ≡ [] = grind arith in
    ap (value_in_range 127) empty ∙ nothing_read 127

pub returns-in-BeginObject-clause-err : goal.returns-in-BeginObject-clause-err
returns-in-BeginObject-clause-err c never =
    let first : c.args.reader.now ≡ Token.begin_object ∷ c.next.new.self = grind arith in
    ap (value_in_range 127) first ∙ object_read 127 c.next.new.self (omega arith) ∙ ap (parse_map object) (c.read_members.ensures.err never)

pub returns-in-BeginObject-clause-ok : goal.returns-in-BeginObject-clause-ok
returns-in-BeginObject-clause-ok c =
    let first : c.args.reader.now ≡ Token.begin_object ∷ c.next.new.self = grind arith in
    let opened = ap (value_in_range 127) first ∙ object_read 127 c.next.new.self (omega arith) in
    if_ok c.read_members.result (λ _ has. record { read = object has.read; is_read = opened ∙ ap (parse_map object) has.is_read; seen = has.seen }) c.read_members.ensures.ok

pub returns-in_default-token : goal.returns-in_default-token
returns-in_default-token c =
    let j = json_of c.read_behind.new.self in
    let first : c.args.reader.now ≡ token_of c.in-Some.token ∷ c.next.new.self = grind arith in
    record {
      ok = if_ok c.read_behind.result
          (λ _ is_read. record {
            read = j;
            is_read = ap (value_in_range 127) first ∙ is_read;
            seen = no_object_read _ refl 127 c.in-Some.token c.next.new.self c.read_behind.new.reader j c.in_default-token.not-BeginObject is_read;
          }) c.read_behind.ensures.ok;
      err = λ never. ap (value_in_range 127) first ∙ c.read_behind.ensures.err never;
    }
