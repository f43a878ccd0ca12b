use Rattle.std.proofs.Common.{◌≡◌, ◌-◌, ◌<◌, List, [], ◌∷◌, ◌++◌, length, true, false, is_some, Option, Some, None, refl, sym, ap, ap₂, ◌∙◌, arith, rules}
use Rattle.json.specs.Token.{Token}
use Rattle.json.specs.Json.{Json, Items, array, object, parse_map, after_end_array, read_key, items, members, value}
use Rattle.json.specs.Reads.{token_of}
use Rattle.wcv_listing.specs.declared.tape_node.TapeNode.TheVariants.{Object, EndObject, Array, EndArray}
use Rattle.json.proofs.Grammar.{left, left-parse_map, left_none, value_is, read_key-shorter, closed_array, read_key_is, items_fail, members_no_key, members_fail}
use Rattle.serde_json.specs.Read.{number_of}
use Rattle.wcv_listing.specs.Parsed.{in_range, value_in_range}
use Rattle.wcv_listing.proofs.Kept.{kept, nothing_read, array_read, object_read}
use Rattle.wcv_listing.proofs.Grown.{grown_refl}
use Rattle.wcv_listing.specs.Tape.{items_count}
use Rattle.wcv_listing.proofs.Turns.{none_more, and_more, grown_length, item_turn, member_turn, items_closed, members_closed}
use Rattle.wcv_listing.proofs.read.+read.Goals as goal

pub read_items-loop-nodes-init : goal.read_items-loop-nodes-init
read_items-loop-nodes-init t c = (length c.args.reader.now, omega arith, none_more _, grown_refl _ _, omega arith)

pub read_items-overflow_add-count : goal.read_items-overflow_add-count
read_items-overflow_add-count t c =
    let l = c.loop-nodes in
    let known = grown_length c.push.new.self.items c.args.reader.now l.nodes.items l.reader l.invariant.3 in
    record { fits = omega (arith, known, l.invariant.4, l.nodes.ok, l.nodes.small) }

pub read_items-loop-nodes-preserved : goal.read_items-loop-nodes-preserved
read_items-loop-nodes-preserved t c =
    let l = c.loop-nodes in
    let n = l.invariant.0 in
    let r = c.read_value.new.reader in
    let going : (after_end_array l.reader ≡ None) × (c.take_end_array.new.self ≡ l.reader) = grind arith in
    let less : length r < length l.reader = rw (← going.1) c.in_ok-read_value.ensures.shorter in
    let turn = item_turn c.args.depth n l.count c.push.new.self.items l.nodes.items c.read_value.new.nodes.items c.args.reader.now l.reader r l.invariant.1 l.invariant.2 going.0 l.invariant.3
    (rw (← going.1) c.in_ok-read_value.ensures.grown) (rw (← going.1) c.in_ok-read_value.ensures.ok) less in
    (n - 1, turn.0, turn.1, turn.2, omega (arith, less, l.invariant.4))

pub read_items-returns-in_err-read_value-clause-err : goal.read_items-returns-in_err-read_value-clause-err
read_items-returns-in_err-read_value-clause-err t c never =
    let l = c.loop-nodes in
    let going : (after_end_array l.reader ≡ None) × (c.take_end_array.new.self ≡ l.reader) = grind arith in
    let failed : value_in_range c.args.depth l.reader ≡ None = rw (← going.1) (grind arith) in
    let all : Option (Items × List Token) = items (value_in_range c.args.depth) (length c.args.reader.now) c.args.reader.now in
    left_none all (sym (left-parse_map items_count all) ∙ ap left (l.invariant.2 ∙ ap (λ x. and_more l.count (parse_map items_count x)) (items_fail (value_in_range c.args.depth) l.invariant.0 l.reader going.0 failed)))

pub read_items-returns-clause-grown : goal.read_items-returns-clause-grown
read_items-returns-clause-grown t c =
    let l = c.loop-nodes in
    let r = c.take_end_array.new.self in
    let closing : after_end_array l.reader ≡ Some r = grind arith in
    let opened : c.push.new.self.items ≡ c.args.nodes.now.items ++ Array 0 0 ∷ [] = c.in_ok-push.ensures.items in
    let full : c.push-2.new.self.items ≡ l.nodes.items ++ EndArray ∷ [] = c.in_ok-push-2.ensures.items in
    let at : c.len-at.result ≡ length c.args.nodes.now.items = grind arith in
    let after : c.len.result ≡ length c.push-2.new.self.items = grind arith in
    (items_closed c.args.depth l.invariant.0 l.count c.len-at.result c.len.result c.args.nodes.now.items c.push.new.self.items l.nodes.items c.push-2.new.self.items _ c.args.reader.now l.reader r
    opened l.invariant.3 (closed_array l.reader r closing) l.invariant.1 l.invariant.2 at full after refl).0

pub read_items-returns-clause-ok : goal.read_items-returns-clause-ok
read_items-returns-clause-ok t c =
    let l = c.loop-nodes in
    let r = c.take_end_array.new.self in
    let closing : after_end_array l.reader ≡ Some r = grind arith in
    let opened : c.push.new.self.items ≡ c.args.nodes.now.items ++ Array 0 0 ∷ [] = c.in_ok-push.ensures.items in
    let full : c.push-2.new.self.items ≡ l.nodes.items ++ EndArray ∷ [] = c.in_ok-push-2.ensures.items in
    let at : c.len-at.result ≡ length c.args.nodes.now.items = grind arith in
    let after : c.len.result ≡ length c.push-2.new.self.items = grind arith in
    (items_closed c.args.depth l.invariant.0 l.count c.len-at.result c.len.result c.args.nodes.now.items c.push.new.self.items l.nodes.items c.push-2.new.self.items _ c.args.reader.now l.reader r
    opened l.invariant.3 (closed_array l.reader r closing) l.invariant.1 l.invariant.2 at full after refl).1

pub read_members-loop-key-init : goal.read_members-loop-key-init
read_members-loop-key-init t c = (length c.args.reader.now, omega arith, refl, grown_refl _ _, omega arith)

pub read_members-returns-in_err-key-clause-err : goal.read_members-returns-in_err-key-clause-err
read_members-returns-in_err-key-clause-err t c never =
    let l = c.loop-key in
    left_none _ (l.invariant.2 ∙ ap left (members_no_key (value_in_range c.args.depth) l.invariant.0 l.reader c.in_err-key.ensures.value))

pub read_members-loop-key-preserved : goal.read_members-loop-key-preserved
read_members-loop-key-preserved t c =
    let l = c.loop-key in
    let n = l.invariant.0 in
    let k = c.in-Some.key in
    let s = c.next_key.new.self in
    let r = c.read_value.new.reader in
    let taken : read_key l.reader ≡ Some (Some k.now, s) = grind arith in
    let less = read_key-shorter l.reader (Some k.now) s taken in
    let lesser = c.in_ok-read_value.ensures.shorter in
    let turn = member_turn c.args.depth n c.push.new.self.items l.nodes.items c.push-in-Some.new.self.items c.read_value.new.nodes.items c.args.reader.now l.reader s r k l.invariant.1 l.invariant.2 taken l.invariant.3
    (search rules) c.in_ok-read_value.ensures.grown c.in_ok-read_value.ensures.ok lesser in
    (n - 1, turn.0, turn.1, turn.2, omega (arith, less, lesser, l.invariant.4))

pub read_members-returns-in_err-read_value-clause-err : goal.read_members-returns-in_err-read_value-clause-err
read_members-returns-in_err-read_value-clause-err t c never =
    let l = c.loop-key in
    let k = c.in-Some.key in
    let s = c.next_key.new.self in
    let taken : read_key l.reader ≡ Some (Some k.now, s) = grind arith in
    let failed : value_in_range c.args.depth s ≡ None = grind arith in
    left_none _ (l.invariant.2 ∙ ap left (members_fail (value_in_range c.args.depth) l.invariant.0 k.now l.reader s taken failed))

pub read_members-returns-clause-grown : goal.read_members-returns-clause-grown
read_members-returns-clause-grown t c =
    let l = c.loop-key in
    let r = c.next_key.new.self in
    let closing : read_key l.reader ≡ Some (None, r) = grind arith in
    let opened : c.push.new.self.items ≡ c.args.nodes.now.items ++ Object 0 ∷ [] = c.in_ok-push.ensures.items in
    let full : c.push-2.new.self.items ≡ l.nodes.items ++ EndObject ∷ [] = c.in_ok-push-3.ensures.items in
    let at : c.len-at.result ≡ length c.args.nodes.now.items = grind arith in
    let after : c.len.result ≡ length c.push-2.new.self.items = grind arith in
    (members_closed c.args.depth l.invariant.0 c.len-at.result c.len.result c.args.nodes.now.items c.push.new.self.items l.nodes.items c.push-2.new.self.items _ c.args.reader.now l.reader r
    opened l.invariant.3 (read_key_is l.reader None r closing) l.invariant.1 l.invariant.2 at full after refl).0

pub read_members-returns-clause-ok : goal.read_members-returns-clause-ok
read_members-returns-clause-ok t c =
    let l = c.loop-key in
    let r = c.next_key.new.self in
    let closing : read_key l.reader ≡ Some (None, r) = grind arith in
    let opened : c.push.new.self.items ≡ c.args.nodes.now.items ++ Object 0 ∷ [] = c.in_ok-push.ensures.items in
    let full : c.push-2.new.self.items ≡ l.nodes.items ++ EndObject ∷ [] = c.in_ok-push-3.ensures.items in
    let at : c.len-at.result ≡ length c.args.nodes.now.items = grind arith in
    let after : c.len.result ≡ length c.push-2.new.self.items = grind arith in
    (members_closed c.args.depth l.invariant.0 c.len-at.result c.len.result c.args.nodes.now.items c.push.new.self.items l.nodes.items c.push-2.new.self.items _ c.args.reader.now l.reader r
    opened l.invariant.3 (read_key_is l.reader None r closing) l.invariant.1 l.invariant.2 at full after refl).1

pub read_value-returns-in_err-token-clause-err : goal.read_value-returns-in_err-token-clause-err
read_value-returns-in_err-token-clause-err t c invalid =
    let empty : c.args.reader.now ≡ [] = grind arith in
    ap (value_in_range c.args.depth) empty ∙ nothing_read c.args.depth

pub read_behind-returns-then-depth-eq0-clause-err : goal.read_behind-returns-then-depth-eq0-clause-err
unfolding value
read_behind-returns-then-depth-eq0-clause-err t c never =
    let none : c.args.depth ≡ 0 = omega arith in
    ap₂ value_in_range none (ap (λ k. token_of k ∷ c.args.reader.now) c.in-BeginArray.is)

pub read_behind-returns-then-depth-eq0-2-clause-err : goal.read_behind-returns-then-depth-eq0-2-clause-err
unfolding value
read_behind-returns-then-depth-eq0-2-clause-err t c never =
    let none : c.args.depth ≡ 0 = omega arith in
    ap₂ value_in_range none (ap (λ k. token_of k ∷ c.args.reader.now) c.in-BeginObject.is)

pub read_behind-returns-in_err-read_items-in-BeginArray-clause-err : goal.read_behind-returns-in_err-read_items-in-BeginArray-clause-err
read_behind-returns-in_err-read_items-in-BeginArray-clause-err t c invalid =
    let opened = ap (value_in_range c.args.depth) (ap (λ k. token_of k ∷ c.args.reader.now) c.in-BeginArray.is) ∙ array_read c.args.depth c.args.reader.now (omega arith) in
    let failed : items (value_in_range (c.args.depth - 1)) (length c.args.reader.now) c.args.reader.now ≡ None = grind arith in
    opened ∙ ap (parse_map array) failed

pub read_behind-returns-in_ok-read_items-in-BeginArray-clause-ok : goal.read_behind-returns-in_ok-read_items-in-BeginArray-clause-ok
read_behind-returns-in_ok-read_items-in-BeginArray-clause-ok t c =
    let opened = ap (value_in_range c.args.depth) (ap (λ k. token_of k ∷ c.args.reader.now) c.in-BeginArray.is) ∙ array_read c.args.depth c.args.reader.now (omega arith) in
    ap left opened ∙ left-parse_map array _ ∙ c.in_ok-read_items-in-BeginArray.ensures.ok

pub read_behind-returns-in_err-read_members-in-BeginObject-clause-err : goal.read_behind-returns-in_err-read_members-in-BeginObject-clause-err
read_behind-returns-in_err-read_members-in-BeginObject-clause-err t c invalid =
    let opened = ap (value_in_range c.args.depth) (ap (λ k. token_of k ∷ c.args.reader.now) c.in-BeginObject.is) ∙ object_read c.args.depth c.args.reader.now (omega arith) in
    let failed : members (value_in_range (c.args.depth - 1)) (length c.args.reader.now) c.args.reader.now ≡ None = grind arith in
    opened ∙ ap (parse_map object) failed

pub read_behind-returns-in_ok-read_members-in-BeginObject-clause-ok : goal.read_behind-returns-in_ok-read_members-in-BeginObject-clause-ok
read_behind-returns-in_ok-read_members-in-BeginObject-clause-ok t c =
    let opened = ap (value_in_range c.args.depth) (ap (λ k. token_of k ∷ c.args.reader.now) c.in-BeginObject.is) ∙ object_read c.args.depth c.args.reader.now (omega arith) in
    ap left opened ∙ left-parse_map object _ ∙ c.in_ok-read_members-in-BeginObject.ensures.ok

pub read_behind-returns-in_ok-push-in-String-clause-ok : goal.read_behind-returns-in_ok-push-in-String-clause-ok
read_behind-returns-in_ok-push-in-String-clause-ok t c =
    let is : token_of c.args.token ∷ c.args.reader.now ≡ Token.string c.in-String.text.now ∷ c.args.reader.now = grind arith in
    ap left (ap (value_in_range c.args.depth) is ∙ ap (kept in_range) (value_is c.args.depth _))

pub read_behind-returns-in_ok-push-in-Bool-clause-ok : goal.read_behind-returns-in_ok-push-in-Bool-clause-ok
read_behind-returns-in_ok-push-in-Bool-clause-ok t c =
    let is : token_of c.args.token ∷ c.args.reader.now ≡ Token.boolean c.in-Bool.b ∷ c.args.reader.now = grind arith in
    ap left (ap (value_in_range c.args.depth) is ∙ ap (kept in_range) (value_is c.args.depth _))

pub read_behind-returns-in_ok-push-in-Null-clause-ok : goal.read_behind-returns-in_ok-push-in-Null-clause-ok
read_behind-returns-in_ok-push-in-Null-clause-ok t c =
    let is : token_of c.args.token ∷ c.args.reader.now ≡ Token.null ∷ c.args.reader.now = grind arith in
    ap left (ap (value_in_range c.args.depth) is ∙ ap (kept in_range) (value_is c.args.depth _))

pub read_behind-returns-in_ok-push-in-Number-clause-ok : goal.read_behind-returns-in_ok-push-in-Number-clause-ok
read_behind-returns-in_ok-push-in-Number-clause-ok t c =
    let is : token_of c.args.token ∷ c.args.reader.now ≡ Token.number c.in-Number.text.now ∷ c.args.reader.now = grind arith in
    let inside : is_some (number_of c.in-Number.text.now) ≡ true = grind arith in
    let passes : left (kept in_range (Some (Json.number c.in-Number.text.now, c.args.reader.now))) ≡ Some c.args.reader.now = rw inside refl in
    ap left (ap (value_in_range c.args.depth) is ∙ ap (kept in_range) (value_is c.args.depth _)) ∙ passes

pub read_behind-returns-then-not-is_number_in_range-clause-err : goal.read_behind-returns-then-not-is_number_in_range-clause-err
read_behind-returns-then-not-is_number_in_range-clause-err t c never =
    let is : token_of c.args.token ∷ c.args.reader.now ≡ Token.number c.in-Number.text.now ∷ c.args.reader.now = grind arith in
    let outside : is_some (number_of c.in-Number.text.now) ≡ false = grind arith in
    ap (value_in_range c.args.depth) is ∙ ap (kept in_range) (value_is c.args.depth _) ∙ rw outside refl

pub read_behind-returns-in-EndObject-clause-err : goal.read_behind-returns-in-EndObject-clause-err
read_behind-returns-in-EndObject-clause-err t c invalid =
    ap (kept in_range) (value_is c.args.depth (token_of c.args.token ∷ c.args.reader.now)) ∙ (grind arith)
