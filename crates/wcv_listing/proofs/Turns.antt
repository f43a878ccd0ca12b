-- One turn of the loops that read a tape, and their ends.
use Rattle.std.proofs.Common.{◌≡◌, ℕ, suc, ◌+◌, ◌-◌, ◌<◌, ◌≤◌, List, [], ◌∷◌, ◌++◌, length, drop, map, slice_set, Option, Some, None, refl, sym, ap, ap₂, ◌∙◌, subst, arith}
use Rattle.std.proofs.lemmas.List.{length-append, length-map}
use Rattle.std.specs.Borrow.{Bor}
use Rattle.json.specs.Token.{Token, begin_object, end_object, begin_array, end_array}
use Rattle.json.specs.Json.{Json, null, array, object, Items, no_items, item, parse_map, after_end_array, read_key, items, members, skip_value}
use Rattle.json.specs.Find.{as_array}
use Rattle.wcv_listing.specs.declared.tape_node.TapeNode.{TapeNode}
use Rattle.wcv_listing.specs.declared.tape_node.TapeNode.TheVariants.{Object, EndObject, Array, EndArray, Key}
use Rattle.json.proofs.Found.{one_reading, Some_inj}
use Rattle.json.proofs.Grammar.{left, left-parse_map, left_some, read_key-shorter, read_key_is, items_more, items_end, members_end, skip_member}
use Rattle.wcv_listing.specs.Grown.{node_token, Grown}
use Rattle.wcv_listing.specs.Tape.{or_else, found, value_here, items_count, CountsAt}
use Rattle.wcv_listing.proofs.Grown.{grown_trans, grown_push, grown_close}
use Rattle.wcv_listing.specs.Parsed.{value_in_range}
use Rattle.wcv_listing.proofs.Kept.{value_is_in_range, array_read, object_read}

-- how many items are left, and what stands behind them
abbrev pub items_left : ℕ → ℕ → List Token → Option (ℕ × List Token)
items_left d n ts = parse_map items_count (items (value_in_range d) n ts)

-- so many more
abbrev pub and_more : ℕ → Option (ℕ × List Token) → Option (ℕ × List Token)
and_more count r = parse_map (λ k. count + k) r

-- what stands behind the members that are left
abbrev pub members_left : ℕ → ℕ → List Token → Option (List Token)
members_left d n ts = left (members (value_in_range d) n ts)

pub none_more : (r : Option (ℕ × List Token)) → r ≡ and_more 0 r
none_more None = refl
none_more (Some p) = let same : p.0 ≡ 0 + p.0 = omega arith in ap (λ k. Some (k, p.1)) same

one_more : (count : ℕ) (j : Json) (r : Option (Items × List Token)) → and_more count (parse_map items_count (parse_map (item j) r)) ≡ and_more (count + 1) (parse_map items_count r)
one_more count j None = refl
one_more count j (Some p) = let next : count + suc (items_count p.0) ≡ count + 1 + items_count p.0 = omega arith in ap (λ k. Some (k, p.1)) next

range_skip : (d : ℕ) (ts r : List Token) → left (value_in_range d ts) ≡ Some r → skip_value d ts ≡ Some r
range_skip d ts r h = let j = left_some (value_in_range d ts) r h in ap left (value_is_in_range d ts r j.0 j.1).0

read_whole : (d : ℕ) (ts r : List Token) (js : Items) → items (value_in_range d) (length ts) ts ≡ Some (js, r) → value_in_range (suc d) (begin_array ∷ ts) ≡ Some (array js, r)
read_whole d ts r js h =
    let less : suc d - 1 ≡ d = omega arith in
    array_read (suc d) ts (omega arith) ∙ ap (λ k. parse_map array (items (value_in_range k) (length ts) ts)) less ∙ ap (parse_map array) h

array_passed : (d : ℕ) (ts r : List Token) (js : Items) → items (value_in_range d) (length ts) ts ≡ Some (js, r) → skip_value (suc d) (begin_array ∷ ts) ≡ Some r
array_passed d ts r js h = range_skip (suc d) _ r (ap left (read_whole d ts r js h))

-- an array that was read has the items that were read
array_counted : (d : ℕ) (ts r : List Token) (js : Items) → items (value_in_range d) (length ts) ts ≡ Some (js, r) → (all : List Token) (i : ℕ) → drop i all ≡ begin_array ∷ ts → CountsAt all i (items_count js)
array_counted d ts r js h all i here ks rest there =
    let whole = (value_is_in_range (suc d) _ r (array js) (read_whole d ts r js h)).0 in
    let same = one_reading (suc d) 127 (begin_array ∷ ts) (array js, r) (array ks, rest) whole (ap value_here (sym here) ∙ there) in
    ap (λ o. items_count (or_else no_items (as_array (found null o)))) same

object_passed : (d : ℕ) (ts r : List Token) → members_left d (length ts) ts ≡ Some r → skip_value (suc d) (begin_object ∷ ts) ≡ Some r
object_passed d ts r h =
    let less : suc d - 1 ≡ d = omega arith in
    range_skip (suc d) _ r (ap left (object_read (suc d) ts (omega arith)) ∙ left-parse_map object _ ∙ ap (λ k. members_left k (length ts) ts) less ∙ h)

-- as many nodes come as tokens go
pub grown_length : (old : List TapeNode) (left : List Token) (new : List TapeNode) (rest : List Token) → Grown old left new rest → length new + length rest ≡ length old + length left
grown_length old left new rest g =
    omega (arith, ap length g.same, length-append (map node_token new) rest, length-append (map node_token old) left, length-map new node_token, length-map old node_token)

pub item_turn : (d n count : ℕ) (opened nodes new : List TapeNode) (first now r : List Token) → length now ≤ n → items_left d (length first) first ≡ and_more count (items_left d n now) → after_end_array now ≡ None
    → Grown opened first nodes now → Grown nodes now new r → left (value_in_range d now) ≡ Some r → length r < length now
    → (length r ≤ n - 1) × (items_left d (length first) first ≡ and_more (count + 1) (items_left d (n - 1) r)) × Grown opened first new r
item_turn d n count opened nodes new first now r le so_far going g built passed less =
    let j = left_some (value_in_range d now) r passed in
    let next = items_more (value_in_range d) n now r j.0 (omega (arith, less, le)) going j.1 in
    (omega (arith, less, le), so_far ∙ ap (λ x. and_more count (parse_map items_count x)) next ∙ one_more count j.0 (items (value_in_range d) (n - 1) r), grown_trans opened first nodes now new r g built)

pub member_turn : (d n : ℕ) (opened nodes named new : List TapeNode) (first now s r : List Token) (k : Bor (List ℕ)) → length now ≤ n → members_left d (length first) first ≡ members_left d n now
    → read_key now ≡ Some (Some k.now, s) → Grown opened first nodes now → named ≡ nodes ++ Key k ∷ [] → Grown named s new r → left (value_in_range d s) ≡ Some r → length r < length s
    → (length r ≤ n - 1) × (members_left d (length first) first ≡ members_left d (n - 1) r) × Grown opened first new r
member_turn d n opened nodes named new first now s r k le so_far taken g pushed built passed lesser =
    let less = read_key-shorter now (Some k.now) s taken in
    let one = grown_push nodes (Key k) named now s pushed (read_key_is now (Some k.now) s taken) (λ all i. tt) in
    (omega (arith, less, lesser, le), so_far ∙ skip_member (value_in_range d) n now s r k.now (omega (arith, less, le)) taken passed, grown_trans opened first nodes now new r g (grown_trans nodes now named s new r one built))

-- the items that were counted
counted : (count : ℕ) (read : Option (Items × List Token)) (r : List Token) → parse_map items_count read ≡ Some (count, r) → (js : Items) × (read ≡ Some (js, r)) × (items_count js ≡ count)
counted count None r e = absurd (cc)
counted count (Some p) r e = let same = Some_inj _ _ e in (p.0, ap (λ z. Some (p.0, z.1)) same, ap (λ z. z.0) same)

pub items_closed : (d n count at after : ℕ) (old opened nodes full final : List TapeNode) (first now r : List Token) → opened ≡ old ++ Array 0 0 ∷ [] → Grown opened first nodes now → now ≡ end_array ∷ r → length now ≤ n
    → items_left d (length first) first ≡ and_more count (items_left d n now) → at ≡ length old → full ≡ nodes ++ EndArray ∷ [] → after ≡ length full → final ≡ slice_set full at (Array after count)
    → Grown old (begin_array ∷ first) final r × (left (items (value_in_range d) (length first) first) ≡ Some r)
items_closed d n count at after old opened nodes full final first now r e g closing le so_far a pushed b made =
    let none : and_more count (Some (0, r)) ≡ Some (count, r) = let same : count + 0 ≡ count = omega arith in ap (λ k. Some (k, r)) same in
    let ended = so_far ∙ ap (λ x. and_more count (parse_map items_count x)) (items_end (value_in_range d) n now r le (ap after_end_array closing)) ∙ none in
    let read = counted count (items (value_in_range d) (length first) first) r ended in
    let all = grown_trans opened first nodes now full r g (grown_push nodes EndArray full now r pushed closing (λ all i. tt)) in (
      subst (λ x. Grown old (begin_array ∷ first) x r) (sym (made ∙ ap₂ (λ i k. slice_set full i (Array k count)) a b))
          (grown_close (Array 0 0) (Array (length full) count) begin_array refl refl old opened first full r (suc d) e all (array_passed d first r read.0 read.1)
          (λ all here passes. (passes, subst (CountsAt all (length old)) read.2 (array_counted d first r read.0 read.1 all (length old) here)))),
      ap left read.1,
    )

pub members_closed : (d n at after : ℕ) (old opened nodes full final : List TapeNode) (first now r : List Token) → opened ≡ old ++ Object 0 ∷ [] → Grown opened first nodes now → now ≡ end_object ∷ r → length now ≤ n
    → members_left d (length first) first ≡ members_left d n now → at ≡ length old → full ≡ nodes ++ EndObject ∷ [] → after ≡ length full → final ≡ slice_set full at (Object after)
    → Grown old (begin_object ∷ first) final r × (members_left d (length first) first ≡ Some r)
members_closed d n at after old opened nodes full final first now r e g closing le so_far a pushed b made =
    let skipped = so_far ∙ ap left (members_end (value_in_range d) n now r le (ap read_key closing)) in
    let all = grown_trans opened first nodes now full r g (grown_push nodes EndObject full now r pushed closing (λ all i. tt)) in (
      subst (λ x. Grown old (begin_object ∷ first) x r) (sym (made ∙ ap₂ (λ i k. slice_set full i (Object k)) a b))
          (grown_close (Object 0) (Object (length full)) begin_object refl refl old opened first full r (suc d) e all (object_passed d first r skipped) (λ all here passes. passes)),
      skipped,
    )
