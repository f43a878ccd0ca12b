-- What stands at a place of a tape, and what stands behind it.
use Rattle.std.proofs.Common.{◌≡◌, ℕ, ◌+◌, ◌<◌, ◌≤◌, List, [], ◌∷◌, ◌++◌, length, drop, map, get_or, true, false, is_some, Option, Some, None, refl, sym, ap, ap₂, ◌∙◌, subst, arith, append_assoc, append-nil, inl, inr, length-append, lt_of_not-le}
use Rattle.std.proofs.lemmas.List.{append_cancel_right, drop_all, drop_more, get_or-map, get_or_default, drop-append-le, length-drop, length-map}
use Rattle.std.proofs.lemmas.Bool.{cases_lt}
use Rattle.std.specs.Prelude.{◌⊎◌}
use Rattle.json.specs.Token.{Token, begin_array, begin_object, end_array, key}
use Rattle.json.specs.Json.{Json, null, boolean, number, string, array, object, Items, no_items, item, no_members, member, after_end_array, value}
use Rattle.json.specs.Find.{as_array, as_object}
use Rattle.json.specs.Tree.{json_tokens, items_tokens, members_tokens, depth}
use Rattle.json.specs.Tape.{Passes}
use Rattle.wcv_listing.specs.Grown.{node_token, Grown}
use Rattle.wcv_listing.specs.Grown as growing
use Rattle.wcv_listing.specs.declared.tape_node.TapeNode.{TapeNode}
use Rattle.wcv_listing.specs.declared.tape_node.TapeNode.TheVariants.{Object, EndObject, Array, EndArray, Key, String, Number, Bool, Null}
use Rattle.json.proofs.Found.{one_reading, Some_inj, IsKey}
use Rattle.json.proofs.Grammar.{left, value_is, left_some, skip_value-shorter}
use Rattle.json.proofs.Nesting.{value-depth}
use Rattle.json.proofs.Printed.Trees.{value-json_tokens}
use Rattle.json.proofs.Unique.Spelling.{value-json_tokens_back}
use Rattle.wcv_listing.specs.Tape.{or_else, found, value_here, json_of, items_of, members_of, array_count, EndsAt, CountsAt, LinkAt, Linked}

pub stands : (ts : List Token) → is_some (value_here ts) ≡ true → (r : List Token) × (value_here ts ≡ Some (json_of ts, r))
stands ts h = go (value_here ts) refl h
  where
    go : (o : Option (Json × List Token)) → value_here ts ≡ o → is_some o ≡ true → (r : List Token) × (value_here ts ≡ Some (json_of ts, r))
    go None e h = absurd (cc)
    go (Some p) e h = (p.1, e ∙ ap (λ o. Some (found null o, p.1)) (sym e))

-- the tokens are those of what stands there
pub spelled : (ts : List Token) → is_some (value_here ts) ≡ true → (r : List Token) × (ts ≡ json_tokens (json_of ts) ++ r) × (depth (json_of ts) ≤ 127)
spelled ts h = let s = stands ts h in (s.0, value-json_tokens_back 127 ts s.0 _ s.1, value-depth 127 ts s.0 _ s.1)

pub read_back : (ts r : List Token) (j : Json) → ts ≡ json_tokens j ++ r → depth j ≤ 127 → value_here ts ≡ Some (j, r)
read_back ts r j e h = ap value_here e ∙ value-json_tokens j 127 r h

pub not_empty : is_some (value_here []) ≡ true → ⊥
not_empty h = let none : is_some (value_here []) ≡ false = ap is_some (value_is 127 []) in absurd (cc)

pub within : (all : List Token) (i : ℕ) → is_some (value_here (drop i all)) ≡ true → i < length all
within all i h = lt_of_not-le (λ past. not_empty (subst (λ ts. is_some (value_here ts) ≡ true) (drop_all i all past) h))

pub shorter : (ts r : List Token) (j : Json) → value_here ts ≡ Some (j, r) → length r < length ts
shorter ts r j e = skip_value-shorter 127 ts r (ap left e)

-- ---- the nodes of a tape

module _ (ns : List TapeNode) (i : ℕ) (n : TapeNode) (toks : List Token) (all : map node_token ns ≡ toks) (h : i < length ns) (is : n ≡ get_or ns i n) where
  pub node_there : drop i toks ≡ node_token n ∷ drop (i + 1) toks
  node_there =
      sym (ap (drop i) all) ∙ drop_more (map node_token ns) i (node_token n) (omega (arith, length-map ns node_token))
      ∙ ap₂ (λ t us. t ∷ us) (get_or-map node_token ns i n (node_token n) h ∙ ap node_token (sym is)) (ap (drop (i + 1)) all)

  linked_at : Linked (map node_token ns) ns → LinkAt toks i n
  linked_at links = subst (λ all. LinkAt all i n) all (subst (LinkAt (map node_token ns) i) (get_or_default ns i Null n h ∙ sym is) (links i h))

  passed_by : (a : ℕ) → EndsAt toks i a → is_some (value_here (drop i toks)) ≡ true → value_here (drop i toks) ≡ Some (json_of (drop i toks), drop a toks)
  passed_by a end there = let s = stands (drop i toks) there in s.1 ∙ ap (λ x. Some (json_of (drop i toks), x)) (end _ s.0 s.1)

  pub object_passed : (a : ℕ) → Linked (map node_token ns) ns → n ≡ Object a → is_some (value_here (drop i toks)) ≡ true → value_here (drop i toks) ≡ Some (json_of (drop i toks), drop a toks)
  object_passed a links e there = passed_by a (subst (LinkAt toks i) e (linked_at links)) there

  pub array_passed : (a k : ℕ) → Linked (map node_token ns) ns → n ≡ Array a k → is_some (value_here (drop i toks)) ≡ true → value_here (drop i toks) ≡ Some (json_of (drop i toks), drop a toks)
  array_passed a k links e there = passed_by a (subst (LinkAt toks i) e (linked_at links)).0 there

  -- the array has as many items as its node says
  pub array_counted : (a k : ℕ) (js : Items) → Linked (map node_token ns) ns → n ≡ Array a k → is_some (value_here (drop i toks)) ≡ true → json_of (drop i toks) ≡ array js → k ≡ array_count (json_of (drop i toks))
  array_counted a k js links e there is_array =
      let s = stands (drop i toks) there in
      (subst (LinkAt toks i) e (linked_at links)).1 js s.0 (s.1 ∙ ap (λ j. Some (j, s.0)) is_array) ∙ ap array_count (sym is_array)

-- ---- the next item

abbrev NextItem : List Token → Type 0
NextItem ts = (r : List Token) × (value_here ts ≡ Some (json_of ts, r)) × (items_of ts ≡ item (json_of ts) (items_of r)) × (is_some (value_here (begin_array ∷ r)) ≡ true)

item_of : (ts : List Token) → after_end_array ts ≡ None → (j : Json) → json_of (begin_array ∷ ts) ≡ j → (r : List Token) → begin_array ∷ ts ≡ json_tokens j ++ r → depth j ≤ 127 → NextItem ts
item_of ts going null e r s d = absurd (cc)
item_of ts going (boolean b) e r s d = absurd (cc)
item_of ts going (number x) e r s d = absurd (cc)
item_of ts going (string x) e r s d = absurd (cc)
item_of ts going (object ms) e r s d = absurd (cc)
item_of ts going (array no_items) e r s d =
    let closed : ts ≡ end_array ∷ r = cc in
    let some = ap after_end_array closed in
    absurd (cc)
item_of ts going (array (item j js)) e r s d =
    let tail = items_tokens js ++ r in
    let t : ts ≡ (json_tokens j ++ items_tokens js) ++ r = cc in
    let here = read_back ts tail j (t ∙ append_assoc (json_tokens j) (items_tokens js) r) (omega (arith, d)) in
    let next = read_back (begin_array ∷ tail) r (array js) refl (omega (arith, d)) in (
      tail,
      here ∙ ap (λ x. Some (x, tail)) (sym (ap (found null) here)),
      ap (λ x. or_else no_items (as_array x)) e ∙ ap₂ item (sym (ap (found null) here)) (sym (ap (λ o. or_else no_items (as_array (found null o))) next)),
      ap is_some next,
    )

pub next_item : (ts : List Token) → is_some (value_here (begin_array ∷ ts)) ≡ true → after_end_array ts ≡ None → NextItem ts
next_item ts h going = let s = spelled (begin_array ∷ ts) h in item_of ts going _ refl s.0 s.1 s.2

-- the next item, and the items behind the place where it ends
pub item_there : (ts r : List Token) → is_some (value_here (begin_array ∷ ts)) ≡ true → after_end_array ts ≡ None → value_here ts ≡ Some (json_of ts, r)
    → (items_of ts ≡ item (json_of ts) (items_of r)) × (is_some (value_here (begin_array ∷ r)) ≡ true)
item_there ts r h going e =
    let n = next_item ts h going in
    let same : n.0 ≡ r = ap (λ z. z.1) (Some_inj _ _ (sym n.1 ∙ e)) in
    (n.2 ∙ ap (λ x. item (json_of ts) (items_of x)) same, subst (λ x. is_some (value_here (begin_array ∷ x)) ≡ true) same n.3)

pub no_item : (ts : List Token) → items_of (end_array ∷ ts) ≡ no_items
no_item ts = ap (λ o. or_else no_items (as_array (found null o))) (read_back (begin_array ∷ end_array ∷ ts) ts (array no_items) refl (omega arith))

pub items_within : (all : List Token) (i : ℕ) → is_some (value_here (begin_array ∷ drop i all)) ≡ true → i < length all
items_within all i h =
    lt_of_not-le (λ past. (let n = next_item [] (subst (λ ts. is_some (value_here (begin_array ∷ ts)) ≡ true) (drop_all i all past) h) refl in not_empty (ap is_some n.1)))

-- ---- the next member

abbrev NextMember : List ℕ → List Token → Type 0
NextMember k ts = (r : List Token) × (value_here ts ≡ Some (json_of ts, r)) × (members_of (key k ∷ ts) ≡ member k (json_of ts) (members_of r)) × (is_some (value_here (begin_object ∷ r)) ≡ true)

member_of : (k : List ℕ) (ts : List Token) (j : Json) → json_of (begin_object ∷ key k ∷ ts) ≡ j → (r : List Token) → begin_object ∷ key k ∷ ts ≡ json_tokens j ++ r → depth j ≤ 127 → NextMember k ts
member_of k ts null e r s d = absurd (cc)
member_of k ts (boolean b) e r s d = absurd (cc)
member_of k ts (number x) e r s d = absurd (cc)
member_of k ts (string x) e r s d = absurd (cc)
member_of k ts (array js) e r s d = absurd (cc)
member_of k ts (object no_members) e r s d = absurd (cc)
member_of k ts (object (member l j ms)) e r s d =
    let tail = members_tokens ms ++ r in
    let t : ts ≡ (json_tokens j ++ members_tokens ms) ++ r = cc in
    let same : l ≡ k = cc in
    let here = read_back ts tail j (t ∙ append_assoc (json_tokens j) (members_tokens ms) r) (omega (arith, d)) in
    let next = read_back (begin_object ∷ tail) r (object ms) refl (omega (arith, d)) in (
      tail,
      here ∙ ap (λ x. Some (x, tail)) (sym (ap (found null) here)),
      ap (λ x. or_else no_members (as_object x)) e ∙ ap (λ x. member x j ms) same ∙ ap₂ (member k) (sym (ap (found null) here)) (sym (ap (λ o. or_else no_members (as_object (found null o))) next)),
      ap is_some next,
    )

pub next_member : (k : List ℕ) (ts : List Token) → is_some (value_here (begin_object ∷ key k ∷ ts)) ≡ true → NextMember k ts
next_member k ts h = let s = spelled (begin_object ∷ key k ∷ ts) h in member_of k ts _ refl s.0 s.1 s.2

pub member_there : (k : List ℕ) (ts r : List Token) → is_some (value_here (begin_object ∷ key k ∷ ts)) ≡ true → value_here ts ≡ Some (json_of ts, r)
    → (members_of (key k ∷ ts) ≡ member k (json_of ts) (members_of r)) × (is_some (value_here (begin_object ∷ r)) ≡ true)
member_there k ts r h e =
    let n = next_member k ts h in
    let same : n.0 ≡ r = ap (λ z. z.1) (Some_inj _ _ (sym n.1 ∙ e)) in
    (n.2 ∙ ap (λ x. member k (json_of ts) (members_of x)) same, subst (λ x. is_some (value_here (begin_object ∷ x)) ≡ true) same n.3)

last_of : (t : Token) (ts : List Token) → (IsKey t → ⊥) → (j : Json) → json_of (begin_object ∷ t ∷ ts) ≡ j → (r : List Token) → begin_object ∷ t ∷ ts ≡ json_tokens j ++ r → members_of (t ∷ ts) ≡ no_members
last_of t ts other null e r s = absurd (cc)
last_of t ts other (boolean b) e r s = absurd (cc)
last_of t ts other (number x) e r s = absurd (cc)
last_of t ts other (string x) e r s = absurd (cc)
last_of t ts other (array js) e r s = absurd (cc)
last_of t ts other (object no_members) e r s = ap (λ x. or_else no_members (as_object x)) e
last_of t ts other (object (member l j ms)) e r s = let same : key l ≡ t = cc in absurd (other (subst IsKey same tt))

pub no_member : (t : Token) (ts : List Token) → (IsKey t → ⊥) → is_some (value_here (begin_object ∷ t ∷ ts)) ≡ true → members_of (t ∷ ts) ≡ no_members
no_member t ts other h = let s = spelled (begin_object ∷ t ∷ ts) h in last_of t ts other _ refl s.0 s.1

alone : (j : Json) (r : List Token) → begin_object ∷ [] ≡ json_tokens j ++ r → ⊥
alone null r s = absurd (cc)
alone (boolean b) r s = absurd (cc)
alone (number x) r s = absurd (cc)
alone (string x) r s = absurd (cc)
alone (array js) r s = absurd (cc)
alone (object no_members) r s = absurd (cc)
alone (object (member l j ms)) r s = absurd (cc)

pub members_within : (all : List Token) (i : ℕ) → is_some (value_here (begin_object ∷ drop i all)) ≡ true → i < length all
members_within all i h =
    lt_of_not-le (λ past. (let s = spelled (begin_object ∷ []) (subst (λ ts. is_some (value_here (begin_object ∷ ts)) ≡ true) (drop_all i all past) h) in alone _ s.0 s.1))

-- ---- what was read stands alone

by_link : (all : List Token) (i end d : ℕ) (j : Json) (rest : List Token) → Passes all i end → value d (drop i all) ≡ Some (j, rest) → rest ≡ drop end all
by_link all i end d j rest link e =
    let other = left_some (value link.0 (drop i all)) (drop end all) link.1 in
    ap (λ z. z.1) (Some_inj _ _ (one_reading d link.0 (drop i all) _ _ e other.1))

module _ (toks rest : List Token) where
  -- what stands among the first tokens stands there among all
  with_rest : (i : ℕ) (j : Json) (r : List Token) → i < length toks → value_here (drop i toks) ≡ Some (j, r) → value_here (drop i (toks ++ rest)) ≡ Some (j, r ++ rest)
  with_rest i j r h e =
      let whole : drop i (toks ++ rest) ≡ json_tokens j ++ (r ++ rest) =
      drop-append-le i toks rest (omega arith) ∙ ap (λ x. x ++ rest) (value-json_tokens_back 127 (drop i toks) r j e) ∙ append_assoc (json_tokens j) r rest in
      read_back _ _ j whole (value-depth 127 (drop i toks) r j e)

  ends : (i a : ℕ) → i < length toks → Passes (toks ++ rest) i a → EndsAt toks i a
  ends i a h passes j r e =
      let same = by_link (toks ++ rest) i a 127 j (r ++ rest) passes (with_rest i j r h e) in
      go same (cases_lt (length toks) a)
    where
      go : r ++ rest ≡ drop a (toks ++ rest) → (length toks < a) ⊎ (a ≤ length toks) → r ≡ drop a toks
      go same (inl past) =
          let long = ap length same in
          absurd (omega (arith, long, length-append r rest, length-drop a (toks ++ rest), length-append toks rest, passes.2, passes.3))
      go same (inr le) = append_cancel_right r (drop a toks) rest (same ∙ drop-append-le a toks rest le)

  counts : (i k : ℕ) → i < length toks → CountsAt (toks ++ rest) i k → CountsAt toks i k
  counts i k h counted js r e = counted js (r ++ rest) (with_rest i (array js) r h e)

  link : (n : TapeNode) (i : ℕ) → i < length toks → growing.LinkAt (toks ++ rest) i n → LinkAt toks i n
  link (Object a) i h l = ends i a h l
  link EndObject i h l = tt
  link (Array a k) i h l = (ends i a h l.0, counts i k h l.1)
  link EndArray i h l = tt
  link (Key s) i h l = tt
  link (String s) i h l = tt
  link (Number s) i h l = tt
  link (Bool b) i h l = tt
  link Null i h l = tt

pub linked_alone : (nodes : List TapeNode) (old rest : List Token) → Grown [] old nodes rest → Linked (map node_token nodes) nodes
linked_alone nodes old rest g i h =
    link (map node_token nodes) rest (get_or nodes i Null) i (omega (arith, length-map nodes node_token))
    (subst (λ all. growing.LinkAt all i (get_or nodes i Null)) (sym g.same) (g.linked i (omega arith) h))

pub value_alone : (nodes : List TapeNode) (old rest : List Token) (j : Json) (d : ℕ) → d ≤ 127 → Grown [] old nodes rest → value d old ≡ Some (j, rest) → value_here (map node_token nodes) ≡ Some (j, [])
value_alone nodes old rest j d le g e =
    let same : map node_token nodes ≡ json_tokens j = append_cancel_right _ _ rest (g.same ∙ value-json_tokens_back d old rest j e) in
    read_back (map node_token nodes) [] j (same ∙ sym (append-nil (json_tokens j))) (omega (arith, value-depth d old rest j e))
