-- The only member of an object.
use Rattle.std.proofs.Common.{◌≡◌, List, ℕ, [], ◌∷◌, true, false, true≢false, ◌&&◌, ◌||◌, Equal, nat_cmp, Option, Some, None, option_map, refl, sym, ap, ◌∙◌, subst}
use Rattle.std.proofs.Math.Bool.{or-false}
use Rattle.std.proofs.lemmas.Map.Text.{is_eq-slice_cmp}
use Rattle.std.proofs.lemmas.Slice.Eq.{bytes_eq-Decides}
use Rattle.std.specs.Cmp.{Equal-is}
use Rattle.std.specs.Cmp.Lexicographic.{slice_cmp}
use Rattle.std.specs.Ordering.{match_ordering}
use Rattle.json.specs.Json as json
use Rattle.json.specs.Find as json_find
use Rattle.serde_json.proofs.Views.{get_member-put}
use Rattle.serde_json.specs.Data.{Num, Data, Members, no_members, member, put}
use Rattle.serde_json.specs.Find.{get, get_member}
use Rattle.serde_json.specs.Read.{number_of}
use Rattle.wcv_core.proofs.Names.{and_left, and_right}
use Rattle.wcv_listing.specs.Fields.{only_keys, has_only, sole_of, sole}
use Rattle.wcv_listing.specs.Parsed.{data_of, members, number_data}
use Rattle.wcv_listing.proofs.Seen.{keys_among, only_keys_data}

same_text : (k : List ℕ) → slice_cmp nat_cmp k k ≡ Equal
same_text k = (Equal-is _).0 (is_eq-slice_cmp k k ∙ (bytes_eq-Decides k k).1 refl)

put_over : (k : List ℕ) (d e : Data) → put k d (member k e no_members) ≡ member k d no_members
put_over k d e = ap (λ o. match_ordering o (member k d (member k e no_members)) (member k d no_members) (member k e (put k d no_members))) (same_text k)

-- what goes in over the only member leaves one
one_left : (k : List ℕ) (ms : json.Members) (e : Data) → keys_among (k ∷ []) ms ≡ true → (f : Data) × (members ms (member k e no_members) ≡ member k f no_members)
one_left k json.no_members e h = (e, refl)
one_left k (json.member l j ms) e h =
    let same : l ≡ k = (bytes_eq-Decides l k).0 (sym (or-false _) ∙ and_left _ _ h) in
    let rest = one_left k ms (data_of j) (and_right _ _ h) in
    (rest.0, ap (λ (found : Members). members ms found) (ap (λ x. put x (data_of j) (member k e no_members)) same ∙ put_over k (data_of j) e) ∙ rest.1)

pub sole_found : (k : List ℕ) (j : json.Json) (ms : json.Members) (o : Option Data) → has_only (k ∷ []) (data_of (json.object (json.member k j ms))) ≡ true
    → o ≡ get k (data_of (json.object (json.member k j ms))) → option_map (λ e. (k, e)) o ≡ sole (data_of (json.object (json.member k j ms)))
sole_found k j ms o h e =
    let among : keys_among (k ∷ []) (json.member k j ms) ≡ true = sym (only_keys_data (k ∷ []) (json.member k j ms)) ∙ h in
    let one = one_left k ms (data_of j) (and_right _ _ among) in
    ap (option_map (λ (x : Data). (k, x))) (e ∙ ap (get_member k) one.1 ∙ get_member-put k one.0 no_members) ∙ sym (ap sole_of one.1)

-- the first key is the only one
pub sole_is : (whole : json.Json) (all ms : json.Members) (k : List ℕ) (j : json.Json) (o : Option Data) → whole ≡ json.object all → all ≡ json.member k j ms → has_only (k ∷ []) (data_of whole) ≡ true
    → o ≡ get k (data_of whole) → option_map (λ e. (k, e)) o ≡ sole (data_of whole)
sole_is whole all ms k j o is first =
    subst (λ w. has_only (k ∷ []) (data_of w) ≡ true → o ≡ get k (data_of w) → option_map (λ e. (k, e)) o ≡ sole (data_of w)) (sym (is ∙ ap json.object first)) (sole_found k j ms o)

-- no other member stands beside the first
pub one_sole : (whole : json.Json) (all ms : json.Members) (k : List ℕ) (j : json.Json) → whole ≡ json.object all → all ≡ json.member k j ms → ms ≡ json.no_members → Some (k, data_of j) ≡ sole (data_of whole)
one_sole whole all ms k j is first done = sym (ap (λ w. sole (data_of w)) (is ∙ ap json.object (first ∙ ap (json.member k j) done)))

none_sole : (k : List ℕ) (j : json.Json) (ms : json.Members) (found : Members) → ((names : List (List ℕ)) → only_keys names found ≡ keys_among names (json.member k j ms)) → only_keys (k ∷ []) found ≡ false → None ≡ sole_of found
none_sole k j ms no_members all other = refl
none_sole k j ms (member l e no_members) all other =
    let own : only_keys (l ∷ []) (member l e no_members) ≡ true = ap (λ b. (b || false) && true) ((bytes_eq-Decides l l).1 refl) in
    let same : k ≡ l = (bytes_eq-Decides k l).0 (sym (or-false _) ∙ and_left _ _ (sym (all (l ∷ [])) ∙ own)) in
    absurd (true≢false (sym own ∙ ap (λ x. only_keys (x ∷ []) (member l e no_members)) (sym same) ∙ other))
none_sole k j ms (member l e (member n f rest)) all other = refl

-- another key stands beside it
pub no_sole : (whole : json.Json) (all ms : json.Members) (k : List ℕ) (j : json.Json) → whole ≡ json.object all → all ≡ json.member k j ms → has_only (k ∷ []) (data_of whole) ≡ false → None ≡ sole (data_of whole)
no_sole whole all ms k j is first =
    subst (λ w. has_only (k ∷ []) (data_of w) ≡ false → None ≡ sole (data_of w)) (sym (is ∙ ap json.object first))
    (none_sole k j ms (members (json.member k j ms) no_members) (λ names. only_keys_data names (json.member k j ms)))

-- there is none
pub empty_sole : (whole : json.Json) (all : json.Members) → whole ≡ json.object all → all ≡ json.no_members → None ≡ sole (data_of whole)
empty_sole whole all is none = sym (ap (λ w. sole (data_of w)) (is ∙ ap json.object none))

number_sole : (n : Option Num) → None ≡ sole (number_data n)
number_sole None = refl
number_sole (Some n) = refl

-- it is no object
pub other_sole : (whole : json.Json) → json_find.as_object whole ≡ None → None ≡ sole (data_of whole)
other_sole json.null e = refl
other_sole (json.boolean b) e = refl
other_sole (json.number s) e = number_sole (number_of s)
other_sole (json.string s) e = refl
other_sole (json.array js) e = refl
other_sole (json.object ms) e = absurd (cc)
