-- A root that is read member by member, and its items one by one.
use Rattle.std.proofs.Common.{◌≡◌, ◌≢◌, ℕ, List, [], ◌∷◌, ◌++◌, ◌+◌, length, true, false, not, ◌&&◌, Option, Some, None, option_map, option_and_then, Result, Ok, Err, bytes_eq, cond, true≢false, refl, sym, ap, ◌∙◌, append_assoc, subst, IfSome}
use Rattle.std.specs.Prelude.{codes, Bool as Boolean}
use Rattle.std.proofs.lemmas.List.{append-nil, length_push}
use Rattle.std.proofs.lemmas.Slice.Eq.{bytes_eq-Decides}
use Rattle.json.specs.Token.{Token as Token_}
use Rattle.json.specs.Reads.{token_of}
use Rattle.json.specs.declared.token.Token.{Token}
use Rattle.json.specs.declared.token.Token.TheVariants.{BeginObject, EndObject, BeginArray, EndArray, Key, String, Number, Bool, Null, Bad}
use Rattle.json.specs.Json as json
use Rattle.json.specs.Json.{Json, Parse, parse_map, value_with}
use Rattle.json.specs.Find as json_find
use Rattle.json.proofs.Grammar.{value_is}
use Rattle.serde_json.specs.Data.{Num, Data, object, Items, no_items, item, Members, put}
use Rattle.serde_json.specs.Read.{number_of}
use Rattle.serde_json.specs.Find.{as_array, get, get_member}
use Rattle.serde_json.proofs.Views.{get_member-put, get_member-put_other}
use Rattle.wcv_syntax.specs.Model.{Entry}
use Rattle.wcv_listing.specs.Features.{features_of, features_in}
use Rattle.wcv_listing.specs.Fields.{is_among, only_keys, natural}
use Rattle.wcv_listing.specs.Listing.{entries_from, item_of, with_entry}
use Rattle.wcv_listing.specs.Root.{after, going, made, root_keys, seen_items, IsSeen, SeenOf}
use Rattle.wcv_listing.specs.declared.root.RootSeen.{RootSeen}
use Rattle.wcv_listing.specs.Parsed.{data_of, number_data, items, value_in_range}
use Rattle.wcv_listing.proofs.Kept.{value_is_in_range}
use Rattle.wcv_listing.proofs.Seen.{as_array_data, only_keys-put}

-- ---- what was read, and then the rest

pub as_read : {A : Type 0} (r : Option (A × List Token_)) → r ≡ parse_map (λ a. a) r
as_read None = refl
as_read (Some p) = refl

pub read_more : {A B C : Type 0} (f : B → C) (g : A → B) (r : Option (A × List Token_)) → parse_map f (parse_map g r) ≡ parse_map (λ a. f (g a)) r
read_more f g None = refl
read_more f g (Some p) = refl

-- ---- values that are no list, and no object

abbrev one : Json → List Token_ → Option (Json × List Token_)
one j ts = Some (j, ts)

of_some : (P : Json → Type 0) (i j : Json) (ts r : List Token_) → one i ts ≡ one j r → P i → P j
of_some P i j ts r e h = subst (λ (x : Option (Json × List Token_)). IfSome x (λ q. P q.0)) e h

of_object : (P : Json → Type 0) (ms : Option (json.Members × List Token_)) (j : Json) (r : List Token_) → parse_map json.object ms ≡ one j r → ((m : json.Members) → P (json.object m)) → P j
of_object P None j r e h = absurd (cc)
of_object P (Some (m, ts)) j r e h = of_some P (json.object m) j ts r e (h m)

of_array : (P : Json → Type 0) (js : Option (json.Items × List Token_)) (j : Json) (r : List Token_) → parse_map json.array js ≡ one j r → ((m : json.Items) → P (json.array m)) → P j
of_array P None j r e h = absurd (cc)
of_array P (Some (m, ts)) j r e h = of_some P (json.array m) j ts r e (h m)

no_list : (a : Parse json.Items) (o : Parse json.Members) (t : Token) (ts r : List Token_) (j : Json) → t ≢ BeginArray → value_with a o (token_of t ∷ ts) ≡ one j r → json_find.as_array j ≡ None
no_list a o BeginObject ts r j other e = of_object (λ x. json_find.as_array x ≡ None) (o ts) j r e (λ m. refl)
no_list a o EndObject ts r j other e = absurd (cc)
no_list a o BeginArray ts r j other e = absurd (other refl)
no_list a o EndArray ts r j other e = absurd (cc)
no_list a o (Key s) ts r j other e = absurd (cc)
no_list a o (String s) ts r j other e = of_some (λ x. json_find.as_array x ≡ None) (json.string s.now) j ts r e refl
no_list a o (Number s) ts r j other e = of_some (λ x. json_find.as_array x ≡ None) (json.number s.now) j ts r e refl
no_list a o (Bool b) ts r j other e = of_some (λ x. json_find.as_array x ≡ None) (json.boolean b) j ts r e refl
no_list a o Null ts r j other e = of_some (λ x. json_find.as_array x ≡ None) json.null j ts r e refl
no_list a o Bad ts r j other e = absurd (cc)

pub no_list_read : (d : ℕ) (t : Token) (ts r : List Token_) (j : Json) → t ≢ BeginArray → value_in_range d (token_of t ∷ ts) ≡ Some (j, r) → as_array (data_of j) ≡ None
no_list_read d t ts r j other e =
    as_array_data j ∙ ap (option_map items) (no_list _ _ t ts r j other (sym (value_is d (token_of t ∷ ts)) ∙ (value_is_in_range d (token_of t ∷ ts) r j e).0))

number_seen : (s : RootSeen) (n : Option Num) → s.other ≡ true → SeenOf s (number_data n)
number_seen s None h = h
number_seen s (Some n) h = h

no_object : (s : RootSeen) → s.other ≡ true → (a : Parse json.Items) (o : Parse json.Members) (t : Token) (ts r : List Token_) (j : Json) → t ≢ BeginObject → value_with a o (token_of t ∷ ts) ≡ one j r → SeenOf s (data_of j)
no_object s h a o BeginObject ts r j other e = absurd (other refl)
no_object s h a o EndObject ts r j other e = absurd (cc)
no_object s h a o BeginArray ts r j other e = of_array (λ x. SeenOf s (data_of x)) (a ts) j r e (λ m. h)
no_object s h a o EndArray ts r j other e = absurd (cc)
no_object s h a o (Key t) ts r j other e = absurd (cc)
no_object s h a o (String t) ts r j other e = of_some (λ x. SeenOf s (data_of x)) (json.string t.now) j ts r e h
no_object s h a o (Number t) ts r j other e = of_some (λ x. SeenOf s (data_of x)) (json.number t.now) j ts r e (number_seen s (number_of t.now) h)
no_object s h a o (Bool b) ts r j other e = of_some (λ x. SeenOf s (data_of x)) (json.boolean b) j ts r e h
no_object s h a o Null ts r j other e = of_some (λ x. SeenOf s (data_of x)) json.null j ts r e h
no_object s h a o Bad ts r j other e = absurd (cc)

pub no_object_read : (s : RootSeen) → s.other ≡ true → (d : ℕ) (t : Token) (ts r : List Token_) (j : Json) → t ≢ BeginObject → value_in_range d (token_of t ∷ ts) ≡ Some (j, r) → SeenOf s (data_of j)
no_object_read s h d t ts r j other e = no_object s h _ _ t ts r j other (sym (value_is d (token_of t ∷ ts)) ∙ (value_is_in_range d (token_of t ∷ ts) r j e).0)

-- ---- items

none_before : (r : Result (List Entry) ℕ) → r ≡ after [] r
none_before (Ok es) = refl
none_before (Err at) = refl

pub going_first : (ds : Items) → entries_from 0 ds ≡ going [] None ds
going_first ds = none_before (entries_from 0 ds)

pub going_end : (es : List Entry) (bad : Option ℕ) → going es bad no_items ≡ made es bad
going_end es None = ap Ok (append-nil es)
going_end es (Some at) = refl

after_more : (es : List Entry) (e : Entry) (k : ℕ) (r : Result (List Entry) ℕ) → after es (with_entry (Some e) k r) ≡ after (es ++ e ∷ []) r
after_more es e k (Ok ys) = ap Ok (sym (append_assoc es (e ∷ []) ys))
after_more es e k (Err at) = refl

pub going_more : (es : List Entry) (e : Entry) (d : Data) (ds : Items) → item_of d ≡ Some e → going es None (item d ds) ≡ going (es ++ e ∷ []) None ds
going_more es e d ds is =
    ap (λ o. after es (with_entry o (length es) (entries_from (length es + 1) ds))) is ∙ after_more es e (length es) (entries_from (length es + 1) ds)
    ∙ ap (λ k. after (es ++ e ∷ []) (entries_from k ds)) (sym (length_push es e))

-- ---- members

found_at : (b : Boolean) (k l : List ℕ) (d : Data) (ms : Members) → bytes_eq k l ≡ b → get_member l (put k d ms) ≡ cond b (Some d) (get_member l ms)
found_at true k l d ms e =
    let same : k ≡ l = (bytes_eq-Decides k l).0 e in
    ap (λ x. get_member l (put x d ms)) same ∙ get_member-put l d ms
found_at false k l d ms e =
    get_member-put_other l k d ms (λ same. true≢false (sym ((bytes_eq-Decides k l).1 (sym same)) ∙ e))

pub differs : (k l : List ℕ) → k ≢ l → bytes_eq k l ≡ false
differs k l other = decided (bytes_eq k l) refl
  where
    decided : (b : Boolean) → bytes_eq k l ≡ b → bytes_eq k l ≡ false
    decided true e = absurd (other ((bytes_eq-Decides k l).0 e))
    decided false e = e

-- what is found once a member was put
pub found_put : (k l : List ℕ) (d : Data) (ms : Members) → get l (object (put k d ms)) ≡ cond (bytes_eq k l) (Some d) (get l (object ms))
found_put k l d ms = found_at (bytes_eq k l) k l d ms refl

module _ (s s' : RootSeen) (d : Data) (ms : Members) (seen : IsSeen s ms) where
  pub version_put : s'.version ≡ natural d → s'.end ≡ s.end → s'.features ≡ s.features → seen_items s' ≡ seen_items s → s'.other ≡ s.other → IsSeen s' (put (codes "version") d ms)
  version_put version end features items other = record {
    keys = ap not other ∙ seen.keys ∙ sym (only_keys-put root_keys (codes "version") d ms);
    version = version ∙ sym (ap (option_and_then natural) (found_put (codes "version") (codes "version") d ms));
    end = end ∙ seen.end ∙ sym (ap (option_and_then natural) (found_put (codes "version") (codes "end") d ms));
    features = features ∙ seen.features ∙ sym (ap features_in (found_put (codes "version") (codes "features") d ms));
    items = items ∙ seen.items ∙ sym (ap (λ o. option_map (entries_from 0) (option_and_then as_array o)) (found_put (codes "version") (codes "items") d ms));
  }

  pub end_put : s'.version ≡ s.version → s'.end ≡ natural d → s'.features ≡ s.features → seen_items s' ≡ seen_items s → s'.other ≡ s.other → IsSeen s' (put (codes "end") d ms)
  end_put version end features items other = record {
    keys = ap not other ∙ seen.keys ∙ sym (only_keys-put root_keys (codes "end") d ms);
    version = version ∙ seen.version ∙ sym (ap (option_and_then natural) (found_put (codes "end") (codes "version") d ms));
    end = end ∙ sym (ap (option_and_then natural) (found_put (codes "end") (codes "end") d ms));
    features = features ∙ seen.features ∙ sym (ap features_in (found_put (codes "end") (codes "features") d ms));
    items = items ∙ seen.items ∙ sym (ap (λ o. option_map (entries_from 0) (option_and_then as_array o)) (found_put (codes "end") (codes "items") d ms));
  }

  pub features_put : s'.version ≡ s.version → s'.end ≡ s.end → s'.features ≡ features_of d → seen_items s' ≡ seen_items s → s'.other ≡ s.other → IsSeen s' (put (codes "features") d ms)
  features_put version end features items other = record {
    keys = ap not other ∙ seen.keys ∙ sym (only_keys-put root_keys (codes "features") d ms);
    version = version ∙ seen.version ∙ sym (ap (option_and_then natural) (found_put (codes "features") (codes "version") d ms));
    end = end ∙ seen.end ∙ sym (ap (option_and_then natural) (found_put (codes "features") (codes "end") d ms));
    features = features ∙ sym (ap features_in (found_put (codes "features") (codes "features") d ms));
    items = items ∙ seen.items ∙ sym (ap (λ o. option_map (entries_from 0) (option_and_then as_array o)) (found_put (codes "features") (codes "items") d ms));
  }

  pub items_put : s'.version ≡ s.version → s'.end ≡ s.end → s'.features ≡ s.features → seen_items s' ≡ option_map (entries_from 0) (as_array d) → s'.other ≡ s.other → IsSeen s' (put (codes "items") d ms)
  items_put version end features items other = record {
    keys = ap not other ∙ seen.keys ∙ sym (only_keys-put root_keys (codes "items") d ms);
    version = version ∙ seen.version ∙ sym (ap (option_and_then natural) (found_put (codes "items") (codes "version") d ms));
    end = end ∙ seen.end ∙ sym (ap (option_and_then natural) (found_put (codes "items") (codes "end") d ms));
    features = features ∙ seen.features ∙ sym (ap features_in (found_put (codes "items") (codes "features") d ms));
    items = items ∙ sym (ap (λ o. option_map (entries_from 0) (option_and_then as_array o)) (found_put (codes "items") (codes "items") d ms));
  }

  pub other_put : (k : List ℕ) → bytes_eq k (codes "version") ≡ false → bytes_eq k (codes "items") ≡ false → bytes_eq k (codes "end") ≡ false → bytes_eq k (codes "features") ≡ false
      → s'.version ≡ s.version → s'.end ≡ s.end → s'.features ≡ s.features → seen_items s' ≡ seen_items s → s'.other ≡ true → IsSeen s' (put k d ms)
  other_put k not_version not_items not_end not_features version end features items other =
      let none : is_among root_keys k ≡ false = rw (not_version, not_items, not_end, not_features) refl in
      record {
        keys = ap not other ∙ sym (only_keys-put root_keys k d ms ∙ ap (λ b. b && only_keys root_keys ms) none);
        version = version ∙ seen.version ∙ sym (ap (option_and_then natural) (found_put k (codes "version") d ms ∙ ap (λ b. cond b (Some d) (get (codes "version") (object ms))) not_version));
        end = end ∙ seen.end ∙ sym (ap (option_and_then natural) (found_put k (codes "end") d ms ∙ ap (λ b. cond b (Some d) (get (codes "end") (object ms))) not_end));
        features = features ∙ seen.features ∙ sym (ap features_in (found_put k (codes "features") d ms ∙ ap (λ b. cond b (Some d) (get (codes "features") (object ms))) not_features));
        items = items ∙ seen.items ∙ sym (ap (λ o. option_map (entries_from 0) (option_and_then as_array o)) (found_put k (codes "items") d ms ∙ ap (λ b. cond b (Some d) (get (codes "items") (object ms))) not_items));
      }
