-- The form of an item is that of the key beside `at`.
use Rattle.std.proofs.Common.{◌≡◌, ℕ, List, [], ◌∷◌, map, Bool, true, false, true≢false, ◌&&◌, ◌||◌, if◌then◌else◌, bytes_eq, is_eq, Ordering, Less, Equal, Greater, nat_cmp, Option, Some, None, is_some, option_map, option_and_then, codes, refl, sym, ap, ◌∙◌, subst}
use Rattle.std.specs.Prelude.{⊤}
use Rattle.std.proofs.Math.Bool.{or-false}
use Rattle.std.proofs.lemmas.Map.Text.{is_eq-slice_cmp}
use Rattle.std.proofs.lemmas.Slice.Eq.{bytes_eq-Decides}
use Rattle.std.specs.Cmp.Lexicographic.{slice_cmp}
use Rattle.std.specs.Ordering.{match_ordering}
use Rattle.json.specs.Json as json
use Rattle.json.specs.Find as json_find
use Rattle.serde_json.specs.Data.{Data, null, boolean, number, string, array, object, Members, no_members, member}
use Rattle.serde_json.specs.Find.{get, get_member}
use Rattle.wcv_core.proofs.Names.{and_left, and_right}
use Rattle.wcv_syntax.specs.Model.{Entry, Form}
use Rattle.wcv_listing.specs.Fields.{both, named, is_among, only_keys, has_only, first_of, natural_in}
use Rattle.wcv_listing.specs.Forms.{form_names, body_or, form_in}
use Rattle.wcv_listing.specs.Keyed.{beside_at, name_beside_at, parts_under, parts_of, form_under, form_rows}
use Rattle.wcv_listing.specs.Listing.{item_under, item_over}
use Rattle.wcv_listing.specs.Parsed.{data_of}
use Rattle.wcv_listing.proofs.Keyed.{named_none}
use Rattle.wcv_listing.proofs.Seen.{get_data, keys_among, only_keys_data}

-- ---- what is no key

absent_member : (names : List (List ℕ)) (n : List ℕ) (ms : Members) → only_keys names ms ≡ true → is_among names n ≡ false → get_member n ms ≡ None
absent_member names n no_members h other = refl
absent_member names n (member l e ms) h other = go (slice_cmp nat_cmp n l) refl (absent_member names n ms (and_right _ _ h) other)
  where
    go : (o : Ordering) → slice_cmp nat_cmp n l ≡ o → get_member n ms ≡ None → match_ordering o (get_member n ms) (Some e) (get_member n ms) ≡ None
    go Less is later = later
    go Equal is later =
        let same : n ≡ l = (bytes_eq-Decides n l).0 (sym (is_eq-slice_cmp n l) ∙ ap is_eq is) in
        absurd (true≢false (sym (and_left _ _ h) ∙ ap (is_among names) (sym same) ∙ other))
    go Greater is later = later

-- an object has nothing under what is none of its keys
absent : (names : List (List ℕ)) (n : List ℕ) (d : Data) → has_only names d ≡ true → is_among names n ≡ false → get n d ≡ None
absent names n null h other = refl
absent names n (boolean b) h other = refl
absent names n (number x) h other = refl
absent names n (string s) h other = refl
absent names n (array ds) h other = refl
absent names n (object ms) h other = absent_member names n ms h other

all_at : (ms : json.Members) → beside_at ms ≡ None → keys_among (codes "at" ∷ []) ms ≡ true
all_at json.no_members e = refl
all_at (json.member k j ms) e = go (bytes_eq k (codes "at")) e (all_at ms)
  where
    go : (t : Bool) → (if t then beside_at ms else Some k) ≡ None → (beside_at ms ≡ None → keys_among (codes "at" ∷ []) ms ≡ true) → ((t || false) && keys_among (codes "at" ∷ []) ms) ≡ true
    go true h later = later h
    go false h later = absurd (cc)

-- where no key stands beside `at`, nothing stands under another
none_beside : (j : json.Json) (n : List ℕ) → name_beside_at j ≡ None → bytes_eq n (codes "at") ≡ false → get n (data_of j) ≡ None
none_beside json.null n e other = refl
none_beside (json.boolean b) n e other = refl
none_beside (json.number s) n e other = get_data n (json.number s)
none_beside (json.string s) n e other = refl
none_beside (json.array js) n e other = refl
none_beside (json.object ms) n e other =
    absent (codes "at" ∷ []) n (data_of (json.object ms)) (only_keys_data (codes "at" ∷ []) ms ∙ all_at ms e) (or-false _ ∙ other)

-- the key beside `at` is the name, where there is no other
same_name : (ms : json.Members) (name n : List ℕ) → beside_at ms ≡ Some name → keys_among (codes "at" ∷ n ∷ []) ms ≡ true → name ≡ n
same_name json.no_members name n e h = absurd (cc)
same_name (json.member k j ms) name n e h = go (bytes_eq k (codes "at")) e (and_left _ _ h) (λ is. same_name ms name n is (and_right _ _ h))
  where
    go : (t : Bool) → (if t then beside_at ms else Some k) ≡ Some name → (t || (bytes_eq k n || false)) ≡ true → (beside_at ms ≡ Some name → name ≡ n) → name ≡ n
    go true is among later = later is
    go false is among later = let same : k ≡ name = cc in sym same ∙ (bytes_eq-Decides k n).0 (sym (or-false _) ∙ among)

same_only : (j : json.Json) (name n : List ℕ) → name_beside_at j ≡ Some name → has_only (codes "at" ∷ n ∷ []) (data_of j) ≡ true → name ≡ n
same_only json.null name n e h = absurd (cc)
same_only (json.boolean b) name n e h = absurd (cc)
same_only (json.number s) name n e h = absurd (cc)
same_only (json.string s) name n e h = absurd (cc)
same_only (json.array js) name n e h = absurd (cc)
same_only (json.object ms) name n e h = same_name ms name n e (sym (only_keys_data (codes "at" ∷ n ∷ []) ms) ∙ h)

-- ---- the first name of a form

-- none of these is `at`
abbrev Avoid : List (List ℕ) → Type 0
Avoid [] = ⊤
Avoid (n ∷ ns) = (bytes_eq n (codes "at") ≡ false) × Avoid ns

no_first : (d : Data) → ((n : List ℕ) → bytes_eq n (codes "at") ≡ false → get n d ≡ None) → (ns : List (List ℕ)) → Avoid ns → first_of ns d ≡ None
no_first d none [] avoid = refl
no_first d none (n ∷ ns) avoid = ap (λ (o : Option Data). if is_some o then Some n else first_of ns d) (none n avoid.0) ∙ no_first d none ns avoid.1

turned : (a b : List ℕ) → bytes_eq a b ≡ false → bytes_eq b a ≡ false
turned a b differ = go (bytes_eq b a) refl
  where
    go : (t : Bool) → bytes_eq b a ≡ t → t ≡ false
    go true e = absurd (true≢false (sym ((bytes_eq-Decides a b).1 (sym ((bytes_eq-Decides b a).0 e))) ∙ differ))
    go false e = refl

module _ (d : Data) (name : List ℕ) (h : has_only (codes "at" ∷ name ∷ []) d ≡ true) where
  here : (n : List ℕ) → bytes_eq name n ≡ true → get n d ≡ get name d
  here n e = ap (λ (x : List ℕ). get x d) (sym ((bytes_eq-Decides name n).0 e))

  elsewhere : (n : List ℕ) → bytes_eq n (codes "at") ≡ false → bytes_eq name n ≡ false → get n d ≡ None
  elsewhere n other e = absent (codes "at" ∷ name ∷ []) n d h (ap (λ (t : Bool). t || (bytes_eq n name || false)) other ∙ or-false _ ∙ turned name n e)

  none_there : get name d ≡ None → (n : List ℕ) → bytes_eq n (codes "at") ≡ false → get n d ≡ None
  none_there none n other = go (bytes_eq name n) refl
    where
      go : (t : Bool) → bytes_eq name n ≡ t → get n d ≡ None
      go true e = here n e ∙ none
      go false e = elsewhere n other e

  first_there : (b : Data) → get name d ≡ Some b → (ns : List (List ℕ)) → Avoid ns → first_of ns d ≡ (if is_among ns name then Some name else None)
  first_there b some [] avoid = refl
  first_there b some (n ∷ ns) avoid = go (bytes_eq name n) refl (first_there b some ns avoid.1)
    where
      go : (t : Bool) → bytes_eq name n ≡ t → first_of ns d ≡ (if is_among ns name then Some name else None) → (if is_some (get n d) then Some n else first_of ns d) ≡ (if t || is_among ns name then Some name else None)
      go true e later = ap (λ (o : Option Data). if is_some o then Some n else first_of ns d) (here n e ∙ some) ∙ ap Some (sym ((bytes_eq-Decides name n).0 e))
      go false e later = ap (λ (o : Option Data). if is_some o then Some n else first_of ns d) (elsewhere n avoid.0 e) ∙ later

  -- one body after another is looked for
  abbrev bodies : List (List ℕ × (Data → Option Form)) → Option Form
  bodies [] = None
  bodies (row ∷ rows) = body_or (get row.0 d) row.1 (bodies rows)

  body_there : (b : Data) → get name d ≡ Some b → (rows : List (List ℕ × (Data → Option Form))) → Avoid (map (λ row. row.0) rows) → bodies rows ≡ form_under rows name b
  body_there b some [] avoid = refl
  body_there b some (row ∷ rows) avoid = go (bytes_eq name row.0) refl (body_there b some rows avoid.1)
    where
      go : (t : Bool) → bytes_eq name row.0 ≡ t → bodies rows ≡ form_under rows name b → body_or (get row.0 d) row.1 (bodies rows) ≡ option_and_then (λ read. read b) (if t then Some row.1 else named rows name)
      go true e later = ap (λ (o : Option Data). body_or o row.1 (bodies rows)) (here row.0 e ∙ some)
      go false e later = ap (λ (o : Option Data). body_or o row.1 (bodies rows)) (elsewhere row.0 avoid.0 e) ∙ later

-- ---- names of forms

abbrev all_among : List (List ℕ) → List (List ℕ) → Bool
all_among names [] = true
all_among names (n ∷ ns) = is_among names n && all_among names ns

fewer : (names ns : List (List ℕ)) (k : List ℕ) → all_among names ns ≡ true → is_among names k ≡ false → is_among ns k ≡ false
fewer names [] k all other = refl
fewer names (n ∷ ns) k all other = go (bytes_eq k n) refl (fewer names ns k (and_right _ _ all) other)
  where
    go : (t : Bool) → bytes_eq k n ≡ t → is_among ns k ≡ false → (t || is_among ns k) ≡ false
    go true e later = absurd (true≢false (sym (and_left _ _ all) ∙ ap (is_among names) (sym ((bytes_eq-Decides k n).0 e)) ∙ other))
    go false e later = later

names_avoid : Avoid form_names
names_avoid = (refl, (refl, (refl, (refl, (refl, (refl, (refl, (refl, (refl, (refl, (refl, tt)))))))))))

-- ---- items

abbrev entry : ℕ → Form → Entry
entry offset form = record { offset = offset; form = form }

both_none : {A B C : Type 0} (f : A → B → C) (a : Option A) → both f a None ≡ None
both_none f None = refl
both_none f (Some x) = refl

module _ (inner : Data → Option Entry) (j : json.Json) where
  abbrev made : Option (ℕ × (List ℕ × Data)) → Option Entry
  made parts = option_and_then (λ p. option_map (entry p.0) (form_under (form_rows inner) p.1.0 p.1.1)) parts

  rows_avoid : Avoid (map (λ row. row.0) (form_rows inner))
  rows_avoid = (refl, (refl, (refl, (refl, (refl, (refl, (refl, (refl, (refl, (refl, (refl, tt)))))))))))

  no_item : first_of form_names (data_of j) ≡ None → item_over inner (data_of j) ≡ None
  no_item none = ap (option_and_then (λ (n : List ℕ). item_under inner n (data_of j))) none

  -- another key stands beside these two
  third_key : (name : List ℕ) → name_beside_at j ≡ Some name → has_only (codes "at" ∷ name ∷ []) (data_of j) ≡ false → item_over inner (data_of j) ≡ None
  third_key name is third = go (first_of form_names (data_of j))
    where
      tried : (n : List ℕ) (t : Bool) → has_only (codes "at" ∷ n ∷ []) (data_of j) ≡ t → (if t then both entry (natural_in (codes "at") (data_of j)) (form_in inner (data_of j)) else None) ≡ None
      tried n true h = absurd (true≢false (sym h ∙ ap (λ (x : List ℕ). has_only (codes "at" ∷ x ∷ []) (data_of j)) (sym (same_only j name n is h)) ∙ third))
      tried n false h = refl

      go : (o : Option (List ℕ)) → option_and_then (λ (n : List ℕ). item_under inner n (data_of j)) o ≡ None
      go None = refl
      go (Some n) = tried n _ refl

  with_body : (name : List ℕ) (b : Data) (at : Option ℕ) → made (both (λ (offset : ℕ) (body : Data). (offset, (name, body))) at (Some b)) ≡ both entry at (form_under (form_rows inner) name b)
  with_body name b None = refl
  with_body name b (Some offset) = refl

  under_name : (name : List ℕ) (b : Data) → has_only (codes "at" ∷ name ∷ []) (data_of j) ≡ true → get name (data_of j) ≡ Some b
      → both entry (natural_in (codes "at") (data_of j)) (form_under (form_rows inner) name b) ≡ item_over inner (data_of j)
  under_name name b h some =
      go (is_among form_names name) refl
      ∙ ap (option_and_then (λ (n : List ℕ). item_under inner n (data_of j))) (sym (first_there (data_of j) name h b some form_names names_avoid))
    where
      at : Option ℕ
      at = natural_in (codes "at") (data_of j)

      go : (t : Bool) → is_among form_names name ≡ t → both entry at (form_under (form_rows inner) name b) ≡ option_and_then (λ (n : List ℕ). item_under inner n (data_of j)) (if t then Some name else None)
      go true e =
          ap (both entry at) (sym (body_there (data_of j) name h b some (form_rows inner) rows_avoid))
          ∙ ap (λ (t : Bool). if t then both entry at (form_in inner (data_of j)) else None) (sym h)
      go false e =
          ap (λ (o : Option (Data → Option Form)). both entry at (option_and_then (λ read. read b) o)) (named_none (form_rows inner) name (fewer form_names (map (λ row. row.0) (form_rows inner)) name refl e))
          ∙ both_none entry at

  -- an item is made of its parts
  item_by_parts : made (parts_of j) ≡ item_over inner (data_of j)
  item_by_parts = go (name_beside_at j) refl
    where
      by_body : (name : List ℕ) (o : Option Data) → has_only (codes "at" ∷ name ∷ []) (data_of j) ≡ true → get name (data_of j) ≡ o
          → made (both (λ (offset : ℕ) (body : Data). (offset, (name, body))) (natural_in (codes "at") (data_of j)) o) ≡ item_over inner (data_of j)
      by_body name None h e =
          ap made (both_none (λ (offset : ℕ) (body : Data). (offset, (name, body))) (natural_in (codes "at") (data_of j)))
          ∙ sym (no_item (no_first (data_of j) (none_there (data_of j) name h e) form_names names_avoid))
      by_body name (Some b) h e = with_body name b (natural_in (codes "at") (data_of j)) ∙ under_name name b h e

      by_keys : (name : List ℕ) (t : Bool) → name_beside_at j ≡ Some name → has_only (codes "at" ∷ name ∷ []) (data_of j) ≡ t
          → made (if t then both (λ (offset : ℕ) (body : Data). (offset, (name, body))) (natural_in (codes "at") (data_of j)) (get name (data_of j)) else None) ≡ item_over inner (data_of j)
      by_keys name true is h = by_body name _ h refl
      by_keys name false is h = sym (third_key name is h)

      go : (o : Option (List ℕ)) → name_beside_at j ≡ o → made (option_and_then (λ (name : List ℕ). parts_under name (data_of j)) o) ≡ item_over inner (data_of j)
      go None e = sym (no_item (no_first (data_of j) (λ (n : List ℕ). none_beside j n e) form_names names_avoid))
      go (Some name) e = by_keys name _ e refl

  -- it has none
  pub no_parts : None ≡ parts_of j → None ≡ item_over inner (data_of j)
  no_parts none = ap made none ∙ item_by_parts

  -- what is read of its body makes it
  pub some_parts : (offset : ℕ) (name : List ℕ) (b : Data) (form : Option Form) → Some (offset, (name, b)) ≡ parts_of j → form ≡ form_under (form_rows inner) name b → option_map (entry offset) form ≡ item_over inner (data_of j)
  some_parts offset name b form some h = ap (option_map (entry offset)) h ∙ ap made some ∙ item_by_parts
