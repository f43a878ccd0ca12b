-- One form tried after another is the one that the only key names.
use Rattle.std.proofs.Common.{◌≡◌, ℕ, List, [], ◌∷◌, map, Bool, true, false, true≢false, ◌&&◌, ◌||◌, if◌then◌else◌, Option, Some, None, is_some, option_map, option_and_then, bytes_eq, refl, sym, ap, ◌∙◌, subst}
use Rattle.std.specs.Prelude.{⊤}
use Rattle.std.proofs.Math.Bool.{or-false}
use Rattle.std.proofs.lemmas.Slice.Eq.{bytes_eq-Decides}
use Rattle.json.specs.Json as json
use Rattle.serde_json.proofs.Views.{get_member-put, get_member-put_other}
use Rattle.serde_json.specs.Data.{Num, Data, null, boolean, number, string, array, object, Members, no_members, member}
use Rattle.serde_json.specs.Find.{get, get_member}
use Rattle.serde_json.specs.Read.{number_of}
use Rattle.wcv_core.proofs.Names.{and_left}
use Rattle.wcv_syntax.specs.Model.{Type_form}
use Rattle.wcv_listing.specs.Aliases.{alias_of}
use Rattle.wcv_listing.specs.CoreForms.{entity_forms, entity_under, entity_of, core_type_of, module_decl_of, type_decl_of}
use Rattle.wcv_listing.specs.Defined.{defined_forms, form_of, object_of}
use Rattle.wcv_listing.specs.Fields.{named, is_among, has_only, first_of, alone, only_key, sole}
use Rattle.wcv_listing.specs.Forms.{indexed_ref, instance_decl_of, component_decl_of, type_over}
use Rattle.wcv_listing.specs.Keyed.{Rows, under, alias_rows, ref_rows, core_type_rows, module_decl_rows, type_decl_rows, instance_decl_rows, component_decl_rows, type_rows}
use Rattle.wcv_listing.specs.Parsed.{data_of, number_data}
use Rattle.wcv_listing.proofs.Seen.{keys_among, only_keys_data}
use Rattle.wcv_listing.proofs.Sole.{sole_found}

number_only : (n : List ℕ) (o : Option Num) → has_only (n ∷ []) (number_data o) ≡ false
number_only n None = refl
number_only n (Some x) = refl

-- where an object has no key but this one, what stands under it is its only member
pub only_sole : (n : List ℕ) (j : json.Json) → has_only (n ∷ []) (data_of j) ≡ true → option_map (λ e. (n, e)) (get n (data_of j)) ≡ sole (data_of j)
only_sole n json.null h = absurd (cc)
only_sole n (json.boolean b) h = absurd (cc)
only_sole n (json.number s) h = let no = number_only n (number_of s) in absurd (cc)
only_sole n (json.string s) h = absurd (cc)
only_sole n (json.array js) h = absurd (cc)
only_sole n (json.object json.no_members) h = refl
only_sole n (json.object (json.member k j ms)) h =
    let all = json.object (json.member k j ms) in
    let among : keys_among (n ∷ []) (json.member k j ms) ≡ true = sym (only_keys_data (n ∷ []) (json.member k j ms)) ∙ h in
    let same : k ≡ n = (bytes_eq-Decides k n).0 (sym (or-false _) ∙ and_left _ _ among) in
    subst (λ (x : List ℕ). option_map (λ e. (x, e)) (get x (data_of all)) ≡ sole (data_of all)) same (sole_found k j ms _ (subst (λ (x : List ℕ). has_only (x ∷ []) (data_of all) ≡ true) (sym same) h) refl)

nothing_of : {A B : Type 0} (f : A → B) (o : Option A) → option_map f o ≡ None → o ≡ None
nothing_of f None h = refl
nothing_of f (Some x) h = absurd (cc)

-- an object with an only member has that alone
sole_object : (d : Data) (k : List ℕ) (b : Data) → sole d ≡ Some (k, b) → d ≡ object (member k b no_members)
sole_object null k b h = absurd (cc)
sole_object (boolean x) k b h = absurd (cc)
sole_object (number n) k b h = absurd (cc)
sole_object (string s) k b h = absurd (cc)
sole_object (array ds) k b h = absurd (cc)
sole_object (object no_members) k b h = absurd (cc)
sole_object (object (member l e no_members)) k b h = let same : (l, e) ≡ (k, b) = cc in ap (λ (p : List ℕ × Data). object (member p.0 p.1 no_members)) same
sole_object (object (member l e (member m f ms))) k b h = absurd (cc)

found_alone : (n k : List ℕ) (b : Data) → bytes_eq k n ≡ true → get n (object (member k b no_members)) ≡ Some b
found_alone n k b e =
    let same : n ≡ k = sym ((bytes_eq-Decides k n).0 e) in
    ap (λ (x : List ℕ). get_member x (member k b no_members)) same ∙ get_member-put k b no_members

missed_alone : (n k : List ℕ) (b : Data) → bytes_eq k n ≡ false → get n (object (member k b no_members)) ≡ None
missed_alone n k b e = get_member-put_other n k b no_members (λ same. true≢false (sym ((bytes_eq-Decides k n).1 (sym same)) ∙ e))

module _ {Y : Type 0} where
  -- one form after another is tried
  abbrev pub tried : Rows Y → Data → Option Y
  tried [] d = None
  tried (row ∷ rows) d = if has_only (row.0 ∷ []) d then row.1 (get row.0 d) else tried rows d

  -- where nothing stands, nothing is read
  abbrev pub Strict : Rows Y → Type 0
  Strict [] = ⊤
  Strict (row ∷ rows) = (row.1 None ≡ None) × Strict rows

  one_row : (t : Bool) (n k : List ℕ) (b : Data) (read : Option Data → Option Y) (rest other : Option Y) → bytes_eq k n ≡ t → rest ≡ other
      → (if (t || false) && true then read (get n (object (member k b no_members))) else rest) ≡ (if t then read (Some b) else other)
  one_row true n k b read rest other e h = ap read (found_alone n k b e)
  one_row false n k b read rest other e h = h

  tried_alone : (rows : Rows Y) (k : List ℕ) (b : Data) → tried rows (object (member k b no_members)) ≡ under rows k b
  tried_alone [] k b = refl
  tried_alone (row ∷ rows) k b = one_row (bytes_eq k row.0) row.0 k b row.1 _ _ refl (tried_alone rows k b)

  tried_none : (rows : Rows Y) (j : json.Json) → Strict rows → sole (data_of j) ≡ None → tried rows (data_of j) ≡ None
  tried_none [] j strict none = refl
  tried_none (row ∷ rows) j strict none = go (has_only (row.0 ∷ []) (data_of j)) refl (tried_none rows j strict.1 none)
    where
      go : (t : Bool) → has_only (row.0 ∷ []) (data_of j) ≡ t → tried rows (data_of j) ≡ None → (if t then row.1 (get row.0 (data_of j)) else tried rows (data_of j)) ≡ None
      go true e later = ap row.1 (nothing_of (λ (d : Data). (row.0, d)) _ (only_sole row.0 j e ∙ none)) ∙ strict.0
      go false e later = later

  -- what the only key names is the one that is found by trying
  pub by_key : (rows : Rows Y) (j : json.Json) → Strict rows → option_and_then (λ p. under rows p.0 p.1) (sole (data_of j)) ≡ tried rows (data_of j)
  by_key rows j strict = go (sole (data_of j)) refl
    where
      go : (o : Option (List ℕ × Data)) → sole (data_of j) ≡ o → option_and_then (λ p. under rows p.0 p.1) o ≡ tried rows (data_of j)
      go None e = sym (tried_none rows j strict e)
      go (Some p) e = sym (tried_alone rows p.0 p.1) ∙ ap (tried rows) (sym (sole_object (data_of j) p.0 p.1 e))

module _ {Y : Type 0} (read : List ℕ → Data → Option Y) (d : Data) (whole : Option Y) (by : option_and_then (λ p. read p.0 p.1) (sole d) ≡ whole) where
  -- there is no only key
  pub none_is : None ≡ sole d → None ≡ whole
  none_is none = ap (option_and_then (λ (p : List ℕ × Data). read p.0 p.1)) none ∙ by

  -- what is read under the only key
  pub some_is : (k : List ℕ) (b : Data) (o : Option Y) → Some (k, b) ≡ sole d → o ≡ read k b → o ≡ whole
  some_is k b o some h = h ∙ ap (option_and_then (λ (p : List ℕ × Data). read p.0 p.1)) some ∙ by

first_alone : (ns : List (List ℕ)) (k : List ℕ) (b : Data) → first_of ns (object (member k b no_members)) ≡ (if is_among ns k then Some k else None)
first_alone [] k b = refl
first_alone (n ∷ ns) k b = go (bytes_eq k n) refl (first_alone ns k b)
  where
    go : (t : Bool) → bytes_eq k n ≡ t → first_of ns (object (member k b no_members)) ≡ (if is_among ns k then Some k else None)
        → (if is_some (get n (object (member k b no_members))) then Some n else first_of ns (object (member k b no_members))) ≡ (if t || is_among ns k then Some k else None)
    go true e later = ap (λ (o : Option Data). if is_some o then Some n else first_of ns (object (member k b no_members))) (found_alone n k b e) ∙ ap Some (sym ((bytes_eq-Decides k n).0 e))
    go false e later = ap (λ (o : Option Data). if is_some o then Some n else first_of ns (object (member k b no_members))) (missed_alone n k b e) ∙ later

module _ {Y : Type 0} (names : List (List ℕ)) (read : List ℕ → Data → Option Y) where
  -- what is read of what stands under the only key, where that is one of the names
  abbrev pub chosen : Data → Option Y
  chosen d = option_and_then (λ name. option_and_then (read name) (get name d)) (only_key names d)

  chosen_alone : (k : List ℕ) (b : Data) → (is_among names k ≡ false → read k b ≡ None) → chosen (object (member k b no_members)) ≡ read k b
  chosen_alone k b other =
      ap (λ (o : Option (List ℕ)). option_and_then (λ name. option_and_then (read name) (get name (object (member k b no_members)))) (option_and_then (alone (object (member k b no_members))) o)) (first_alone names k b)
      ∙ go (is_among names k) refl
    where
      own : bytes_eq k k ≡ true
      own = (bytes_eq-Decides k k).1 refl

      go : (t : Bool) → is_among names k ≡ t
          → option_and_then (λ name. option_and_then (read name) (get name (object (member k b no_members)))) (option_and_then (alone (object (member k b no_members))) (if t then Some k else None)) ≡ read k b
      go true e =
          ap (λ (t : Bool). option_and_then (λ name. option_and_then (read name) (get name (object (member k b no_members)))) (if (t || false) && true then Some k else None)) own
          ∙ ap (option_and_then (read k)) (found_alone k k b own)
      go false e = sym (other e)

  chosen_none : (j : json.Json) → sole (data_of j) ≡ None → chosen (data_of j) ≡ None
  chosen_none j none = go (first_of names (data_of j))
    where
      under_one : (n : List ℕ) (t : Bool) → has_only (n ∷ []) (data_of j) ≡ t → option_and_then (λ name. option_and_then (read name) (get name (data_of j))) (if t then Some n else None) ≡ None
      under_one n true e = ap (option_and_then (read n)) (nothing_of (λ (d : Data). (n, d)) _ (only_sole n j e ∙ none))
      under_one n false e = refl

      go : (o : Option (List ℕ)) → option_and_then (λ name. option_and_then (read name) (get name (data_of j))) (option_and_then (alone (data_of j)) o) ≡ None
      go None = refl
      go (Some n) = under_one n _ refl

  pub by_name : (j : json.Json) → ((k : List ℕ) (b : Data) → is_among names k ≡ false → read k b ≡ None) → option_and_then (λ p. read p.0 p.1) (sole (data_of j)) ≡ chosen (data_of j)
  by_name j other = go (sole (data_of j)) refl
    where
      go : (o : Option (List ℕ × Data)) → sole (data_of j) ≡ o → option_and_then (λ p. read p.0 p.1) o ≡ chosen (data_of j)
      go None e = sym (chosen_none j e)
      go (Some p) e = sym (chosen_alone p.0 p.1 (other p.0 p.1)) ∙ ap chosen (sym (sole_object (data_of j) p.0 p.1 e))

-- a table has nothing under a name that is none of its rows
pub named_none : {X : Type 0} (rows : List (List ℕ × X)) (k : List ℕ) → is_among (map (λ row. row.0) rows) k ≡ false → named rows k ≡ None
named_none [] k e = refl
named_none (row ∷ rows) k e = go (bytes_eq k row.0) e (named_none rows k)
  where
    go : (t : Bool) → (t || is_among (map (λ row. row.0) rows) k) ≡ false → (is_among (map (λ row. row.0) rows) k ≡ false → named rows k ≡ None) → (if t then Some row.1 else named rows k) ≡ None
    go true h later = absurd (true≢false h)
    go false h later = later h

pub form_by_key : (j : json.Json) → option_and_then (λ p. form_of p.0 p.1) (sole (data_of j)) ≡ object_of (data_of j)
form_by_key j = by_name (map (λ row. row.0) defined_forms) form_of j (λ k b e. ap (option_and_then (λ read. read b)) (named_none defined_forms k e))

pub entity_by_key : (j : json.Json) → option_and_then (λ p. entity_under p.0 p.1) (sole (data_of j)) ≡ entity_of (data_of j)
entity_by_key j = by_name (map (λ row. row.0) entity_forms) entity_under j (λ k b e. ap (option_and_then (λ read. read b)) (named_none entity_forms k e))

pub alias_by_key : (j : json.Json) → option_and_then (λ p. under alias_rows p.0 p.1) (sole (data_of j)) ≡ alias_of (data_of j)
alias_by_key j = by_key alias_rows j (refl, (refl, (refl, tt)))

pub ref_by_key : (j : json.Json) → option_and_then (λ p. under ref_rows p.0 p.1) (sole (data_of j)) ≡ indexed_ref (data_of j)
ref_by_key j = by_key ref_rows j (refl, (refl, (refl, (refl, (refl, (refl, tt))))))

pub core_type_by_key : (j : json.Json) → option_and_then (λ p. under core_type_rows p.0 p.1) (sole (data_of j)) ≡ core_type_of (data_of j)
core_type_by_key j = by_key core_type_rows j (refl, (refl, tt))

pub module_decl_by_key : (j : json.Json) → option_and_then (λ p. under module_decl_rows p.0 p.1) (sole (data_of j)) ≡ module_decl_of (data_of j)
module_decl_by_key j = by_key module_decl_rows j (refl, (refl, (refl, tt)))

pub type_decl_by_key : (j : json.Json) → option_and_then (λ p. under type_decl_rows p.0 p.1) (sole (data_of j)) ≡ type_decl_of (data_of j)
type_decl_by_key j = by_key type_decl_rows j (refl, (refl, (refl, (refl, tt))))

pub instance_decl_by_key : (inner : Data → Option Type_form) (j : json.Json) → option_and_then (λ p. under (instance_decl_rows inner) p.0 p.1) (sole (data_of j)) ≡ instance_decl_of inner (data_of j)
instance_decl_by_key inner j = by_key (instance_decl_rows inner) j (refl, (refl, (refl, (refl, tt))))

pub component_decl_by_key : (inner : Data → Option Type_form) (j : json.Json) → option_and_then (λ p. under (component_decl_rows inner) p.0 p.1) (sole (data_of j)) ≡ component_decl_of inner (data_of j)
component_decl_by_key inner j = by_key (component_decl_rows inner) j (refl, (refl, (refl, (refl, (refl, tt)))))

pub type_by_key : (inner : Data → Option Type_form) (j : json.Json) → option_and_then (λ p. under (type_rows inner) p.0 p.1) (sole (data_of j)) ≡ type_over inner (data_of j)
type_by_key inner j = by_key (type_rows inner) j (refl, (refl, (refl, (refl, (refl, tt)))))
