-- What is read by rows that are written alike.
use Rattle.std.proofs.Common.{◌≡◌, ℕ, List, [], ◌∷◌, ◌++◌, map, Bool, true, false, ◌||◌, if◌then◌else◌, Option, Some, None, option_map, option_and_then, refl, ap, ◌∙◌}
use Rattle.std.specs.Str.{bytes_eq}
use Rattle.serde_json.specs.Data.{Data}
use Rattle.wcv_syntax.specs.CanonRows.{no_operands, Operands, Given, Written, written, plain_row, type_row}
use Rattle.wcv_syntax.specs.Model.{Text, Canon_form, builtin}
use Rattle.wcv_syntax.specs.declared.canonical.CanonicalFunction.{CanonicalFunction}
use Rattle.wcv_listing.specs.Canons.{given, read_by}
use Rattle.wcv_listing.specs.Fields.{named, is_among, index}

abbrev by_row : Data → Written → Option Canon_form
by_row d row = given row.operands row.form d

-- one without operands stands among the first rows
pub plain_found : (fs : List (Text × CanonicalFunction)) (rest : List (Text × Written)) (name : Text) (d : Data) (form : Canon_form)
    → Some form ≡ option_map builtin (named fs name) → given no_operands form d ≡ read_by (map plain_row fs ++ rest) name d
plain_found [] rest name d form e = absurd (cc)
plain_found (row ∷ fs) rest name d form e = go (bytes_eq name row.0) e (plain_found fs rest name d form)
  where
    go : (b : Bool) → Some form ≡ option_map builtin (if b then Some row.1 else named fs name)
        → (Some form ≡ option_map builtin (named fs name) → given no_operands form d ≡ read_by (map plain_row fs ++ rest) name d)
        → given no_operands form d ≡ option_and_then (by_row d) (if b then Some (plain_row row).1 else named (map plain_row fs ++ rest) name)
    go true is later = let same : form ≡ builtin row.1 = cc in ap (λ (f : Canon_form). given no_operands f d) same
    go false is later = later is

-- none does
pub plain_missed : (fs : List (Text × CanonicalFunction)) (rest : List (Text × Written)) (name : Text) (d : Data) → None ≡ option_map builtin (named fs name) → read_by rest name d ≡ read_by (map plain_row fs ++ rest) name d
plain_missed [] rest name d e = refl
plain_missed (row ∷ fs) rest name d e = go (bytes_eq name row.0) e (plain_missed fs rest name d)
  where
    go : (b : Bool) → None ≡ option_map builtin (if b then Some row.1 else named fs name) → (None ≡ option_map builtin (named fs name) → read_by rest name d ≡ read_by (map plain_row fs ++ rest) name d)
        → read_by rest name d ≡ option_and_then (by_row d) (if b then Some (plain_row row).1 else named (map plain_row fs ++ rest) name)
    go true is later = absurd (cc)
    go false is later = later is

-- those of a type, by its index
pub typed : (fs : List (Text × (ℕ → CanonicalFunction))) (name : Text) (d : Data) (k : Option ℕ) → k ≡ index d
    → option_and_then (λ (i : ℕ). option_map (λ (form : ℕ → CanonicalFunction). builtin (form i)) (named fs name)) k ≡ read_by (map type_row fs) name d
typed [] name d None e = refl
typed [] name d (Some i) e = refl
typed (row ∷ fs) name d k e = go (bytes_eq name row.0) k e (typed fs name d k e)
  where
    go : (b : Bool) (o : Option ℕ) → o ≡ index d → option_and_then (λ (i : ℕ). option_map (λ (form : ℕ → CanonicalFunction). builtin (form i)) (named fs name)) o ≡ read_by (map type_row fs) name d
        → option_and_then (λ (i : ℕ). option_map (λ (form : ℕ → CanonicalFunction). builtin (form i)) (if b then Some row.1 else named fs name)) o ≡ option_and_then (by_row d) (if b then Some (type_row row).1 else named (map type_row fs) name)
    go true None is later = ap (option_map (λ (i : ℕ). builtin (row.1 i))) is
    go true (Some i) is later = ap (option_map (λ (i : ℕ). builtin (row.1 i))) is
    go false o is later = later

-- those of one kind of operands, which `make` takes apart
module _ {P : Type 0} (os : Operands) (make : (P → Canon_form) → Given os) where
  abbrev kind_row : Text × (P → Canon_form) → Text × Written
  kind_row row = (row.0, written os (make row.1))

  by_form : (form : P → Canon_form) (p : Option P) → option_and_then (λ (x : P). Some (form x)) p ≡ option_map form p
  by_form form None = refl
  by_form form (Some x) = refl

  -- the name is that of one of these
  pub kind_found : (fs : List (Text × (P → Canon_form))) (rest : List (Text × Written)) (name : Text) (d : Data) (p : Option P) → ((form : P → Canon_form) → option_map form p ≡ given os (make form) d)
      → is_among (map (λ row. row.0) fs) name ≡ true → option_and_then (λ (x : P). option_map (λ (form : P → Canon_form). form x) (named fs name)) p ≡ read_by (map kind_row fs ++ rest) name d
  kind_found [] rest name d p is e = absurd (cc)
  kind_found (row ∷ fs) rest name d p is e = go (bytes_eq name row.0) e (kind_found fs rest name d p is)
    where
      go : (b : Bool) → (b || is_among (map (λ row. row.0) fs) name) ≡ true
          → (is_among (map (λ row. row.0) fs) name ≡ true → option_and_then (λ (x : P). option_map (λ (form : P → Canon_form). form x) (named fs name)) p ≡ read_by (map kind_row fs ++ rest) name d)
          → option_and_then (λ (x : P). option_map (λ (form : P → Canon_form). form x) (if b then Some row.1 else named fs name)) p ≡ option_and_then (by_row d) (if b then Some (kind_row row).1 else named (map kind_row fs ++ rest) name)
      go true e later = by_form row.1 p ∙ is row.1
      go false e later = later e

  -- it is not
  pub kind_missed : (fs : List (Text × (P → Canon_form))) (rest : List (Text × Written)) (name : Text) (d : Data) → is_among (map (λ row. row.0) fs) name ≡ false
      → read_by rest name d ≡ read_by (map kind_row fs ++ rest) name d
  kind_missed [] rest name d e = refl
  kind_missed (row ∷ fs) rest name d e = go (bytes_eq name row.0) e (kind_missed fs rest name d)
    where
      go : (b : Bool) → (b || is_among (map (λ row. row.0) fs) name) ≡ false → (is_among (map (λ row. row.0) fs) name ≡ false → read_by rest name d ≡ read_by (map kind_row fs ++ rest) name d)
          → read_by rest name d ≡ option_and_then (by_row d) (if b then Some (kind_row row).1 else named (map kind_row fs ++ rest) name)
      go true e later = absurd (cc)
      go false e later = later e
