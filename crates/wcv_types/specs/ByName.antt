-- Where the texts of a list stand first, and what a look-up by text finds.
use Rattle.std.specs.Prelude.{ℕ, suc, List, [], ◌∷◌, map, cond, Option, Some, None, option_map, option_and_then, slice_get, bytes_eq, String, ◌≡◌}
use Rattle.std.specs.BTreeMap.{BTreeMap}
use Rattle.std.specs.List.{IsDistinct}
use Rattle.std.specs.Map.{keys_of}
use Rattle.std.specs.declared.alloc.Global.{Global}
use Rattle.wcv_core.specs.TextSet.{LeadsTo}
use Rattle.wcv_types.specs.Tree.{Text}

-- no two pairs have one text
abbrev pub NamesDiffer : {V : Type 0} → List (Text × V) → Type 0
NamesDiffer es = IsDistinct bytes_eq (keys_of es)

-- the texts of pairs
abbrev pub texts_in : {V : Type 0} → List (Text × V) → List Text
texts_in es = map (λ e. e.0) es

-- the position of the first that is this text
abbrev pub first_place : Text → List Text → Option ℕ
first_place t [] = None
first_place t (u ∷ us) = cond (bytes_eq t u) (Some 0) (option_map suc (first_place t us))

-- the value at a position, where there is one
abbrev pub value_at : {V : Type 0} → List (Text × V) → Option ℕ → Option V
value_at es place = option_map (λ e. e.1) (option_and_then (slice_get es) place)

-- some text stands first at the position
abbrev pub IsFirst : List Text → ℕ → Type 0
IsFirst us k = (t : Text) × (first_place t us ≡ Some k)

-- each text of the list is led to where it stands first, and no text is led to a place where none does
pub record AreFirsts (numbers : BTreeMap ℕ ℕ) (bytes : BTreeMap (String Global) ℕ) (us : List Text) : Type 0 where
  pub leads : (t : Text) (k : ℕ) → first_place t us ≡ Some k → LeadsTo numbers bytes t k
  pub firsts : (t : Text) (k : ℕ) → LeadsTo numbers bytes t k → IsFirst us k
