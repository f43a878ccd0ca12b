-- What a set of texts holds, and where it finds them.
use Rattle.std.specs.Prelude.{ℕ, List, [], ◌∷◌, ◌++◌, map, Bool, false, ◌&&◌, cond, String, string_bytes, ◌≡◌, ◌⊎◌, Option, Some, None, slice_get, bytes_eq}
use Rattle.std.specs.List.{IsDistinct}
use Rattle.std.specs.BTreeMap.{BTreeMap, get, get_by_text}
use Rattle.std.specs.Ordering.{nat_cmp}
use Rattle.std.specs.declared.alloc.Global.{Global}
use Rattle.wcv_core.specs.Label.{is_among}
use Rattle.wcv_core.specs.LabelSet.{mixed}

abbrev pub Text : Type 0
Text = List ℕ

abbrev pub texts_of : List (String Global) → List Text
texts_of ss = map string_bytes ss

-- it is there, and is this text
abbrev pub is_text : Text → Option Text → Bool
is_text r None = false
is_text r (Some t) = bytes_eq t r

-- two pairs of texts are one
abbrev pub same_pair : Text × Text → Text × Text → Bool
same_pair p q = bytes_eq p.0 q.0 && bytes_eq p.1 q.1

-- with a text, which is there once
abbrev pub with_text : Text → List Text → List Text
with_text t ts = cond (is_among t ts) ts (ts ++ t ∷ [])

-- the place, where the text stands there
abbrev pub checked : List Text → Text → Option ℕ → Option ℕ
checked ts t None = None
checked ts t (Some k) = cond (is_text t (slice_get ts k)) (Some k) None

-- the number of the text, or its bytes, lead to the place
abbrev pub LeadsTo : BTreeMap ℕ ℕ → BTreeMap (String Global) ℕ → Text → ℕ → Type 0
LeadsTo numbers bytes t k = (get nat_cmp numbers (mixed t) ≡ Some k) ⊎ (get_by_text bytes t ≡ Some k)

pub record IsIndexed (numbers : BTreeMap ℕ ℕ) (bytes : BTreeMap (String Global) ℕ) (ts : List Text) : Type 0 where
  -- each text is there once
  pub once : IsDistinct bytes_eq ts
  -- and is found
  pub leads : (k : ℕ) (t : Text) → slice_get ts k ≡ Some t → LeadsTo numbers bytes t k
