-- What a table has under a name.
use Rattle.std.proofs.Common.{◌≡◌, ℕ, List, [], ◌∷◌, map, Bool, true, false, Some, option_map, if◌then◌else◌, refl}
use Rattle.std.specs.Str.{bytes_eq}
use Rattle.wcv_listing.specs.Fields.{named}

-- a table of other things under the same names
pub named_mapped : {X Y : Type 0} (f : X → Y) (rows : List (List ℕ × X)) (name : List ℕ) → option_map f (named rows name) ≡ named (map (λ (row : List ℕ × X). (row.0, f row.1)) rows) name
named_mapped f [] name = refl
named_mapped {X} f (row ∷ rows) name = go (bytes_eq name row.0) (named_mapped f rows name)
  where
    go : (b : Bool) → option_map f (named rows name) ≡ named (map (λ (r : List ℕ × X). (r.0, f r.1)) rows) name →
        option_map f (if b then Some row.1 else named rows name) ≡ (if b then Some (f row.1) else named (map (λ (r : List ℕ × X). (r.0, f r.1)) rows) name)
    go true h = refl
    go false h = h
