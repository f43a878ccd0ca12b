-- One path in two lists of entries: its positions in the one, by the names of the entries there, in the other.
use Rattle.std.specs.Prelude.{ℕ, List, [], ◌∷◌, slice_get, bytes_eq, Option, Some, None}
use Rattle.std.specs.Map.{lookup}
use Rattle.wcv_core.specs.Names.{Name}
use Rattle.wcv_types.specs.Tree.{Text, Head, resource, head, referenced}
use Rattle.wcv_types.specs.Unfold.{Type_tree}
use Rattle.wcv_matching.specs.Matching.{named_exports}

abbrev pub and_then : {X Y : Type 0} → Option X → (X → Option Y) → Option Y
and_then None f = None
and_then (Some x) f = f x

-- the first entry of that name
abbrev pub entry : {X : Type 0} → Text → List (Text × X) → Option X
entry n es = lookup (bytes_eq n) es

abbrev pub resource_at : Head Name Name → Option Name
resource_at (resource r s) = Some r
resource_at h = None

-- the resource in xs to which the path leads by the names of the entries that it takes in es
abbrev pub follow : List ℕ → List (Text × Type_tree) → List (Text × Type_tree) → Option Name
follow [] es xs = None
follow (k ∷ []) es xs = and_then (slice_get es k) (λ e. and_then (entry e.0 xs) (λ x. resource_at (head (referenced x))))
follow (k ∷ j ∷ p) es xs = and_then (slice_get es k) (λ e. and_then (entry e.0 xs) (λ x. follow (j ∷ p) (named_exports e.1) (named_exports x)))
