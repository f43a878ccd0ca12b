-- Paths that lead to a resource in a list of entries, and the first of them.
use Rattle.std.specs.Prelude.{ℕ, ◌<◌, List, [], ◌∷◌, false, slice_get, Some, ◌≡◌, ◌⊎◌}
use Rattle.wcv_core.specs.Names.{Name}
use Rattle.wcv_types.specs.Tree.{Extern_name, Tree, is_instance, is_type, sort, head, exports, referenced}
use Rattle.wcv_types.specs.Resources.{owns, RefersTo}

-- the entry is a type whose resource is r
abbrev pub IsTypeOf : Name → Tree Name Name → Type 0
IsTypeOf r t = (sort t ≡ is_type) × RefersTo r (head (referenced t))

-- the entry is an instance that does not own r, in whose exports we go on
abbrev pub IsWayTo : Name → Tree Name Name → Type 0
IsWayTo r t = (sort t ≡ is_instance) × (owns (head t) r ≡ false)

-- each position names an entry of the list found so far, and at the end stands a type whose resource is r
abbrev pub PathLeadsTo : List ℕ → Name → List (Extern_name × Tree Name Name) → Type 0
PathLeadsTo [] r es = ⊥
PathLeadsTo (k ∷ []) r es = (e : Extern_name × Tree Name Name) × (slice_get es k ≡ Some e) × IsTypeOf r e.1
PathLeadsTo (k ∷ j ∷ p) r es = (e : Extern_name × Tree Name Name) × (slice_get es k ≡ Some e) × IsWayTo r e.1 × PathLeadsTo (j ∷ p) r (exports e.1)

-- ## Their order

-- the order of a depth-first walk, entries in order: at the first position where the paths differ, that of p is smaller, or p ends there
abbrev pub ComesBefore : List ℕ → List ℕ → Type 0
ComesBefore p [] = ⊥
ComesBefore [] (j ∷ q) = Unit {0}
ComesBefore (k ∷ p) (j ∷ q) = (k < j) ⊎ ((k ≡ j) × ComesBefore p q)

-- the path leads to the resource, and none that leads there comes before it
abbrev pub IsFirstPath : List ℕ → Name → List (Extern_name × Tree Name Name) → Type 0
IsFirstPath p r es = PathLeadsTo p r es × ((q : List ℕ) → PathLeadsTo q r es → ComesBefore q p → ⊥)
