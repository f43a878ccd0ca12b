-- What a map from names, or from pairs of names, holds under them.
use Rattle.std.specs.Prelude.{Option}
use Rattle.std.specs.Borrow.{Bor}
use Rattle.std.specs.BTreeMap.{BTreeMap, get_by}
use Rattle.std.specs.Cmp.Lexicographic.{slice_cmp}
use Rattle.std.specs.Ordering.{nat_cmp, ordering_then}
use Rattle.wcv_types.specs.Tree.{Text}

abbrev pub held : {X : Type 0} → BTreeMap (Bor Text) X → Text → Option X
held m q = get_by (λ k. slice_cmp nat_cmp q k.now) m

abbrev pub held_pair : {X : Type 0} → BTreeMap (Bor Text × Bor Text) X → Text × Text → Option X
held_pair m q = get_by (λ k. ordering_then (slice_cmp nat_cmp q.0 k.0.now) (slice_cmp nat_cmp q.1 k.1.now)) m
