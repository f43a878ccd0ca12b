-- The test of values as the pass sees them, and with it the tests by ids.
use Rattle.std.specs.Prelude.{List, Bool, false, ◌&&◌, eqb}
use Rattle.wcv_core.specs.CoreForm.{Group}
use Rattle.wcv_core.specs.Names.{same}
use Rattle.wcv_types.specs.SameSeen.{same_tree, same_within}
use Rattle.wcv_matching.specs.IdTests.{tests_by_ids}
use Rattle.wcv_matching.specs.OnePass.{Atom, given, owned_in, made_in, Seen_tree, Tests}

abbrev pub same_atom : Atom → Atom → Bool
same_atom (given r) (given q) = same r q
same_atom (owned_in j r) (owned_in k q) = eqb j k && same r q
same_atom (made_in j r) (made_in k q) = eqb j k && same r q
same_atom _ _ = false

abbrev pub same_seen : Seen_tree → Seen_tree → Bool
same_seen s t = same_tree (same_within same_atom) s t

abbrev pub id_tests : List Group → Tests
id_tests gs = tests_by_ids gs same_seen
