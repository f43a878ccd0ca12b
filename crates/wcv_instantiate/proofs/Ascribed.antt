-- Matching as it is decided is the test that the rules make of an item and the type that is written beside it.
use Rattle.std.proofs.Common.{◌≡◌, ℕ, [], ◌∷◌, ap, sym, ◌∙◌, subst, Bool, true, false, not, ◌&&◌, refl, inl, inr}
use Rattle.std.specs.Bool.{Decides}
use Rattle.wcv_core.specs.declared.error.Error.{Error}
use Rattle.wcv_core.specs.declared.error.ErrorKind.TheVariants as kind
use Rattle.wcv_types.specs.Arena.{Arena}
use Rattle.wcv_types.specs.Entities.{entity_tree, EntityStands}
use Rattle.wcv_types.specs.Standing.{AllFit}
use Rattle.wcv_types.specs.Unfold.{Type_tree, trees}
use Rattle.wcv_types.specs.declared.shapes.ComponentEntityType.{ComponentEntityType}
use Rattle.wcv_closed.specs.ClosedTable.{IsTable}
use Rattle.wcv_matching.specs.AtomTests.{same_seen}
use Rattle.wcv_matching.specs.Refusals.{MemoryOrMismatch}
use Rattle.wcv_matching.specs.TableMatching.{TypeMatches}
use Rattle.wcv_matching.proofs.AtomTests.{seen-decides}
use Rattle.wcv_matching.proofs.PassByIds.{matching-by_ids}
use Rattle.wcv_atoms.proofs.EntityLaws.{entity_orderly, entity_within}
use Rattle.wcv_lower.specs.Checks.{IsFree}
use Rattle.wcv_lower.specs.Trees.{tree_reader}
use Rattle.wcv_spaces.specs.Looking.{brings_own, ascribed_id_checks}
use Rattle.wcv_spaces.specs.Promises.{MemoryOrCausedBy}

-- where what a mismatch denies holds if the test does, the test fails
pub mismatch_caused : {M : Type 0} (b : Bool) (P : Type 0) (offset : ℕ) (e : Error M) → (b ≡ true → P) → MemoryOrMismatch offset P e → MemoryOrCausedBy ((kind.Mismatch, not b) ∷ []) offset e
mismatch_caused b P offset e f (inl m) = inl m
mismatch_caused true P offset e f (inr k) = absurd (k.fails (f refl))
mismatch_caused false P offset e f (inr k) = inr (inl (k.is, refl), k.at)

module _ (a : Arena) (y x : ComponentEntityType) where
  abbrev item : Type_tree
  item = entity_tree (trees a.nodes) y

  abbrev expected : Type_tree
  expected = entity_tree (trees a.nodes) x

  module _ (fit : AllFit a) (table : IsTable a.core) (hy : EntityStands a y) (hx : EntityStands a x) (q : brings_own a x ≡ false) where
    pub test_decides : Decides (tree_reader.matches a.core item expected) (TypeMatches a.core item expected)
    test_decides = matching-by_ids a.core same_seen seen-decides table item expected (entity_orderly a fit y hy) (entity_orderly a fit x hx) (entity_within a fit y hy) (entity_within a fit x hx)

    pub ascribed_free : TypeMatches a.core item expected → IsFree (ascribed_id_checks a y x)
    ascribed_free m = (ap (λ (v : Bool). not (not v && tree_reader.matches a.core item expected)) q ∙ ap not (test_decides.1 m), tt)

    pub ascribed_unmatched : {M : Type 0} (offset : ℕ) (e : Error M) → MemoryOrMismatch offset (TypeMatches a.core item expected) e → MemoryOrCausedBy (ascribed_id_checks a y x) offset e
    ascribed_unmatched offset e t =
        subst (λ (v : Bool). MemoryOrCausedBy ((kind.Mismatch, not (not v && tree_reader.matches a.core item expected)) ∷ []) offset e) (sym q)
        (mismatch_caused (tree_reader.matches a.core item expected) (TypeMatches a.core item expected) offset e test_decides.0 t)
