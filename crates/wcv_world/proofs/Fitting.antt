-- The pass tells whether an argument fits a written type.
use Rattle.std.proofs.Common.{List, [], ◌∷◌}
use Rattle.std.specs.Prelude.{Contains}
use Rattle.std.specs.Bool.{Decides}
use Rattle.std.proofs.lemmas.List.Elements.{All-nil, All-cons, All-contains}
use Rattle.wcv_core.specs.CoreForm.{Group}
use Rattle.wcv_types.specs.Tree.{Text}
use Rattle.wcv_types.specs.Unfold.{Type_tree}
use Rattle.wcv_closed.specs.ClosedTable.{IsTable}
use Rattle.wcv_matching.specs.AtomTests.{same_seen}
use Rattle.wcv_matching.specs.Orderly.{Orderly}
use Rattle.wcv_matching.specs.TableMatching.{CoreWithin}
use Rattle.wcv_matching.proofs.AtomTests.{seen-decides}
use Rattle.wcv_matching.proofs.PassByIds.{opening-by_ids}
use Rattle.wcv_lower.specs.Readers.{Brought}
use Rattle.wcv_world.specs.Growth.{importing_alone, FitsWritten, fits_written}
use Rattle.wcv_world.specs.Reading.{value_reader}
use Rattle.wcv_world.specs.Values.{Value, type_over}

-- of one that stands alone
alone : (P : Type_tree → Type 0) (t : Type_tree) → P t → (n : Text) (x : Type_tree) → Contains {X = Text × Type_tree} (([], t) ∷ []) (n, x) → P x
alone P t h n x w = All-contains Of (([], t) ∷ []) (n, x) (All-cons Of ([], t) [] h (All-nil Of)) w
  where
    Of : Text × Type_tree → Type 0
    Of e = P e.1

pub fits-decided : (gs : List Group) (v : Value) (b : Brought value_reader) → IsTable gs → Orderly (type_over v) → CoreWithin gs (type_over v) → Orderly (importing_alone b) → CoreWithin gs (importing_alone b) →
    Decides (fits_written gs v b) (FitsWritten gs v b)
fits-decided gs v b table o c o' c' = opening-by_ids gs same_seen seen-decides table (([], type_over v) ∷ []) (importing_alone b) (alone Orderly (type_over v) o) o' (alone (CoreWithin gs) (type_over v) c) c'
