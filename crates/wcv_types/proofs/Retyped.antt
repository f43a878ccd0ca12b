-- Entries with other types.
use Rattle.std.proofs.Common.{◌≡◌, List, [], ◌∷◌, length, refl}
use Rattle.wcv_types.specs.ByName.{texts_in}
use Rattle.wcv_types.specs.Entities.{retyped}
use Rattle.wcv_types.specs.declared.shapes.ComponentEntityType.{ComponentEntityType}
use Rattle.wcv_types.proofs.EntryLists.{Entry}

-- they have the same names
pub same_texts : (es : List Entry) (xs : List ComponentEntityType) → length xs ≡ length es → texts_in (retyped es xs) ≡ texts_in es
same_texts [] xs h = refl
same_texts (e ∷ es) [] h = cc h
same_texts (e ∷ es) (x ∷ xs) h =
    let rest : length xs ≡ length es = cc h in
    λ j. e.0 ∷ same_texts es xs rest j
