-- Heaps that are named by words, and the rules by which they match.
use Rattle.std.specs.Prelude.{List, [], ◌∷◌, ◌≡◌, ◌⊎◌}
use Rattle.wcv_core.specs.declared.core_types.AbstractHeap.{AbstractHeap}
use Rattle.wcv_core.specs.declared.core_types.AbstractHeap.TheVariants as name

-- those that each one stands right below
abbrev pub above : AbstractHeap → List AbstractHeap
above name.None = name.I31 ∷ name.Struct ∷ name.Array ∷ []
above name.I31 = name.Eq ∷ []
above name.Struct = name.Eq ∷ []
above name.Array = name.Eq ∷ []
above name.Eq = name.Any ∷ []
above name.NoFunc = name.Func ∷ []
above name.NoExtern = name.Extern ∷ []
above name.NoExn = name.Exn ∷ []
above _ = []

abbrev pub Among : AbstractHeap → List AbstractHeap → Type 0
Among a [] = ⊥
Among a (x ∷ xs) = (a ≡ x) ⊎ Among a xs

-- one leads to another over those in the list, each right below the next
abbrev pub Climbs : AbstractHeap → List AbstractHeap → AbstractHeap → Type 0
Climbs a [] b = a ≡ b
Climbs a (x ∷ xs) b = Among x (above a) × Climbs x xs b
