-- The first lines of the report on a valid root.
use Rattle.std.specs.Prelude.{ℕ, List, [], ◌∷◌, ◌++◌, length, codes}
use Rattle.std.specs.Fmt.{decimal}
use Rattle.wcv_spaces.specs.Contents.{SpaceLists}

-- a text and the end of its line
abbrev pub line : List ℕ → List ℕ
line text = text ++ 10 ∷ []

-- a name, a space and a number in decimal
abbrev pub length_line : List ℕ → ℕ → List ℕ
length_line name count = line (name ++ (32 ∷ decimal count))

-- a line for each name and its number
abbrev pub length_lines : List (List ℕ) → List ℕ → List ℕ
length_lines [] counts = []
length_lines (name ∷ names) [] = []
length_lines (name ∷ names) (count ∷ counts) = length_line name count ++ length_lines names counts

-- the index spaces of a component, in the order of the report
abbrev pub space_names : List (List ℕ)
space_names =
    codes "core-types" ∷ codes "core-funcs" ∷ codes "core-tags" ∷ codes "core-modules" ∷ codes "core-instances"
    ∷ codes "core-memories" ∷ codes "core-tables" ∷ codes "core-globals" ∷ codes "types" ∷ codes "funcs"
    ∷ codes "values" ∷ codes "instances" ∷ codes "components" ∷ []

-- their lengths, in the same order
abbrev pub space_lengths : SpaceLists → List ℕ
space_lengths s =
    length s.core_types ∷ length s.core_funcs ∷ length s.core_tags ∷ length s.core_modules ∷ length s.core_instances
    ∷ length s.core_memories ∷ length s.core_tables ∷ length s.core_globals ∷ length s.types ∷ length s.funcs
    ∷ length s.values ∷ length s.instances ∷ length s.components ∷ []

-- that the root is accepted, and how many items each of its index spaces has
abbrev pub report : List ℕ → List ℕ
report counts = line (codes "accepted") ++ length_lines space_names counts
