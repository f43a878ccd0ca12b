-- Which command the words are.
use Rattle.std.specs.Prelude.{ℕ, zero, suc, ◌≡◌, ◌⊎◌, ◌<◌, List, [], ◌∷◌, length, slice_index, Bool, ◌==◌, ◌||◌, if◌then◌else◌, codes, Option, Some, None, is_some}
use Rattle.std.specs.Option.{option_map}
use Rattle.std.specs.Int.RustNames.{bit_or}
use Rattle.std.specs.List.{slice_split}
use Rattle.std.specs.Str.{bytes_eq}
use Rattle.std.specs.Fmt.{decimal}
use Rattle.bitflags.specs.Sets.{known_bits}
use Rattle.wcv_core.specs.Features.{default_features, feature_bits, feature_names}
use Rattle.wcv_core.specs.declared.features.WasmFeatures.{WasmFeatures}
use Rattle.wcv_listing.specs.Fields.{named}
use Rattle.wcv_main.specs.declared.reading.Reading.{Reading}
use Rattle.wcv_main.specs.declared.reading.Reading.TheVariants.{Listing, Binary, ToListing}

-- ## Features that a word names

abbrev pub all_features : WasmFeatures
all_features = record { 0 = known_bits feature_bits }

abbrev pub no_features : WasmFeatures
no_features = record { 0 = 0 }

-- a set of features together with the one of a bit, and then with those of the names
abbrev pub joined_bit : (ℕ → Option ℕ) → ℕ → Option ℕ → Option ℕ
joined_bit more bits None = None
joined_bit more bits (Some bit) = more (bit_or bits bit)

unfoldable pub joined_names : List (List ℕ) → ℕ → Option ℕ
joined_names [] bits = Some bits
joined_names (name ∷ names) bits = joined_bit (joined_names names) bits (named feature_names name)

-- `all`, `none`, or names of features parted by commas
abbrev pub features_of_word : List ℕ → Option WasmFeatures
features_of_word word =
    if bytes_eq word (codes "all") then Some all_features
    else if bytes_eq word (codes "none") then Some no_features
    else option_map (λ bits. record { 0 = bits }) (joined_names (slice_split (λ b. b == 44) word) 0)

-- ## Commands that read

-- a word alone: a listing is validated, or a binary with the default features, or a binary is listed
abbrev pub reading_of_word : List ℕ → Option Reading
reading_of_word word =
    if bytes_eq word (codes "validate") then Some Listing
    else if bytes_eq word (codes "validate-binary") then Some (Binary default_features)
    else if bytes_eq word (codes "list") then Some (ToListing None) else None

-- a word with features
abbrev pub reading_with : List ℕ → Option WasmFeatures → Option Reading
reading_with word None = None
reading_with word (Some features) =
    if bytes_eq word (codes "validate-binary") then Some (Binary features) else if bytes_eq word (codes "list") then Some (ToListing (Some features)) else None

-- what is done with the bytes that are read, where the words are a command that reads
abbrev pub reading_of : List (List ℕ) → Option Reading
reading_of [] = None
reading_of (word ∷ []) = reading_of_word word
reading_of (word ∷ features ∷ []) = reading_with word (features_of_word features)
reading_of (word ∷ features ∷ more ∷ words) = None

abbrev pub is_reading : List (List ℕ) → Bool
is_reading words = is_some (reading_of words)

-- the number, no greater than another, whose decimal digits the text is
unfoldable pub number_up_to : ℕ → List ℕ → Option ℕ
number_up_to zero text = if bytes_eq text (decimal 0) then Some 0 else None
number_up_to (suc most) text = if bytes_eq text (decimal (suc most)) then Some (suc most) else number_up_to most text

-- the word `make` and a number
abbrev pub made_number : List (List ℕ) → Option ℕ
made_number [] = None
made_number (word ∷ []) = None
made_number (word ∷ number ∷ []) = if bytes_eq word (codes "make") then number_up_to 1000 number else None
made_number (word ∷ number ∷ more ∷ words) = None

-- the commands that are built
abbrev pub is_command : List (List ℕ) → Bool
is_command words = is_reading words || is_some (made_number words)

-- a sign stands in front, or a zero in front of more: so no number is written
abbrev pub IsMarked : List ℕ → Type 0
IsMarked text = (slice_index text 0 ≡ 43) ⊎ (slice_index text 0 ≡ 48) × (1 < length text)
