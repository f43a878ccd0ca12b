-- Labels: kebab-case names of the component model.
use Rattle.std.specs.Prelude.{ℕ, List, [], ◌∷◌, Bool, false, ◌&&◌, ◌||◌, ◌==◌, map, if◌then◌else◌}
use Rattle.std.specs.List.{list_all}
use Rattle.std.specs.Str.{bytes_eq}
use Rattle.std.specs.Char.{is_ascii_digit, is_ascii_lowercase, is_ascii_uppercase, is_ascii_alphabetic, to_ascii_lowercase}

-- the byte stands before all of the first part
abbrev pub with_first : ℕ → List (List ℕ) → List (List ℕ)
with_first b [] = (b ∷ []) ∷ []
with_first b (w ∷ ws) = (b ∷ w) ∷ ws

-- the parts of a text between its dashes
abbrev pub words : List ℕ → List (List ℕ)
words [] = [] ∷ []
words (b ∷ bs) = if b == 45 then [] ∷ words bs else with_first b (words bs)

abbrev pub is_lower_or_digit : ℕ → Bool
is_lower_or_digit b = is_ascii_lowercase b || is_ascii_digit b

abbrev pub is_upper_or_digit : ℕ → Bool
is_upper_or_digit b = is_ascii_uppercase b || is_ascii_digit b

-- letters of one case and digits, at least one of them
abbrev pub is_word : List ℕ → Bool
is_word [] = false
is_word (b ∷ bs) = list_all is_lower_or_digit (b ∷ bs) || list_all is_upper_or_digit (b ∷ bs)

abbrev pub begins_with_letter : List ℕ → Bool
begins_with_letter [] = false
begins_with_letter (b ∷ bs) = is_ascii_alphabetic b

-- words joined by single dashes, of which the first begins with a letter
abbrev pub is_label : List ℕ → Bool
is_label text = begins_with_letter text && list_all is_word (words text)

-- labels are compared with all letters in lower case
abbrev pub lower_case : List ℕ → List ℕ
lower_case text = map to_ascii_lowercase text

-- the text is one of these
abbrev pub is_among : List ℕ → List (List ℕ) → Bool
is_among t [] = false
is_among t (u ∷ us) = bytes_eq t u || is_among t us
