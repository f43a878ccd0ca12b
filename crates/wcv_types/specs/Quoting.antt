-- Texts between quotes, and lists of texts.
use Rattle.std.specs.Prelude.{ℕ, List, [], ◌∷◌, ◌++◌, ◌+◌, ◌/◌, ◌%◌, Bool, ◌||◌, ◌==◌, nat_lt, if◌then◌else◌, codes}

-- the digit of a number below 16, in lower case
abbrev pub hex_digit : ℕ → ℕ
hex_digit d = if nat_lt d 10 then 48 + d else 87 + d

-- a control character
abbrev pub is_control : ℕ → Bool
is_control b = nat_lt b 32 || b == 127

-- a byte as it stands between quotes
abbrev pub quoted_byte : ℕ → List ℕ
quoted_byte b =
    if b == 34 || b == 92 then 92 ∷ b ∷ []
    else if is_control b then codes "\\x" ++ hex_digit (b / 16) ∷ hex_digit (b % 16) ∷ []
    else b ∷ []

-- each byte as it stands between quotes
abbrev pub quoted_bytes : List ℕ → List ℕ
quoted_bytes [] = []
quoted_bytes (b ∷ bs) = quoted_byte b ++ quoted_bytes bs

-- the text between quotes
abbrev pub quoted : List ℕ → List ℕ
quoted text = codes "\"" ++ quoted_bytes text ++ codes "\""

-- ## Lists

-- texts one after another, the first behind `before`, each further one behind a comma and a space
abbrev pub listed : List ℕ → List (List ℕ) → List ℕ
listed before [] = []
listed before (x ∷ xs) = before ++ x ++ listed (codes ", ") xs
