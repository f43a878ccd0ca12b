-- Sections by their contents.
use Rattle.std.proofs.Common.{◌≡◌, ◌≢◌, ℕ, Some, None, List, [], ◌∷◌, length, refl, arith}
use Rattle.wcv_encode.specs.Bytes.{Bytes, byte, sized, vec, section}
use Rattle.wcv_encode.specs.Modules.{section_of}
use Rattle.wcv_encode.proofs.Joins.{join_none, empty_join}

pub section_none : (id : ℕ) → section id None ≡ None
unfolding section sized
section_none id = join_none (byte id)

pub no_section : {A : Type 0} (id : ℕ) (w : A → Bytes) (xs : List A) → length xs ≡ 0 → section_of id w xs ≡ Some []
unfolding section_of
no_section id w [] h = refl
no_section id w (x ∷ xs) h = absurd (omega arith)

pub some_section : {A : Type 0} (id : ℕ) (w : A → Bytes) (xs : List A) → length xs ≢ 0 → section_of id w xs ≡ section id (vec w xs)
unfolding section_of
some_section id w [] h = absurd (h refl)
some_section id w (x ∷ xs) h = refl

pub ruleset sections = (section_none, no_section, some_section, empty_join)
