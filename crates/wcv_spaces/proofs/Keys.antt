-- Keys of a list with one more entry.
use Rattle.std.proofs.Common.{◌≡◌, List, [], ◌∷◌, ◌++◌, ◌∙◌, ap, Bool, ◌||◌}
use Rattle.std.specs.Str.{bytes_eq}
use Rattle.wcv_core.proofs.Among.{is_among-joined}
use Rattle.wcv_types.specs.Tree.{Text}
use Rattle.wcv_lower.specs.Checks.{is_among}
use Rattle.wcv_spaces.specs.Parts.{AreKeys}

-- a key that joined is the one more
pub keys_joined : (set set' : List Text) (ks : List Text) (n : Text) → ((t : Text) → is_among t set' ≡ (bytes_eq t n || is_among t set)) → AreKeys set ks → AreKeys set' (ks ++ n ∷ [])
keys_joined set set' ks n more a t = more t ∙ ap (λ (b : Bool). bytes_eq t n || b) (a t) ∙ is_among-joined t n ks
