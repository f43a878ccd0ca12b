-- The bytes of a text.
use Rattle.std.proofs.Common.{◌≡◌, ℕ, Some, None, List, cond, ap}
use Rattle.std.specs.Str.{IsUtf8}
use Rattle.std.proofs.lemmas.Str.{is_utf8-from_IsUtf8}
use Rattle.wcv_encode.specs.Bytes.{text, sized}

pub text_sized : (s : List ℕ) → IsUtf8 s → text s ≡ sized (Some s)
unfolding text
text_sized s h = ap (λ b. cond b (sized (Some s)) None) (is_utf8-from_IsUtf8 s h)
