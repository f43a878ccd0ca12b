use Rattle.std.proofs.Common.{◌≡◌, List, ℕ, Bool, true, false, refl, Ok, Err}
use Rattle.std.specs.Str.{is_utf8, IsUtf8}
use Rattle.std.proofs.lemmas.Str.{IsUtf8-from_is_utf8, is_utf8-from_IsUtf8}
use Rattle.wcv_bytes.specs.declared.fault.Why.TheVariants.{NotUtf8}
use Rattle.wcv_bytes.specs.Reading.{utf8_in}
use Rattle.wcv_bytes.proofs.text.read_utf8.Goals as goal

is_text : (bytes : List ℕ) (left : ℕ) → IsUtf8 bytes → utf8_in bytes left ≡ Ok bytes
unfolding utf8_in
is_text bytes left u = rw (is_utf8-from_IsUtf8 bytes u) refl

is_none : (bytes : List ℕ) (left : ℕ) (b : Bool) → is_utf8 bytes ≡ b → (IsUtf8 bytes → ⊥) → utf8_in bytes left ≡ Err (record { why = NotUtf8; left = left })
unfolding utf8_in
is_none bytes left true is other = absurd (other (IsUtf8-from_is_utf8 bytes is))
is_none bytes left false is other = rw is refl

pub returns-in-Ok : goal.returns-in-Ok
returns-in-Ok c = rw c.in-Ok.ensures.0 (is_text c.args.bytes.now c.args.left c.in-Ok.ensures.1)

pub returns-in-Err : goal.returns-in-Err
returns-in-Err c = is_none c.args.bytes.now c.args.left (is_utf8 c.args.bytes.now) refl c.in-Err.ensures
