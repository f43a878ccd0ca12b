-- What contracts see of a refusal. Which message it has is not promised.
use Rattle.std.specs.Prelude.{ℕ, List}
use Rattle.wcv_core.specs.declared.error.Error.{Error}
use Rattle.wcv_core.specs.declared.error.ErrorKind.{ErrorKind}
use Rattle.arrayvec.specs.declared.array_string.ArrayString.{ArrayString}

abbrev pub error_kind : {M : Type 0} → Error M → ErrorKind
error_kind e = e.kind

abbrev pub error_offset : {M : Type 0} → Error M → ℕ
error_offset e = e.offset

-- a refusal that owns the text of its message
abbrev pub Told : Type 0
Told = Error (ArrayString 288)

-- the bytes of the message that it keeps
abbrev pub error_message : Told → List ℕ
error_message e = e.message.bytes
