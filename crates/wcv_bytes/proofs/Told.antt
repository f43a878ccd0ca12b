-- Faults told by their offsets.
use Rattle.std.proofs.Common.{ℕ, Result, ap}
use Rattle.wcv_bytes.specs.declared.fault.Fault.{Fault}
use Rattle.wcv_bytes.specs.declared.fault.ReadError.{ReadError}
use Rattle.wcv_bytes.specs.declared.fault.ReadError.TheVariants as errors
use Rattle.wcv_bytes.specs.Reading.{Fails}
use Rattle.wcv_bytes.specs.Sections.{FailsAt, told, error_told}

pub fails_told : {Y : Type 0} (end : ℕ) (e : ReadError) (read : Result Y Fault) → Fails e read → FailsAt (error_told end e) (told end read)
fails_told end errors.Memory read h = tt
fails_told end (errors.Fault f) read h = ap (told end) h
