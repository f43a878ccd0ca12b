-- Where a constant expression of a core module ends. What it computes is not looked at.
use Rattle.std.specs.Prelude.{ℕ, zero, suc, ◌-◌, ◌/◌, ◌^◌, List, [], ◌∷◌, length, drop, Result, Ok, Err, Bool, true, nat_lt, nat_le, ◌==◌, ◌&&◌, ◌||◌, if◌then◌else◌}
use Rattle.wcv_bytes.specs.declared.fault.Fault.{Fault}
use Rattle.wcv_bytes.specs.declared.fault.Why.TheVariants.{Short, TooLong, TooLarge, UnsupportedInstruction}
use Rattle.wcv_binary.specs.CoreValues.{full_ref_at}
use Rattle.wcv_bytes.specs.Reading.{◌>>=◌, fault, u32_at}

-- Behind a number from - most - 1 to most, as signed LEB128: seven bits a byte, the lowest first, and the eighth bit
-- where more follows. Of the last byte the bits beyond the number's width are those of its sign.
unfoldable pub signed_end : ℕ → List ℕ → Result (List ℕ) Fault
signed_end most [] = Err (fault Short [])
signed_end most (b ∷ rest) =
    if nat_lt b 128 then (if nat_lt most (if nat_lt b 64 then b else 127 - b) then Err (fault TooLarge (b ∷ rest)) else Ok rest)
    else if nat_lt most 127 then Err (fault TooLong (b ∷ rest)) else signed_end (most / 128) rest

-- behind a number of 32 bits
unfoldable pub u32_end : List ℕ → Result (List ℕ) Fault
u32_end bytes = u32_at bytes >>= λ x. Ok x.1

-- behind the heap type of a null reference
unfoldable pub heap_end : List ℕ → Result (List ℕ) Fault
heap_end bytes = full_ref_at true bytes >>= λ x. Ok x.1

-- behind so many bytes
unfoldable pub bytes_end : ℕ → List ℕ → Result (List ℕ) Fault
bytes_end count bytes = if nat_lt (length bytes) count then Err (fault Short []) else Ok (drop count bytes)

-- behind an instruction on vectors, whose first byte was read: v128.const is the only constant one
unfoldable pub vector_end : List ℕ → List ℕ → Result (List ℕ) Fault
vector_end bytes rest = do
  code ← u32_at rest
  if code.0 == 0x0C then bytes_end 16 code.1 else Err (fault UnsupportedInstruction bytes)

-- behind an instruction on structs, arrays or i31, whose first byte was read
unfoldable pub gc_end : List ℕ → List ℕ → Result (List ℕ) Fault
gc_end bytes rest = do
  code ← u32_at rest
  if nat_le code.0 1 || code.0 == 6 || code.0 == 7 then u32_end code.1
      else if code.0 == 8 then (u32_end code.1 >>= λ after. u32_end after)
      else if nat_le 0x1A code.0 && nat_le code.0 0x1C then Ok code.1
      else Err (fault UnsupportedInstruction bytes)

-- an instruction on numbers without immediates: i32.add, sub, mul and i64.add, sub, mul
abbrev pub is_arithmetic : ℕ → Bool
is_arithmetic b = nat_le 0x6A b && nat_le b 0x6C || nat_le 0x7C b && nat_le b 0x7E

-- behind an instruction by its first byte
unfoldable pub instruction_end : List ℕ → Result (List ℕ) Fault
instruction_end [] = Err (fault Short [])
instruction_end (b ∷ rest) =
    if b == 0x41 then signed_end (2 ^ 31 - 1) rest
    else if b == 0x42 then signed_end (2 ^ 63 - 1) rest
    else if b == 0x43 then bytes_end 4 rest
    else if b == 0x44 then bytes_end 8 rest
    else if b == 0x23 || b == 0xD2 then u32_end rest
    else if b == 0xD0 then heap_end rest
    else if is_arithmetic b then Ok rest
    else if b == 0xFD then vector_end (b ∷ rest) rest
    else if b == 0xFB then gc_end (b ∷ rest) rest
    else Err (fault UnsupportedInstruction (b ∷ rest))

-- behind no more instructions than a number, and the byte that ends them
unfoldable pub constant_within : ℕ → List ℕ → Result (List ℕ) Fault
constant_within zero bytes = Err (fault Short [])
constant_within (suc most) [] = Err (fault Short [])
constant_within (suc most) (b ∷ rest) = if b == 0x0B then Ok rest else (instruction_end (b ∷ rest) >>= λ after. constant_within most after)

-- behind a constant expression: instructions, which take a byte at least, and the byte that ends them
abbrev pub constant_at : List ℕ → Result (List ℕ) Fault
constant_at bytes = constant_within (length bytes) bytes
