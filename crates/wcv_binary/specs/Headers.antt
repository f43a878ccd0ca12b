-- Headers: four bytes of magic, two of a version and two of a layer.
use Rattle.std.specs.Prelude.{ℕ, List, [], ◌∷◌, length, drop, Result, Ok, Err, nat_eq, nat_lt, if◌then◌else◌}
use Rattle.std.specs.List.{starts_with}
use Rattle.wcv_bytes.specs.declared.fault.Fault.{Fault}
use Rattle.wcv_bytes.specs.declared.fault.Why.TheVariants.{Short, NotMagic, NotVersion, IsModule}
use Rattle.wcv_bytes.specs.Reading.{◌>>=◌, fault}

abbrev pub magic : List ℕ
magic = 0x00 ∷ 0x61 ∷ 0x73 ∷ 0x6D ∷ []

abbrev pub component_version : List ℕ
component_version = 0x0D ∷ 0x00 ∷ 0x01 ∷ 0x00 ∷ []

abbrev pub module_version : List ℕ
module_version = 0x01 ∷ 0x00 ∷ 0x00 ∷ 0x00 ∷ []

-- what is behind the magic of a header that is whole
unfoldable pub magic_at : List ℕ → Result (List ℕ) Fault
magic_at bytes =
    if nat_lt (length bytes) 8 then Err (fault Short [])
    else if starts_with nat_eq bytes magic then Ok (drop 4 bytes)
    else Err (fault NotMagic bytes)

-- what is behind the header of a component
unfoldable pub component_header_at : List ℕ → Result (List ℕ) Fault
component_header_at bytes = do
  rest ← magic_at bytes
  if starts_with nat_eq rest component_version then Ok (drop 4 rest)
      else Err (fault (if starts_with nat_eq rest module_version then IsModule else NotVersion) rest)

-- what is behind the header of a core module
unfoldable pub module_header_at : List ℕ → Result (List ℕ) Fault
module_header_at bytes = do
  rest ← magic_at bytes
  if starts_with nat_eq rest module_version then Ok (drop 4 rest) else Err (fault NotVersion rest)
