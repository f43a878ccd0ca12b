-- Core modules, with their faults at their offsets in the file.
use Rattle.std.specs.Prelude.{ℕ, zero, suc, ◌-◌, List, [], ◌∷◌, length, false, Result, Ok, Err, ◌==◌, if◌then◌else◌}
use Rattle.wcv_syntax.specs.Model.{Module_decl}
use Rattle.wcv_bytes.specs.declared.fault.BinaryFault.{BinaryFault}
use Rattle.wcv_bytes.specs.declared.fault.Why.TheVariants.{Short, CodeCount}
use Rattle.wcv_binary.specs.Headers.{module_header_at}
use Rattle.wcv_binary.specs.ModuleItems.{Module_form}
use Rattle.wcv_binary.specs.ModuleSections.{is_kept, said_at, no_sections, declarations}
use Rattle.wcv_bytes.specs.Sections.{◌>>=◌, fault_at, told, contents_at, counted_at}

-- How many bytes may still be kept behind a section that ends at an offset. Each entry of one that is kept counts for
-- more than its bytes.
abbrev pub module_room : ℕ → ℕ → ℕ → List ℕ → Result ℕ BinaryFault
module_room id end room bytes = if is_kept id then counted_at false end room bytes else Ok room

-- A section of a core module that ends at an offset, from its size on: what is known behind it, what is left, and how
-- many bytes may still be kept.
unfoldable pub module_section_at : ℕ → ℕ → ℕ → Module_form → List ℕ → Result (Module_form × List ℕ × ℕ) BinaryFault
module_section_at id end room m bytes = do
  read ← contents_at (is_kept id) end room bytes
  said ← told (end - length read.1) (said_at id m read.0)
  left ← module_room id (end - length read.1) read.2 read.0
  Ok (said, read.1, left)

-- sections to the end of the bytes, no more than a number
unfoldable pub module_sections_at : ℕ → ℕ → ℕ → Module_form → List ℕ → Result (Module_form × ℕ) BinaryFault
module_sections_at most end room m [] = Ok (m, room)
module_sections_at zero end room m (id ∷ bytes) = Err (fault_at Short end)
module_sections_at (suc most) end room m (id ∷ bytes) = module_section_at id end room m bytes >>= λ x. module_sections_at most end x.2 x.0 x.1

-- what a core module declares that has a body for each function
abbrev pub whole_module : ℕ → Module_form × ℕ → Result (List Module_decl × ℕ) BinaryFault
whole_module end read = if read.0.bodies == length read.0.functions then Ok (declarations read.0, read.1) else Err (fault_at CodeCount end)

-- A core module that ends at an offset and takes all the bytes: what it declares, and how many bytes may still be kept
-- behind it. Its header is kept.
unfoldable pub core_module_at : ℕ → ℕ → List ℕ → Result (List Module_decl × ℕ) BinaryFault
core_module_at end room bytes = do
  rest ← told end (module_header_at bytes)
  read ← module_sections_at (length rest) end (room - 8) no_sections rest
  whole_module end read
