-- Components: a header, and sections one after another.
use Rattle.std.specs.Prelude.{ℕ, zero, suc, ◌-◌, List, [], ◌∷◌, ◌++◌, length, Bool, not, ◌||◌, Result, Ok, Err, nat_lt, ◌==◌, if◌then◌else◌}
use Rattle.wcv_syntax.specs.Model.{Form, Entry, core_module_item, component_item}
use Rattle.wcv_syntax.specs.View.{items_of}
use Rattle.wcv_bytes.specs.declared.fault.BinaryFault.{BinaryFault}
use Rattle.wcv_bytes.specs.declared.fault.Why.TheVariants.{Short, UnknownSection, TooDeep}
use Rattle.wcv_binary.specs.Headers.{component_header_at}
use Rattle.wcv_binary.specs.Items.{entries_at}
use Rattle.wcv_binary.specs.Modules.{core_module_at}
use Rattle.wcv_bytes.specs.Reading.{text_at}
use Rattle.wcv_bytes.specs.Sections.{◌>>=◌, fault_at, told, contents_at, counted_at}

-- how many components and declared types may stand in one another, the root not counted
abbrev pub max_nesting : ℕ
max_nesting = 127

-- the items of a component, and how many bytes may still be kept behind them
abbrev pub Read : Type 0
Read = Result (List Entry × ℕ) BinaryFault

-- what reads a component in a section, by the offset of its end and how many bytes may be kept
abbrev pub Nested : Type 0
Nested = ℕ → ℕ → List ℕ → Read

-- whether the contents of a section count with its size: those of a custom section do not, and a core module or a
-- component counts its own
abbrev pub counts : ℕ → Bool
counts id = not (id == 0 || (id == 1 || id == 4))

-- How many bytes may still be kept behind a section of items that ends at an offset. Each of its items counts for more
-- than its bytes, and so does a type for each of them; one that starts a function does not.
abbrev pub items_room : ℕ → ℕ → ℕ → List ℕ → Result ℕ BinaryFault
items_room id end room bytes = if id == 9 then Ok room else counted_at (id == 7) end room bytes

-- what a section of one item holds, a core module or else a component
unfoldable pub whole_at : Nested → ℕ → ℕ → ℕ → List ℕ → Result (Form × ℕ) BinaryFault
whole_at nested id end room bytes =
    if id == 1 then (core_module_at end room bytes >>= λ x. Ok (core_module_item x.0, x.1))
    else (nested end room bytes >>= λ x. Ok (component_item (items_of x.0) end, x.1))

-- the items with those of a section, by its byte, where its contents end at an offset. Types nest at most so deep
unfoldable pub held_at : ℕ → Nested → ℕ → ℕ → List Entry → ℕ → List ℕ → Read
held_at depth nested id end front room bytes =
    if id == 0 then (told end (text_at bytes) >>= λ _. Ok (front, room))
    else if id == 1 || id == 4 then (whole_at nested id end room bytes >>= λ x. Ok (front ++ (record { offset = end - length bytes; form = x.0 } ∷ []), x.1))
    else if nat_lt id 12 then (items_room id end room bytes >>= λ left. told end (entries_at depth id end front bytes) >>= λ es. Ok (es, left))
    else Err (fault_at UnknownSection (end - length bytes))

-- a section behind its byte
unfoldable pub section_at : ℕ → Nested → ℕ → ℕ → List Entry → ℕ → List ℕ → Result (List Entry × ℕ × List ℕ) BinaryFault
section_at depth nested id end front room bytes = do
  c ← contents_at (counts id) end room bytes
  x ← held_at depth nested id (end - length c.1) front c.2 c.0
  Ok (x.0, x.1, c.1)

-- sections to the end of the bytes, no more than a number
unfoldable pub sections_at : ℕ → Nested → ℕ → ℕ → List Entry → ℕ → List ℕ → Read
sections_at depth nested most end front room [] = Ok (front, room)
sections_at depth nested zero end front room (id ∷ bytes) = Err (fault_at Short end)
sections_at depth nested (suc most) end front room (id ∷ bytes) = section_at depth nested id end front room bytes >>= λ x. sections_at depth nested most end x.0 x.1 x.2

-- a component, all of the bytes, with its header, in which types nest at most so deep
unfoldable pub component_over : ℕ → Nested → Nested
component_over depth nested end room bytes = do
  rest ← told end (component_header_at bytes)
  sections_at depth nested (length rest) end [] (room - 8) rest

-- one in which components and declared types nest at most so deep, itself among them
unfoldable pub component_within : ℕ → Nested
component_within zero end room bytes = Err (fault_at TooDeep (end - length bytes))
component_within (suc depth) end room bytes = component_over depth (component_within depth) end room bytes
