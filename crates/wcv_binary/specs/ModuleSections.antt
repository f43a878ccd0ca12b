-- The sections of a core module.
use Rattle.std.specs.Prelude.{ℕ, ◌+◌, List, [], ◌∷◌, ◌++◌, map, length, Option, Some, None, Result, Ok, Err, Bool, nat_le, nat_lt, ◌==◌, ◌&&◌, ◌||◌, if◌then◌else◌}
use Rattle.wcv_syntax.specs.Model.{Module_decl, module_type, module_import, module_export}
use Rattle.wcv_bytes.specs.declared.fault.Fault.{Fault}
use Rattle.wcv_bytes.specs.declared.fault.Why.TheVariants.{UnknownSection, SectionOrder, CodeCount}
use Rattle.wcv_binary.specs.CoreTypes.{group_at}
use Rattle.wcv_binary.specs.Entities.{memory_type_at, module_import_at}
use Rattle.wcv_binary.specs.Items.{ended}
use Rattle.wcv_binary.specs.ModuleItems.{Module_form, table_at, global_at, tag_at, exports_at}
use Rattle.wcv_bytes.specs.Reading.{◌>>=◌, fault, under_byte, u32_at, text_at, vec_at}

-- ## Their order

-- the places of the sections by their bytes: types, imports, functions, tables, memories, tags, globals, exports, start,
-- elements, count of data, code, data
abbrev pub places : List (ℕ × ℕ)
places =
    (1, 0)
    ∷ (2, 1)
    ∷ (3, 2)
    ∷ (4, 3)
    ∷ (5, 4)
    ∷ (13, 5)
    ∷ (6, 6)
    ∷ (7, 7)
    ∷ (8, 8)
    ∷ (9, 9)
    ∷ (12, 10)
    ∷ (10, 11)
    ∷ (11, 12) ∷ []

-- the place behind one that is not before the next one
abbrev pub place_behind : ℕ → Option ℕ → List ℕ → Result ℕ Fault
place_behind next None bytes = Err (fault UnknownSection bytes)
place_behind next (Some place) bytes = if nat_lt place next then Err (fault SectionOrder bytes) else Ok (place + 1)

-- ## What they say

-- whether what a section says is kept
abbrev pub is_kept : ℕ → Bool
is_kept id = nat_le 1 id && nat_le id 7 || id == 13

-- what the start of a section adds that is kept, by its byte
unfoldable pub kept_at : ℕ → Module_form → List ℕ → Result (Module_form × List ℕ) Fault
kept_at id m bytes =
    if id == 1 then (vec_at group_at bytes >>= λ x. Ok (record m { groups = x.0 }, x.1))
    else if id == 2 then (vec_at module_import_at bytes >>= λ x. Ok (record m { imports = x.0 }, x.1))
    else if id == 3 then (vec_at u32_at bytes >>= λ x. Ok (record m { functions = x.0 }, x.1))
    else if id == 4 then (vec_at table_at bytes >>= λ x. Ok (record m { tables = x.0 }, x.1))
    else if id == 5 then (vec_at memory_type_at bytes >>= λ x. Ok (record m { memories = x.0 }, x.1))
    else if id == 13 then (vec_at tag_at bytes >>= λ x. Ok (record m { tags = x.0 }, x.1))
    else if id == 6 then (vec_at global_at bytes >>= λ x. Ok (record m { globals = x.0 }, x.1))
    else (exports_at m bytes >>= λ x. Ok (record m { exports = x.0 }, x.1))

-- how many bodies there are, one for each function
unfoldable pub bodies_at : Module_form → List ℕ → Result Module_form Fault
bodies_at m bytes = do
  count ← u32_at bytes
  if count.0 == length m.functions then Ok (record m { bodies = count.0 }) else Err (fault CodeCount bytes)

-- what a section adds, by its byte. Of a custom section the name is read, of code the count of bodies, and of start,
-- elements, count of data and data nothing.
unfoldable pub said_at : ℕ → Module_form → List ℕ → Result Module_form Fault
said_at id m bytes =
    if id == 0 then (text_at bytes >>= λ name. Ok m)
    else (place_behind m.next (under_byte places id) bytes >>= λ next.
    (if is_kept id then ended (kept_at id (record m { next = next }) bytes)
    else if id == 10 then bodies_at (record m { next = next }) bytes
    else Ok (record m { next = next })))

-- ## What they declare

-- nothing was read
abbrev pub no_sections : Module_form
no_sections = record {
  next = 0;
  bodies = 0;
  groups = [];
  imports = [];
  functions = [];
  tables = [];
  memories = [];
  tags = [];
  globals = [];
  exports = [];
}

-- types, imports and exports
abbrev pub declarations : Module_form → List Module_decl
declarations m = map module_type m.groups ++ map module_import m.imports ++ map (λ e. module_export e.0 e.1) m.exports
