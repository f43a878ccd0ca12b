-- Items of sections, each at its offset.
use Rattle.std.specs.Prelude.{ℕ, ◌-◌, List, length, Result, Ok, Err, ◌==◌, if◌then◌else◌}
use Rattle.wcv_syntax.specs.Model.{Form, Entry, core_instance_item, core_type_item, instance_item, alias_item, type_item, canon_item, start_item, import_item, export_item}
use Rattle.wcv_bytes.specs.declared.fault.Fault.{Fault}
use Rattle.wcv_bytes.specs.declared.fault.Why.TheVariants.{Surplus}
use Rattle.wcv_binary.specs.Aliases.{alias_at}
use Rattle.wcv_binary.specs.Canons.{canon_at}
use Rattle.wcv_binary.specs.CoreInstances.{core_instance_at}
use Rattle.wcv_binary.specs.ModuleTypes.{core_type_at}
use Rattle.wcv_binary.specs.Names.{import_at, export_at, instance_at}
use Rattle.wcv_binary.specs.Types.{type_over, type_within}
use Rattle.wcv_bytes.specs.Entries.{behind}
use Rattle.wcv_bytes.specs.Reading.{◌>>=◌, fault, u32_at, list_at, vec_at, of_one}

-- a function, its arguments, and how many results it has
unfoldable pub start_at : List ℕ → Result (Form × List ℕ) Fault
start_at bytes = do
  f ← u32_at bytes
  args ← vec_at u32_at f.1
  results ← u32_at args.1
  Ok (start_item f.0 args.0 results.0, results.1)

-- what an item holds, in a section of this byte that is known to hold items. Types nest in it at most so deep
unfoldable pub form_at : ℕ → ℕ → List ℕ → Result (Form × List ℕ) Fault
form_at depth id bytes =
    if id == 2 then of_one core_instance_at core_instance_item bytes
    else if id == 3 then of_one core_type_at core_type_item bytes
    else if id == 5 then of_one instance_at instance_item bytes
    else if id == 6 then of_one alias_at alias_item bytes
    else if id == 7 then of_one (type_over (type_within depth)) type_item bytes
    else if id == 8 then of_one canon_at canon_item bytes
    else if id == 9 then start_at bytes
    else if id == 10 then of_one import_at import_item bytes
    else of_one export_at export_item bytes

-- an item at an offset
abbrev pub placed_at : ℕ → ℕ → ℕ → List ℕ → Result (Entry × List ℕ) Fault
placed_at depth id offset bytes = do
  f ← form_at depth id bytes
  Ok (record { offset = offset; form = f.0 }, f.1)

-- one where the section ends at an offset
unfoldable pub entry_at : ℕ → ℕ → ℕ → List ℕ → Result (Entry × List ℕ) Fault
entry_at depth id end bytes = placed_at depth id (end - length bytes) bytes

-- what was read to the end of a section
abbrev pub ended : {X : Type 0} → Result (X × List ℕ) Fault → Result X Fault
ended read = read >>= λ x. if length x.1 == 0 then Ok x.0 else Err (fault Surplus x.1)

-- how many items a section has: one that starts a function, or a count
abbrev pub count_at : ℕ → List ℕ → Result (ℕ × List ℕ) Fault
count_at id bytes = if id == 9 then Ok (1, bytes) else u32_at bytes

-- the items of a section, all of its bytes, behind others
unfoldable pub entries_at : ℕ → ℕ → ℕ → List Entry → List ℕ → Result (List Entry) Fault
entries_at depth id end front bytes = do
  n ← count_at id bytes
  ended (behind front (list_at (entry_at depth id end) n.0 n.1))
