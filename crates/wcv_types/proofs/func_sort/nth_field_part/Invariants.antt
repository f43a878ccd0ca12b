use Rattle.std.proofs.Common.{◌≡◌, drop, []}
use Rattle.std.specs.Prelude.{slice_get}
use Rattle.wcv_types.specs.Unfold.{parts_in, field_slots}
use Rattle.wcv_types.proofs.func_sort.nth_field_part.Given as goal

-- the part that is sought is the left-th of those that are left
abbrev pub invariant-loop-field : goal.invariant-loop-field
invariant-loop-field l = slice_get (parts_in (field_slots l.fields [])) l.fn.k ≡ slice_get (parts_in (field_slots (drop l.field-index l.fields) [])) l.left
