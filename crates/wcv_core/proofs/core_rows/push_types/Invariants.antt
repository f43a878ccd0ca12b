use Rattle.std.proofs.Common.{◌≡◌, ◌++◌, length, take, map}
use Rattle.wcv_core.specs.CoreForm.{sub_form}
use Rattle.wcv_core.specs.CoreGroups.{parent_in, add_depths}
use Rattle.wcv_core.specs.CoreRows.{place_in, AreLow}
use Rattle.wcv_core.proofs.core_rows.push_types.Given as goal

abbrev pub invariant-loop-ty : goal.invariant-loop-ty
invariant-loop-ty l = record {
  first : l.first ≡ length l.initial.places.items;
  places : l.places.items ≡ l.initial.places.items ++ map (place_in l.group l.first) (take l.ty-index (map sub_form l.types));
  depths : l.depths.items ≡ add_depths l.initial.depths.items (map (parent_in l.first) (take l.ty-index (map sub_form l.types)));
  low : AreLow l.depths.items;
}
