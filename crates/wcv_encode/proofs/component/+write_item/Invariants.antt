use Rattle.std.proofs.Common.{◌≡◌, Some, drop}
use Rattle.wcv_syntax.specs.View.{items_view}
use Rattle.wcv_encode.specs.Bytes.{◌⧺◌}
use Rattle.wcv_encode.specs.Spelling.{component_header, items_bytes}
use Rattle.wcv_encode.proofs.component.+write_item.Given as goal

abbrev pub invariant-write_component-loop-item : goal.invariant-write_component-loop-item
invariant-write_component-loop-item l = Some l.out.items ⧺ items_bytes (items_view (drop l.item-index l.items)) ≡ Some l.fn.out.items ⧺ (component_header ⧺ items_bytes (items_view l.items))
