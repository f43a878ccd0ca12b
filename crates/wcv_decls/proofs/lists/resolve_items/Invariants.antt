use Rattle.std.proofs.Common.{◌≡◌, length}
use Rattle.std.specs.Vec.Iter.{into_iter_items, into_iter_len}
use Rattle.wcv_spaces.specs.Contents.{context_of}
use Rattle.wcv_decls.specs.Resolved.{written_item, item_part}
use Rattle.wcv_decls.proofs.Looking.{Looked}
use Rattle.wcv_decls.proofs.lists.resolve_items.Given as goal

abbrev pub invariant-loop-item : goal.invariant-loop-item
invariant-loop-item l = record {
  looked : Looked l.types (context_of l.types l.state) l.state.features written_item item_part l.fn.items.items (into_iter_items l.item-iterator) l.resolved.items;
  left : into_iter_len l.item-iterator ≡ length (into_iter_items l.item-iterator);
}
