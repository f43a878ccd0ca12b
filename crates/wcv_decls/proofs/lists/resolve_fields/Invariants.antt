use Rattle.std.proofs.Common.{◌≡◌, length}
use Rattle.std.specs.Vec.Iter.{into_iter_items, into_iter_len}
use Rattle.wcv_spaces.specs.Contents.{context_of}
use Rattle.wcv_decls.specs.Resolved.{written_field, field_part}
use Rattle.wcv_decls.proofs.Looking.{Looked}
use Rattle.wcv_decls.proofs.lists.resolve_fields.Given as goal

abbrev pub invariant-loop-field : goal.invariant-loop-field
invariant-loop-field l = record {
  looked : Looked l.types (context_of l.types l.state) l.state.features written_field field_part l.fn.fields.items (into_iter_items l.field-iterator) l.resolved.items;
  left : into_iter_len l.field-iterator ≡ length (into_iter_items l.field-iterator);
}
