use Rattle.std.proofs.Common.{◌≡◌, length}
use Rattle.std.specs.Vec.Iter.{into_iter_items, into_iter_len}
use Rattle.wcv_spaces.specs.Contents.{context_of}
use Rattle.wcv_decls.specs.Resolved.{written_case, case_part}
use Rattle.wcv_decls.proofs.Looking.{Looked}
use Rattle.wcv_decls.proofs.lists.resolve_cases.Given as goal

abbrev pub invariant-loop-case : goal.invariant-loop-case
invariant-loop-case l = record {
  looked : Looked l.types (context_of l.types l.state) l.state.features written_case case_part l.fn.cases.items (into_iter_items l.case-iterator) l.resolved.items;
  left : into_iter_len l.case-iterator ≡ length (into_iter_items l.case-iterator);
}
