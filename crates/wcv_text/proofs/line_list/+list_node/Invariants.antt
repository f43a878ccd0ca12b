use Rattle.std.proofs.Common.{◌≡◌, [], Some, false, take}
use Rattle.wcv_types.specs.Standing.{identity_of}
use Rattle.wcv_types.specs.Text.{has_line}
use Rattle.wcv_types.specs.Unfold.{parts_at, rank}
use Rattle.wcv_types.specs.declared.component_type.ComponentType.{ComponentType}
use Rattle.wcv_text.specs.LineList.{Adds}
use Rattle.wcv_text.specs.Nodes.{write_all, NoneFrom}
use Rattle.wcv_text.specs.Numbers.{so_far}
use Rattle.wcv_text.proofs.line_list.+list_node.Given as goal

abbrev pub decreases-list_node : goal.decreases-list_node
decreases-list_node l = rank l.part

-- the first parts are listed, and the type itself is not
abbrev pub invariant-loop-k : goal.invariant-loop-k
invariant-loop-k l = record {
  lists : (ty : ComponentType) → Adds l.types ty l.initial.seen l.initial.lines.items l.seen l.lines.items (λ w. write_all l.types w (take l.k (parts_at l.types l.part)));
  no_line : has_line (so_far l.seen []) (Some (identity_of l.part)) ≡ false;
  older : NoneFrom (rank l.part) l.initial.seen l.seen;
}
