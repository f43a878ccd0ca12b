use Rattle.std.proofs.Common.{◌≡◌, ◌++◌, map, All}
use Rattle.std.specs.List.{range_with_len}
use Rattle.wcv_core.specs.CoreGroups.{total}
use Rattle.wcv_core.specs.CoreJoining.{with_types}
use Rattle.wcv_core.specs.CoreWritten.{sub_entry, IsKnown}
use Rattle.wcv_core.proofs.canonical.add_ids.Given as goal

abbrev pub invariant-loop-position : goal.invariant-loop-position
invariant-loop-position g l = record {
  group : l.group ≡ with_types g.G.InternRecGroup.with_type l.initial.group (range_with_len l.first l.position);
  entries : g.G.InternRecGroup.entries l.group ≡ g.G.InternRecGroup.entries l.initial.group ++ map sub_entry (range_with_len l.first l.position);
  known : All (IsKnown (total l.core)) (g.G.InternRecGroup.entries l.group);
  features : g.G.InternRecGroup.allowed l.group ≡ g.G.InternRecGroup.allowed l.initial.group;
}
