use Rattle.std.proofs.Common.{take}
use Rattle.wcv_types.specs.Unfold.{rank}
use Rattle.wcv_remap.specs.Remap.{Rebuilding}
use Rattle.wcv_remap.proofs.remap.+remap_part.Given as goal

abbrev pub decreases-remap_part : goal.decreases-remap_part
decreases-remap_part g l = rank l.part

abbrev pub invariant-loop-p : goal.invariant-loop-p
invariant-loop-p g l = Rebuilding (g.N.NodeStore.arena l.initial.types) (g.N.NodeStore.arena l.types) l.initial.map l.map l.initial.steps l.steps (rank l.part) (take l.p-index l.p-items) l.tos
