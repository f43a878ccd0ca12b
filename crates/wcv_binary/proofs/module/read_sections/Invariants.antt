use Rattle.std.proofs.Common.{◌≡◌, length}
use Rattle.wcv_binary.specs.Modules.{module_sections_at}
use Rattle.wcv_binary.specs.ModuleViews.{module_form}
use Rattle.wcv_binary.proofs.module.read_sections.Given as goal

abbrev pub decreases-loop-rest : goal.decreases-loop-rest
decreases-loop-rest l = l.most

abbrev pub invariant-loop-rest : goal.invariant-loop-rest
invariant-loop-rest l = module_sections_at l.most l.end l.left (module_form l.«module») l.rest ≡ module_sections_at (length l.bytes) l.end l.room (module_form l.fn.«module») l.bytes
