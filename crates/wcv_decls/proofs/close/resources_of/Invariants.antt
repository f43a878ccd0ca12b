use Rattle.std.proofs.Common.{◌≡◌, take}
use Rattle.wcv_types.specs.Tree.{firsts}
use Rattle.wcv_decls.proofs.close.resources_of.Given as goal

-- those before are there
abbrev pub invariant-loop-k : goal.invariant-loop-k
invariant-loop-k l = l.resources ≡ take l.k (firsts l.paths)
