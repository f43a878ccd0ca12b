use Rattle.std.proofs.Common.{sym, arith}
use Rattle.wcv_lower.specs.CanonOptions.{stands}
use Rattle.wcv_flat.specs.CodeRows.{name_of}
use Rattle.wcv_canon.proofs.Names.{any_found, any_next}
use Rattle.wcv_canon.proofs.asks.first_standing.Goals as goal

pub returns-then-stands : goal.returns-then-stands
returns-then-stands c = sym (any_found name_of (λ n. stands n c.args.options.now) c.args.names.now c.loop-name.name-index _ (omega arith) (sym c.if-stands.ensures))

pub loop-name-preserved : goal.loop-name-preserved
loop-name-preserved c = record { before = any_next name_of (λ n. stands n c.args.options.now) c.args.names.now c.loop-name.name-index _ (omega arith) c.loop-name.invariant.before (sym c.if-stands.ensures) }
