use Rattle.std.proofs.Common.{◌<◌, length, sym, ◌∙◌, ap, arith}
use Rattle.std.specs.Prelude.{Vec}
use Rattle.std.specs.declared.alloc.Global.{Global}
use Rattle.wcv_core.specs.declared.core_types.ValType.{ValType}
use Rattle.wcv_types.specs.Open.{listed}
use Rattle.wcv_types.proofs.Copying.{none_past}
use Rattle.wcv_flat.proofs.Signing.{cores_next}
use Rattle.wcv_flat.proofs.lowering.core_types.Goals as goal
use Rattle.wcv_flat.proofs.lowering.core_types.Goals.{in-Some+in_ok-push, in_default}

pub loop-k-preserved : goal.loop-k-preserved
loop-k-preserved c =
    elim c.match-get.branch [
      | in-Some+in_ok-push w ↦
          ap (λ (v : Vec ValType Global). v.items) w.core-is ∙
          cores_next c.args.size (listed c.args.types.now) c.loop-k.k w.in-Some.ty c.loop-k.core.items w.push.new.self.items w.core_type.result (sym c.get.ensures ∙ w.in-Some.is) w.core_type.ensures c.loop-k.invariant w.in_ok-push.ensures.items
      | in_default w ↦
          let within : c.loop-k.k < length (listed c.args.types.now) = omega (arith, c.loop-k-test.true, c.len-k-end.ensures.len) in
          absurd (none_past (listed c.args.types.now) c.loop-k.k (sym w.in_default.is ∙ c.get.ensures) within)
    ]
