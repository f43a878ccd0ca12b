use Rattle.std.proofs.Common.{◌≡◌, ◌<◌, ◌-◌, ◌∷◌, ◌++◌, [], length, Some, rules}
use Rattle.std.specs.Prelude.{slice_get}
use Rattle.wcv_text.proofs.Grouping.{more_done, more_steps}
use Rattle.wcv_text.specs.declared.groups.Step.TheVariants as step
use Rattle.wcv_text.proofs.groups.push_visits.Goals as goal

pub loop-k-preserved : goal.loop-k-preserved
loop-k-preserved c =
    let within : c.loop-k.k < length c.args.ids.now = search rules in
    let found : slice_get c.args.ids.now (length c.args.ids.now - 1 - c.loop-k.k) ≡ Some c.get.result.index = search rules in
    let items : c.push.new.self.items ≡ c.loop-k.steps.items ++ step.Visit c.get.result ∷ [] = search rules in
    record {
      done = λ w. more_done c.args.steps.now.items c.loop-k.steps.items c.push.new.self.items c.args.ids.now c.loop-k.k c.get.result w within found items c.loop-k.invariant.done;
      count = λ gs. more_steps gs c.args.steps.now.items c.loop-k.steps.items c.push.new.self.items c.args.ids.now c.loop-k.k c.get.result within found items (c.loop-k.invariant.count gs);
    }
