use Rattle.std.proofs.Common.{◌≡◌, ◌∙◌, ap, refl, List, ℕ, subst, sym, true}
use Rattle.wcv_lower.specs.Checks.{IsFree}
use Rattle.wcv_syntax.specs.View.{instance_view}
use Rattle.wcv_lower.specs.Instances.{instance_values}
use Rattle.wcv_spaces.specs.Contents.{Contents, with_uses}
use Rattle.wcv_state.specs.Joining.{InstanceJoined}
use Rattle.wcv_spaces.specs.Promises.{Keeps, MemoryOrCausedBy}
use Rattle.wcv_spaces.specs.Values.{uses_id_checks}
use Rattle.wcv_spaces.proofs.Keeping.{keeps_grown_marked}
use Rattle.wcv_decls.proofs.Outcomes.{both_ok}
use Rattle.wcv_instances.proofs.InstanceGrown.{err_and, instance_grew, instance_refused, kept_so, new_there, still_stands, uses_refused}
use Rattle.wcv_instances.proofs.component_instances.add_instance.Goals as goal

pub join_made-requires-clause-stands : goal.join_made-requires-clause-stands
join_made-requires-clause-stands c = still_stands c.args.types.now c.instance_with_values.new.types c.args.state.now (instance_view c.args.instance) c.in-Ok.made.0 c.in-Ok.ensures.ok c.instance_with_values.ensures.grown c.requires.open.stands

pub join_made-requires-clause-fresh : goal.join_made-requires-clause-fresh
join_made-requires-clause-fresh c = new_there c.args.types.now c.instance_with_values.new.types c.args.state.now (instance_view c.args.instance) c.in-Ok.made.0 c.in-Ok.ensures.ok c.instance_with_values.ensures.grown c.requires.open.stands

pub returns-in-Ok-clause-ok : goal.returns-in-Ok-clause-ok
returns-in-Ok-clause-ok c =
    let b = c.instance_with_values.new.types in
    let s : Contents = c.args.state.now in
    let s' : Contents = c.join_made.new.state in
    let same : c.as_slice.result.now ≡ instance_values (instance_view c.args.instance) = c.as_slice.ensures.value ∙ c.in-Ok.ensures.values in
    both_ok c.join_made.result _ _ _
    (λ j free outer q.
    instance_grew c.args.types.now c.instance_with_values.new.types c.args.state.now (instance_view c.args.instance) c.in-Ok.made.0 c.in-Ok.ensures.ok c.instance_with_values.ensures.grown c.requires.open.stands s'
    (subst (λ (ks : List ℕ). InstanceJoined b (with_uses ks s) s' c.in-Ok.made.0) same j) (subst (λ (ks : List ℕ). IsFree (uses_id_checks s.spaces.values ks)) same free) outer q)
    c.join_made.ensures.ok c.join_made.ensures.free

pub returns-in-Ok-clause-err : goal.returns-in-Ok-clause-err
returns-in-Ok-clause-err c =
    let s : Contents = c.args.state.now in
    let same : c.as_slice.result.now ≡ instance_values (instance_view c.args.instance) = c.as_slice.ensures.value ∙ c.in-Ok.ensures.values in
    err_and c.join_made.result
    (λ e w gone outer q.
    uses_refused c.args.types.now s c.requires.open.stands c.instance_with_values.new.types (instance_view c.args.instance) c.join_made.new.state c.args.offset e gone
    (subst (λ (ks : List ℕ). MemoryOrCausedBy (uses_id_checks s.spaces.values ks) c.args.offset e) same w) outer q)
    c.join_made.ensures.err c.join_made.ensures.spent

pub returns-in-Ok-clause-keeps : goal.returns-in-Ok-clause-keeps
returns-in-Ok-clause-keeps c = kept_so c.args.types.now c.instance_with_values.new.types c.args.state.now (instance_view c.args.instance) c.in-Ok.made.0 c.in-Ok.ensures.ok c.instance_with_values.ensures.grown c.requires.open.stands c.join_made.new.state c.join_made.ensures.keeps

pub returns-in-Err-clause-err : goal.returns-in-Err-clause-err
returns-in-Err-clause-err c = λ outer q.
    instance_refused c.args.types.now c.instance_with_values.new.types c.args.state.now c.mark_spent.new.self (instance_view c.args.instance) c.args.offset c.in-Err.error (ap (λ (z : Contents). z.spent) c.mark_spent.ensures) c.in-Err.ensures.err outer q

pub returns-in-Err-clause-keeps : goal.returns-in-Err-clause-keeps
returns-in-Err-clause-keeps c =
    subst (λ (z : Contents). Keeps c.args.types.now c.instance_with_values.new.types c.args.state.now z) (sym c.mark_spent.ensures)
    (keeps_grown_marked c.args.types.now c.instance_with_values.new.types c.args.state.now c.args.state.now true c.instance_with_values.ensures.grown refl c.requires.open.stands)
