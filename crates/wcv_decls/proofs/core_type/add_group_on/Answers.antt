use Rattle.std.proofs.Common.{◌≡◌, ℕ, ◌-◌, List, length, refl, sym, subst, slice_index_or, slice_set}
use Rattle.wcv_syntax.specs.Model.{Form, core_type_item, core_rec}
use Rattle.wcv_core.specs.CoreForm.{group_form}
use Rattle.wcv_lower.specs.Given.{names_of, none_given}
use Rattle.wcv_spaces.specs.Contents.{Contents}
use Rattle.wcv_state.specs.Stack.{innermost}
use Rattle.wcv_lower.specs.Context.{core_types}
use Rattle.wcv_decls.proofs.CoreModules.{joins_none}
use Rattle.wcv_state.proofs.Stacks.{grew_on, refused_on, kept_on, kept_marked}
use Rattle.wcv_decls.specs.Stack.{RefusedOn, KeepsOn, contexts_around}
use Rattle.wcv_decls.proofs.core_type.add_group_on.Goals as goal

pub returns-in-Ok-clause-ok : goal.returns-in-Ok-clause-ok
returns-in-Ok-clause-ok c =
    let ss = c.args.components.now in
    let r = c.index-components-last.result in
    let k : ℕ = length ss - 1 in
    let same : slice_index_or ss k r ≡ slice_index_or ss k (slice_index_or ss k r) = cc (c.index-components-last.is) in
    λ p. grew_on ss k (slice_index_or ss k r) c.add_group.new.state refl c.requires.some same c.args.types.now c.add_group.new.types p (core_type_item (core_rec (group_form c.args.rec))) c.requires.open c.add_group.ensures.keeps.arena (λ outer e. c.in-Ok.ensures.ok (contexts_around c.args.types.now outer) p)

pub returns-in-Ok-clause-types : goal.returns-in-Ok-clause-types
returns-in-Ok-clause-types c =
    let ss = c.args.components.now in
    joins_none core_types c.add_group.new.types (innermost ss) (innermost (slice_set ss (length ss - 1) c.add_group.new.state))

pub returns-in-Ok-clause-keeps : goal.returns-in-Ok-clause-keeps
returns-in-Ok-clause-keeps c =
    let ss = c.args.components.now in
    let r = c.index-components-last.result in
    let k : ℕ = length ss - 1 in
    let same : slice_index_or ss k r ≡ slice_index_or ss k (slice_index_or ss k r) = cc (c.index-components-last.is) in
    kept_on ss k (slice_index_or ss k r) c.add_group.new.state refl c.requires.some same c.args.types.now c.add_group.new.types c.requires.open c.add_group.ensures.keeps

pub returns-in-Err-clause-err : goal.returns-in-Err-clause-err
returns-in-Err-clause-err c =
    let a = c.args.types.now in
    let b = c.add_group.new.types in
    let ss = c.args.components.now in
    let r = c.index-components-last.result in
    let k : ℕ = length ss - 1 in
    let f : Form = core_type_item (core_rec (group_form c.args.rec)) in
    let same : slice_index_or ss k r ≡ slice_index_or ss k (slice_index_or ss k r) = cc (c.index-components-last.is) in
    λ p. subst (λ (ts : List Contents). RefusedOn a b p ss ts f c.args.offset c.in-Err.error) (sym c.mark_all_spent.ensures)
    (refused_on ss k (slice_index_or ss k r) c.add_group.new.state refl c.requires.some same a b p f c.args.offset c.in-Err.error (λ outer e. c.in-Err.ensures.err (contexts_around a outer) (names_of none_given) p))

pub returns-in-Err-clause-keeps : goal.returns-in-Err-clause-keeps
returns-in-Err-clause-keeps c =
    let a = c.args.types.now in
    let b = c.add_group.new.types in
    let ss = c.args.components.now in
    let r = c.index-components-last.result in
    let k : ℕ = length ss - 1 in
    let same : slice_index_or ss k r ≡ slice_index_or ss k (slice_index_or ss k r) = cc (c.index-components-last.is) in
    subst (KeepsOn a b ss) (sym c.mark_all_spent.ensures)
    (kept_marked a b ss (slice_set ss k c.add_group.new.state) (kept_on ss k (slice_index_or ss k r) c.add_group.new.state refl c.requires.some same a b c.requires.open c.add_group.ensures.keeps))
