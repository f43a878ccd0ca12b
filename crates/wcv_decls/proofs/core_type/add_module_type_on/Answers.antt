use Rattle.std.proofs.Common.{◌≡◌, ℕ, ◌-◌, List, length, map, refl, sym, subst, slice_index_or, slice_set, inl}
use Rattle.wcv_syntax.specs.Model.{Form, core_type_item, core_module_type}
use Rattle.wcv_syntax.specs.View.{module_decl_view}
use Rattle.wcv_types.proofs.Grown.{extends_trans}
use Rattle.wcv_lower.specs.Context.{core_types}
use Rattle.wcv_spaces.specs.Contents.{Contents, StateStands}
use Rattle.wcv_spaces.specs.Promises.{Keeps}
use Rattle.wcv_state.specs.Stack.{innermost}
use Rattle.wcv_spaces.proofs.Keeping.{state_stands, keeps_grown, keeps_trans}
use Rattle.wcv_state.proofs.Stacks.{indexed, last_stands, grew_on, refused_on, kept_on, kept_marked, around_kept}
use Rattle.wcv_decls.specs.Stack.{RefusedOn, KeepsOn}
use Rattle.wcv_decls.proofs.CoreModules.{module_type_grew, module_keeps, type_joins_made, module_type_counted}
use Rattle.wcv_decls.proofs.Stacks.{refused_before}
use Rattle.wcv_decls.proofs.core_type.add_module_type_on.Goals as goal

pub join_module-requires-clause-stands : goal.join_module-requires-clause-stands
join_module-requires-clause-stands c =
    let ss = c.args.components.now in
    let r = c.index-components-last.result in
    let k : ℕ = length ss - 1 in
    state_stands c.args.types.now c.declare_type.new.types c.in-Ok.ensures.grown (slice_index_or ss k r) (last_stands c.args.types.now ss r c.requires.some c.requires.open)

pub join_module-requires-clause-room : goal.join_module-requires-clause-room
join_module-requires-clause-room c =
    let ss = c.args.components.now in
    let r = c.index-components-last.result in
    let k : ℕ = length ss - 1 in
    λ e. module_type_counted c.args.types.now ss (slice_index_or ss k r) (map module_decl_view c.args.decls.items) c.requires.some (indexed ss k r c.requires.some refl) c.in-Ok.ensures.free

pub returns-in-Ok-join_module-clause-ok : goal.returns-in-Ok-join_module-clause-ok
returns-in-Ok-join_module-clause-ok c =
    let ss = c.args.components.now in
    let r = c.index-components-last.result in
    let k : ℕ = length ss - 1 in
    let same : slice_index_or ss k r ≡ slice_index_or ss k (slice_index_or ss k r) = cc (c.index-components-last.is) in
    λ p. grew_on ss k (slice_index_or ss k r) c.join_module.new.state refl c.requires.some same c.args.types.now c.join_module.new.types p (core_type_item (core_module_type (map module_decl_view c.args.decls.items))) c.requires.open (extends_trans c.args.types.now c.declare_type.new.types c.join_module.new.types c.in-Ok.ensures.grown c.join_module.ensures.keeps.arena)
    (λ outer e. module_type_grew c.args.types.now c.declare_type.new.types c.join_module.new.types (slice_index_or ss k r) c.join_module.new.state c.in-Ok.made (last_stands c.args.types.now ss r c.requires.some c.requires.open)
    c.in-Ok.ensures.rest c.in-Ok.ensures.grown c.in-Ok-join_module.ensures.ok (map module_decl_view c.args.decls.items) ss outer e c.in-Ok.ensures.ok c.in-Ok.ensures.free p)

pub returns-in-Ok-join_module-clause-types : goal.returns-in-Ok-join_module-clause-types
returns-in-Ok-join_module-clause-types c =
    let a = c.args.types.now in
    let ss = c.args.components.now in
    let r = c.index-components-last.result in
    let k : ℕ = length ss - 1 in
    let s : Contents = slice_index_or ss k r in
    let here : s ≡ innermost ss = indexed ss k r c.requires.some refl in
    type_joins_made a c.declare_type.new.types c.join_module.new.types ss k s c.join_module.new.state c.in-Ok.made (map module_decl_view c.args.decls.items) c.requires.some refl here
    c.in-Ok.ensures.ok c.in-Ok.ensures.free c.in-Ok-join_module.ensures.types

pub returns-in-Ok-join_module-clause-keeps : goal.returns-in-Ok-join_module-clause-keeps
returns-in-Ok-join_module-clause-keeps c =
    let ss = c.args.components.now in
    let r = c.index-components-last.result in
    let k : ℕ = length ss - 1 in
    let same : slice_index_or ss k r ≡ slice_index_or ss k (slice_index_or ss k r) = cc (c.index-components-last.is) in
    let h : StateStands c.args.types.now (slice_index_or ss k r) = last_stands c.args.types.now ss r c.requires.some c.requires.open in
    kept_on ss k (slice_index_or ss k r) c.join_module.new.state refl c.requires.some same c.args.types.now c.join_module.new.types c.requires.open
    (module_keeps core_types c.args.types.now c.declare_type.new.types c.join_module.new.types (slice_index_or ss k r) c.join_module.new.state c.in-Ok.made h c.in-Ok.ensures.rest c.in-Ok.ensures.grown c.in-Ok-join_module.ensures.ok)

pub returns-in-Err-join_module-clause-err : goal.returns-in-Err-join_module-clause-err
returns-in-Err-join_module-clause-err c =
    let a = c.args.types.now in
    let ss = c.args.components.now in
    let r = c.index-components-last.result in
    let k : ℕ = length ss - 1 in
    let f : Form = core_type_item (core_module_type (map module_decl_view c.args.decls.items)) in
    let same : slice_index_or ss k r ≡ slice_index_or ss k (slice_index_or ss k r) = cc (c.index-components-last.is) in
    λ p. subst (λ (ts : List Contents). RefusedOn a c.join_module.new.types p ss ts f c.args.offset c.in-Err-join_module.error) (sym c.mark_all_spent.ensures)
    (refused_on ss k (slice_index_or ss k r) c.join_module.new.state refl c.requires.some same a c.join_module.new.types p f c.args.offset c.in-Err-join_module.error (λ outer e. inl c.in-Err-join_module.ensures.err))

pub returns-in-Err-join_module-clause-keeps : goal.returns-in-Err-join_module-clause-keeps
returns-in-Err-join_module-clause-keeps c =
    let a = c.args.types.now in
    let b = c.declare_type.new.types in
    let d = c.join_module.new.types in
    let ss = c.args.components.now in
    let r = c.index-components-last.result in
    let k : ℕ = length ss - 1 in
    let s : Contents = slice_index_or ss k r in
    let same : slice_index_or ss k r ≡ slice_index_or ss k (slice_index_or ss k r) = cc (c.index-components-last.is) in
    let kept : Keeps a d s c.join_module.new.state = keeps_trans a b d s s c.join_module.new.state (keeps_grown a b s c.in-Ok.ensures.grown (last_stands a ss r c.requires.some c.requires.open)) c.in-Err-join_module.ensures.keeps in
    subst (KeepsOn a d ss) (sym c.mark_all_spent.ensures)
    (kept_marked a d ss (slice_set ss k c.join_module.new.state) (kept_on ss k s c.join_module.new.state refl c.requires.some same a d c.requires.open kept))

pub returns-in-Err-clause-err : goal.returns-in-Err-clause-err
returns-in-Err-clause-err c =
    let a = c.args.types.now in
    let ss = c.args.components.now in
    let f : Form = core_type_item (core_module_type (map module_decl_view c.args.decls.items)) in
    λ p. subst (λ (ts : List Contents). RefusedOn a c.declare_type.new.types p ss ts f c.args.offset c.in-Err.error) (sym c.mark_all_spent-in-Err.ensures)
    (refused_before a c.declare_type.new.types p ss f c.args.offset c.in-Err.error c.requires.some c.in-Err.ensures.err)

pub returns-in-Err-clause-keeps : goal.returns-in-Err-clause-keeps
returns-in-Err-clause-keeps c =
    let a = c.args.types.now in
    let b = c.declare_type.new.types in
    let ss = c.args.components.now in
    subst (KeepsOn a b ss) (sym c.mark_all_spent-in-Err.ensures) (kept_marked a b ss ss (around_kept a b c.in-Err.ensures.grown ss c.requires.open))
