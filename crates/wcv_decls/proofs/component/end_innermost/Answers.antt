use Rattle.std.proofs.Common.{◌≡◌, ℕ, ◌-◌, ◌∙◌, List, length, ap, sym, subst, slice_set, slice_index_or, All}
use Rattle.std.proofs.lemmas.Result.{err_from_is_err_and}
use Rattle.wcv_core.specs.Names.{number}
use Rattle.wcv_types.specs.declared.arena.Node.TheVariants as n
use Rattle.wcv_types.proofs.Grown.{extends_refl}
use Rattle.wcv_lower.specs.Context.{concrete}
use Rattle.wcv_lower.specs.Ending.{end_checks}
use Rattle.wcv_lower.specs.Marks.{unused_checks}
use Rattle.wcv_lower.proofs.Causes.{free_both}
use Rattle.wcv_spaces.specs.Contents.{Contents, StateStands}
use Rattle.wcv_state.proofs.Stacks.{around_kept}
use Rattle.wcv_decls.specs.Declaring.{innermost, around, top_in, Ends}
use Rattle.wcv_decls.specs.Stack.{IsOpen, all_spent, stay, ChangesLast, KeepsOn}
use Rattle.wcv_decls.proofs.InnermostStates.{indexed, last_changed, open_here, open_around, kept, spent_alike}
use Rattle.wcv_decls.proofs.Closing.{type_ends, finished_fits, node_at_end, component_tree_same}
use Rattle.wcv_decls.proofs.component.end_innermost.Goals as goal

pub returns-in_err-ty-clause-err : goal.returns-in_err-ty-clause-err
returns-in_err-ty-clause-err c =
    let p = err_from_is_err_and c.from_residual.result c.from_residual.ensures.1 in
    rw (p.1, p.2) c.in_err-ty.ensures.err

pub returns-in_err-ty-clause-left : goal.returns-in_err-ty-clause-left
returns-in_err-ty-clause-left c =
    let p = err_from_is_err_and c.from_residual.result c.from_residual.ensures.1 in
    rw p.1 (ap all_spent c.pop_component.ensures.left)

pub returns-in_err-ty-clause-keeps : goal.returns-in_err-ty-clause-keeps
returns-in_err-ty-clause-keeps c =
    let a = c.args.types.now in
    let os : List Contents = c.args.components.now.items in
    let ss : List Contents = around os in
    let each : All (IsOpen a) ss = open_around a os c.requires.ready.some c.requires.ready.each in
    subst (KeepsOn a a ss) (sym c.pop_component.ensures.left) (around_kept a a (extends_refl a) ss each)

pub join_component-requires-clause-live : goal.join_component-requires-clause-live
join_component-requires-clause-live c =
    let a = c.args.types.now in
    let os : List Contents = c.args.components.now.items in
    let ss : List Contents = around os in
    let each : All (IsOpen a) ss = open_around a os c.requires.ready.some c.requires.ready.each in
    let k : ℕ = c.len-last.result - 1 in
    let s : Contents = c.index_mut.result.now in
    let last : k ≡ length ss - 1 = ap (λ (i : ℕ). i - 1) (c.len-last.ensures ∙ c.pop_component.new.components.ok.0 ∙ ap length c.pop_component.ensures.left) in
    let here : s ≡ innermost ss = c.index_mut.ensures.value ∙ ap (λ (xs : List Contents). slice_index_or xs k s) c.pop_component.ensures.left ∙ indexed ss k s c.requires.inside last in
    ap (λ (x : Contents). x.spent) here ∙ (open_here a ss c.requires.inside each).live

pub join_component-requires-clause-stands : goal.join_component-requires-clause-stands
join_component-requires-clause-stands c =
    let a = c.args.types.now in
    let os : List Contents = c.args.components.now.items in
    let ss : List Contents = around os in
    let each : All (IsOpen a) ss = open_around a os c.requires.ready.some c.requires.ready.each in
    let k : ℕ = c.len-last.result - 1 in
    let s : Contents = c.index_mut.result.now in
    let last : k ≡ length ss - 1 = ap (λ (i : ℕ). i - 1) (c.len-last.ensures ∙ c.pop_component.new.components.ok.0 ∙ ap length c.pop_component.ensures.left) in
    let here : s ≡ innermost ss = c.index_mut.ensures.value ∙ ap (λ (xs : List Contents). slice_index_or xs k s) c.pop_component.ensures.left ∙ indexed ss k s c.requires.inside last in
    subst (StateStands a) (sym here) (open_here a ss c.requires.inside each).stands

pub join_component-requires-clause-fits : goal.join_component-requires-clause-fits
join_component-requires-clause-fits c =
    let a = c.args.types.now in
    let os : List Contents = c.args.components.now.items in
    finished_fits a (innermost os) c.in_ok-ty.ty c.in_ok-ty.ensures.ok c.look_at.ensures.size c.look_at.ensures.depth

pub returns-clause-ok : goal.returns-clause-ok
returns-clause-ok c =
    let a = c.args.types.now in
    let os : List Contents = c.args.components.now.items in
    let ss : List Contents = around os in
    let each : All (IsOpen a) ss = open_around a os c.requires.ready.some c.requires.ready.each in
    let k : ℕ = c.len-last.result - 1 in
    let s : Contents = c.index_mut.result.now in
    let last : k ≡ length ss - 1 = ap (λ (i : ℕ). i - 1) (c.len-last.ensures ∙ c.pop_component.new.components.ok.0 ∙ ap length c.pop_component.ensures.left) in
    let here : s ≡ innermost ss = c.index_mut.ensures.value ∙ ap (λ (xs : List Contents). slice_index_or xs k s) c.pop_component.ensures.left ∙ indexed ss k s c.requires.inside last in
    let b = c.join_component.new.types in
    let t : Contents = c.join_component.new.state in
    let now : slice_set c.pop_component.new.components.items k t ≡ slice_set ss k t = ap (λ (xs : List Contents). slice_set xs k t) c.pop_component.ensures.left in
    let end = node_at_end a (innermost os) c.in_ok-ty.ty c.in_ok-ty.ensures.ok in
    subst (Ends concrete a b os) (sym now) (type_ends concrete a b os c.requires.ready c.requires.inside each (n.Component c.in_ok-ty.ty) s t here c.in_ok-id.ensures.ok end.node end.made (sym (component_tree_same a (innermost os) c.in_ok-ty.ty c.in_ok-ty.ensures.ok) ∙ sym (end.tree (number (length a.nodes)))) (free_both (unused_checks (top_in a os)) (end_checks (top_in a os)) c.in_ok-ty.ensures.used c.in_ok-ty.ensures.ok.free) k last)

pub returns-in_err-id-clause-left : goal.returns-in_err-id-clause-left
returns-in_err-id-clause-left c =
    let os : List Contents = c.args.components.now.items in
    let ss : List Contents = around os in
    let k : ℕ = c.len-last.result - 1 in
    let s : Contents = c.index_mut.result.now in
    let last : k ≡ length ss - 1 = ap (λ (i : ℕ). i - 1) (c.len-last.ensures ∙ c.pop_component.new.components.ok.0 ∙ ap length c.pop_component.ensures.left) in
    let here : s ≡ innermost ss = c.index_mut.ensures.value ∙ ap (λ (xs : List Contents). slice_index_or xs k s) c.pop_component.ensures.left ∙ indexed ss k s c.requires.inside last in
    let t : Contents = c.join_component.new.state in
    let now : slice_set c.pop_component.new.components.items k t ≡ slice_set ss k t = ap (λ (xs : List Contents). slice_set xs k t) c.pop_component.ensures.left in
    let p = err_from_is_err_and c.from_residual-in_err-id.result c.from_residual-in_err-id.ensures.1 in
    rw p.1 (ap all_spent now ∙ spent_alike ss k s t c.requires.inside last here c.in_err-id.ensures.err)

pub returns-in_err-id-clause-keeps : goal.returns-in_err-id-clause-keeps
returns-in_err-id-clause-keeps c =
    let a = c.args.types.now in
    let os : List Contents = c.args.components.now.items in
    let ss : List Contents = around os in
    let each : All (IsOpen a) ss = open_around a os c.requires.ready.some c.requires.ready.each in
    let k : ℕ = c.len-last.result - 1 in
    let s : Contents = c.index_mut.result.now in
    let last : k ≡ length ss - 1 = ap (λ (i : ℕ). i - 1) (c.len-last.ensures ∙ c.pop_component.new.components.ok.0 ∙ ap length c.pop_component.ensures.left) in
    let here : s ≡ innermost ss = c.index_mut.ensures.value ∙ ap (λ (xs : List Contents). slice_index_or xs k s) c.pop_component.ensures.left ∙ indexed ss k s c.requires.inside last in
    let b = c.join_component.new.types in
    let t : Contents = c.join_component.new.state in
    let w : ChangesLast stay ss (slice_set ss k t) = last_changed ss k s t c.requires.inside last here in
    let now : slice_set c.pop_component.new.components.items k t ≡ slice_set ss k t = ap (λ (xs : List Contents). slice_set xs k t) c.pop_component.ensures.left in
    subst (KeepsOn a b ss) (sym now) (kept a b ss (slice_set ss k t) w each c.in_err-id.ensures.keeps)

pub returns-clause-keeps : goal.returns-clause-keeps
returns-clause-keeps c =
    let a = c.args.types.now in
    let os : List Contents = c.args.components.now.items in
    let ss : List Contents = around os in
    let each : All (IsOpen a) ss = open_around a os c.requires.ready.some c.requires.ready.each in
    let k : ℕ = c.len-last.result - 1 in
    let s : Contents = c.index_mut.result.now in
    let last : k ≡ length ss - 1 = ap (λ (i : ℕ). i - 1) (c.len-last.ensures ∙ c.pop_component.new.components.ok.0 ∙ ap length c.pop_component.ensures.left) in
    let here : s ≡ innermost ss = c.index_mut.ensures.value ∙ ap (λ (xs : List Contents). slice_index_or xs k s) c.pop_component.ensures.left ∙ indexed ss k s c.requires.inside last in
    let b = c.join_component.new.types in
    let t : Contents = c.join_component.new.state in
    let w : ChangesLast stay ss (slice_set ss k t) = last_changed ss k s t c.requires.inside last here in
    let now : slice_set c.pop_component.new.components.items k t ≡ slice_set ss k t = ap (λ (xs : List Contents). slice_set xs k t) c.pop_component.ensures.left in
    subst (KeepsOn a b ss) (sym now) (kept a b ss (slice_set ss k t) w each c.in_ok-id.ensures.ok.keeps)

pub returns-clause-kept : goal.returns-clause-kept
returns-clause-kept c = record { ty = c.in_ok-ty.ty; finished = c.in_ok-ty.ensures.ok; added = c.in_ok-id.ensures.added }
