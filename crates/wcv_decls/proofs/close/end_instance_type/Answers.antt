use Rattle.std.proofs.Common.{◌≡◌, ℕ, ◌-◌, ◌∙◌, List, length, ap, sym, subst, slice_set, slice_index_or, refl, All, not}
use Rattle.std.proofs.lemmas.Result.{err_from_is_err_and}
use Rattle.wcv_types.specs.declared.arena.Node.TheVariants as n
use Rattle.wcv_types.proofs.Grown.{extends_refl}
use Rattle.wcv_lower.specs.Defined.{is_empty}
use Rattle.wcv_lower.specs.Ending.{instance_made}
use Rattle.wcv_lower.specs.Context.{declares_instance}
use Rattle.wcv_lower.specs.Trees.{Entries}
use Rattle.wcv_spaces.specs.Contents.{Contents, context_of, StateStands}
use Rattle.wcv_state.proofs.Stacks.{around_kept}
use Rattle.wcv_decls.specs.Declaring.{innermost, around, SameAround, Ends}
use Rattle.wcv_decls.specs.Stack.{IsOpen, all_spent, all_uncharged, stay, ChangesLast, KeepsOn}
use Rattle.wcv_decls.proofs.InnermostStates.{indexed, last_changed, open_here, open_around, kept, marks_same}
use Rattle.wcv_decls.proofs.Closing.{type_ends}
use Rattle.wcv_decls.proofs.InstanceNodes.{owned_led, instance_same, memory_alone}
use Rattle.wcv_decls.proofs.close.end_instance_type.Goals as goal

pub returns-in_err-pop_type-clause-around : goal.returns-in_err-pop_type-clause-around
returns-in_err-pop_type-clause-around c =
    let p = err_from_is_err_and c.from_residual.result c.from_residual.ensures.1 in
    rw p.1 (ap (λ (xs : List Contents). all_spent (all_uncharged (around xs))) c.pop_type.ensures.left)

pub returns-in_err-pop_type-clause-keeps : goal.returns-in_err-pop_type-clause-keeps
returns-in_err-pop_type-clause-keeps c =
    let a = c.args.types.now in
    let os : List Contents = c.args.components.now.items in
    let ss : List Contents = around os in
    let each : All (IsOpen a) ss = open_around a os c.requires.ready.some c.requires.ready.each in
    subst (KeepsOn a a ss) (sym c.pop_type.ensures.left) (around_kept a a (extends_refl a) ss each)

pub store_instance-requires-clause-live : goal.store_instance-requires-clause-live
store_instance-requires-clause-live c =
    let a = c.args.types.now in
    let os : List Contents = c.args.components.now.items in
    let ss : List Contents = around os in
    let each : All (IsOpen a) ss = open_around a os c.requires.ready.some c.requires.ready.each in
    let k : ℕ = c.len-last.result - 1 in
    let s : Contents = c.index_mut.result.now in
    let last : k ≡ length ss - 1 = ap (λ (i : ℕ). i - 1) (c.len-last.ensures ∙ c.pop_type.new.components.ok.0 ∙ ap length c.pop_type.ensures.left) in
    let here : s ≡ innermost ss = c.index_mut.ensures.value ∙ ap (λ (xs : List Contents). slice_index_or xs k s) c.pop_type.ensures.left ∙ indexed ss k s c.requires.inside last in
    ap (λ (x : Contents). x.spent) here ∙ (open_here a ss c.requires.inside each).live

pub store_instance-requires-clause-stands : goal.store_instance-requires-clause-stands
store_instance-requires-clause-stands c =
    let a = c.args.types.now in
    let os : List Contents = c.args.components.now.items in
    let ss : List Contents = around os in
    let each : All (IsOpen a) ss = open_around a os c.requires.ready.some c.requires.ready.each in
    let k : ℕ = c.len-last.result - 1 in
    let s : Contents = c.index_mut.result.now in
    let last : k ≡ length ss - 1 = ap (λ (i : ℕ). i - 1) (c.len-last.ensures ∙ c.pop_type.new.components.ok.0 ∙ ap length c.pop_type.ensures.left) in
    let here : s ≡ innermost ss = c.index_mut.ensures.value ∙ ap (λ (xs : List Contents). slice_index_or xs k s) c.pop_type.ensures.left ∙ indexed ss k s c.requires.inside last in
    subst (StateStands a) (sym here) (open_here a ss c.requires.inside each).stands

pub returns-in_err-store_instance-clause-around : goal.returns-in_err-store_instance-clause-around
returns-in_err-store_instance-clause-around c =
    let a = c.args.types.now in
    let os : List Contents = c.args.components.now.items in
    let ss : List Contents = around os in
    let each : All (IsOpen a) ss = open_around a os c.requires.ready.some c.requires.ready.each in
    let k : ℕ = c.len-last.result - 1 in
    let s : Contents = c.index_mut.result.now in
    let last : k ≡ length ss - 1 = ap (λ (i : ℕ). i - 1) (c.len-last.ensures ∙ c.pop_type.new.components.ok.0 ∙ ap length c.pop_type.ensures.left) in
    let here : s ≡ innermost ss = c.index_mut.ensures.value ∙ ap (λ (xs : List Contents). slice_index_or xs k s) c.pop_type.ensures.left ∙ indexed ss k s c.requires.inside last in
    let b = c.store_instance.new.types in
    let t : Contents = c.store_instance.new.state in
    let w : ChangesLast stay ss (slice_set ss k t) = last_changed ss k s t c.requires.inside last here in
    let now : slice_set c.pop_type.new.components.items k t ≡ slice_set ss k t = ap (λ (xs : List Contents). slice_set xs k t) c.pop_type.ensures.left in
    let p = err_from_is_err_and c.from_residual-in_err-store_instance.result c.from_residual-in_err-store_instance.ensures.1 in
    rw p.1 (subst (SameAround ss) (sym now) (marks_same ss (slice_set ss k t) w))

pub returns-in_err-store_instance-clause-keeps : goal.returns-in_err-store_instance-clause-keeps
returns-in_err-store_instance-clause-keeps c =
    let a = c.args.types.now in
    let os : List Contents = c.args.components.now.items in
    let ss : List Contents = around os in
    let each : All (IsOpen a) ss = open_around a os c.requires.ready.some c.requires.ready.each in
    let k : ℕ = c.len-last.result - 1 in
    let s : Contents = c.index_mut.result.now in
    let last : k ≡ length ss - 1 = ap (λ (i : ℕ). i - 1) (c.len-last.ensures ∙ c.pop_type.new.components.ok.0 ∙ ap length c.pop_type.ensures.left) in
    let here : s ≡ innermost ss = c.index_mut.ensures.value ∙ ap (λ (xs : List Contents). slice_index_or xs k s) c.pop_type.ensures.left ∙ indexed ss k s c.requires.inside last in
    let b = c.store_instance.new.types in
    let t : Contents = c.store_instance.new.state in
    let w : ChangesLast stay ss (slice_set ss k t) = last_changed ss k s t c.requires.inside last here in
    let now : slice_set c.pop_type.new.components.items k t ≡ slice_set ss k t = ap (λ (xs : List Contents). slice_set xs k t) c.pop_type.ensures.left in
    subst (KeepsOn a b ss) (sym now) (kept a b ss (slice_set ss k t) w each c.in_err-store_instance.ensures.keeps)

pub returns-clause-keeps : goal.returns-clause-keeps
returns-clause-keeps c =
    let a = c.args.types.now in
    let os : List Contents = c.args.components.now.items in
    let ss : List Contents = around os in
    let each : All (IsOpen a) ss = open_around a os c.requires.ready.some c.requires.ready.each in
    let k : ℕ = c.len-last.result - 1 in
    let s : Contents = c.index_mut.result.now in
    let last : k ≡ length ss - 1 = ap (λ (i : ℕ). i - 1) (c.len-last.ensures ∙ c.pop_type.new.components.ok.0 ∙ ap length c.pop_type.ensures.left) in
    let here : s ≡ innermost ss = c.index_mut.ensures.value ∙ ap (λ (xs : List Contents). slice_index_or xs k s) c.pop_type.ensures.left ∙ indexed ss k s c.requires.inside last in
    let b = c.store_instance.new.types in
    let t : Contents = c.store_instance.new.state in
    let w : ChangesLast stay ss (slice_set ss k t) = last_changed ss k s t c.requires.inside last here in
    let now : slice_set c.pop_type.new.components.items k t ≡ slice_set ss k t = ap (λ (xs : List Contents). slice_set xs k t) c.pop_type.ensures.left in
    subst (KeepsOn a b ss) (sym now) (kept a b ss (slice_set ss k t) w each c.in_ok-store_instance.ensures.ok.keeps)

pub returns-in_err-pop_type-clause-err : goal.returns-in_err-pop_type-clause-err
returns-in_err-pop_type-clause-err c =
    let p = err_from_is_err_and c.from_residual.result c.from_residual.ensures.1 in
    rw (p.1, p.2) (memory_alone (context_of c.args.types.now (innermost c.args.components.now.items)) c.args.offset c.in_err-pop_type.field-0.0 c.requires.declares c.in_err-pop_type.ensures.err)

pub instance_of-requires-clause-exports : goal.instance_of-requires-clause-exports
instance_of-requires-clause-exports c =
    c.in_ok-pop_type.ensures.ok.stands.exports

pub instance_of-requires-clause-owned : goal.instance_of-requires-clause-owned
instance_of-requires-clause-owned c =
    c.in_ok-pop_type.ensures.ok.stands.defined

pub instance_of-requires-clause-led : goal.instance_of-requires-clause-led
instance_of-requires-clause-led c =
    owned_led c.args.types.now (innermost c.args.components.now.items) c.in_ok-pop_type.field-0 c.in_ok-pop_type.ensures.ok c.requires.declares

pub instance_of-requires-clause-apart : goal.instance_of-requires-clause-apart
instance_of-requires-clause-apart c =
    c.in_ok-pop_type.ensures.ok.apart.1

pub store_instance-requires-clause-fits : goal.store_instance-requires-clause-fits
store_instance-requires-clause-fits c =
    c.in_ok-ty.ensures.fits

pub returns-in_err-ty-clause-around : goal.returns-in_err-ty-clause-around
returns-in_err-ty-clause-around c =
    let p = err_from_is_err_and c.from_residual-in_err-ty.result c.from_residual-in_err-ty.ensures.1 in
    rw p.1 (ap (λ (xs : List Contents). all_spent (all_uncharged (around xs))) c.pop_type.ensures.left)

pub returns-in_err-ty-clause-keeps : goal.returns-in_err-ty-clause-keeps
returns-in_err-ty-clause-keeps c =
    let a = c.args.types.now in
    let os : List Contents = c.args.components.now.items in
    let ss : List Contents = around os in
    let each : All (IsOpen a) ss = open_around a os c.requires.ready.some c.requires.ready.each in
    subst (KeepsOn a a ss) (sym c.pop_type.ensures.left) (around_kept a a (extends_refl a) ss each)

pub returns-clause-ok : goal.returns-clause-ok
returns-clause-ok c =
    let a = c.args.types.now in
    let os : List Contents = c.args.components.now.items in
    let ss : List Contents = around os in
    let each : All (IsOpen a) ss = open_around a os c.requires.ready.some c.requires.ready.each in
    let k : ℕ = c.len-last.result - 1 in
    let s : Contents = c.index_mut.result.now in
    let last : k ≡ length ss - 1 = ap (λ (i : ℕ). i - 1) (c.len-last.ensures ∙ c.pop_type.new.components.ok.0 ∙ ap length c.pop_type.ensures.left) in
    let here : s ≡ innermost ss = c.index_mut.ensures.value ∙ ap (λ (xs : List Contents). slice_index_or xs k s) c.pop_type.ensures.left ∙ indexed ss k s c.requires.inside last in
    let b = c.store_instance.new.types in
    let t : Contents = c.store_instance.new.state in
    let w : ChangesLast stay ss (slice_set ss k t) = last_changed ss k s t c.requires.inside last here in
    let now : slice_set c.pop_type.new.components.items k t ≡ slice_set ss k t = ap (λ (xs : List Contents). slice_set xs k t) c.pop_type.ensures.left in
    let x = c.in_ok-ty.ty in
    let same = instance_same a (innermost os) c.in_ok-pop_type.field-0 c.in_ok-pop_type.ensures.ok c.requires.declares x c.in_ok-ty.ensures.resources c.in_ok-ty.ensures.exports in
    subst (Ends declares_instance a b os) (sym now) (type_ends declares_instance a b os c.requires.ready c.requires.inside each (n.Instance x) s t here c.in_ok-store_instance.ensures.ok (instance_made (context_of a (innermost os))) refl same (ap (λ (es : Entries). not (is_empty es)) c.requires.declares.imports, tt) k last)
