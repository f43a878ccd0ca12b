use Rattle.std.proofs.Common.{◌≡◌, ℕ, ◌-◌, ◌∙◌, List, length, ap, sym, subst, slice_set}
use Rattle.std.proofs.lemmas.Result.{on_ok_weaker, IfErr-weaker}
use Rattle.wcv_syntax.specs.View.{type_view}
use Rattle.wcv_spaces.specs.Contents.{Contents, StateStands}
use Rattle.wcv_spaces.specs.Promises.{Keeps}
use Rattle.wcv_decls.specs.Declaring.{innermost, SameAround}
use Rattle.wcv_decls.specs.Stack.{stay, ChangesLast}
use Rattle.wcv_decls.proofs.InnermostStates.{indexed, last_changed, open_here, kept, marks_same}
use Rattle.wcv_decls.proofs.OverInnermost.{plain_reads, plain_stays, plain_declares, plain_refuses}
use Rattle.wcv_decls.proofs.Outcomes.{both_ok, either_way, on_err_any}
use Rattle.wcv_decls.proofs.declare.declare_plain.Goals as goal

pub declare-requires-clause-live : goal.declare-requires-clause-live
declare-requires-clause-live c =
    let ss : List Contents = c.args.components.now.items in
    let k : ℕ = c.len-last.result - 1 in
    let last : k ≡ length ss - 1 = ap (λ (n : ℕ). n - 1) (c.len-last.ensures ∙ c.args.components.now.ok.0) in
    let here : c.index_mut.result.now ≡ innermost ss = c.index_mut.ensures.value ∙ indexed ss k c.index_mut.result.now c.requires.ready.some last in
    ap (λ (s : Contents). s.spent) here ∙ (open_here c.args.types.now ss c.requires.ready.some c.requires.ready.each).live

pub declare-requires-clause-stands : goal.declare-requires-clause-stands
declare-requires-clause-stands c =
    let ss : List Contents = c.args.components.now.items in
    let k : ℕ = c.len-last.result - 1 in
    let last : k ≡ length ss - 1 = ap (λ (n : ℕ). n - 1) (c.len-last.ensures ∙ c.args.components.now.ok.0) in
    let here : c.index_mut.result.now ≡ innermost ss = c.index_mut.ensures.value ∙ indexed ss k c.index_mut.result.now c.requires.ready.some last in
    subst (StateStands c.args.types.now) (sym here) (open_here c.args.types.now ss c.requires.ready.some c.requires.ready.each).stands

pub returns-clause-ok : goal.returns-clause-ok
returns-clause-ok c =
    let a = c.args.types.now in
    let b = c.declare.new.types in
    let ss : List Contents = c.args.components.now.items in
    let k : ℕ = c.len-last.result - 1 in
    let s : Contents = c.index_mut.result.now in
    let t : Contents = c.declare.new.state in
    let last : k ≡ length ss - 1 = ap (λ (n : ℕ). n - 1) (c.len-last.ensures ∙ c.args.components.now.ok.0) in
    let here : s ≡ innermost ss = c.index_mut.ensures.value ∙ indexed ss k s c.requires.ready.some last in
    let w : ChangesLast stay ss (slice_set ss k t) = last_changed ss k s t c.requires.ready.some last here in
    both_ok c.declare.result _ _ _ (λ d f. plain_reads a b ss (slice_set ss k t) w c.requires.ready c.args.check_limit (type_view c.args.ty) c.requires.plain d f) c.declare.ensures.ok c.declare.ensures.free

pub returns-clause-ready : goal.returns-clause-ready
returns-clause-ready c =
    let a = c.args.types.now in
    let b = c.declare.new.types in
    let ss : List Contents = c.args.components.now.items in
    let k : ℕ = c.len-last.result - 1 in
    let s : Contents = c.index_mut.result.now in
    let t : Contents = c.declare.new.state in
    let last : k ≡ length ss - 1 = ap (λ (n : ℕ). n - 1) (c.len-last.ensures ∙ c.args.components.now.ok.0) in
    let here : s ≡ innermost ss = c.index_mut.ensures.value ∙ indexed ss k s c.requires.ready.some last in
    let w : ChangesLast stay ss (slice_set ss k t) = last_changed ss k s t c.requires.ready.some last here in
    on_ok_weaker c.declare.result (λ d. plain_stays a b ss (slice_set ss k t) w c.requires.ready c.args.check_limit (type_view c.args.ty) c.requires.plain d) c.declare.ensures.ok

pub returns-clause-declares : goal.returns-clause-declares
returns-clause-declares c =
    let a = c.args.types.now in
    let b = c.declare.new.types in
    let ss : List Contents = c.args.components.now.items in
    let k : ℕ = c.len-last.result - 1 in
    let s : Contents = c.index_mut.result.now in
    let t : Contents = c.declare.new.state in
    let last : k ≡ length ss - 1 = ap (λ (n : ℕ). n - 1) (c.len-last.ensures ∙ c.args.components.now.ok.0) in
    let here : s ≡ innermost ss = c.index_mut.ensures.value ∙ indexed ss k s c.requires.ready.some last in
    let w : ChangesLast stay ss (slice_set ss k t) = last_changed ss k s t c.requires.ready.some last here in
    on_ok_weaker c.declare.result (λ d. plain_declares a b ss (slice_set ss k t) w c.requires.ready c.args.check_limit (type_view c.args.ty) c.requires.plain d) c.declare.ensures.ok

pub returns-clause-err : goal.returns-clause-err
returns-clause-err c =
    let a = c.args.types.now in
    let b = c.declare.new.types in
    let ss : List Contents = c.args.components.now.items in
    let k : ℕ = c.len-last.result - 1 in
    let s : Contents = c.index_mut.result.now in
    let t : Contents = c.declare.new.state in
    let last : k ≡ length ss - 1 = ap (λ (n : ℕ). n - 1) (c.len-last.ensures ∙ c.args.components.now.ok.0) in
    let here : s ≡ innermost ss = c.index_mut.ensures.value ∙ indexed ss k s c.requires.ready.some last in
    let w : ChangesLast stay ss (slice_set ss k t) = last_changed ss k s t c.requires.ready.some last here in
    IfErr-weaker c.declare.result _ _ (λ x f. plain_refuses a b ss (slice_set ss k t) w c.requires.ready c.args.check_limit (type_view c.args.ty) c.requires.plain c.args.offset x f) c.declare.ensures.err

pub returns-clause-around : goal.returns-clause-around
returns-clause-around c =
    let ss : List Contents = c.args.components.now.items in
    let k : ℕ = c.len-last.result - 1 in
    let s : Contents = c.index_mut.result.now in
    let t : Contents = c.declare.new.state in
    let last : k ≡ length ss - 1 = ap (λ (n : ℕ). n - 1) (c.len-last.ensures ∙ c.args.components.now.ok.0) in
    let here : s ≡ innermost ss = c.index_mut.ensures.value ∙ indexed ss k s c.requires.ready.some last in
    on_err_any c.declare.result (SameAround ss (slice_set ss k t)) (marks_same ss (slice_set ss k t) (last_changed ss k s t c.requires.ready.some last here))

pub returns-clause-keeps : goal.returns-clause-keeps
returns-clause-keeps c =
    let a = c.args.types.now in
    let b = c.declare.new.types in
    let ss : List Contents = c.args.components.now.items in
    let k : ℕ = c.len-last.result - 1 in
    let s : Contents = c.index_mut.result.now in
    let t : Contents = c.declare.new.state in
    let last : k ≡ length ss - 1 = ap (λ (n : ℕ). n - 1) (c.len-last.ensures ∙ c.args.components.now.ok.0) in
    let here : s ≡ innermost ss = c.index_mut.ensures.value ∙ indexed ss k s c.requires.ready.some last in
    let w : ChangesLast stay ss (slice_set ss k t) = last_changed ss k s t c.requires.ready.some last here in
    kept a b ss (slice_set ss k t) w c.requires.ready.each (either_way c.declare.result (Keeps a b s t) (on_ok_weaker c.declare.result (λ d. d.keeps) c.declare.ensures.ok) c.declare.ensures.keeps)
