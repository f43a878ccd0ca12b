use Rattle.std.proofs.Common.{◌≡◌, ℕ, ◌-◌, ◌∙◌, List, [], length, ap, sym, subst, slice_set}
use Rattle.std.proofs.lemmas.Result.{on_ok_weaker, IfErr-weaker}
use Rattle.wcv_lower.specs.Trees.{Tree_context}
use Rattle.wcv_spaces.specs.Contents.{Contents, StateStands}
use Rattle.wcv_decls.specs.Declaring.{innermost, around, SameAround}
use Rattle.wcv_decls.specs.Stack.{stay, ChangesLast, contexts_around}
use Rattle.wcv_decls.proofs.InnermostStates.{indexed, last_changed, open_here, kept, marks_same}
use Rattle.wcv_syntax.specs.Model.{import_item}
use Rattle.wcv_decls.proofs.OverInnermost.{import_reads, grown_stays, import_refuses, opens}
use Rattle.wcv_decls.proofs.Outcomes.{on_err_any}
use Rattle.wcv_decls.proofs.declarations.declare_import.Goals as goal

pub add_import-requires-clause-live : goal.add_import-requires-clause-live
add_import-requires-clause-live c =
    let ss : List Contents = c.args.components.now.items in
    let k : ℕ = c.len-last.result - 1 in
    let s : Contents = c.index_mut.result.now in
    let last : k ≡ length ss - 1 = ap (λ (n : ℕ). n - 1) (c.len-last.ensures ∙ c.args.components.now.ok.0) in
    let here : s ≡ innermost ss = c.index_mut.ensures.value ∙ indexed ss k s c.requires.ready.some last in
    ap (λ (x : Contents). x.spent) here ∙ (open_here c.args.types.now ss c.requires.ready.some c.requires.ready.each).live

pub add_import-requires-clause-stands : goal.add_import-requires-clause-stands
add_import-requires-clause-stands c =
    let ss : List Contents = c.args.components.now.items in
    let k : ℕ = c.len-last.result - 1 in
    let s : Contents = c.index_mut.result.now in
    let last : k ≡ length ss - 1 = ap (λ (n : ℕ). n - 1) (c.len-last.ensures ∙ c.args.components.now.ok.0) in
    let here : s ≡ innermost ss = c.index_mut.ensures.value ∙ indexed ss k s c.requires.ready.some last in
    subst (StateStands c.args.types.now) (sym here) (open_here c.args.types.now ss c.requires.ready.some c.requires.ready.each).stands

pub add_import-requires-clause-opens : goal.add_import-requires-clause-opens
add_import-requires-clause-opens c =
    let ss : List Contents = c.args.components.now.items in
    let k : ℕ = c.len-last.result - 1 in
    let s : Contents = c.index_mut.result.now in
    let last : k ≡ length ss - 1 = ap (λ (n : ℕ). n - 1) (c.len-last.ensures ∙ c.args.components.now.ok.0) in
    let here : s ≡ innermost ss = c.index_mut.ensures.value ∙ indexed ss k s c.requires.ready.some last in
    opens c.args.types.now c.args.types.now ss (slice_set ss k s) (last_changed ss k s s c.requires.ready.some last here) c.requires.ready c.args.import.ty

pub returns-clause-ok : goal.returns-clause-ok
returns-clause-ok c =
    let a = c.args.types.now in
    let b = c.add_import.new.types in
    let ss : List Contents = c.args.components.now.items in
    let k : ℕ = c.len-last.result - 1 in
    let s : Contents = c.index_mut.result.now in
    let t : Contents = c.add_import.new.self in
    let last : k ≡ length ss - 1 = ap (λ (n : ℕ). n - 1) (c.len-last.ensures ∙ c.args.components.now.ok.0) in
    let here : s ≡ innermost ss = c.index_mut.ensures.value ∙ indexed ss k s c.requires.ready.some last in
    let w : ChangesLast stay ss (slice_set ss k t) = last_changed ss k s t c.requires.ready.some last here in
    let cs : List Tree_context = contexts_around a (around ss) in
    on_ok_weaker c.add_import.result (λ f. import_reads a b ss (slice_set ss k t) w c.requires.ready c.add_import.ensures.keeps c.args.import (λ p. f cs p)) c.add_import.ensures.ok

pub returns-clause-ready : goal.returns-clause-ready
returns-clause-ready c =
    let a = c.args.types.now in
    let b = c.add_import.new.types in
    let ss : List Contents = c.args.components.now.items in
    let k : ℕ = c.len-last.result - 1 in
    let s : Contents = c.index_mut.result.now in
    let t : Contents = c.add_import.new.self in
    let last : k ≡ length ss - 1 = ap (λ (n : ℕ). n - 1) (c.len-last.ensures ∙ c.args.components.now.ok.0) in
    let here : s ≡ innermost ss = c.index_mut.ensures.value ∙ indexed ss k s c.requires.ready.some last in
    let w : ChangesLast stay ss (slice_set ss k t) = last_changed ss k s t c.requires.ready.some last here in
    let cs : List Tree_context = contexts_around a (around ss) in
    on_ok_weaker c.add_import.result (λ f. grown_stays a b ss (slice_set ss k t) w c.requires.ready c.add_import.ensures.keeps (import_item c.args.import) (λ top. tt) (f cs [])) c.add_import.ensures.ok

pub returns-clause-err : goal.returns-clause-err
returns-clause-err c =
    let a = c.args.types.now in
    let b = c.add_import.new.types in
    let ss : List Contents = c.args.components.now.items in
    let k : ℕ = c.len-last.result - 1 in
    let s : Contents = c.index_mut.result.now in
    let t : Contents = c.add_import.new.self in
    let last : k ≡ length ss - 1 = ap (λ (n : ℕ). n - 1) (c.len-last.ensures ∙ c.args.components.now.ok.0) in
    let here : s ≡ innermost ss = c.index_mut.ensures.value ∙ indexed ss k s c.requires.ready.some last in
    let w : ChangesLast stay ss (slice_set ss k t) = last_changed ss k s t c.requires.ready.some last here in
    let cs : List Tree_context = contexts_around a (around ss) in
    IfErr-weaker c.add_import.result _ _ (λ x f. import_refuses a b ss (slice_set ss k t) w c.requires.ready c.args.import c.args.offset x (λ p. (f cs p).1)) c.add_import.ensures.err

pub returns-clause-around : goal.returns-clause-around
returns-clause-around c =
    let a = c.args.types.now in
    let b = c.add_import.new.types in
    let ss : List Contents = c.args.components.now.items in
    let k : ℕ = c.len-last.result - 1 in
    let s : Contents = c.index_mut.result.now in
    let t : Contents = c.add_import.new.self in
    let last : k ≡ length ss - 1 = ap (λ (n : ℕ). n - 1) (c.len-last.ensures ∙ c.args.components.now.ok.0) in
    let here : s ≡ innermost ss = c.index_mut.ensures.value ∙ indexed ss k s c.requires.ready.some last in
    let w : ChangesLast stay ss (slice_set ss k t) = last_changed ss k s t c.requires.ready.some last here in
    on_err_any c.add_import.result (SameAround ss (slice_set ss k t)) (marks_same ss (slice_set ss k t) w)

pub returns-clause-keeps : goal.returns-clause-keeps
returns-clause-keeps c =
    let a = c.args.types.now in
    let b = c.add_import.new.types in
    let ss : List Contents = c.args.components.now.items in
    let k : ℕ = c.len-last.result - 1 in
    let s : Contents = c.index_mut.result.now in
    let t : Contents = c.add_import.new.self in
    let last : k ≡ length ss - 1 = ap (λ (n : ℕ). n - 1) (c.len-last.ensures ∙ c.args.components.now.ok.0) in
    let here : s ≡ innermost ss = c.index_mut.ensures.value ∙ indexed ss k s c.requires.ready.some last in
    let w : ChangesLast stay ss (slice_set ss k t) = last_changed ss k s t c.requires.ready.some last here in
    kept a b ss (slice_set ss k t) w c.requires.ready.each c.add_import.ensures.keeps
