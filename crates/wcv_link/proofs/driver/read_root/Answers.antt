use Rattle.std.proofs.Common.{◌≡◌, sym, ◌∙◌, subst}
use Rattle.std.proofs.lemmas.Result.{err_from_is_err_and, on_ok_weaker, IfErr-weaker}
use Rattle.wcv_core.specs.Refusal.{error_kind}
use Rattle.wcv_core.proofs.Causes.{cause_left, cause_right}
use Rattle.wcv_core.proofs.Closing.{caused_same}
use Rattle.wcv_syntax.specs.View.{items_view}
use Rattle.wcv_lower.specs.Checks.{IsFree}
use Rattle.wcv_lower.specs.Ending.{component_end_checks, end_checks}
use Rattle.wcv_lower.specs.Marks.{unused_checks}
use Rattle.wcv_lower.specs.Trees.{Tree_context}
use Rattle.wcv_spaces.specs.Contents.{Contents, context_of}
use Rattle.wcv_spaces.proofs.Calls.{caused_more}
use Rattle.wcv_link.proofs.Alone.{begins, stops, alone_open, stops_at_end, looked_up, ends, still_one, ok_and}
use Rattle.wcv_link.proofs.Reaching.{reached_start}
use Rattle.wcv_link.proofs.driver.read_root.Goals as goal

pub read_items-requires-clause-ready : goal.read_items-requires-clause-ready
read_items-requires-clause-ready c = begins c.args.types.now c.args.features c.requires.types c.args.components.now.items c.requires.state

pub read_items-requires-clause-reached : goal.read_items-requires-clause-reached
read_items-requires-clause-reached c = reached_start c.args.types.now c.args.components.now.items c.args.features c.requires.types c.requires.state

pub returns-in_err-read_items-clause-err : goal.returns-in_err-read_items-clause-err
returns-in_err-read_items-clause-err c =
    let p = err_from_is_err_and c.from_residual.result c.from_residual.ensures.1 in
    rw (p.1, p.2)
    (stops c.args.types.now c.args.features c.requires.types c.args.components.now.items c.requires.state c.read_items.new.types (items_view c.args.items.items) c.args.end c.in_err-read_items.field-0.0 c.in_err-read_items.ensures.err)

pub returns-in_err-check_used-clause-err : goal.returns-in_err-check_used-clause-err
returns-in_err-check_used-clause-err c =
    let p = err_from_is_err_and c.from_residual-in_err-check_used.result c.from_residual-in_err-check_used.ensures.1 in
    let top : Tree_context = context_of c.read_items.new.types c.index.result.now in
    rw p.1
    (stops_at_end c.args.types.now c.args.features c.requires.types c.args.components.now.items c.requires.state c.read_items.new.types (items_view c.args.items.items) c.read_items.new.components.items c.in_ok-read_items.ensures.ok.nested c.in_ok-read_items.ensures.ok.accepts
    c.index.result.now c.index.ensures c.args.end p.0
    (caused_more (unused_checks top) (component_end_checks top) c.args.end p.0 (cause_left (unused_checks top) (end_checks top) (error_kind p.0))
    (caused_same (unused_checks top) c.args.end c.in_err-check_used.field-0.0 p.0 p.2.0 p.2.1 c.in_err-check_used.ensures.err)))

pub take_type-requires : goal.take_type-requires
take_type-requires c =
    let o =
    alone_open c.args.types.now c.args.features c.requires.types c.args.components.now.items c.requires.state c.read_items.new.types (items_view c.args.items.items) c.read_items.new.components.items c.in_ok-read_items.ensures.ok.nested c.in_ok-read_items.ensures.ok.accepts
    c.index_mut.result.now c.index_mut.ensures.value in
    record { live = o.live; stands = o.stands }

pub returns-clause-ok : goal.returns-clause-ok
returns-clause-ok c =
    let same : c.index.result.now ≡ c.index_mut.result.now =
    looked_up c.args.types.now c.args.features c.requires.types c.args.components.now.items c.requires.state c.read_items.new.types (items_view c.args.items.items) c.read_items.new.components.items c.in_ok-read_items.ensures.ok.nested c.in_ok-read_items.ensures.ok.accepts
    c.index.result.now c.index.ensures ∙
    sym (looked_up c.args.types.now c.args.features c.requires.types c.args.components.now.items c.requires.state c.read_items.new.types (items_view c.args.items.items) c.read_items.new.components.items c.in_ok-read_items.ensures.ok.nested c.in_ok-read_items.ensures.ok.accepts c.index_mut.result.now c.index_mut.ensures.value) in
    let used : IsFree (unused_checks (context_of c.read_items.new.types c.index_mut.result.now)) = subst (λ (s : Contents). IsFree (unused_checks (context_of c.read_items.new.types s))) same c.in_ok-check_used.ensures.ok in
    ok_and c.take_type.result
    (λ ty w after t e.
    ends c.args.types.now c.args.features c.requires.types c.args.components.now.items c.requires.state c.read_items.new.types (items_view c.args.items.items) c.read_items.new.components.items c.in_ok-read_items.ensures.ok.nested c.in_ok-read_items.ensures.ok.accepts
    c.index_mut.result.now c.index_mut.ensures.value used c.args.nesting.now c.read_items.new.nesting c.requires.place c.requires.ended c.in_ok-read_items.ensures.ok.ended c.take_type.new.self t ty e after w)
    c.take_type.ensures.ok c.take_type.ensures.after

pub returns-clause-one : goal.returns-clause-one
returns-clause-one c =
    on_ok_weaker c.take_type.result
    (λ e.
    still_one c.args.types.now c.args.features c.requires.types c.args.components.now.items c.requires.state c.read_items.new.types (items_view c.args.items.items) c.read_items.new.components.items c.in_ok-read_items.ensures.ok.nested c.in_ok-read_items.ensures.ok.accepts
    c.index_mut.result.now c.index_mut.ensures.value c.take_type.new.self)
    c.take_type.ensures.after

pub returns-clause-err : goal.returns-clause-err
returns-clause-err c =
    let top : Tree_context = context_of c.read_items.new.types c.index_mut.result.now in
    IfErr-weaker c.take_type.result _ _
    (λ e w.
    stops_at_end c.args.types.now c.args.features c.requires.types c.args.components.now.items c.requires.state c.read_items.new.types (items_view c.args.items.items) c.read_items.new.components.items c.in_ok-read_items.ensures.ok.nested c.in_ok-read_items.ensures.ok.accepts
    c.index_mut.result.now c.index_mut.ensures.value c.args.end e (caused_more (end_checks top) (component_end_checks top) c.args.end e (cause_right (unused_checks top) (end_checks top) (error_kind e)) w.1))
    c.take_type.ensures.err
