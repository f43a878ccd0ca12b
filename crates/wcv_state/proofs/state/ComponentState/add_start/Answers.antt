use Rattle.std.proofs.Common.{refl, sym, ◌∙◌, ap, subst, Bool, true, false, take}
use Rattle.std.specs.Prelude.{All}
use Rattle.std.proofs.lemmas.Result.{err_from_is_err_and}
use Rattle.wcv_core.proofs.Closing.{caused_same}
use Rattle.wcv_lower.specs.Checks.{IsFree}
use Rattle.wcv_lower.specs.Context.{in_funcs, in_values}
use Rattle.wcv_spaces.specs.Contents.{Contents, SpaceLists, IdStands}
use Rattle.wcv_spaces.specs.Parts.{lists}
use Rattle.wcv_state.specs.Inside.{contents_of}
use Rattle.wcv_spaces.specs.Promises.{MemoryOrCausedBy}
use Rattle.wcv_state.specs.Starting.{begin_checks, start_id_checks, IsStarted}
use Rattle.wcv_spaces.proofs.Keeping.{keeps_marked}
use Rattle.wcv_state.proofs.Starts.{begin_caused, start_caused, start_grew, start_keeps, start_left}
use Rattle.wcv_state.proofs.state.ComponentState.add_start.Goals as goal

pub returns-in_err-check_begin-clause-err : goal.returns-in_err-check_begin-clause-err
returns-in_err-check_begin-clause-err c =
    let r = err_from_is_err_and c.from_residual.result c.from_residual.ensures.1 in
    rw r.1 (λ outer p. (
      refl,
      begin_caused c.args.types.now c.args.self.now outer c.args.func_index c.args.args.now c.args.results c.args.offset r.0 p (caused_same (begin_checks c.args.self.now.features c.args.self.now.started) c.args.offset c.in_err-check_begin.field-0.0 r.0 r.2.0 r.2.1
          (subst (λ (z : Contents). MemoryOrCausedBy (begin_checks z.features z.started) c.args.offset c.in_err-check_begin.field-0.0) c.self.view_is c.in_err-check_begin.ensures.err)),
    ))

pub returns-in_err-check_begin-clause-keeps : goal.returns-in_err-check_begin-clause-keeps
returns-in_err-check_begin-clause-keeps c = keeps_marked c.args.types.now c.args.self.now (contents_of c.self.inside) true c.self.view_is c.requires.stands

pub start-requires-clause-funcs : goal.start-requires-clause-funcs
start-requires-clause-funcs c = subst (λ (z : Contents). All (IdStands c.args.types.now in_funcs) z.spaces.funcs) (sym c.self.view_is) (c.requires.stands.space in_funcs)

pub start-requires-clause-values : goal.start-requires-clause-values
start-requires-clause-values c = subst (λ (z : Contents). All (IdStands c.args.types.now in_values) z.spaces.values) (sym c.self.view_is) (c.requires.stands.space in_values)

pub returns-in_err-start-clause-err : goal.returns-in_err-start-clause-err
returns-in_err-start-clause-err c =
    let r = err_from_is_err_and c.from_residual-in_err-start.result c.from_residual-in_err-start.ensures.1 in
    rw (r.1, r.2) (λ outer p. (
      refl,
      start_caused c.args.types.now c.args.self.now outer c.args.func_index c.args.args.now c.args.results c.args.offset c.in_err-start.field-0.0 p
          (subst (λ (z : Contents). MemoryOrCausedBy (start_id_checks c.args.types.now z.spaces c.args.func_index c.args.args.now c.args.results) c.args.offset c.in_err-start.field-0.0) c.self.view_is c.in_err-start.ensures.err),
    ))

pub returns-in_err-start-clause-keeps : goal.returns-in_err-start-clause-keeps
returns-in_err-start-clause-keeps c =
    let w = c.in_err-start.ensures.left in
    start_left c.args.types.now c.args.self.now (contents_of c.self.inside) (record (contents_of c.self.inside) { spaces = lists c.start.new.spaces; spent = true }) (take w.0 c.args.args.now) c.self.view_is c.requires.stands (ap (λ (l : SpaceLists). record (contents_of c.self.inside) { spaces = l; spent = true }) w.1)

pub returns-clause-ok : goal.returns-clause-ok
returns-clause-ok c = λ outer p.
    start_grew c.args.types.now c.args.self.now outer c.args.func_index c.args.args.now c.args.results (lists c.start.new.spaces) (subst (λ (z : Contents). IsStarted c.args.types.now z.spaces (lists c.start.new.spaces) c.args.func_index c.args.args.now c.args.results) c.self.view_is c.in_ok-start.ensures.ok) p (record (contents_of c.self.inside) { spaces = lists c.start.new.spaces; started = true; spent = false })
    (subst (λ (z : Contents). IsFree (begin_checks z.features z.started)) c.self.view_is c.in_ok-check_begin.ensures.ok) (ap (λ (z : Contents). record z { spaces = lists c.start.new.spaces; started = true; spent = false }) c.self.view_is ∙ ap (λ (b : Bool). record c.args.self.now { spaces = lists c.start.new.spaces; started = true; spent = b }) (sym c.requires.live)) c.requires.live

pub returns-clause-keeps : goal.returns-clause-keeps
returns-clause-keeps c = start_keeps c.args.types.now c.args.self.now (record (contents_of c.self.inside) { spaces = lists c.start.new.spaces; started = true; spent = false }) (lists c.start.new.spaces) c.args.func_index c.args.args.now c.args.results c.requires.stands (subst (λ (z : Contents). IsStarted c.args.types.now z.spaces (lists c.start.new.spaces) c.args.func_index c.args.args.now c.args.results) c.self.view_is c.in_ok-start.ensures.ok) (ap (λ (z : Contents). record z { spaces = lists c.start.new.spaces; started = true; spent = false }) c.self.view_is ∙ ap (λ (b : Bool). record c.args.self.now { spaces = lists c.start.new.spaces; started = true; spent = b }) (sym c.requires.live))
