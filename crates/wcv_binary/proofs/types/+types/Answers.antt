use Rattle.std.proofs.Common.{◌≡◌, ◌-◌, ◌++◌, ◌∷◌, [], map, refl, arith, rules}
use Rattle.std.proofs.lemmas.Result.{err_from_is_err_and}
use Rattle.std.proofs.lemmas.List.{map_push}
use Rattle.wcv_syntax.specs.View.{component_decl_view, instance_decl_view}
use Rattle.wcv_bytes.specs.Reading.{list_at}
use Rattle.wcv_binary.specs.Types.{component_decl_at, instance_decl_at, type_within}
use Rattle.wcv_bytes.proofs.Loop.{goes_on, ends, is_done}
use Rattle.wcv_binary.proofs.Nested.{none_within, over_within}
use Rattle.wcv_binary.proofs.types.+types.Goals as goal

pub read_component_decls-returns-in_err-decl : goal.read_component_decls-returns-in_err-decl
read_component_decls-returns-in_err-decl t c =
    let p = err_from_is_err_and c.from_residual-in_err-decl.result c.from_residual-in_err-decl.ensures.1 in
    rw (p.1, p.2) (ends (component_decl_at (type_within c.args.depth)) c.in_err-decl.field-0.0 (map component_decl_view c.loop.decls.items) c.args.count c.loop.counter c.loop.rest.now (list_at (component_decl_at (type_within c.args.depth)) c.args.count c.args.bytes.now) c.loop-test.true c.in_err-decl.ensures c.loop.invariant)

pub read_component_decls-loop-preserved : goal.read_component_decls-loop-preserved
read_component_decls-loop-preserved t c =
    let n = c.in_ok-decl.decl in
    let e : map component_decl_view c.push_reserved.new.self.items ≡ map component_decl_view c.loop.decls.items ++ component_decl_view n ∷ [] = rw (c.push_reserved.ensures.items, c.reserve.ensures.items) (map_push _ c.loop.decls.items n) in
    rw e (goes_on (component_decl_at (type_within c.args.depth)) (map component_decl_view c.loop.decls.items) c.args.count c.loop.counter c.loop.rest.now (component_decl_view n) c.in_ok-decl.after.now (list_at (component_decl_at (type_within c.args.depth)) c.args.count c.args.bytes.now) c.loop-test.true c.in_ok-decl.ensures c.loop.invariant)

pub read_component_decls-returns : goal.read_component_decls-returns
read_component_decls-returns t c =
    is_done (component_decl_at (type_within c.args.depth)) (map component_decl_view c.loop.decls.items) c.args.count c.loop.counter c.loop.rest.now (list_at (component_decl_at (type_within c.args.depth)) c.args.count c.args.bytes.now) c.loop-test.false c.loop.invariant

pub read_instance_decls-returns-in_err-decl : goal.read_instance_decls-returns-in_err-decl
read_instance_decls-returns-in_err-decl t c =
    let p = err_from_is_err_and c.from_residual-in_err-decl.result c.from_residual-in_err-decl.ensures.1 in
    rw (p.1, p.2) (ends (instance_decl_at (type_within c.args.depth)) c.in_err-decl.field-0.0 (map instance_decl_view c.loop.decls.items) c.args.count c.loop.counter c.loop.rest.now (list_at (instance_decl_at (type_within c.args.depth)) c.args.count c.args.bytes.now) c.loop-test.true c.in_err-decl.ensures c.loop.invariant)

pub read_instance_decls-loop-preserved : goal.read_instance_decls-loop-preserved
read_instance_decls-loop-preserved t c =
    let n = c.in_ok-decl.decl in
    let e : map instance_decl_view c.push_reserved.new.self.items ≡ map instance_decl_view c.loop.decls.items ++ instance_decl_view n ∷ [] = rw (c.push_reserved.ensures.items, c.reserve.ensures.items) (map_push _ c.loop.decls.items n) in
    rw e (goes_on (instance_decl_at (type_within c.args.depth)) (map instance_decl_view c.loop.decls.items) c.args.count c.loop.counter c.loop.rest.now (instance_decl_view n) c.in_ok-decl.after.now (list_at (instance_decl_at (type_within c.args.depth)) c.args.count c.args.bytes.now) c.loop-test.true c.in_ok-decl.ensures c.loop.invariant)

pub read_instance_decls-returns : goal.read_instance_decls-returns
read_instance_decls-returns t c =
    is_done (instance_decl_at (type_within c.args.depth)) (map instance_decl_view c.loop.decls.items) c.args.count c.loop.counter c.loop.rest.now (list_at (instance_decl_at (type_within c.args.depth)) c.args.count c.args.bytes.now) c.loop-test.false c.loop.invariant

pub read_type_within-returns-then-depth-eq0 : goal.read_type_within-returns-then-depth-eq0
read_type_within-returns-then-depth-eq0 t c = rw (c.fault_at.ensures, none_within c.args.depth c.args.bytes.now (search rules)) refl

pub read_type_within-returns : goal.read_type_within-returns
read_type_within-returns t c = rw (over_within c.args.depth (c.args.depth - 1) c.args.bytes.now (omega arith)) c.read_type_over.ensures
