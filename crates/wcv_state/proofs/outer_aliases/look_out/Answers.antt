use Rattle.std.proofs.Common.{◌≡◌, ◌∙◌, [], ◌∷◌, ◌-◌, length, not, ◌&&◌, Some, None, sym, subst, refl, rules, arith, inr}
use Rattle.std.proofs.lemmas.Result.{err_from_is_err_and}
use Rattle.wcv_core.specs.declared.error.ErrorKind.TheVariants as kind
use Rattle.wcv_core.proofs.Closing.{caused_same}
use Rattle.wcv_lower.specs.Aliases.{outer_admitted, outer_room}
use Rattle.wcv_lower.specs.Checks.{IsFree, missing}
use Rattle.wcv_lower.specs.Context.{is_concrete}
use Rattle.wcv_state.specs.Aliasing.{outer_in, outer_id}
use Rattle.wcv_spaces.specs.Contents.{Contents, kind_of, StateStands}
use Rattle.wcv_spaces.specs.Entering.{room_counts}
use Rattle.wcv_spaces.specs.Promises.{CausedBy, MemoryOrCausedBy}
use Rattle.wcv_state.specs.Stack.{innermost}
use Rattle.wcv_state.specs.declared.outer_aliases.Aliased.{Aliased}
use Rattle.wcv_state.proofs.OuterCalls.{outer_stands, found_there, beyond, out_free, scope_caused, none_caused, crossing_caused, room_caused}
use Rattle.wcv_state.proofs.Stacks.{indexed}
use Rattle.wcv_state.proofs.outer_aliases.look_out.Goals as goal

pub returns-in_err-check_kind-clause-err : goal.returns-in_err-check_kind-clause-err
returns-in_err-check_kind-clause-err c =
    let ss = c.args.components.now in
    let q = err_from_is_err_and c.from_residual.result c.from_residual.ensures.1 in
    let last = c.state.view_is ∙ c.index-components-last.is ∙ indexed ss (length ss - 1) c.index-components-last.result c.requires.some refl in
    rw q.1
    (scope_caused c.args.types.now ss (innermost ss) c.args.kind c.args.count c.args.index c.args.offset q.0
    (caused_same ((kind.AliasKind, not (is_concrete (kind_of (innermost ss).kind)) && not (outer_admitted c.args.kind)) ∷ []) c.args.offset c.in_err-check_kind.field-0.0 q.0 q.2.0 q.2.1
    (inr (subst (λ (z : Contents). CausedBy ((kind.AliasKind, not (is_concrete (kind_of z.kind)) && not (outer_admitted c.args.kind)) ∷ []) c.args.offset c.in_err-check_kind.field-0.0) last c.in_err-check_kind.ensures.err))))

pub returns-then-reach-last-clause-err : goal.returns-then-reach-last-clause-err
returns-then-reach-last-clause-err c =
    let ss = c.args.components.now in
    let t : MemoryOrCausedBy (missing {X = Aliased} None) c.args.offset c.from.result = search rules in
    none_caused c.args.types.now ss (innermost ss) c.args.kind c.args.count c.args.index c.args.offset c.from.result None (beyond ss c.args.kind c.args.count c.args.index (omega arith)) t

pub returns-in_err-item-clause-err : goal.returns-in_err-item-clause-err
returns-in_err-item-clause-err c =
    let ss = c.args.components.now in
    let t : Contents = c.index-components-last-2.result in
    let q = err_from_is_err_and c.from_residual-in_err-item.result c.from_residual-in_err-item.ensures.1 in
    rw q.1
    (none_caused c.args.types.now ss (innermost ss) c.args.kind c.args.count c.args.index c.args.offset q.0 (outer_id c.args.kind t.spaces c.args.index) (found_there ss c.args.kind c.args.count c.args.index t (omega arith) c.index-components-last-2.is)
    (caused_same (missing (outer_id c.args.kind t.spaces c.args.index)) c.args.offset c.in_err-item.field-0.0 q.0 q.2.0 q.2.1 (inr c.in_err-item.ensures.err)))

pub charge_after-requires-clause-stands : goal.charge_after-requires-clause-stands
charge_after-requires-clause-stands c =
    let a = c.args.types.now in
    let ss = c.args.components.now in
    let t : Contents = c.index-components-last-2.result in
    outer_stands a t (subst (StateStands a) (sym c.index-components-last-2.is) (c.requires.open (length ss - 1 - c.args.count) t (omega arith)).stands) c.args.kind c.args.index c.in_ok-item.item c.in_ok-item.ensures.ok

pub returns-in_err-size-clause-err : goal.returns-in_err-size-clause-err
returns-in_err-size-clause-err c =
    let ss = c.args.components.now in
    let t : Contents = c.index-components-last-2.result in
    let q = err_from_is_err_and c.from_residual-in_err-size.result c.from_residual-in_err-size.ensures.1 in
    let found : outer_in ss c.args.kind c.args.count c.args.index ≡ Some c.in_ok-item.item = found_there ss c.args.kind c.args.count c.args.index t (omega arith) c.index-components-last-2.is ∙ c.in_ok-item.ensures.ok in
    rw (q.1, q.2)
    (crossing_caused c.args.types.now ss (innermost ss) c.args.kind c.args.count c.args.index c.args.offset c.in_err-size.field-0.0 c.in_ok-item.item found c.in_err-size.ensures.err)

pub returns-in_err-check_outer_room-clause-err : goal.returns-in_err-check_outer_room-clause-err
returns-in_err-check_outer_room-clause-err c =
    let ss = c.args.components.now in
    let q = err_from_is_err_and c.from_residual-in_err-check_outer_room.result c.from_residual-in_err-check_outer_room.ensures.1 in
    let last = c.state.view_is ∙ c.index-components-last.is ∙ indexed ss (length ss - 1) c.index-components-last.result c.requires.some refl in
    rw q.1
    (room_caused c.args.types.now ss (innermost ss) c.args.kind c.args.count c.args.index c.args.offset q.0
    (caused_same (outer_room c.args.kind (room_counts (innermost ss).spaces)) c.args.offset c.in_err-check_outer_room.field-0.0 q.0 q.2.0 q.2.1
    (subst (λ (z : Contents). MemoryOrCausedBy (outer_room c.args.kind (room_counts z.spaces)) c.args.offset c.in_err-check_outer_room.field-0.0) last c.in_err-check_outer_room.ensures.err)))

pub returns-clause-ok : goal.returns-clause-ok
returns-clause-ok c =
    let ss = c.args.components.now in
    let t : Contents = c.index-components-last-2.result in
    let found : outer_in ss c.args.kind c.args.count c.args.index ≡ Some c.in_ok-item.item = found_there ss c.args.kind c.args.count c.args.index t (omega arith) c.index-components-last-2.is ∙ c.in_ok-item.ensures.ok in
    record {
      found = found;
      charge = c.in_ok-size.ensures.ok;
      fits = c.in_ok-size.ensures.fits;
      stands = outer_stands c.args.types.now t (subst (StateStands c.args.types.now) (sym c.index-components-last-2.is) (c.requires.open (length ss - 1 - c.args.count) t (omega arith)).stands) c.args.kind c.args.index c.in_ok-item.item c.in_ok-item.ensures.ok;
    }

pub returns-clause-free : goal.returns-clause-free
returns-clause-free c =
    let ss = c.args.components.now in
    let t : Contents = c.index-components-last-2.result in
    let last = c.state.view_is ∙ c.index-components-last.is ∙ indexed ss (length ss - 1) c.index-components-last.result c.requires.some refl in
    let found : outer_in ss c.args.kind c.args.count c.args.index ≡ Some c.in_ok-item.item = found_there ss c.args.kind c.args.count c.args.index t (omega arith) c.index-components-last-2.is ∙ c.in_ok-item.ensures.ok in
    out_free c.args.types.now ss (innermost ss) c.args.kind c.args.count c.args.index c.in_ok-item.item found
    (subst (λ (z : Contents). IsFree ((kind.AliasKind, not (is_concrete (kind_of z.kind)) && not (outer_admitted c.args.kind)) ∷ [])) last c.in_ok-check_kind.ensures.ok)
    c.in_ok-size.ensures.free
    (subst (λ (z : Contents). IsFree (outer_room c.args.kind (room_counts z.spaces))) last c.in_ok-check_outer_room.ensures.ok)
