use Rattle.std.proofs.Common.{ap, arith, refl, sym, subst, ◌∙◌, List}
use Rattle.std.specs.Prelude.{All}
use Rattle.wcv_types.specs.Entities.{SlotStands}
use Rattle.wcv_types.specs.Tree.{Text, here}
use Rattle.wcv_types.specs.Unfold.{option_slot, parts_of, rank, trees, value_slot}
use Rattle.wcv_types.specs.declared.arena.Node.TheVariants as n
use Rattle.wcv_types.specs.declared.ids.Part.TheVariants as p
use Rattle.wcv_types.specs.declared.shapes.ComponentValType.{ComponentValType}
use Rattle.wcv_types.proofs.Gathered.{parts_ready}
use Rattle.wcv_types.proofs.Knowing.{given_result}
use Rattle.wcv_atoms.specs.Extent.{values_extent}
use Rattle.wcv_atoms.specs.Readings.{reads}
use Rattle.wcv_values.specs.SeenValues.{labelled}
use Rattle.wcv_values.proofs.ValueExtents.{func_extent}
use Rattle.wcv_values.proofs.SameValues.{params_stand, func_same, both_told, none_told, params_told}
use Rattle.wcv_values.proofs.values.same_func.Goals as goal

pub same_params-requires-clause-a : goal.same_params-requires-clause-a
same_params-requires-clause-a g c =
    let s = c.visited-x.result.now in
    let w = parts_ready c.args.types.now (rank (p.Func c.args.a)) (parts_of (n.Func s)) (parts_of (n.Func s)) refl c.visited-x.ensures.before (omega arith) in
    subst (λ (fs : List (Text × ComponentValType)). All (λ (q : Text × ComponentValType). SlotStands c.args.types.now (value_slot q.1)) fs) (sym c.deref.ensures.value) (params_stand c.args.types.now s.params.items _ w.1)

pub same_params-requires-clause-b : goal.same_params-requires-clause-b
same_params-requires-clause-b g c =
    let s = c.visited-y.result.now in
    let w = parts_ready c.args.types.now (rank (p.Func c.args.b)) (parts_of (n.Func s)) (parts_of (n.Func s)) refl c.visited-y.ensures.before (omega arith) in
    subst (λ (fs : List (Text × ComponentValType)). All (λ (q : Text × ComponentValType). SlotStands c.args.types.now (value_slot q.1)) fs) (sym c.deref-then-x-y.ensures.value) (params_stand c.args.types.now s.params.items _ w.1)

pub same_value-requires-clause-a : goal.same_value-requires-clause-a
same_value-requires-clause-a g c =
    let s = c.visited-x.result.now in
    let w = parts_ready c.args.types.now (rank (p.Func c.args.a)) (parts_of (n.Func s)) (parts_of (n.Func s)) refl c.visited-x.ensures.before (omega arith) in
    given_result c.args.types.now s.params.items (here, option_slot s.result) w.1

pub same_value-requires-clause-b : goal.same_value-requires-clause-b
same_value-requires-clause-b g c =
    let s = c.visited-y.result.now in
    let w = parts_ready c.args.types.now (rank (p.Func c.args.b)) (parts_of (n.Func s)) (parts_of (n.Func s)) refl c.visited-y.ensures.before (omega arith) in
    given_result c.args.types.now s.params.items (here, option_slot s.result) w.1

pub returns-then-same_params-clause-same : goal.returns-then-same_params-clause-same
returns-then-same_params-clause-same g c =
    let x = c.visited-x.result.now in
    let y = c.visited-y.result.now in
    let is = func_same c.args.types.now c.args.a.index c.args.b.index x y (reads c.args.left.now) (reads c.args.right.now) _ _ c.visited-x.ensures.unfolds c.visited-y.ensures.unfolds in
    c.same_value.ensures.same ∙ sym (is ∙ both_told _ _ _ c.if-x-y.true (params_told c.args.types.now x y (reads c.args.left.now) (reads c.args.right.now) _ _ c.deref.ensures.value c.deref-then-x-y.ensures.value (sym c.same_params.ensures.same ∙ c.if-same_params.true)))

pub returns-else-same_params-clause-same : goal.returns-else-same_params-clause-same
returns-else-same_params-clause-same g c =
    let x = c.visited-x.result.now in
    let y = c.visited-y.result.now in
    let is = func_same c.args.types.now c.args.a.index c.args.b.index x y (reads c.args.left.now) (reads c.args.right.now) _ _ c.visited-x.ensures.unfolds c.visited-y.ensures.unfolds in
    c.if-same_params.false ∙ sym (is ∙ none_told _ _ _ (params_told c.args.types.now x y (reads c.args.left.now) (reads c.args.right.now) _ _ c.deref.ensures.value c.deref-then-x-y.ensures.value (sym c.same_params.ensures.same ∙ c.if-same_params.false)))

pub returns-then-same_params-clause-counted : goal.returns-then-same_params-clause-counted
returns-then-same_params-clause-counted g c =
    let x = func_extent c.args.types.now c.args.a.index c.visited-x.result.now _ c.visited-x.ensures.unfolds in
    let y = func_extent c.args.types.now c.args.b.index c.visited-y.result.now _ c.visited-y.ensures.unfolds in
    let u = ap (λ (qs : List (Text × ComponentValType)). values_extent (trees c.args.types.now.nodes) (labelled qs)) c.deref.ensures.value in
    let w = ap (λ (qs : List (Text × ComponentValType)). values_extent (trees c.args.types.now.nodes) (labelled qs)) c.deref-then-x-y.ensures.value in
    omega (arith, x, y, u, w, c.same_params.ensures.counted, c.same_value.ensures.counted)

pub returns-else-same_params-clause-counted : goal.returns-else-same_params-clause-counted
returns-else-same_params-clause-counted g c =
    let x = func_extent c.args.types.now c.args.a.index c.visited-x.result.now _ c.visited-x.ensures.unfolds in
    let y = func_extent c.args.types.now c.args.b.index c.visited-y.result.now _ c.visited-y.ensures.unfolds in
    let u = ap (λ (qs : List (Text × ComponentValType)). values_extent (trees c.args.types.now.nodes) (labelled qs)) c.deref.ensures.value in
    let w = ap (λ (qs : List (Text × ComponentValType)). values_extent (trees c.args.types.now.nodes) (labelled qs)) c.deref-then-x-y.ensures.value in
    omega (arith, x, y, u, w, c.same_params.ensures.counted)
