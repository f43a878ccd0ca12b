use Rattle.std.proofs.Common.{◌≡◌, suc, ◌+◌, sym, ◌∙◌, ap, Some, None, true, false, Bool, ◌&&◌, arith}
use Rattle.wcv_types.specs.NamedBySet.{handle_of}
use Rattle.wcv_types.specs.Sets.{identities}
use Rattle.wcv_types.specs.Standing.{StandsBefore}
use Rattle.wcv_types.specs.Unfold.{trees}
use Rattle.wcv_types.specs.declared.shapes.ComponentValType.TheVariants as v
use Rattle.wcv_types.proofs.NamedBySet.{value_rank, named_itself, named_handle, named_parts, named_next, named_all, named_from, handle_all, value_before, is_node}
use Rattle.wcv_walks.proofs.named_types.+is_named_value.Goals as goal

pub returns-then-names_itself : goal.returns-then-names_itself
returns-then-names_itself t c =
    let is : c.args.ty ≡ Some (v.Ty c.in-Some.id) = is_node c.args.ty c.in-Some.id (sym c.node_of.ensures ∙ c.in-Some.is) in
    c.contains.ensures ∙ named_itself c.args.types.now c.args.set.now c.args.ty c.in-Some.id c.get-shape.result.now is c.requires.value c.requires.set c.get-shape.ensures.unfolds (sym c.names_itself.ensures ∙ c.if-names_itself.true)

pub returns-in-Some-handle : goal.returns-in-Some-handle
returns-in-Some-handle t c =
    let is : c.args.ty ≡ Some (v.Ty c.in-Some.id) = is_node c.args.ty c.in-Some.id (sym c.node_of.ensures ∙ c.in-Some.is) in
    let of : handle_of c.get-shape.result.now ≡ Some c.in-Some-handle.handle = sym c.handle.ensures ∙ c.in-Some-handle.is in
    let stands = handle_all (StandsBefore c.args.types.now (suc c.in-Some.id.index)) c.get-shape.result.now c.in-Some-handle.handle c.get-shape.ensures.before of in
    c.contains-in-Some-handle.ensures ∙ named_handle c.args.types.now c.args.set.now c.args.ty c.in-Some.id c.get-shape.result.now is c.requires.value c.requires.set c.get-shape.ensures.unfolds c.in-Some-handle.handle stands.stands of

pub is_named_value-requires : goal.is_named_value-requires
is_named_value-requires t c =
    let w = value_before c.args.types.now c.in-Some.id.index c.get-shape.result.now c.loop-k.k c.value_at.result c.get-shape.ensures.before c.value_at.ensures in
    let r : value_rank c.args.ty ≡ value_rank (Some (v.Ty c.in-Some.id)) = ap value_rank (is_node c.args.ty c.in-Some.id (sym c.node_of.ensures ∙ c.in-Some.is)) in
    (omega (arith, w.1, r, c.decreases), (w.0, c.requires.set))

pub returns-then-not-is_named_value : goal.returns-then-not-is_named_value
returns-then-not-is_named_value t c =
    let is : c.args.ty ≡ Some (v.Ty c.in-Some.id) = is_node c.args.ty c.in-Some.id (sym c.node_of.ensures ∙ c.in-Some.is) in
    let none : handle_of c.get-shape.result.now ≡ None = sym c.handle.ensures ∙ c.in_default.is in
    let ids = identities c.args.set.now in
    let ts = trees c.args.types.now.nodes in
    let w : named_from ids ts c.get-shape.result.now 0 ≡ false =
    c.loop-k.invariant ∙ named_next ids ts c.get-shape.result.now c.loop-k.k c.value_at.result c.value_at.ensures ∙ ap (λ (b : Bool). b && named_from ids ts c.get-shape.result.now (c.loop-k.k + 1)) (sym c.is_named_value.ensures ∙ c.if-not-is_named_value.true) in
    sym w ∙ named_parts c.args.types.now c.args.set.now c.args.ty c.in-Some.id c.get-shape.result.now is c.requires.value c.requires.set c.get-shape.ensures.unfolds (sym c.names_itself.ensures ∙ c.if-names_itself.false) none

pub loop-k-preserved : goal.loop-k-preserved
loop-k-preserved t c =
    let ids = identities c.args.set.now in
    let ts = trees c.args.types.now.nodes in
    c.loop-k.invariant ∙ named_next ids ts c.get-shape.result.now c.loop-k.k c.value_at.result c.value_at.ensures ∙ ap (λ (b : Bool). b && named_from ids ts c.get-shape.result.now (c.loop-k.k + 1)) (sym c.is_named_value.ensures ∙ c.if-not-is_named_value.false)

pub returns : goal.returns
returns t c =
    let is : c.args.ty ≡ Some (v.Ty c.in-Some.id) = is_node c.args.ty c.in-Some.id (sym c.node_of.ensures ∙ c.in-Some.is) in
    let none : handle_of c.get-shape.result.now ≡ None = sym c.handle.ensures ∙ c.in_default.is in
    let w : named_from (identities c.args.set.now) (trees c.args.types.now.nodes) c.get-shape.result.now 0 ≡ true =
    c.loop-k.invariant ∙ named_all (identities c.args.set.now) (trees c.args.types.now.nodes) c.get-shape.result.now c.loop-k.k (omega (arith, c.loop-k-test.false, c.value_count-k-end.ensures)) in
    sym w ∙ named_parts c.args.types.now c.args.set.now c.args.ty c.in-Some.id c.get-shape.result.now is c.requires.value c.requires.set c.get-shape.ensures.unfolds (sym c.names_itself.ensures ∙ c.if-names_itself.false) none
