use Rattle.std.proofs.Common.{◌≡◌, ◌≤◌, length, Some, None, option_copied, sym, ap, ◌∙◌, arith}
use Rattle.wcv_types.specs.Alike.{form_primitive}
use Rattle.wcv_types.specs.ShapeNumbers.{codes_in, shape_number}
use Rattle.wcv_types.specs.Unfold.{former_of, tree_at, trees, value_parts}
use Rattle.wcv_types.specs.declared.ids.Part.TheVariants as p
use Rattle.wcv_types.specs.declared.shapes.ComponentValType.TheVariants as v
use Rattle.wcv_types.proofs.NamedBySet.{value_rank, value_before, is_node}
use Rattle.wcv_types.proofs.ShapeCodes.{written_next, node_number, value_is_node}
use Rattle.wcv_types.proofs.shape_numbers.+value_number.Goals as goal

pub value_number-requires : goal.value_number-requires
value_number-requires t c =
    let w = value_before c.args.types.now c.in-Some.id.index c.get-shape.result.now c.loop-k.k c.value_at.result c.get-shape.ensures.before c.value_at.ensures in
    let r : value_rank c.args.ty ≡ value_rank (Some (v.Ty c.in-Some.id)) = ap value_rank (is_node c.args.ty c.in-Some.id (sym c.node_of.ensures ∙ c.in-Some.is)) in
    (omega (arith, w.1, r, c.decreases), (w.0, c.loop-k.invariant.numbers))

pub loop-k-preserved : goal.loop-k-preserved
loop-k-preserved t c = record {
  numbers = c.in_ok-part.ensures.numbers;
  keeps = λ d j h. c.in_ok-part.ensures.keeps d j (c.loop-k.invariant.keeps d j h);
  written = written_next (codes_in c.loop-k.numbers.codes) (codes_in c.value_number.new.numbers.codes) (trees c.args.types.now.nodes) c.get-shape.result.now c.loop-k.k c.in_ok-part.part (option_copied c.label_at.result) c.value_at.result c.loop-k.code c.push_entry.new.code
      c.in_ok-part.ensures.keeps c.label_at.ensures c.value_at.ensures c.in_ok-part.ensures.number c.in_ok-push_entry.ensures.numbers c.in_ok-push_entry.ensures.bytes c.loop-k.invariant.written;
}

pub keep-requires-clause-number : goal.keep-requires-clause-number
keep-requires-clause-number t c =
    let plain : form_primitive (former_of c.get-shape.result.now) ≡ None = sym c.primitive.ensures ∙ c.in_default.is in
    let all : length (value_parts c.get-shape.result.now) ≤ c.loop-k.k = omega (arith, c.loop-k-test.false, c.value_count-k-end.ensures) in
    node_number (codes_in c.loop-k.numbers.codes) (codes_in c.number_of_code.new.self.codes) c.args.types.now c.in-Some.id c.get-shape.result.now c.loop-k.k c.in_ok-number.number c.loop-k.code
    c.in_ok-number.ensures.keeps c.get-shape.ensures.unfolds plain all c.loop-k.invariant.written c.in_ok-number.ensures.number

pub returns-clause-number : goal.returns-clause-number
returns-clause-number t c =
    let plain : form_primitive (former_of c.get-shape.result.now) ≡ None = sym c.primitive.ensures ∙ c.in_default.is in
    let all : length (value_parts c.get-shape.result.now) ≤ c.loop-k.k = omega (arith, c.loop-k-test.false, c.value_count-k-end.ensures) in
    let n : shape_number (codes_in c.number_of_code.new.self.codes) (tree_at c.args.types.now (p.Defined c.in-Some.id)) ≡ Some c.in_ok-number.number =
    node_number (codes_in c.loop-k.numbers.codes) (codes_in c.number_of_code.new.self.codes) c.args.types.now c.in-Some.id c.get-shape.result.now c.loop-k.k c.in_ok-number.number c.loop-k.code
    c.in_ok-number.ensures.keeps c.get-shape.ensures.unfolds plain all c.loop-k.invariant.written c.in_ok-number.ensures.number in
    let kept : shape_number (codes_in c.keep.new.self.codes) (tree_at c.args.types.now (p.Defined c.in-Some.id)) ≡ Some c.in_ok-number.number =
    ap (λ m. shape_number (codes_in m) (tree_at c.args.types.now (p.Defined c.in-Some.id))) c.in_ok-keep.ensures.codes ∙ n in
    value_is_node (codes_in c.keep.new.self.codes) c.args.types.now c.args.ty c.in-Some.id c.in_ok-number.number (sym c.node_of.ensures ∙ c.in-Some.is) kept
