use Rattle.std.proofs.Common.{◌≡◌, ◌++◌, [], List, length, sym, ◌∙◌, ap, append_assoc, append-nil, arith}
use Rattle.std.specs.Vec.Iter.{into_iter_items}
use Rattle.std.proofs.lemmas.List.{nil_from_length}
use Rattle.wcv_types.specs.Tree.{Text}
use Rattle.wcv_types.specs.declared.shapes.ComponentEntityType.{ComponentEntityType}
use Rattle.wcv_instances.proofs.component_instances.as_map.Goals as goal

abbrev Found : Type 0
Found = List (Text × ComponentEntityType)

pub loop-entry-init : goal.loop-entry-init
loop-entry-init c = record {
  whole = ap (λ (m : Found). m ++ into_iter_items c.into_iter-entry-iterator.result) c.new-map.ensures ∙ c.into_iter-entry-iterator.ensures.into_iter_gives.0;
  left = search;
}

pub loop-entry-preserved : goal.loop-entry-preserved
loop-entry-preserved c = record {
  whole =
      let rest : Found = into_iter_items c.next.new.self in
      ap (λ (m : Found). m ++ rest) c.in_ok-push.ensures.ok ∙ append_assoc c.loop-entry.map _ rest ∙ ap (λ (xs : Found). c.loop-entry.map ++ xs) (sym c.in-Some.ensures.steps.0) ∙ c.loop-entry.invariant.whole;
  left =
      let gone = c.in-Some.ensures.steps.1 in
      let short = ap length c.in-Some.ensures.steps.0 in
      let before = c.loop-entry.invariant.left in
      omega arith;
}

pub returns : goal.returns
returns c =
    let none : into_iter_items c.loop-entry.entry-iterator ≡ [] = nil_from_length (into_iter_items c.loop-entry.entry-iterator) (sym c.loop-entry.invariant.left ∙ c.in-None.ensures.steps.0) in
    sym (append-nil c.loop-entry.map) ∙ ap (λ (xs : Found). c.loop-entry.map ++ xs) (sym none) ∙ c.loop-entry.invariant.whole
