use Rattle.std.proofs.Common.{◌≡◌, subst, sym, ap, ◌∙◌, Some, slice_get}
use Rattle.std.proofs.lemmas.Option.{same_Some}
use Rattle.wcv_types.specs.Arena.{Arena}
use Rattle.wcv_types.specs.Standing.{AllFit}
use Rattle.wcv_types.specs.declared.arena.Node.{Node}
use Rattle.wcv_types.specs.declared.arena.Node.TheVariants as n
use Rattle.wcv_types.proofs.Unfolding.{tree_in-unfolds, parts_before}
use Rattle.wcv_types.proofs.core_instance_sort.ComponentCoreInstanceTypeIdNodeSort.node.Goals as goal

pub core_instance_shape-requires : goal.core_instance_shape-requires
core_instance_shape-requires c =
    let found : Some c.get.result.now ≡ Some (n.CoreInstance c.requires.0) = sym (subst (λ (x : Arena). slice_get x.nodes c.args.id.index ≡ Some c.get.result.now) c.types.view_is c.get.ensures) ∙ c.requires.1 in
    (c.requires.0, same_Some _ _ found)

pub returns : goal.returns
returns c =
    let a : Arena = c.args.types.now in
    let k = c.args.id.index in
    let sound : AllFit a = subst AllFit c.types.view_is c.types.invariant in
    let found : slice_get a.nodes k ≡ Some (n.CoreInstance c.core_instance_shape.result.now) =
    subst (λ (x : Arena). slice_get x.nodes k ≡ Some c.get.result.now) c.types.view_is c.get.ensures ∙ ap (λ (x : Node). Some x) c.core_instance_shape.ensures in
    record {
      found = found;
      unfolds = tree_in-unfolds a k (n.CoreInstance c.core_instance_shape.result.now) sound found;
      before = parts_before a k (n.CoreInstance c.core_instance_shape.result.now) sound found;
    }
