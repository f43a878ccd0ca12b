use Rattle.std.proofs.Common.{◌∷◌, Option, subst, ◌∙◌, sym, ap, arith, drop, ◌-◌, bytes_eq}
use Rattle.std.specs.Prelude.{IfSome}
use Rattle.std.specs.Map.{lookup}
use Rattle.std.proofs.lemmas.List.Elements.{All-contains}
use Rattle.std.proofs.lemmas.Map.Entries.{All-lookup}
use Rattle.wcv_core.specs.CoreGroups.{total}
use Rattle.wcv_core.specs.CoreSizes.{IsEntityWithin}
use Rattle.wcv_core.specs.declared.core_types.EntityType.{EntityType}
use Rattle.wcv_types.specs.Standing.{Stands}
use Rattle.wcv_types.specs.declared.ids.ComponentCoreInstanceTypeId.{ComponentCoreInstanceTypeId}
use Rattle.wcv_types.specs.Tree.{Text}
use Rattle.wcv_types.specs.Unfold.{tree_at}
use Rattle.wcv_types.specs.declared.ids.Part.TheVariants as p
use Rattle.wcv_matching.specs.CoreArguments.{argument_exports}
use Rattle.wcv_matching.specs.ModuleItems.{instance_exports}
use Rattle.wcv_matching.proofs.Arguments.{argument_joins, within_joins}
use Rattle.wcv_matching.proofs.ByName.{before_end}
use Rattle.wcv_matching.proofs.Entries.{among, there}
use Rattle.wcv_matching.proofs.core_args.arguments_by_name.Goals as goal

pub core_exports-requires : goal.core_exports-requires
core_exports-requires c =
    let i = c.loop-left.left - 1 in
    All-contains (λ (x : Text × ComponentCoreInstanceTypeId). Stands c.args.types.now (p.CoreInstance x.1)) c.args.args.now c.index-args-left.result c.requires
    (among c.args.args.now i c.index-args-left.result (there c.args.args.now i c.index-args-left.result (omega arith) (sym c.index-args-left.is)))

pub loop-left-preserved-in_ok-insert : goal.loop-left-preserved-in_ok-insert
loop-left-preserved-in_ok-insert c = record {
  held = argument_joins c.loop-left.items c.insert.new.self c.as_str.result c.in_ok-exports.exports (instance_exports (tree_at c.args.types.now (p.CoreInstance c.index-args-left.result.1)))
      (argument_exports c.args.types.now (drop c.loop-left.left c.args.args.now)) (argument_exports c.args.types.now (drop (c.loop-left.left - 1) c.args.args.now)) c.in_ok-insert.ensures.updates
      (ap (argument_exports c.args.types.now) (before_end c.args.args.now c.loop-left.left c.index-args-left.result (omega arith) (sym (there c.args.args.now (c.loop-left.left - 1) c.index-args-left.result (omega arith) (sym c.index-args-left.is)))) ∙
      ap (λ (t : Text). (t, instance_exports (tree_at c.args.types.now (p.CoreInstance c.index-args-left.result.1))) ∷ argument_exports c.args.types.now (drop c.loop-left.left c.args.args.now)) (sym c.as_str.ensures))
      (λ q. c.in_ok-exports.ensures q ∙ ap (lookup (bytes_eq q)) c.core_exports.ensures.exports) c.loop-left.invariant.held;
  within = λ i. within_joins (IsEntityWithin (total c.args.types.now.core)) c.loop-left.items c.insert.new.self c.as_str.result c.in_ok-exports.exports c.in_ok-insert.ensures.updates
      (λ q. subst (λ (o : Option EntityType). IfSome o (IsEntityWithin (total c.args.types.now.core))) (sym (c.in_ok-exports.ensures q)) (All-lookup (IsEntityWithin (total c.args.types.now.core)) (bytes_eq q) c.core_exports.result.now c.core_exports.ensures.within)) i (c.loop-left.invariant.within i);
  few = omega arith;
}

pub loop-left-preserved : goal.loop-left-preserved
loop-left-preserved c = record {
  held = argument_joins c.loop-left.items c.insert.new.self c.as_str.result c.in_ok-exports.exports (instance_exports (tree_at c.args.types.now (p.CoreInstance c.index-args-left.result.1)))
      (argument_exports c.args.types.now (drop c.loop-left.left c.args.args.now)) (argument_exports c.args.types.now (drop (c.loop-left.left - 1) c.args.args.now)) c.in_ok-insert.ensures.updates
      (ap (argument_exports c.args.types.now) (before_end c.args.args.now c.loop-left.left c.index-args-left.result (omega arith) (sym (there c.args.args.now (c.loop-left.left - 1) c.index-args-left.result (omega arith) (sym c.index-args-left.is)))) ∙
      ap (λ (t : Text). (t, instance_exports (tree_at c.args.types.now (p.CoreInstance c.index-args-left.result.1))) ∷ argument_exports c.args.types.now (drop c.loop-left.left c.args.args.now)) (sym c.as_str.ensures))
      (λ q. c.in_ok-exports.ensures q ∙ ap (lookup (bytes_eq q)) c.core_exports.ensures.exports) c.loop-left.invariant.held;
  within = λ i. within_joins (IsEntityWithin (total c.args.types.now.core)) c.loop-left.items c.insert.new.self c.as_str.result c.in_ok-exports.exports c.in_ok-insert.ensures.updates
      (λ q. subst (λ (o : Option EntityType). IfSome o (IsEntityWithin (total c.args.types.now.core))) (sym (c.in_ok-exports.ensures q)) (All-lookup (IsEntityWithin (total c.args.types.now.core)) (bytes_eq q) c.core_exports.result.now c.core_exports.ensures.within)) i (c.loop-left.invariant.within i);
  few = omega arith;
}
