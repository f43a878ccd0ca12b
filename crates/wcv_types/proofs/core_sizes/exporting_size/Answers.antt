use Rattle.std.proofs.Common.{List, map, min, sym, subst, ◌∙◌, ap, arith}
use Rattle.std.specs.Prelude.{All}
use Rattle.wcv_core.specs.CoreGroups.{total}
use Rattle.wcv_core.specs.CoreSizes.{IsEntityWithin}
use Rattle.wcv_core.specs.declared.core_types.EntityType.{EntityType}
use Rattle.wcv_types.specs.Standing.{entity_sizes}
use Rattle.wcv_types.specs.Tree.{Text}
use Rattle.wcv_types.proofs.CoreSizes.{imports_within, exports_within, without_imports}
use Rattle.wcv_types.proofs.core_sizes.exporting_size.Goals as goal

pub core_items_size-imports-requires : goal.core_items_size-imports-requires
core_items_size-imports-requires c =
    subst (All (λ (i : (Text × Text) × EntityType). IsEntityWithin (total c.args.core.now) i.1)) (sym c.as_slice.ensures) (imports_within c.args.core.now c.args.shape.now.imports c.args.shape.now.exports c.requires.within)

pub overflow_cast-result : goal.overflow_cast-result
overflow_cast-result c =
    omega (
      arith,
      c.if-shape-lt4294967295.true,
      (without_imports c.args.core.now c.args.shape.now.imports c.args.shape.now.exports c.args.shape.now.info.size c.requires.stated c.core_items_size-imports.result (omega (arith, c.if-shape-lt4294967295.true))
          (c.core_items_size-imports.ensures ∙ ap (λ (is : List ((Text × Text) × EntityType)). min (entity_sizes c.args.core.now (map (λ i. i.1) is)) 18446744073709551615) c.as_slice.ensures)).0,
    )

pub overflow_sub-result : goal.overflow_sub-result
overflow_sub-result c =
    (without_imports c.args.core.now c.args.shape.now.imports c.args.shape.now.exports c.args.shape.now.info.size c.requires.stated c.core_items_size-imports.result (omega (arith, c.if-shape-lt4294967295.true))
    (c.core_items_size-imports.ensures ∙ ap (λ (is : List ((Text × Text) × EntityType)). min (entity_sizes c.args.core.now (map (λ i. i.1) is)) 18446744073709551615) c.as_slice.ensures)).0

pub returns-then-shape-lt4294967295 : goal.returns-then-shape-lt4294967295
returns-then-shape-lt4294967295 c =
    (without_imports c.args.core.now c.args.shape.now.imports c.args.shape.now.exports c.args.shape.now.info.size c.requires.stated c.core_items_size-imports.result (omega (arith, c.if-shape-lt4294967295.true))
    (c.core_items_size-imports.ensures ∙ ap (λ (is : List ((Text × Text) × EntityType)). min (entity_sizes c.args.core.now (map (λ i. i.1) is)) 18446744073709551615) c.as_slice.ensures)).1

pub core_items_size-exports-requires : goal.core_items_size-exports-requires
core_items_size-exports-requires c =
    subst (All (λ (e : Text × EntityType). IsEntityWithin (total c.args.core.now) e.1)) (sym c.as_slice-2.ensures) (exports_within c.args.core.now c.args.shape.now.imports c.args.shape.now.exports c.requires.within)
