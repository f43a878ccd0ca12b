use Rattle.std.proofs.Common.{◌∙◌, ap, sym, take, List}
use Rattle.wcv_types.specs.Unfold.{former_of}
use Rattle.wcv_types.specs.declared.shapes.ComponentDefinedType.{ComponentDefinedType}
use Rattle.wcv_types.specs.Flat.{repeated, former_flat}
use Rattle.wcv_types.specs.Open.{open_words}
use Rattle.wcv_types.specs.declared.flat_type.FlatType.{FlatType}
use Rattle.wcv_types.proofs.Cutting.{repeated_cut}
use Rattle.wcv_types.proofs.shape_types.shape_types.Goals as goal

pub returns-in-FixedLengthList : goal.returns-in-FixedLengthList
returns-in-FixedLengthList c xs ys h i =
    c.repeated.ensures ∙ ap (λ (zs : List FlatType). take 17 (repeated c.in-FixedLengthList.len zs)) h ∙ repeated_cut 17 c.in-FixedLengthList.len xs ∙
    ap (λ (s : ComponentDefinedType). take 17 (former_flat open_words (former_of s) xs ys)) (sym c.in-FixedLengthList.is)
