use Rattle.std.proofs.Common.{arith, map}
use Rattle.wcv_syntax.specs.View.{code_decl_view}
use Rattle.wcv_encode.specs.Modules.{part_bytes}
use Rattle.wcv_encode.specs.declared.part.Part.TheVariants.{Types}
use Rattle.wcv_encode.proofs.Joins.{joins}
use Rattle.wcv_encode.proofs.Lists.{each_at, each_end}
use Rattle.wcv_encode.proofs.module.write_parts.Goals as goal

pub returns-in_err-write_part : goal.returns-in_err-write_part
returns-in_err-write_part c =
    let e = each_at (λ p. part_bytes p (map code_decl_view c.args.decls.now)) c.args.parts.now c.loop-part.part-index Types (omega arith) in
    grind (arith, joins)

pub loop-part-preserved : goal.loop-part-preserved
loop-part-preserved c =
    let e = each_at (λ p. part_bytes p (map code_decl_view c.args.decls.now)) c.args.parts.now c.loop-part.part-index Types (omega arith) in
    grind (arith, joins)

pub returns : goal.returns
returns c =
    let e = each_end (λ p. part_bytes p (map code_decl_view c.args.decls.now)) c.args.parts.now c.loop-part.part-index (omega arith) in
    grind (arith, joins)
