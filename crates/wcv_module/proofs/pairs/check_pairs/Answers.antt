use Rattle.std.proofs.Common.{◌||◌, ◌∙◌, sym, ap, arith, Bool, inl, inr}
use Rattle.wcv_syntax.specs.ModuleTypes.{same_pair}
use Rattle.wcv_module.proofs.Names.{not_false, not_true}
use Rattle.wcv_module.proofs.Repeats.{imports_repeat, imports_none, imports_seen}
use Rattle.wcv_module.proofs.pairs.check_pairs.Goals as goal

pub returns-then-not-is_new-clause-err : goal.returns-then-not-is_new-clause-err
returns-then-not-is_new-clause-err c =
    let x = c.import-item.result in
    let among = sym (c.loop-import.invariant.seen x.0) ∙ not_false _ (sym c.if-not-is_new.true ∙ c.in_ok-is_new.ensures.added) in
    inr (inl (c.repeated.ensures.kind, imports_repeat c.args.imports.now c.loop-import.import-index x (omega arith) c.import-item.is among), c.repeated.ensures.offset)

pub loop-import-preserved : goal.loop-import-preserved
loop-import-preserved c =
    let x = c.import-item.result in
    let among = sym (c.loop-import.invariant.seen x.0) ∙ not_true _ (sym c.if-not-is_new.false ∙ c.in_ok-is_new.ensures.added) in
    record {
      seen = λ p. c.in_ok-is_new.ensures.has p ∙ (ap (λ (b : Bool). same_pair p x.0 || b) (c.loop-import.invariant.seen p) ∙ imports_seen p c.args.imports.now c.loop-import.import-index x (omega arith) c.import-item.is);
      none = imports_none c.args.imports.now c.loop-import.import-index x (omega arith) c.import-item.is c.loop-import.invariant.none among;
    }
