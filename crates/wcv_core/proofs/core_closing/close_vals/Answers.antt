use Rattle.std.proofs.Common.{rules, arith, ◌≡◌, ℕ, ◌<◌, length, get_or, slice_set, List, ◌∙◌, ap, subst}
use Rattle.wcv_core.specs.declared.core_types.ValType.{ValType}
use Rattle.wcv_core.specs.Checks.{IsFree, CausedBy}
use Rattle.wcv_core.specs.CoreWritten.{Core_entry, val_checks, closed_val}
use Rattle.wcv_core.proofs.Closing.{caused_at, free_next, get_or-partly, set_next, partly_all}
use Rattle.wcv_core.proofs.core_closing.close_vals.Goals as goal

pub returns-in-Err-clause-err : goal.returns-in-Err-clause-err
returns-in-Err-clause-err g c =
    let es : List Core_entry = g.G.InternRecGroup.entries c.args.group.now in
    let old : List ValType = c.args.types.now.items in
    let i : ℕ = c.loop-i.i in
    let v : ValType = c.index.result.now in
    let same : v ≡ get_or old i v = c.index.ensures ∙ (ap (λ (xs : List ValType). get_or xs i v) c.loop-i.invariant.types ∙ get_or-partly (closed_val es) old i v) in
    let h : i < length old = omega (arith, c.loop-i-test.true, c.len-i-end.ensures) in
    let cause : CausedBy (val_checks c.args.site.known es c.args.site.len v) c.args.site.offset c.in-Err.err = search rules in
    caused_at (val_checks c.args.site.known es c.args.site.len) old i v c.args.site.offset c.in-Err.err h (subst (λ (w : ValType). CausedBy (val_checks c.args.site.known es c.args.site.len w) c.args.site.offset c.in-Err.err) same cause)

pub loop-i-preserved : goal.loop-i-preserved
loop-i-preserved g c =
    let es : List Core_entry = g.G.InternRecGroup.entries c.args.group.now in
    let old : List ValType = c.args.types.now.items in
    let i : ℕ = c.loop-i.i in
    let v : ValType = c.index.result.now in
    let same : v ≡ get_or old i v = c.index.ensures ∙ (ap (λ (xs : List ValType). get_or xs i v) c.loop-i.invariant.types ∙ get_or-partly (closed_val es) old i v) in
    let h : i < length old = omega (arith, c.loop-i-test.true, c.len-i-end.ensures) in
    let closed : c.in-Ok.ty ≡ closed_val es v = search rules in
    let free : IsFree (val_checks c.args.site.known es c.args.site.len v) = search rules in
    record {
      types = (λ j. slice_set (c.loop-i.invariant.types j) i ((closed ∙ ap (closed_val es) same) j)) ∙ set_next (closed_val es) old i v;
      free = free_next (val_checks c.args.site.known es c.args.site.len) old i v h c.loop-i.invariant.free (subst (λ (w : ValType). IsFree (val_checks c.args.site.known es c.args.site.len w)) same free);
    }

pub returns-clause-ok : goal.returns-clause-ok
returns-clause-ok g c =
    let es : List Core_entry = g.G.InternRecGroup.entries c.args.group.now in
    let old : List ValType = c.args.types.now.items in
    let i : ℕ = c.loop-i.i in
    c.loop-i.invariant.types ∙ partly_all (closed_val es) old i (omega (arith, c.loop-i-test.false, c.len-i-end.ensures))
