use Rattle.std.proofs.Common.{rules, arith, ◌≡◌, ℕ, ◌<◌, length, get_or, slice_set, List, ◌∙◌, ap, subst}
use Rattle.wcv_core.specs.declared.core_types.FieldType.{FieldType}
use Rattle.wcv_core.specs.Checks.{IsFree, CausedBy}
use Rattle.wcv_core.specs.CoreWritten.{Core_entry, field_checks, closed_field}
use Rattle.wcv_core.proofs.Closing.{caused_at, free_next, get_or-partly, set_next, partly_all}
use Rattle.wcv_core.proofs.core_closing.close_fields.Goals as goal

pub returns-in-Err-clause-err : goal.returns-in-Err-clause-err
returns-in-Err-clause-err g c =
    let es : List Core_entry = g.G.InternRecGroup.entries c.args.group.now in
    let old : List FieldType = c.args.types.now.items in
    let i : ℕ = c.loop-i.i in
    let v : FieldType = c.index.result.now in
    let same : v ≡ get_or old i v = c.index.ensures ∙ (ap (λ (xs : List FieldType). get_or xs i v) c.loop-i.invariant.types ∙ get_or-partly (closed_field es) old i v) in
    let h : i < length old = omega (arith, c.loop-i-test.true, c.len-i-end.ensures) in
    let cause : CausedBy (field_checks c.args.site.known es c.args.site.len v) c.args.site.offset c.in-Err.err = search rules in
    caused_at (field_checks c.args.site.known es c.args.site.len) old i v c.args.site.offset c.in-Err.err h (subst (λ (w : FieldType). CausedBy (field_checks c.args.site.known es c.args.site.len w) c.args.site.offset c.in-Err.err) same cause)

pub loop-i-preserved : goal.loop-i-preserved
loop-i-preserved g c =
    let es : List Core_entry = g.G.InternRecGroup.entries c.args.group.now in
    let old : List FieldType = c.args.types.now.items in
    let i : ℕ = c.loop-i.i in
    let v : FieldType = c.index.result.now in
    let same : v ≡ get_or old i v = c.index.ensures ∙ (ap (λ (xs : List FieldType). get_or xs i v) c.loop-i.invariant.types ∙ get_or-partly (closed_field es) old i v) in
    let h : i < length old = omega (arith, c.loop-i-test.true, c.len-i-end.ensures) in
    let closed : c.in-Ok.ty ≡ closed_field es v = search rules in
    let free : IsFree (field_checks c.args.site.known es c.args.site.len v) = search rules in
    record {
      types = (λ j. slice_set (c.loop-i.invariant.types j) i ((closed ∙ ap (closed_field es) same) j)) ∙ set_next (closed_field es) old i v;
      free = free_next (field_checks c.args.site.known es c.args.site.len) old i v h c.loop-i.invariant.free (subst (λ (w : FieldType). IsFree (field_checks c.args.site.known es c.args.site.len w)) same free);
    }

pub returns-clause-ok : goal.returns-clause-ok
returns-clause-ok g c =
    let es : List Core_entry = g.G.InternRecGroup.entries c.args.group.now in
    let old : List FieldType = c.args.types.now.items in
    let i : ℕ = c.loop-i.i in
    c.loop-i.invariant.types ∙ partly_all (closed_field es) old i (omega (arith, c.loop-i-test.false, c.len-i-end.ensures))
