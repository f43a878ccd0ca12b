use Rattle.std.proofs.Common.{rules, arith, ◌≡◌, ℕ, ◌<◌, length, map, get_or, slice_set, List, sym, ◌∙◌, ap, subst}
use Rattle.wcv_core.specs.CoreForm.{SubForm, sub_form}
use Rattle.wcv_core.specs.Checks.{IsFree, CausedBy}
use Rattle.wcv_core.specs.CoreWritten.{Core_entry, index_checks, closed_sub}
use Rattle.wcv_core.proofs.Rowing.{length-map, item}
use Rattle.wcv_core.proofs.Closing.{caused_at, free_next, get_or-partly, set_next, partly_all, map-set}
use Rattle.wcv_core.proofs.core_closing.close_subs.Goals as goal

pub returns-in-Err-clause-err : goal.returns-in-Err-clause-err
returns-in-Err-clause-err g c =
    let es : List Core_entry = g.G.InternRecGroup.entries c.args.group.now in
    let old : List SubForm = map sub_form c.args.types.now.items in
    let i : ℕ = c.loop-i.i in
    let l : length old ≡ length c.args.types.now.items = length-map sub_form c.args.types.now.items in
    let v : SubForm = sub_form c.index_mut.result.now in
    let at : get_or (map sub_form c.loop-i.types.items) i v ≡ v = item sub_form c.loop-i.types.items i c.index_mut.result.now c.index_mut.ensures.value in
    let same : v ≡ get_or old i v = sym at ∙ (ap (λ (xs : List SubForm). get_or xs i v) c.loop-i.invariant.types ∙ get_or-partly (closed_sub es) old i v) in
    let h : i < length old = omega (arith, c.loop-i-test.true, c.len-i-end.ensures) in
    let cause : CausedBy (index_checks c.args.site.known es c.args.site.len v) c.args.site.offset c.in-Err.err = search rules in
    caused_at (index_checks c.args.site.known es c.args.site.len) old i v c.args.site.offset c.in-Err.err h (subst (λ (w : SubForm). CausedBy (index_checks c.args.site.known es c.args.site.len w) c.args.site.offset c.in-Err.err) same cause)

pub loop-i-preserved : goal.loop-i-preserved
loop-i-preserved g c =
    let es : List Core_entry = g.G.InternRecGroup.entries c.args.group.now in
    let old : List SubForm = map sub_form c.args.types.now.items in
    let i : ℕ = c.loop-i.i in
    let l : length old ≡ length c.args.types.now.items = length-map sub_form c.args.types.now.items in
    let v : SubForm = sub_form c.index_mut.result.now in
    let at : get_or (map sub_form c.loop-i.types.items) i v ≡ v = item sub_form c.loop-i.types.items i c.index_mut.result.now c.index_mut.ensures.value in
    let same : v ≡ get_or old i v = sym at ∙ (ap (λ (xs : List SubForm). get_or xs i v) c.loop-i.invariant.types ∙ get_or-partly (closed_sub es) old i v) in
    let h : i < length old = omega (arith, c.loop-i-test.true, c.len-i-end.ensures) in
    let closed : sub_form c.close_sub.new.ty ≡ closed_sub es v = search rules in
    let free : IsFree (index_checks c.args.site.known es c.args.site.len v) = search rules in
    record {
      types = map-set sub_form c.loop-i.types.items i c.close_sub.new.ty ∙ ((λ j. slice_set (c.loop-i.invariant.types j) i ((closed ∙ ap (closed_sub es) same) j)) ∙ set_next (closed_sub es) old i v);
      free = free_next (index_checks c.args.site.known es c.args.site.len) old i v h c.loop-i.invariant.free (subst (λ (w : SubForm). IsFree (index_checks c.args.site.known es c.args.site.len w)) same free);
    }

pub returns-clause-ok : goal.returns-clause-ok
returns-clause-ok g c =
    let es : List Core_entry = g.G.InternRecGroup.entries c.args.group.now in
    let old : List SubForm = map sub_form c.args.types.now.items in
    let i : ℕ = c.loop-i.i in
    let l : length old ≡ length c.args.types.now.items = length-map sub_form c.args.types.now.items in
    c.loop-i.invariant.types ∙ partly_all (closed_sub es) old i (omega (arith, c.loop-i-test.false, c.len-i-end.ensures))
