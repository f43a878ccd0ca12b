use Rattle.std.proofs.Common.{◌≡◌, arith, refl, sym, ap, ◌∙◌, Some}
use Rattle.std.specs.Prelude.{option_copied}
use Rattle.wcv_types.specs.Alike.{role_of}
use Rattle.wcv_types.specs.Unfold.{parts_of, rank, trees, value_parts}
use Rattle.wcv_types.specs.declared.ids.Part.TheVariants as p
use Rattle.wcv_types.specs.declared.arena.Node.TheVariants as n
use Rattle.wcv_types.specs.declared.shapes.ComponentValType.TheVariants as v
use Rattle.wcv_types.proofs.Gathered.{parts_ready}
use Rattle.wcv_types.proofs.NamedBySet.{value_rank}
use Rattle.wcv_types.proofs.NeedingValues.{value_stands, value_within}
use Rattle.wcv_atoms.specs.Readings.{reads}
use Rattle.wcv_values.proofs.ValueExtents.{values_next}
use Rattle.wcv_values.proofs.SameValues.{handles_alike, other_count, contents_as, both_at, values_differ, values_agree}
use Rattle.wcv_values.proofs.values.+same_values.Goals as goal

pub same_contents-returns-then-value_count-clause-same : goal.same_contents-returns-then-value_count-clause-same
same_contents-returns-then-value_count-clause-same g t c =
    let h = sym c.handle.ensures ∙ c.in_default.is in
    let k = handles_alike c.args.a.now c.args.b.now c.requires.form h in
    other_count (trees c.args.types.now.nodes) (reads c.args.left.now) (reads c.args.right.now) (value_parts c.args.a.now) (value_parts c.args.b.now) (λ e. omega (arith, e, c.if-value_count.true, c.value_count.ensures, c.value_count-2.ensures)) ∙
    sym (contents_as (trees c.args.types.now.nodes) (reads c.args.left.now) (reads c.args.right.now) c.args.a.now c.args.b.now h k)

pub same_contents-loop-k-init : goal.same_contents-loop-k-init
same_contents-loop-k-init g t c =
    let h = sym c.handle.ensures ∙ c.in_default.is in
    record { same = contents_as (trees c.args.types.now.nodes) (reads c.args.left.now) (reads c.args.right.now) c.args.a.now c.args.b.now h (handles_alike c.args.a.now c.args.b.now c.requires.form h); counted = omega arith }

pub same_contents-same_part-requires : goal.same_contents-same_part-requires
same_contents-same_part-requires g t c κs inside =
    let h = sym c.handle.ensures ∙ c.in_default.is in
    let k = handles_alike c.args.a.now c.args.b.now c.requires.form h in
    let within = value_within c.args.types.now c.args.a.now c.loop-k.k c.value_at-x.result c.requires.a c.value_at-x.ensures in
    (omega (arith, within, c.decreases), (inside, (value_stands c.args.types.now c.args.a.now c.loop-k.k c.value_at-x.result c.requires.a h c.value_at-x.ensures, value_stands c.args.types.now c.args.b.now c.loop-k.k c.value_at-y.result c.requires.b k c.value_at-y.ensures)))

pub same_contents-returns-then-not-same_part-clause-same : goal.same_contents-returns-then-not-same_part-clause-same
same_contents-returns-then-not-same_part-clause-same g t c =
    let h = sym c.handle.ensures ∙ c.in_default.is in
    let made = contents_as (trees c.args.types.now.nodes) (reads c.args.left.now) (reads c.args.right.now) c.args.a.now c.args.b.now h (handles_alike c.args.a.now c.args.b.now c.requires.form h) in
    values_differ (trees c.args.types.now.nodes) (reads c.args.left.now) (reads c.args.right.now) (value_parts c.args.a.now) (value_parts c.args.b.now) c.loop-k.k (role_of (option_copied c.label_at.result), c.value_at-x.result) (role_of (option_copied c.label_at-in-loop-k.result), c.value_at-y.result)
    (both_at (value_parts c.args.a.now) c.loop-k.k _ c.value_at-x.result c.label_at.ensures c.value_at-x.ensures) (both_at (value_parts c.args.b.now) c.loop-k.k _ c.value_at-y.result c.label_at-in-loop-k.ensures c.value_at-y.ensures)
    (sym made ∙ c.loop-k.invariant.same) (sym c.same_part.ensures.same ∙ c.if-not-same_part.true) ∙ sym made

pub same_contents-returns-then-not-same_part-clause-counted : goal.same_contents-returns-then-not-same_part-clause-counted
same_contents-returns-then-not-same_part-clause-counted g t c =
    let x = values_next (trees c.args.types.now.nodes) (value_parts c.args.a.now) c.loop-k.k (role_of (option_copied c.label_at.result), c.value_at-x.result) (both_at (value_parts c.args.a.now) c.loop-k.k _ c.value_at-x.result c.label_at.ensures c.value_at-x.ensures) in
    let y = values_next (trees c.args.types.now.nodes) (value_parts c.args.b.now) c.loop-k.k (role_of (option_copied c.label_at-in-loop-k.result), c.value_at-y.result) (both_at (value_parts c.args.b.now) c.loop-k.k _ c.value_at-y.result c.label_at-in-loop-k.ensures c.value_at-y.ensures) in
    omega (arith, x, y, c.same_part.ensures.counted, c.loop-k.invariant.counted)

pub same_contents-loop-k-preserved : goal.same_contents-loop-k-preserved
same_contents-loop-k-preserved g t c =
    let h = sym c.handle.ensures ∙ c.in_default.is in
    let made = contents_as (trees c.args.types.now.nodes) (reads c.args.left.now) (reads c.args.right.now) c.args.a.now c.args.b.now h (handles_alike c.args.a.now c.args.b.now c.requires.form h) in
    let x = values_next (trees c.args.types.now.nodes) (value_parts c.args.a.now) c.loop-k.k (role_of (option_copied c.label_at.result), c.value_at-x.result) (both_at (value_parts c.args.a.now) c.loop-k.k _ c.value_at-x.result c.label_at.ensures c.value_at-x.ensures) in
    let y = values_next (trees c.args.types.now.nodes) (value_parts c.args.b.now) c.loop-k.k (role_of (option_copied c.label_at-in-loop-k.result), c.value_at-y.result) (both_at (value_parts c.args.b.now) c.loop-k.k _ c.value_at-y.result c.label_at-in-loop-k.ensures c.value_at-y.ensures) in
    record {
      counted = omega (arith, x, y, c.same_part.ensures.counted, c.loop-k.invariant.counted);
      same = made ∙ values_agree (trees c.args.types.now.nodes) (reads c.args.left.now) (reads c.args.right.now) (value_parts c.args.a.now) (value_parts c.args.b.now) c.loop-k.k (role_of (option_copied c.label_at.result), c.value_at-x.result) (role_of (option_copied c.label_at-in-loop-k.result), c.value_at-y.result)
          (both_at (value_parts c.args.a.now) c.loop-k.k _ c.value_at-x.result c.label_at.ensures c.value_at-x.ensures) (both_at (value_parts c.args.b.now) c.loop-k.k _ c.value_at-y.result c.label_at-in-loop-k.ensures c.value_at-y.ensures)
          (sym made ∙ c.loop-k.invariant.same) (sym c.same_part.ensures.same ∙ c.if-not-same_part.false);
    }

pub same_value-same_contents-requires : goal.same_value-same_contents-requires
same_value-same_contents-requires g t c κs inside =
    let x = c.in-Node.ensures.stands in
    let y = c.in-Node-view_of.ensures.stands in
    let w = parts_ready c.args.types.now (rank (p.Defined x.0)) (parts_of (n.Defined c.in-Node.s.now)) (parts_of (n.Defined c.in-Node.s.now)) refl x.3 (omega arith) in
    let u = parts_ready c.args.types.now (rank (p.Defined y.0)) (parts_of (n.Defined c.in-Node-view_of.t.now)) (parts_of (n.Defined c.in-Node-view_of.t.now)) refl y.3 (omega arith) in
    let r : value_rank c.args.a ≡ value_rank (Some (v.Ty x.0)) = ap value_rank x.1 in
    (omega (arith, w.0, r, c.decreases), (inside, (sym c.same_form.ensures ∙ c.if-same_form.true, (w.1, u.1))))
