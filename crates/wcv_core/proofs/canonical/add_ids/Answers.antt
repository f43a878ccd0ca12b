use Rattle.std.proofs.Common.{arith, ◌≡◌, ℕ, ◌+◌, List, length, ◌∙◌, sym, subst, All}
use Rattle.wcv_core.specs.CoreGroups.{total}
use Rattle.wcv_core.specs.CoreWritten.{Core_entry, sub_entry, IsKnown}
use Rattle.wcv_core.proofs.Ranges.{with_next, map_next, begun, added_length, known_push}
use Rattle.wcv_core.proofs.canonical.add_ids.Goals as goal

pub add_type_id-requires : goal.add_type_id-requires
add_type_id-requires g c =
    let xs : List Core_entry = g.G.InternRecGroup.entries c.args.group.now in
    let ys : List Core_entry = g.G.InternRecGroup.entries c.loop-position.group in
    let e : length ys ≡ length xs + c.loop-position.position = added_length sub_entry xs ys c.args.first c.loop-position.position c.loop-position.invariant.entries in
    omega (arith, c.requires.room)

pub returns-in-Err-clause-err : goal.returns-in-Err-clause-err
returns-in-Err-clause-err g c =
    begun g.G.InternRecGroup.with_type g.G.InternRecGroup.failed c.args.group.now c.loop-position.group c.add_type_id.new.self c.args.first c.args.count c.loop-position.position (omega arith) c.in-Err.ensures.err c.loop-position.invariant.group

pub returns-in-Err-clause-known : goal.returns-in-Err-clause-known
returns-in-Err-clause-known g c = subst (All (IsKnown (total c.args.core.now))) (sym c.in-Err.ensures.stays) c.loop-position.invariant.known

pub loop-position-preserved : goal.loop-position-preserved
loop-position-preserved g c =
    let k : ℕ = c.loop-position.position in
    let xs : List Core_entry = g.G.InternRecGroup.entries c.args.group.now in
    let ys : List Core_entry = g.G.InternRecGroup.entries c.loop-position.group in
    record {
      group = c.in-Ok.ensures.ok ∙ with_next g.G.InternRecGroup.with_type c.args.group.now c.loop-position.group c.args.first k c.id_at.result.index c.loop-position.invariant.group c.id_at.ensures;
      entries = c.in-Ok.ensures.entries ∙ map_next sub_entry xs ys c.args.first k c.id_at.result.index c.loop-position.invariant.entries c.id_at.ensures;
      known = subst (All (IsKnown (total c.args.core.now))) (sym c.in-Ok.ensures.entries) (known_push (total c.args.core.now) c.id_at.result.index ys (omega (arith, c.id_at.ensures, c.requires.table)) c.loop-position.invariant.known);
      features = c.in-Ok.ensures.features ∙ c.loop-position.invariant.features;
    }
