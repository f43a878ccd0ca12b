use Rattle.std.proofs.Common.{rules, arith, ◌≡◌, true, false}
use Rattle.wcv_core.specs.CoreRules.{field_matches, id_field}
use Rattle.wcv_core.specs.CoreGroups.{total, IsFieldWithin}
use Rattle.wcv_core.proofs.Within.{mapped_within, mapped_seen}
use Rattle.wcv_core.proofs.Pairing.{front_fails, front_goes}
use Rattle.wcv_core.proofs.core_rows.Rows.fields_match.Goals as goal

pub returns-then-not-field_matches : goal.returns-then-not-field_matches
returns-then-not-field_matches c =
    let e : field_matches c.args.self.now c.id_field-f.result c.id_field-g.result ≡ false = search rules in
    front_fails (id_field c.args.first_a) (id_field c.args.first_b) (field_matches c.args.self.now) c.args.a.now c.args.b.now c.loop-i.i _ _ (omega arith) (omega arith) c.id_field-f.result c.id_field-g.result c.id_field-f.ensures c.id_field-g.ensures
    c.loop-i.invariant.same e

pub loop-i-preserved : goal.loop-i-preserved
loop-i-preserved c =
    let e : field_matches c.args.self.now c.id_field-f.result c.id_field-g.result ≡ true = search rules in
    record {
      same =
          front_goes (id_field c.args.first_a) (id_field c.args.first_b) (field_matches c.args.self.now) c.args.a.now c.args.b.now c.loop-i.i _ _ (omega arith) (omega arith) c.id_field-f.result c.id_field-g.result c.id_field-f.ensures c.id_field-g.ensures
          c.loop-i.invariant.same e;
    }

pub id_field-f-requires : goal.id_field-f-requires
id_field-f-requires c = mapped_within (IsFieldWithin (total c.args.self.now) 0) (id_field c.args.first_a) c.args.a.now c.loop-i.i _ c.requires.a (omega arith)

pub id_field-g-requires : goal.id_field-g-requires
id_field-g-requires c = mapped_within (IsFieldWithin (total c.args.self.now) 0) (id_field c.args.first_b) c.args.b.now c.loop-i.i _ c.requires.b (omega arith)

pub field_matches-requires-clause-a : goal.field_matches-requires-clause-a
field_matches-requires-clause-a c =
    mapped_seen (IsFieldWithin (total c.args.self.now) 0) (id_field c.args.first_a) c.args.a.now c.loop-i.i _ c.id_field-f.result c.requires.a (omega arith) c.id_field-f.ensures

pub field_matches-requires-clause-b : goal.field_matches-requires-clause-b
field_matches-requires-clause-b c =
    mapped_seen (IsFieldWithin (total c.args.self.now) 0) (id_field c.args.first_b) c.args.b.now c.loop-i.i _ c.id_field-g.result c.requires.b (omega arith) c.id_field-g.ensures
