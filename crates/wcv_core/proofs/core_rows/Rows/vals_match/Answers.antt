use Rattle.std.proofs.Common.{rules, arith, ◌≡◌, true, false}
use Rattle.wcv_core.specs.CoreMatching.{val_matches}
use Rattle.wcv_core.specs.CoreRules.{id_val}
use Rattle.wcv_core.specs.CoreGroups.{total, IsValWithin}
use Rattle.wcv_core.proofs.Within.{mapped_within, mapped_seen}
use Rattle.wcv_core.proofs.Pairing.{each_fails, each_goes}
use Rattle.wcv_core.proofs.core_rows.Rows.vals_match.Goals as goal

pub returns-then-not-val_type_matches : goal.returns-then-not-val_type_matches
returns-then-not-val_type_matches c =
    let e : val_matches c.args.self.now c.id_val-v.result c.id_val-w.result ≡ false = search rules in
    each_fails (id_val c.args.first_a) (id_val c.args.first_b) (val_matches c.args.self.now) c.args.a.now c.args.b.now c.loop-i.i _ _ (omega arith) (omega arith) c.id_val-v.result c.id_val-w.result c.id_val-v.ensures c.id_val-w.ensures
    c.loop-i.invariant.same e

pub loop-i-preserved : goal.loop-i-preserved
loop-i-preserved c =
    let e : val_matches c.args.self.now c.id_val-v.result c.id_val-w.result ≡ true = search rules in
    record {
      same =
          each_goes (id_val c.args.first_a) (id_val c.args.first_b) (val_matches c.args.self.now) c.args.a.now c.args.b.now c.loop-i.i _ _ (omega arith) (omega arith) c.id_val-v.result c.id_val-w.result c.id_val-v.ensures c.id_val-w.ensures
          c.loop-i.invariant.same e;
    }

pub id_val-v-requires : goal.id_val-v-requires
id_val-v-requires c = mapped_within (IsValWithin (total c.args.self.now) 0) (id_val c.args.first_a) c.args.a.now c.loop-i.i _ c.requires.a (omega arith)

pub id_val-w-requires : goal.id_val-w-requires
id_val-w-requires c = mapped_within (IsValWithin (total c.args.self.now) 0) (id_val c.args.first_b) c.args.b.now c.loop-i.i _ c.requires.b (omega arith)

pub val_type_matches-requires-clause-a : goal.val_type_matches-requires-clause-a
val_type_matches-requires-clause-a c =
    mapped_seen (IsValWithin (total c.args.self.now) 0) (id_val c.args.first_a) c.args.a.now c.loop-i.i _ c.id_val-v.result c.requires.a (omega arith) c.id_val-v.ensures

pub val_type_matches-requires-clause-b : goal.val_type_matches-requires-clause-b
val_type_matches-requires-clause-b c =
    mapped_seen (IsValWithin (total c.args.self.now) 0) (id_val c.args.first_b) c.args.b.now c.loop-i.i _ c.id_val-w.result c.requires.b (omega arith) c.id_val-w.ensures
