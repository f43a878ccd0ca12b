use Rattle.std.proofs.Common.{List, Option, inr, sym, subst, arith}
use Rattle.std.specs.Prelude.{IfSome}
use Rattle.std.specs.Map.{lookup}
use Rattle.std.proofs.lemmas.Map.Entries.{All-lookup}
use Rattle.wcv_closed.specs.CoreModules.{same_pair}
use Rattle.wcv_core.specs.CoreGroups.{total}
use Rattle.wcv_core.specs.CoreForm.{Group}
use Rattle.wcv_core.specs.CoreSizes.{IsEntityWithin}
use Rattle.wcv_core.specs.declared.core_types.EntityType.{EntityType}
use Rattle.wcv_types.specs.Tree.{Text}
use Rattle.wcv_closed.specs.Found.{Found}
use Rattle.wcv_matching.specs.ByName.{held_pair}
use Rattle.wcv_matching.specs.ModuleItems.{ItemsMatch}
use Rattle.wcv_matching.specs.Standings.{FoundAs}
use Rattle.wcv_matching.proofs.Found.{carried}
use Rattle.wcv_matching.proofs.Entries.{one_more, not_past, all_found, one_fails, entry_within}
use Rattle.wcv_matching.proofs.modules.imports_match.Goals as goal
use Rattle.wcv_matching.proofs.modules.imports_match.Goals.{in-Some+in-Ok, in_default}

pub check_import-requires : goal.check_import-requires
check_import-requires c =
    let n = total c.args.types.now.core in
    let core = sym c.core_types.ensures in
    record {
      found = subst (λ (gs : List Group). IfSome (held_pair c.in_ok-items.items c.in-Some.import.now.0) (IsEntityWithin (total gs))) core
          (subst (λ (o : Option EntityType). IfSome o (IsEntityWithin n)) (sym (c.in_ok-items.ensures c.in-Some.import.now.0)) (All-lookup (IsEntityWithin n) (same_pair c.in-Some.import.now.0) c.args.b.now c.requires.b));
      expected = subst (λ (gs : List Group). IsEntityWithin (total gs) c.in-Some.import.now.1) core (entry_within (IsEntityWithin n) c.args.a.now c.loop-k.k c.in-Some.import.now c.requires.a c.in-Some.ensures);
    }

pub returns-in-Err-clause-err : goal.returns-in-Err-clause-err
returns-in-Err-clause-err c =
    let m = c.in-Err.ensures.err in
    let x = c.in-Some.import.now in
    let back = carried (λ (gs : List Group) (o : Option EntityType). FoundAs (ItemsMatch gs) o x.1) c.args.types.now.core c.core_types.result.now (lookup (same_pair x.0) c.args.b.now) (held_pair c.in_ok-items.items x.0) (sym c.core_types.ensures) (sym (c.in_ok-items.ensures x.0)) in
    inr (record { is = m.is; at = m.at; fails = λ f. one_fails (λ (e : (Text × Text) × EntityType). Found same_pair (ItemsMatch c.args.types.now.core) c.args.b.now e.0 e.1) c.args.a.now c.loop-k.k x c.in-Some.ensures (λ g. m.fails (back g)) (λ e. f e.0 e.1) })

pub loop-k-preserved : goal.loop-k-preserved
loop-k-preserved c = elim c.match-get_index.branch [
  | in-Some+in-Ok w ↦ one_more (λ (e : (Text × Text) × EntityType). Found same_pair (ItemsMatch c.args.types.now.core) c.args.b.now e.0 e.1) c.args.a.now c.loop-k.k w.in-Some.import.now c.loop-k.invariant w.in-Some.ensures
      (carried (λ (gs : List Group) (o : Option EntityType). FoundAs (ItemsMatch gs) o w.in-Some.import.now.1) w.core_types.result.now c.args.types.now.core (held_pair c.in_ok-items.items w.in-Some.import.now.0) (lookup (same_pair w.in-Some.import.now.0) c.args.b.now)
      w.core_types.ensures (c.in_ok-items.ensures w.in-Some.import.now.0) w.in-Ok.ensures.ok)
  | in_default w ↦ not_past c.args.a.now c.loop-k.k (omega arith) w.in_default.ensures
]

pub returns-clause-ok : goal.returns-clause-ok
returns-clause-ok c k y i = all_found (λ (e : (Text × Text) × EntityType). Found same_pair (ItemsMatch c.args.types.now.core) c.args.b.now e.0 e.1) c.args.a.now c.loop-k.k (omega arith) c.loop-k.invariant (k, y) i
