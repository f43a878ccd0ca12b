use Rattle.std.proofs.Common.{List, Option, inr, sym, subst, arith, bytes_eq}
use Rattle.std.specs.Prelude.{IfSome}
use Rattle.std.specs.Map.{lookup}
use Rattle.wcv_core.specs.CoreForm.{Group}
use Rattle.wcv_core.specs.CoreGroups.{total}
use Rattle.wcv_core.specs.CoreSizes.{IsEntityWithin}
use Rattle.wcv_core.specs.declared.core_types.EntityType.{EntityType}
use Rattle.wcv_types.specs.Tree.{Text}
use Rattle.wcv_closed.specs.CoreModules.{IsServed}
use Rattle.wcv_matching.specs.CoreArguments.{argument_exports, if_there, export_under}
use Rattle.wcv_matching.specs.ModuleItems.{ItemsMatch}
use Rattle.wcv_matching.specs.Standings.{FoundAs}
use Rattle.wcv_matching.proofs.Arguments.{under_served, served_from, served_to}
use Rattle.wcv_matching.proofs.Entries.{one_more, not_past, all_found, one_fails, entry_within}
use Rattle.wcv_matching.proofs.Found.{carried}
use Rattle.wcv_matching.proofs.core_args.imports_served.Goals as goal
use Rattle.wcv_matching.proofs.core_args.imports_served.Goals.{in-Some+in-Ok, in_default}

pub check_argument-requires : goal.check_argument-requires
check_argument-requires c =
    let core = sym c.core_types.ensures in
    record {
      found = subst (λ (gs : List Group). IfSome (export_under c.in_ok-items.items c.in-Some.import.now.0) (IsEntityWithin (total gs))) core (c.in_ok-items.ensures.within c.in-Some.import.now.0);
      expected = subst (λ (gs : List Group). IsEntityWithin (total gs) c.in-Some.import.now.1) core
          (entry_within (IsEntityWithin (total c.args.types.now.core)) c.args.imports.now c.loop-k.k c.in-Some.import.now c.requires.imports c.in-Some.ensures);
    }

pub returns-in-Err-clause-err : goal.returns-in-Err-clause-err
returns-in-Err-clause-err c =
    let m = c.in-Err.ensures.err in
    let x = c.in-Some.import.now in
    let gs = c.args.types.now.core in
    let args = argument_exports c.args.types.now c.args.args.now in
    let back = carried (λ (gs : List Group) (o : Option EntityType). FoundAs (ItemsMatch gs) o x.1) gs c.core_types.result.now (if_there (lookup (bytes_eq x.0.0) args) (λ es. lookup (bytes_eq x.0.1) es))
    (export_under c.in_ok-items.items x.0) (sym c.core_types.ensures) (sym (under_served c.in_ok-items.items args x.0 (c.in_ok-items.ensures.held x.0.0))) in
    inr (record {
      is = m.is;
      at = m.at;
      fails = λ f. one_fails (λ (e : (Text × Text) × EntityType). IsServed (ItemsMatch gs) args e.0 e.1) c.args.imports.now c.loop-k.k x c.in-Some.ensures (λ g. m.fails (back (served_to (ItemsMatch gs) args x.0 x.1 g))) (λ e. f e.0 e.1);
    })

pub loop-k-preserved : goal.loop-k-preserved
loop-k-preserved c =
    let gs = c.args.types.now.core in
    let args = argument_exports c.args.types.now c.args.args.now in
    elim c.match-get_index.branch [
      | in-Some+in-Ok w ↦ one_more (λ (e : (Text × Text) × EntityType). IsServed (ItemsMatch gs) args e.0 e.1) c.args.imports.now c.loop-k.k w.in-Some.import.now c.loop-k.invariant w.in-Some.ensures
          (served_from (ItemsMatch gs) args w.in-Some.import.now.0 w.in-Some.import.now.1
          (carried (λ (gs : List Group) (o : Option EntityType). FoundAs (ItemsMatch gs) o w.in-Some.import.now.1) w.core_types.result.now gs (export_under c.in_ok-items.items w.in-Some.import.now.0)
          (if_there (lookup (bytes_eq w.in-Some.import.now.0.0) args) (λ es. lookup (bytes_eq w.in-Some.import.now.0.1) es)) w.core_types.ensures
          (under_served c.in_ok-items.items args w.in-Some.import.now.0 (c.in_ok-items.ensures.held w.in-Some.import.now.0.0)) w.in-Ok.ensures.ok))
      | in_default w ↦ not_past c.args.imports.now c.loop-k.k (omega arith) w.in_default.ensures
    ]

pub returns-clause-ok : goal.returns-clause-ok
returns-clause-ok c i item k =
    all_found (λ (e : (Text × Text) × EntityType). IsServed (ItemsMatch c.args.types.now.core) (argument_exports c.args.types.now c.args.args.now) e.0 e.1) c.args.imports.now c.loop-k.k (omega arith) c.loop-k.invariant (i, item) k
