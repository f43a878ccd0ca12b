use Rattle.std.proofs.Common.{Option, sym, subst}
use Rattle.std.specs.Prelude.{IfSome}
use Rattle.wcv_core.specs.CoreGroups.{total}
use Rattle.wcv_core.specs.CoreSizes.{IsEntityWithin}
use Rattle.wcv_core.specs.declared.core_types.EntityType.{EntityType}
use Rattle.wcv_matching.specs.ModuleItems.{ItemsMatch}
use Rattle.wcv_matching.proofs.ItemTests.{item_to, item_fails}
use Rattle.wcv_matching.proofs.Found.{nothing_found, other_found}
use Rattle.wcv_matching.proofs.modules.check_item.Goals as goal

pub returns-then-item_matches-clause-ok : goal.returns-then-item_matches-clause-ok
returns-then-item_matches-clause-ok c =
    let within = subst (λ (o : Option EntityType). IfSome o (IsEntityWithin (total c.args.types.now))) c.in-Some.is c.requires.found in (
      c.in-Some.item,
      c.in-Some.is,
      item_to c.args.types.now (record { closed = c.len-count.ensures.closed; distinct = c.len-count.ensures.distinct }) c.in-Some.item c.args.expected.now within c.requires.expected (sym c.if-item_matches.ensures),
    )

pub returns-else-item_matches-clause-err : goal.returns-else-item_matches-clause-err
returns-else-item_matches-clause-err c =
    let within = subst (λ (o : Option EntityType). IfSome o (IsEntityWithin (total c.args.types.now))) c.in-Some.is c.requires.found in
    record {
      is = c.unfit.ensures.kind;
      at = c.unfit.ensures.offset;
      fails = other_found (ItemsMatch c.args.types.now) c.args.found c.in-Some.item c.args.expected.now c.in-Some.is
          (item_fails c.args.types.now c.in-Some.item c.args.expected.now (record { closed = c.len-count.ensures.closed; distinct = c.len-count.ensures.distinct }) within c.requires.expected (sym c.if-item_matches.ensures));
    }

pub returns-in-None-clause-err : goal.returns-in-None-clause-err
returns-in-None-clause-err c = record {
  is = c.unfit-in-None.ensures.kind;
  at = c.unfit-in-None.ensures.offset;
  fails = nothing_found (ItemsMatch c.args.types.now) c.args.found c.args.expected.now c.in-None.is;
}
