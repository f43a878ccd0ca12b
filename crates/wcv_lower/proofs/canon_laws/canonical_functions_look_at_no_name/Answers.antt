use Rattle.wcv_lower.proofs.canon_laws.canonical_functions_look_at_no_name.Goals as goal
use Rattle.wcv_lower.proofs.Appended.{lifted_outline, lowered_outline, returning_outline, lifted_asks_outline, lowered_asks_outline, returning_asks_outline}

pub returns : goal.returns
returns c = record {
  lifted = lifted_outline;
  lowered = lowered_outline;
  returned = returning_outline;
  asked = λ o t. (lifted_asks_outline o t, lowered_asks_outline o t, returning_asks_outline o t);
}
