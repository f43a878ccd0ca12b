use Rattle.wcv_world.proofs.RenamedRuns.{recorded-renamed, linked-renamed, root-renamed}
use Rattle.wcv_world.proofs.laws.renaming_keeps_runs.Goals as goal

pub returns : goal.returns
returns c = record {
  recorded = λ w fs n m k gs is p r. recorded-renamed w fs (n.run k) (m.run k) (r.run k) gs is p;
  linked = λ w fs n m u R is args r. linked-renamed w fs n m r u R is args;
  root = λ w fs n m u k is args r. root-renamed w fs n m r u k is args;
}
