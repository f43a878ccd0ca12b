use Rattle.wcv_matching.specs.ModuleItems.{ItemsMatch}
use Rattle.wcv_matching.proofs.TableMatching.{items_go_on}
use Rattle.wcv_safety.proofs.Composing.{imported_as, defined_as, opens_imports, opens_exports}
use Rattle.wcv_safety.proofs.laws.arguments_open_what_matches.Goals as goal

pub returns : goal.returns
returns c gs f s v d args t k m is u o =
    let C = ItemsMatch gs in
    let on = items_go_on gs t k in (
      imported_as C on f v d m is s,
      opens_imports C on f v d m is s u args o,
      λ es p. (defined_as C on f v d m is s u, opens_exports C on f v d m is s u es p),
    )
