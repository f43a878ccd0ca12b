use Rattle.std.proofs.Common.{true, sym, inr}
use Rattle.std.specs.Prelude.{map}
use Rattle.wcv_types.specs.Entities.{entry_trees}
use Rattle.wcv_types.specs.Unfold.{trees}
use Rattle.wcv_lower.specs.Ending.{any_free}
use Rattle.wcv_lower.specs.Trees.{tree_reader}
use Rattle.wcv_spaces.specs.Contents.{defined_resource}
use Rattle.wcv_resources.proofs.KeptPaths.{scope_caused}
use Rattle.wcv_resources.proofs.kept.check_imports.Goals as goal

pub returns-in-Some-clause-err : goal.returns-in-Some-clause-err
returns-in-Some-clause-err c =
    scope_caused true (any_free tree_reader (map defined_resource c.args.defined.now) (entry_trees (trees c.args.types.now.nodes) c.args.imports.now)) c.args.offset c.free_in_import.result (λ e. sym c.in-Some.ensures) (inr c.free_in_import.ensures)
