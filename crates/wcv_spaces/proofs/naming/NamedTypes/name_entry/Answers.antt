use Rattle.std.proofs.Common.{sym, ◌∙◌, ap, Bool, ◌&&◌}
use Rattle.std.proofs.Math.Bool.{and-false}
use Rattle.wcv_types.specs.Entities.{entity_tree}
use Rattle.wcv_types.specs.Identity.{same_identity}
use Rattle.wcv_types.specs.Unfold.{trees}
use Rattle.wcv_lower.specs.Context.{names_for, with_named}
use Rattle.wcv_lower.specs.Trees.{creates}
use Rattle.wcv_spaces.specs.Naming.{side_of, known}
use Rattle.wcv_spaces.proofs.NamedMore.{none_named}
use Rattle.wcv_spaces.proofs.naming.NamedTypes.name_entry.Goals as goal

pub returns-then-not-asks_for_names-clause-named : goal.returns-then-not-asks_for_names-clause-named
returns-then-not-asks_for_names-clause-named c = λ d.
    sym (ap (λ (b : Bool). with_named same_identity b (known c.args.self.now d) (creates (entity_tree (trees c.args.types.now.nodes) c.args.ty.now)))
    (ap (λ (b : Bool). names_for (side_of c.args.which) d && b) (sym c.asks_for_names.ensures ∙ c.if-not-asks_for_names.true) ∙ and-false (names_for (side_of c.args.which) d)) ∙
    none_named (known c.args.self.now d) (creates (entity_tree (trees c.args.types.now.nodes) c.args.ty.now)))
