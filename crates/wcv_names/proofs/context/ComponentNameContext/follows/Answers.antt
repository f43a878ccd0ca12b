use Rattle.std.proofs.Common.{sym, ap, ◌∙◌}
use Rattle.wcv_syntax.specs.ExternName.{access_of}
use Rattle.wcv_syntax.specs.NameViews.{kind_view}
use Rattle.wcv_types.specs.Entities.{entry_trees}
use Rattle.wcv_types.specs.Unfold.{Type_tree, trees}
use Rattle.wcv_names.specs.ResourceNames.{names_of}
use Rattle.wcv_names.specs.Rules.{getter_in, is_paired_by}
use Rattle.wcv_names.proofs.FuncTrees.{entity_func}
use Rattle.wcv_names.proofs.Following.{func_not, func_yes, other_follows}
use Rattle.wcv_names.proofs.context.ComponentNameContext.follows.Goals as goal

pub func_of-func-requires : goal.func_of-func-requires
func_of-func-requires c = entity_func c.args.types.now c.args.ty.now c.in-Some.id c.requires.entity (sym c.func_part.ensures ∙ c.in-Some.is)

pub returns-then-not-function_fits-clause-follows : goal.returns-then-not-function_fits-clause-follows
returns-then-not-function_fits-clause-follows c =
    func_not c.args.types.now c.args.ty.now (names_of c.args.self.now) (entry_trees (trees c.args.types.now.nodes) c.args.items.now) (kind_view c.args.kind.now)
    c.in-Some.id c.func_of-func.result.now (sym c.func_part.ensures ∙ c.in-Some.is) c.func_of-func.ensures.tree (sym c.function_fits.ensures ∙ c.if-not-function_fits.true)

pub returns-in_ok-paired-in-Some-clause-follows : goal.returns-in_ok-paired-in-Some-clause-follows
returns-in_ok-paired-in-Some-clause-follows c =
    func_yes c.args.types.now c.args.ty.now (names_of c.args.self.now) (entry_trees (trees c.args.types.now.nodes) c.args.items.now) (kind_view c.args.kind.now)
    c.in-Some.id c.func_of-func.result.now c.in_ok-paired-in-Some.paired (sym c.func_part.ensures ∙ c.in-Some.is) c.func_of-func.ensures.tree (sym c.function_fits.ensures ∙ c.if-not-function_fits.false) (c.in_ok-paired-in-Some.ensures.paired ∙ ap (λ (t : Type_tree). is_paired_by (access_of (kind_view c.args.kind.now)) t (getter_in (kind_view c.args.kind.now) (entry_trees (trees c.args.types.now.nodes) c.args.items.now))) c.taken-wanted.ensures.tree)

pub returns-in-None-clause-follows : goal.returns-in-None-clause-follows
returns-in-None-clause-follows c =
    other_follows c.args.types.now c.args.ty.now (names_of c.args.self.now) (entry_trees (trees c.args.types.now.nodes) c.args.items.now) (kind_view c.args.kind.now)
    c.is_for_any_sort.result c.requires.entity (sym c.func_part.ensures ∙ c.in-None.is) c.is_for_any_sort.ensures
