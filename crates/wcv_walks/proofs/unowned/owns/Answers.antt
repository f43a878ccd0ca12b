use Rattle.std.proofs.Common.{sym, ap, ◌∙◌, ◌≡◌, ◌||◌, map}
use Rattle.wcv_core.specs.Names.{number, member}
use Rattle.wcv_types.specs.Resources as resources
use Rattle.wcv_types.specs.Tree.{head, firsts}
use Rattle.wcv_types.specs.Unfold.{tree_at, resource_path}
use Rattle.wcv_types.specs.declared.arena.Node.TheVariants as n
use Rattle.wcv_types.specs.declared.ids.Part.{Part}
use Rattle.wcv_types.proofs.Gaining.{has-member, path_owned}
use Rattle.wcv_types.proofs.Gathered.{owns_nothing}
use Rattle.wcv_types.proofs.Unfolding.{head_in}
use Rattle.wcv_walks.proofs.unowned.owns.Goals as goal

pub returns-in-Instance : goal.returns-in-Instance
returns-in-Instance c =
    c.contains.ensures ∙ has-member c.get.result.now.defined_resources c.args.id ∙
    ap (λ h. resources.owns h (number c.args.id.index)) (sym (head_in c.args.types.now.nodes c.in-Instance.of.index (n.Instance c.get.result.now) c.get.ensures.found)) ∙
    ap (λ (q : Part). resources.owns (head (tree_at c.args.types.now q)) (number c.args.id.index)) (sym c.in-Instance.is)

pub returns-in-Component : goal.returns-in-Component
returns-in-Component c =
    let imported : c.is_some.result ≡ member (number c.args.id.index) (firsts (map resource_path c.get-shape.result.now.imported_resources)) =
    c.is_some.ensures ∙ path_owned c.get-shape.result.now.imported_resources c.args.id c.get-in-Component.result c.get-in-Component.ensures in
    let defined : c.is_some-in-Component.result ≡ member (number c.args.id.index) (firsts (map resource_path c.get-shape.result.now.defined_resources)) =
    c.is_some-in-Component.ensures ∙ path_owned c.get-shape.result.now.defined_resources c.args.id c.get-in-Component-2.result c.get-in-Component-2.ensures in
    (λ j. imported j || defined j) ∙
    ap (λ h. resources.owns h (number c.args.id.index)) (sym (head_in c.args.types.now.nodes c.in-Component.of.index (n.Component c.get-shape.result.now) c.get-shape.ensures.found)) ∙
    ap (λ (q : Part). resources.owns (head (tree_at c.args.types.now q)) (number c.args.id.index)) (sym c.in-Component.is)

pub returns-in_default : goal.returns-in_default
returns-in_default c = sym (owns_nothing c.args.types.now c.args.part (number c.args.id.index) c.requires c.in_default.not-Instance c.in_default.not-Component)
