use Rattle.std.proofs.Common.{◌≡◌, Some, bytes_eq, option_copied, refl, sym, ap, ◌∙◌}
use Rattle.std.specs.Map.{lookup}
use Rattle.wcv_syntax.specs.ExternName.{Form, set, access_of}
use Rattle.wcv_syntax.specs.NameViews.{kind_view}
use Rattle.wcv_types.specs.Tree.{Text}
use Rattle.wcv_types.specs.Unfold.{trees}
use Rattle.wcv_names.specs.Shapes.{option_tree}
use Rattle.wcv_names.proofs.Firsts.{first_stands}
use Rattle.wcv_names.proofs.Following.{is_setter-set, pair_none, pair_some}
use Rattle.wcv_names.proofs.follows.is_paired.Goals as goal

pub gotten-given-requires : goal.gotten-given-requires
gotten-given-requires c =
    let found : Some c.in-Some.item.now ≡ lookup (bytes_eq c.in_ok-name.name) c.args.items.now = sym (ap option_copied c.in-Some.is) ∙ c.first_item.ensures in
    first_stands c.args.types.now c.in_ok-name.name c.args.items.now c.in-Some.item.now c.requires.items (sym found)

pub returns-in-None-clause-paired : goal.returns-in-None-clause-paired
returns-in-None-clause-paired c =
    let f : Form = kind_view c.args.kind.now in
    let sets : access_of f ≡ set = is_setter-set (access_of f) (sym c.is_setter.ensures ∙ c.if-not-is_setter.false) in
    pair_none (trees c.args.types.now.nodes) f sets c.args.items.now (option_tree c.args.types.now c.args.wanted)
    (sym (ap option_copied c.in-None.is) ∙ c.first_item.ensures ∙ ap (λ (t : Text). lookup (bytes_eq t) c.args.items.now) c.in_ok-name.ensures)

pub returns-clause-paired : goal.returns-clause-paired
returns-clause-paired c =
    let f : Form = kind_view c.args.kind.now in
    let sets : access_of f ≡ set = is_setter-set (access_of f) (sym c.is_setter.ensures ∙ c.if-not-is_setter.false) in
    pair_some (trees c.args.types.now.nodes) f sets c.args.items.now c.in-Some.item.now
    (option_tree c.args.types.now c.args.wanted) (option_tree c.args.types.now c.gotten-given.result)
    (option_tree c.args.types.now c.args.wanted) c.in_ok-same.same
    (sym (ap option_copied c.in-Some.is) ∙ c.first_item.ensures ∙ ap (λ (t : Text). lookup (bytes_eq t) c.args.items.now) c.in_ok-name.ensures)
    c.gotten-given.ensures.tree refl c.in_ok-same.ensures.same
