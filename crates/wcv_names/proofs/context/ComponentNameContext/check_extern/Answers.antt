use Rattle.std.proofs.Common.{◌∙◌, ap, is_some, subst, string_bytes}
use Rattle.wcv_core.specs.Checks.{IsFree}
use Rattle.wcv_types.specs.Arena.{Arena}
use Rattle.wcv_names.specs.Externs.{too_large_with}
use Rattle.wcv_syntax.specs.NameViews.{kind_view}
use Rattle.wcv_types.specs.Entities.{entity_tree}
use Rattle.wcv_types.specs.Unfold.{trees}
use Rattle.wcv_names.specs.FuncTrees.{names_in}
use Rattle.wcv_names.specs.ResourceNames.{names_of}
use Rattle.wcv_names.specs.WholeNames.{extern_name}
use Rattle.wcv_names.proofs.Entering.{key_stands, may_join, by_conflict}
use Rattle.wcv_names.proofs.KeySets.{key_joins}
use Rattle.wcv_names.proofs.context.ComponentNameContext.check_extern.Goals as goal

pub returns-in-Some-clause-err : goal.returns-in-Some-clause-err
returns-in-Some-clause-err c =
    by_conflict (trees c.args.types.now.nodes) c.args.items.now (names_of c.args.self.now) c.args.features.now c.args.info.now (extern_name c.args.name.now) (entity_tree (trees c.args.types.now.nodes) c.args.ty.now) c.args.offset
    c.conflict.result c.conflict.ensures.kind c.conflict.ensures.offset
    (key_stands c.args.kind_names.now (names_in c.args.items.now) c.args.name.now.name c.as_str.result.now (kind_view c.in-Ok.form) (is_some c.find.result) c.requires.keys c.in-Ok.ensures.kind (c.as_str.ensures.value ∙ c.in_ok-key.ensures) c.find.ensures ∙ ap is_some c.in-Some.is)

pub returns-in_ok-append-in-None-clause-ok : goal.returns-in_ok-append-in-None-clause-ok
returns-in_ok-append-in-None-clause-ok c =
    may_join (trees c.args.types.now.nodes) c.args.items.now (names_of c.args.self.now) c.args.features.now c.args.info.now (extern_name c.args.name.now) (entity_tree (trees c.args.types.now.nodes) c.args.ty.now) c.args.offset
    c.is_instance.result (kind_view c.in-Ok.form) c.is_instance.ensures c.in-Ok.ensures.kind c.in-Ok.ensures.rule c.in-Ok.ensures.feature c.in_ok-check_member.ensures.ok
    (key_stands c.args.kind_names.now (names_in c.args.items.now) c.args.name.now.name c.as_str.result.now (kind_view c.in-Ok.form) (is_some c.find.result) c.requires.keys c.in-Ok.ensures.kind (c.as_str.ensures.value ∙ c.in_ok-key.ensures) c.find.ensures ∙ ap is_some c.in-None.is)
    (subst (λ (a : Arena). IsFree (too_large_with c.args.info.now (entity_tree (trees a.nodes) c.args.ty.now))) c.in_ok-check_member.ensures.types c.in_ok-whole-in-None.ensures.ok)

pub returns-in_ok-append-in-None-clause-keys : goal.returns-in_ok-append-in-None-clause-keys
returns-in_ok-append-in-None-clause-keys c =
    key_joins c.args.name.now.name (kind_view c.in-Ok.form) (string_bytes c.in_ok-key.key) c.args.kind_names.now c.append.new.self (names_in c.args.items.now) c.in-Ok.ensures.kind c.in_ok-key.ensures c.in_ok-append-in-None.ensures.ok c.requires.keys
