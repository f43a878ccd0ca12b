use Rattle.std.proofs.Common.{List, sym, ◌∙◌, ap, Bool, ◌&&◌}
use Rattle.std.specs.Prelude.{not}
use Rattle.std.proofs.Math.Bool.{and-false}
use Rattle.wcv_types.specs.Entities.{any_part}
use Rattle.wcv_types.specs.Named.{passes}
use Rattle.wcv_types.specs.Sets.{identities}
use Rattle.wcv_types.specs.Unfold.{tree_at}
use Rattle.wcv_types.specs.declared.ids.ComponentAnyTypeId.{ComponentAnyTypeId}
use Rattle.wcv_lower.specs.Context.{names_for}
use Rattle.wcv_spaces.specs.Parts.{set_of}
use Rattle.wcv_spaces.specs.Naming.{side_of, known}
use Rattle.wcv_spaces.proofs.Named.{alone_same, both_pass, pushed_sets, partly_pushed}
use Rattle.wcv_spaces.proofs.NamedSets.{pushed_named}
use Rattle.wcv_spaces.proofs.naming.NamedTypes.pass_type.Goals as goal

pub returns-then-is_export_alone-clause-passes : goal.returns-then-is_export_alone-clause-passes
returns-then-is_export_alone-clause-passes c =
    sym (ap (λ (b : Bool). passes (known c.args.self.now (side_of c.args.which)) (tree_at c.args.types.now (any_part c.args.referenced)) && not b)
    (sym (alone_same c.args.types.now c.args.self.now (side_of c.args.which) (tree_at c.args.types.now (any_part c.args.created)) c.args.referenced c.requires.referenced c.requires.sets) ∙ sym c.is_export_alone.ensures ∙ c.if-is_export_alone.true)
    ∙ and-false (passes (known c.args.self.now (side_of c.args.which)) (tree_at c.args.types.now (any_part c.args.referenced))))

pub returns-in_err-push-clause-grew : goal.returns-in_err-push-clause-grew
returns-in_err-push-clause-grew c = partly_pushed c.args.types.now c.args.self.now c.push.new.self c.args.created c.requires.created c.requires.sets c.in_err-push.ensures.err

pub returns-clause-passes : goal.returns-clause-passes
returns-clause-passes c =
    sym (both_pass (passes (known c.args.self.now (side_of c.args.which)) (tree_at c.args.types.now (any_part c.args.referenced))) _
    (ap (λ (ids : List ComponentAnyTypeId). passes (identities ids) (tree_at c.args.types.now (any_part c.args.referenced))) (sym c.of.ensures) ∙ sym c.in_ok-all_valtypes_named.ensures ∙ c.if-not-branch.false)
    (sym (alone_same c.args.types.now c.args.self.now (side_of c.args.which) (tree_at c.args.types.now (any_part c.args.created)) c.args.referenced c.requires.referenced c.requires.sets) ∙ sym c.is_export_alone.ensures ∙ c.if-is_export_alone.false))

pub returns-clause-named : goal.returns-clause-named
returns-clause-named c = λ _ d.
    ap identities (c.in_ok-push.ensures.ok d) ∙
    pushed_named c.args.types.now (names_for (side_of c.args.which) d) (set_of c.args.self.now d) c.args.created (tree_at c.args.types.now (any_part c.args.referenced)) c.requires.created (c.requires.sets d)

pub returns-clause-grew : goal.returns-clause-grew
returns-clause-grew c = pushed_sets c.args.types.now (side_of c.args.which) c.args.self.now c.push.new.self c.args.created c.requires.created c.requires.sets c.in_ok-push.ensures.ok
