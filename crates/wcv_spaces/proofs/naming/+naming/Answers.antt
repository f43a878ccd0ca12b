use Rattle.std.proofs.Common.{arith, ◌≡◌, ◌<◌, List, true, sym, ◌∙◌, ap, subst, refl}
use Rattle.std.specs.Prelude.{ℕ}
use Rattle.std.proofs.lemmas.Option.{slice_get_within, get_or_from_slice_get}
use Rattle.wcv_types.specs.Entities.{any_part, entity_tree, EntityStands, EntryStands}
use Rattle.wcv_types.specs.Named.{passes, is_named}
use Rattle.wcv_types.specs.Sets.{identities}
use Rattle.wcv_types.specs.Tree.{export, type_of}
use Rattle.wcv_types.specs.Unfold.{Type_tree, tree_at, trees, slot_tree, value_slot}
use Rattle.wcv_types.specs.declared.ids.ComponentAnyTypeId.{ComponentAnyTypeId}
use Rattle.wcv_types.specs.declared.ids.Part.TheVariants as part
use Rattle.wcv_types.specs.declared.shapes.ComponentEntityType.{ComponentEntityType}
use Rattle.wcv_walks.proofs.FreeBelow.{entry_rank, entries_ready}
use Rattle.wcv_lower.specs.Context.{Side}
use Rattle.wcv_lower.specs.Trees.{creates, entry_passes}
use Rattle.wcv_spaces.specs.Naming.{side_of, known, Names, AllSettled}
use Rattle.wcv_spaces.proofs.Named.{func_passes, value_passes, module_passes, component_passes, makes_none, entity_none, sets_trans, one_fails, one_passes, settled_on, settled_pushed}
use Rattle.wcv_spaces.proofs.NamedMore.{settled_now, settled_same}
use Rattle.wcv_spaces.proofs.Walks.{none_within, found_holds}
use Rattle.wcv_spaces.proofs.naming.+naming.Goals as goal

pub pass_entity-returns-in-Module-clause-passes : goal.pass_entity-returns-in-Module-clause-passes
pass_entity-returns-in-Module-clause-passes t c =
    let a = c.args.types.now in
    module_passes a (side_of c.args.which) c.args.sets.now c.in-Module.field-0 (subst (EntityStands a) c.in-Module.is c.requires.stands) ∙
    ap (λ (ty : ComponentEntityType). entry_passes (known c.args.sets.now) (side_of c.args.which) (entity_tree (trees a.nodes) ty)) (sym c.in-Module.is)

pub pass_entity-returns-in-Module-clause-named : goal.pass_entity-returns-in-Module-clause-named
pass_entity-returns-in-Module-clause-named t c = λ _. entity_none c.args.types.now (side_of c.args.which) c.args.sets.now c.args.ty c.requires.stands (ap makes_none c.in-Module.is)

pub pass_entity-returns-in-Component-clause-passes : goal.pass_entity-returns-in-Component-clause-passes
pass_entity-returns-in-Component-clause-passes t c =
    let a = c.args.types.now in
    component_passes a (side_of c.args.which) c.args.sets.now c.in-Component.field-0 (subst (EntityStands a) c.in-Component.is c.requires.stands) ∙
    ap (λ (ty : ComponentEntityType). entry_passes (known c.args.sets.now) (side_of c.args.which) (entity_tree (trees a.nodes) ty)) (sym c.in-Component.is)

pub pass_entity-returns-in-Component-clause-named : goal.pass_entity-returns-in-Component-clause-named
pass_entity-returns-in-Component-clause-named t c = λ _. entity_none c.args.types.now (side_of c.args.which) c.args.sets.now c.args.ty c.requires.stands (ap makes_none c.in-Component.is)

pub pass_entity-returns-in_ok-passes-in-Func-clause-passes : goal.pass_entity-returns-in_ok-passes-in-Func-clause-passes
pass_entity-returns-in_ok-passes-in-Func-clause-passes t c =
    let a = c.args.types.now in
    c.in_ok-passes-in-Func.ensures ∙ ap (λ (ids : List ComponentAnyTypeId). passes (identities ids) (tree_at a (part.Func c.in-Func.id))) c.of.ensures ∙
    func_passes a (side_of c.args.which) c.args.sets.now c.in-Func.id (subst (EntityStands a) c.in-Func.is c.requires.stands) ∙
    ap (λ (ty : ComponentEntityType). entry_passes (known c.args.sets.now) (side_of c.args.which) (entity_tree (trees a.nodes) ty)) (sym c.in-Func.is)

pub pass_entity-returns-in_ok-passes-in-Func-clause-named : goal.pass_entity-returns-in_ok-passes-in-Func-clause-named
pass_entity-returns-in_ok-passes-in-Func-clause-named t c = λ _. entity_none c.args.types.now (side_of c.args.which) c.args.sets.now c.args.ty c.requires.stands (ap makes_none c.in-Func.is)

pub pass_entity-returns-in-Value-clause-passes : goal.pass_entity-returns-in-Value-clause-passes
pass_entity-returns-in-Value-clause-passes t c =
    let a = c.args.types.now in
    c.type_named_valtype.ensures ∙ ap (λ (ids : List ComponentAnyTypeId). is_named (identities ids) (slot_tree (trees a.nodes) (value_slot c.in-Value.ty))) c.of-in-Value.ensures ∙
    value_passes a (side_of c.args.which) c.args.sets.now c.in-Value.ty (subst (EntityStands a) c.in-Value.is c.requires.stands) ∙
    ap (λ (ty : ComponentEntityType). entry_passes (known c.args.sets.now) (side_of c.args.which) (entity_tree (trees a.nodes) ty)) (sym c.in-Value.is)

pub pass_entity-returns-in-Value-clause-named : goal.pass_entity-returns-in-Value-clause-named
pass_entity-returns-in-Value-clause-named t c = λ _. entity_none c.args.types.now (side_of c.args.which) c.args.sets.now c.args.ty c.requires.stands (ap makes_none c.in-Value.is)

pub pass_entity-returns-in_ok-passes-in-Ty-clause-settled : goal.pass_entity-returns-in_ok-passes-in-Ty-clause-settled
pass_entity-returns-in_ok-passes-in-Ty-clause-settled t c = λ e.
    let a = c.args.types.now in
    settled_on a (side_of c.args.which) c.args.sets.now c.pass_type.new.self c.args.passed.now (creates (type_of (tree_at a (any_part c.in-Ty.created)) (tree_at a (any_part c.in-Ty.referenced)))) (c.in_ok-passes-in-Ty.ensures.named e) c.requires.settled

pub pass_exports-pass_entity-requires : goal.pass_exports-pass_entity-requires
pass_exports-pass_entity-requires t c =
    let es = c.args.exports.now in
    let found = sym c.in-Some.ensures in
    let r = entry_rank es c.loop-k.k c.in-Some.field-0.now (slice_get_within es c.loop-k.k c.in-Some.field-0.now found) (sym (get_or_from_slice_get es c.loop-k.k c.in-Some.field-0.now c.in-Some.field-0.now found)) in
    (omega (arith, r, c.decreases), (found_holds (EntryStands c.args.types.now) es c.loop-k.k c.in-Some.field-0.now c.requires.stand found, (c.loop-k.invariant.grew.stand, c.loop-k.invariant.settled)))

pub pass_exports-returns-in_err-pass_entity-in-Some-clause-grew : goal.pass_exports-returns-in_err-pass_entity-in-Some-clause-grew
pass_exports-returns-in_err-pass_entity-in-Some-clause-grew t c = sets_trans c.args.types.now c.args.sets.now c.loop-k.sets c.pass_entity.new.sets c.loop-k.invariant.grew c.in_err-pass_entity-in-Some.ensures.grew

pub pass_exports-returns-then-not-branch-clause-passes : goal.pass_exports-returns-then-not-branch-clause-passes
pass_exports-returns-then-not-branch-clause-passes t c =
    let es = c.args.exports.now in
    let found = sym c.in-Some.ensures in
    sym (one_fails c.args.types.now (side_of c.args.which) c.args.sets.now c.loop-k.sets c.loop-k.passed es c.loop-k.k c.in-Some.field-0.now (slice_get_within es c.loop-k.k c.in-Some.field-0.now found) (sym (get_or_from_slice_get es c.loop-k.k c.in-Some.field-0.now c.in-Some.field-0.now found)) c.loop-k.invariant
    (sym c.in_ok-pass_entity-in-Some.ensures.passes ∙ c.if-not-branch.true))

pub pass_exports-returns-then-not-branch-clause-grew : goal.pass_exports-returns-then-not-branch-clause-grew
pass_exports-returns-then-not-branch-clause-grew t c = sets_trans c.args.types.now c.args.sets.now c.loop-k.sets c.pass_entity.new.sets c.loop-k.invariant.grew c.in_ok-pass_entity-in-Some.ensures.grew

pub pass_exports-unreachable-requires : goal.pass_exports-unreachable-requires
pass_exports-unreachable-requires t c = none_within c.args.exports.now c.loop-k.k c.in-None.ensures (subst (λ (n : ℕ). c.loop-k.k < n) c.len-k-end.ensures c.loop-k-test.true)

pub pass_exports-loop-k-preserved : goal.pass_exports-loop-k-preserved
pass_exports-loop-k-preserved t c =
    let es = c.args.exports.now in
    let found = sym c.in-Some.ensures in
    one_passes c.args.types.now (side_of c.args.which) c.args.sets.now c.loop-k.sets c.loop-k.passed es c.loop-k.k c.in-Some.field-0.now (slice_get_within es c.loop-k.k c.in-Some.field-0.now found) (sym (get_or_from_slice_get es c.loop-k.k c.in-Some.field-0.now c.in-Some.field-0.now found)) c.loop-k.invariant
    c.pass_entity.new.sets c.pass_entity.new.passed (sym c.in_ok-pass_entity-in-Some.ensures.passes ∙ c.if-not-branch.false) (c.in_ok-pass_entity-in-Some.ensures.named c.if-not-branch.false) (c.in_ok-pass_entity-in-Some.ensures.settled c.if-not-branch.false) c.in_ok-pass_entity-in-Some.ensures.grew

pub pass_instance-returns-then-contains-clause-named : goal.pass_instance-returns-then-contains-clause-named
pass_instance-returns-then-contains-clause-named t c = λ _ d.
    settled_same (side_of c.args.which) (known c.args.sets.now) (tree_at c.args.types.now (part.Instance c.args.id)) d (c.requires.settled c.args.id (sym c.contains.ensures ∙ c.if-contains.true))

pub pass_instance-pass_exports-requires : goal.pass_instance-pass_exports-requires
pass_instance-pass_exports-requires t c =
    let w = entries_ready c.args.types.now c.args.id.index export c.get.result.now.exports c.get.result.now.exports refl c.get.ensures.before in
    (omega (arith, w.0, c.decreases), (w.1, (c.requires.sets, c.requires.settled)))

pub pass_instance-returns-clause-settled : goal.pass_instance-returns-clause-settled
pass_instance-returns-clause-settled t c = λ _.
    let a = c.args.types.now in
    let s : Side = side_of c.args.which in
    let tree : Type_tree = tree_at a (part.Instance c.args.id) in
    let passes : entry_passes (known c.args.sets.now) s tree ≡ true = ap (entry_passes (known c.args.sets.now) s) c.get.ensures.unfolds ∙ sym c.in_ok-pass_exports.ensures.passes ∙ c.if-not-branch.false in
    let names : Names s c.args.sets.now c.pass_exports.new.sets (creates tree) = subst (λ (t : Type_tree). Names s c.args.sets.now c.pass_exports.new.sets (creates t)) (sym c.get.ensures.unfolds) (c.in_ok-pass_exports.ensures.named c.if-not-branch.false) in
    subst (AllSettled a s c.pass_exports.new.sets) (sym c.in_ok-push.ensures.ok)
    (settled_pushed a s c.pass_exports.new.sets c.pass_exports.new.passed c.args.id (c.in_ok-pass_exports.ensures.settled c.if-not-branch.false) (settled_now s (known c.args.sets.now) (known c.pass_exports.new.sets) tree passes names))
