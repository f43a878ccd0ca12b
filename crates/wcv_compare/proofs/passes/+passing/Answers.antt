use Rattle.std.proofs.Common.{◌≡◌, arith, refl, false, true, sym, ap, ◌∙◌, subst, List, Bool, cond, is_some, ◌&&◌, bytes_eq, Some, None}
use Rattle.std.specs.Prelude.{All, IfOk}
use Rattle.std.specs.List.{list_all}
use Rattle.wcv_types.specs.Entities.{any_part, EntityStands, EntryStands}
use Rattle.wcv_types.specs.Tree.{Text, owned}
use Rattle.wcv_matching.specs.OnePass.{same_members}
use Rattle.wcv_atoms.specs.Readings.{atoms_of, over}
use Rattle.wcv_types.specs.Unfold.{trees, tree_at}
use Rattle.wcv_atoms.specs.Readings.{reads}
use Rattle.std.specs.Map.{lookup}
use Rattle.wcv_types.specs.Unfold.{Type_tree}
use Rattle.wcv_types.specs.declared.item_map.ComponentItem.{ComponentItem}
use Rattle.wcv_matching.specs.Orderly.{height}
use Rattle.wcv_matching.proofs.Entries.{entry_within, not_past}
use Rattle.wcv_counterparts.proofs.ComponentIds.{entries_moved, exports_below, imports_below, imports_stand, match_first, match_second, same_first, same_none, same_second}
use Rattle.wcv_compare.proofs.Comparing.{not_passed, passed_as}
use Rattle.wcv_counterparts.proofs.Exporting.{component_stands}
use Rattle.wcv_atoms.proofs.Extents.{component_extent, entries_next, found_is, instance_extent, matched_next, matched_within}
use Rattle.wcv_atoms.specs.Extent.{entries_extent}
use Rattle.wcv_atoms.specs.IdPasses.{AnswersEntries, named_trees, tallest}
use Rattle.wcv_atoms.proofs.PassIds.{module_case, func_case, value_case, type_case, instance_case, component_case, not_stays, no_names, one_differs, one_agrees, all_agree, told, untold, lower, found_stands, instance_lower, instance_stands, if_ok, instances_answer, types_told, answers_are}
use Rattle.wcv_atoms.proofs.PassSteps.{entities_differ, module_apart, func_apart, value_apart, type_apart, instance_apart, component_apart, entity_of, no_resource, resources_by_ids}
use Rattle.wcv_compare.proofs.passes.+passing.Goals as goal
use Rattle.wcv_compare.proofs.passes.+passing.Goals.{entries_pass_by_name-in-Some+in-Some-get+in_ok-entity_passes-in-Some-get+else-not-branch, entries_pass_by_name-in_default}

-- ## An entity

pub entity_compared-returns-in-Module-b-clause-answers : goal.entity_compared-returns-in-Module-b-clause-answers
entity_compared-returns-in-Module-b-clause-answers g t c = module_case c.args.types.now c.args.exact c.args.level (reads c.args.left.now) (reads c.args.right.now) c.args.a c.args.b c.in-Module.x c.in-Module-b.y c.in-Module.is c.in-Module-b.is c.requires.a c.requires.b c.modules_pass.result c.modules_pass.ensures.passes

pub entity_compared-returns-in_default : goal.entity_compared-returns-in_default
entity_compared-returns-in_default g t c = record {
  answers = entities_differ c.args.types.now c.args.exact c.args.level (reads c.args.left.now) (reads c.args.right.now) c.args.a c.args.b c.requires.a c.requires.b (module_apart c.args.a c.args.b c.in-Module.x c.in-Module.is c.in_default.not-Module);
  left = not_stays _ _;
  right = not_stays _ _;
  compared = not_passed _ _ _ _;
  counted = omega arith;
}

pub entity_compared-returns-in-Func-b-clause-answers : goal.entity_compared-returns-in-Func-b-clause-answers
entity_compared-returns-in-Func-b-clause-answers g t c = func_case c.args.types.now c.args.exact c.args.level (reads c.args.left.now) (reads c.args.right.now) c.args.a c.args.b c.in-Func.x c.in-Func-b.y c.in-Func.is c.in-Func-b.is c.requires.a c.requires.b c.same_func.ensures.same

pub entity_compared-returns-in_default-b : goal.entity_compared-returns-in_default-b
entity_compared-returns-in_default-b g t c = record {
  answers = entities_differ c.args.types.now c.args.exact c.args.level (reads c.args.left.now) (reads c.args.right.now) c.args.a c.args.b c.requires.a c.requires.b (func_apart c.args.a c.args.b c.in-Func.x c.in-Func.is c.in_default-b.not-Func);
  left = not_stays _ _;
  right = not_stays _ _;
  compared = not_passed _ _ _ _;
  counted = omega arith;
}

pub entity_compared-returns-in-Value-b-clause-answers : goal.entity_compared-returns-in-Value-b-clause-answers
entity_compared-returns-in-Value-b-clause-answers g t c = value_case c.args.types.now c.args.exact c.args.level (reads c.args.left.now) (reads c.args.right.now) c.args.a c.args.b c.in-Value.x c.in-Value-b.y c.in-Value.is c.in-Value-b.is c.requires.a c.requires.b c.same_value.ensures.same

pub entity_compared-returns-in_default-b-2 : goal.entity_compared-returns-in_default-b-2
entity_compared-returns-in_default-b-2 g t c = record {
  answers = entities_differ c.args.types.now c.args.exact c.args.level (reads c.args.left.now) (reads c.args.right.now) c.args.a c.args.b c.requires.a c.requires.b (value_apart c.args.a c.args.b c.in-Value.x c.in-Value.is c.in_default-b-2.not-Value);
  left = not_stays _ _;
  right = not_stays _ _;
  compared = not_passed _ _ _ _;
  counted = omega arith;
}

pub entity_compared-returns-in-Ty-b-clause-answers : goal.entity_compared-returns-in-Ty-b-clause-answers
entity_compared-returns-in-Ty-b-clause-answers g t c = type_case c.args.types.now c.args.exact c.args.level (reads c.args.left.now) (reads c.args.right.now) c.args.a c.args.b c.in-Ty.created c.in-Ty.x c.in-Ty-b.created c.in-Ty-b.y c.in-Ty.is c.in-Ty-b.is c.types_pass.result c.types_pass.ensures.answers

pub entity_compared-returns-in_default-b-3 : goal.entity_compared-returns-in_default-b-3
entity_compared-returns-in_default-b-3 g t c = record {
  answers = entities_differ c.args.types.now c.args.exact c.args.level (reads c.args.left.now) (reads c.args.right.now) c.args.a c.args.b c.requires.a c.requires.b (type_apart c.args.a c.args.b c.in-Ty.created c.in-Ty.x c.in-Ty.is c.in_default-b-3.not-Ty);
  left = not_stays _ _;
  right = not_stays _ _;
  compared = not_passed _ _ _ _;
  counted = omega arith;
}

pub entity_compared-returns-in-Instance-b-clause-answers : goal.entity_compared-returns-in-Instance-b-clause-answers
entity_compared-returns-in-Instance-b-clause-answers g t c = instance_case c.args.types.now c.args.exact c.args.level (reads c.args.left.now) (reads c.args.right.now) c.args.a c.args.b c.in-Instance.x c.in-Instance-b.y c.in-Instance.is c.in-Instance-b.is c.instances_pass.result c.instances_pass.ensures.answers

pub entity_compared-returns-in_default-b-4 : goal.entity_compared-returns-in_default-b-4
entity_compared-returns-in_default-b-4 g t c = record {
  answers = entities_differ c.args.types.now c.args.exact c.args.level (reads c.args.left.now) (reads c.args.right.now) c.args.a c.args.b c.requires.a c.requires.b (instance_apart c.args.a c.args.b c.in-Instance.x c.in-Instance.is c.in_default-b-4.not-Instance);
  left = not_stays _ _;
  right = not_stays _ _;
  compared = not_passed _ _ _ _;
  counted = omega arith;
}

pub entity_compared-returns-in-Component-b-clause-answers : goal.entity_compared-returns-in-Component-b-clause-answers
entity_compared-returns-in-Component-b-clause-answers g t c = component_case c.args.types.now c.args.exact c.args.level (reads c.args.left.now) (reads c.args.right.now) c.args.a c.args.b c.in-Component.x c.in-Component-b.y c.in-Component.is c.in-Component-b.is c.components_pass.result c.components_pass.ensures.answers

pub entity_compared-returns-in_default-b-5 : goal.entity_compared-returns-in_default-b-5
entity_compared-returns-in_default-b-5 g t c = record {
  answers = entities_differ c.args.types.now c.args.exact c.args.level (reads c.args.left.now) (reads c.args.right.now) c.args.a c.args.b c.requires.a c.requires.b (component_apart c.args.a c.args.b c.in-Component.x c.in-Component.is c.in_default-b-5.not-Component);
  left = not_stays _ _;
  right = not_stays _ _;
  compared = not_passed _ _ _ _;
  counted = omega arith;
}

-- ## Entries

pub entries_pass-returns-then-not-branch-clause-answers : goal.entries_pass-returns-then-not-branch-clause-answers
entries_pass-returns-then-not-branch-clause-answers g t c = no_names c.args.types.now.core (trees c.args.types.now.nodes) c.args.exact c.args.level (reads c.args.left.now) (reads c.args.right.now) c.args.a.now c.args.b.now (sym c.in_ok-names_fit.ensures ∙ c.if-not-branch.true)

pub entries_pass_by_name-entity_passes-requires : goal.entries_pass_by_name-entity_passes-requires
entries_pass_by_name-entity_passes-requires g t c κs inside =
    let y = c.in-Some.entry.now in
    let e : lookup (bytes_eq y.0) c.args.a.now ≡ Some c.in-Some-get.item.now = sym c.in-Some-get.ensures in
    let l = lower c.args.types.now.core (trees c.args.types.now.nodes) c.args.exact c.args.level (reads c.args.left.now) (reads c.args.right.now) c.args.a.now c.args.b.now c.loop-k.k y c.in-Some-get.item.now (sym c.in-Some.ensures) e in
    (omega (arith, l.0, l.1, c.decreases), (inside, (found_stands c.args.types.now c.args.a.now y.0 c.in-Some-get.item.now c.requires.a e, (entry_within (λ (w : ComponentItem). EntityStands c.args.types.now w.ty) c.args.b.now c.loop-k.k y c.requires.b c.in-Some.ensures, c.loop-k.invariant.compared))))

pub entries_pass_by_name-returns-then-not-branch-clause-answers : goal.entries_pass_by_name-returns-then-not-branch-clause-answers
entries_pass_by_name-returns-then-not-branch-clause-answers g t c =
    let y = c.in-Some.entry.now in
    let e : lookup (bytes_eq y.0) c.args.a.now ≡ Some c.in-Some-get.item.now = sym c.in-Some-get.ensures in
    one_differs c.args.types.now.core (trees c.args.types.now.nodes) c.args.exact c.args.level (reads c.args.left.now) (reads c.args.right.now) c.args.a.now c.args.b.now c.loop-k.k c.requires.names y (sym c.in-Some.ensures) c.loop-k.invariant.left
    (told c.args.types.now.core (trees c.args.types.now.nodes) c.args.exact c.args.level (reads c.args.left.now) (reads c.args.right.now) c.args.a.now c.args.b.now c.loop-k.k y c.in-Some-get.item.now (reads c.loop-k.left) (reads c.loop-k.right) (sym c.in-Some.ensures) e c.loop-k.invariant.same_left c.loop-k.invariant.same_right
    (answers_are c.args.types.now.core c.args.exact c.args.level (reads c.loop-k.left) (reads c.loop-k.right) _ _ c.in_ok-entity_passes-in-Some-get.ensures.answers c.if-not-branch.true))

pub entries_pass_by_name-returns-in-None-clause-answers : goal.entries_pass_by_name-returns-in-None-clause-answers
entries_pass_by_name-returns-in-None-clause-answers g t c =
    let y = c.in-Some.entry.now in
    let e : lookup (bytes_eq y.0) c.args.a.now ≡ None = sym c.in-None.ensures in
    one_differs c.args.types.now.core (trees c.args.types.now.nodes) c.args.exact c.args.level (reads c.args.left.now) (reads c.args.right.now) c.args.a.now c.args.b.now c.loop-k.k c.requires.names y (sym c.in-Some.ensures) c.loop-k.invariant.left (untold c.args.types.now.core (trees c.args.types.now.nodes) c.args.exact c.args.level (reads c.args.left.now) (reads c.args.right.now) c.args.a.now c.args.b.now c.loop-k.k y e)

pub entries_pass_by_name-loop-k-preserved : goal.entries_pass_by_name-loop-k-preserved
entries_pass_by_name-loop-k-preserved g t c = elim c.match-get_index.branch [
  | entries_pass_by_name-in-Some+in-Some-get+in_ok-entity_passes-in-Some-get+else-not-branch w ↦
      (let y = w.in-Some.entry.now in
      let e : lookup (bytes_eq y.0) c.args.a.now ≡ Some w.in-Some-get.item.now = sym w.in-Some-get.ensures in
      record {
        left = one_agrees c.args.types.now.core (trees c.args.types.now.nodes) c.args.exact c.args.level (reads c.args.left.now) (reads c.args.right.now) c.args.a.now c.args.b.now c.loop-k.k y (sym w.in-Some.ensures) c.loop-k.invariant.left
            (told c.args.types.now.core (trees c.args.types.now.nodes) c.args.exact c.args.level (reads c.args.left.now) (reads c.args.right.now) c.args.a.now c.args.b.now c.loop-k.k y w.in-Some-get.item.now (reads c.loop-k.left) (reads c.loop-k.right) (sym w.in-Some.ensures) e c.loop-k.invariant.same_left c.loop-k.invariant.same_right
            (answers_are c.args.types.now.core c.args.exact c.args.level (reads c.loop-k.left) (reads c.loop-k.right) _ _ w.in_ok-entity_passes-in-Some-get.ensures.answers w.if-not-branch.false));
        same_left = ap reads w.left-is ∙ w.in_ok-entity_passes-in-Some-get.ensures.left w.if-not-branch.false ∙ c.loop-k.invariant.same_left;
        counted = omega (arith, entries_next (trees c.args.types.now.nodes) c.args.b.now c.loop-k.k y (sym w.in-Some.ensures), matched_next (trees c.args.types.now.nodes) (named_trees (trees c.args.types.now.nodes) c.args.a.now) c.args.b.now c.loop-k.k y (sym w.in-Some.ensures), found_is (trees c.args.types.now.nodes) c.args.a.now y.0 w.in-Some-get.item.now e, w.in_ok-entity_passes-in-Some-get.ensures.counted, c.loop-k.invariant.counted, w.steps-is);
        same_right = ap reads w.right-is ∙ w.in_ok-entity_passes-in-Some-get.ensures.right w.if-not-branch.false ∙ c.loop-k.invariant.same_right;
        compared = passed_as c.args.types.now (reads c.loop-k.left) (reads c.loop-k.right) _ _ _ _ (ap reads w.left-is ∙ w.in_ok-entity_passes-in-Some-get.ensures.left w.if-not-branch.false) (ap reads w.right-is ∙ w.in_ok-entity_passes-in-Some-get.ensures.right w.if-not-branch.false) w.compared-is
            (w.in_ok-entity_passes-in-Some-get.ensures.compared w.if-not-branch.false);
      })
  | entries_pass_by_name-in_default w ↦ not_past c.args.b.now c.loop-k.k (omega arith) w.in_default.ensures
]

pub entries_pass_by_name-returns-clause-answers : goal.entries_pass_by_name-returns-clause-answers
entries_pass_by_name-returns-clause-answers g t c = all_agree c.args.types.now.core (trees c.args.types.now.nodes) c.args.exact c.args.level (reads c.args.left.now) (reads c.args.right.now) c.args.a.now c.args.b.now c.loop-k.k c.requires.names (omega arith) c.loop-k.invariant.left

pub entries_pass_by_name-returns-clause-compared : goal.entries_pass_by_name-returns-clause-compared
entries_pass_by_name-returns-clause-compared g t c h = passed_as c.args.types.now (reads c.loop-k.left) (reads c.loop-k.right) _ _ _ _ (sym c.loop-k.invariant.same_left) (sym c.loop-k.invariant.same_right) refl c.loop-k.invariant.compared

-- the same, where the left ones are not yet by their names

pub entries_pass-entries_pass_by_name-passes-requires : goal.entries_pass-entries_pass_by_name-passes-requires
entries_pass-entries_pass_by_name-passes-requires g t c κs inside =
    let ts = trees c.args.types.now.nodes in
    let es : List (Text × ComponentItem) = c.in_ok-by_name.by_name in
    let is : es ≡ c.args.a.now = c.in_ok-by_name.ensures in
    let named = ap (λ (xs : List (Text × ComponentItem)). tallest (named_trees ts xs)) is in (
      omega (arith, named, c.decreases),
      (
        inside,
        (
          subst (λ (xs : List (Text × ComponentItem)). All (EntryStands c.args.types.now) xs) (sym is) c.requires.a,
          (
            c.requires.b,
            (
              c.requires.apart,
              (subst (λ (xs : List (Text × ComponentItem)). cond c.args.exact (list_all (λ (e : Text × ComponentItem). is_some (lookup (bytes_eq e.0) c.args.b.now)) xs) true ≡ true) (sym is) (sym c.in_ok-names_fit.ensures ∙ c.if-not-branch.false), c.requires.compared),
            ),
          ),
        ),
      ),
    )

pub entries_pass-returns-clause-answers : goal.entries_pass-returns-clause-answers
entries_pass-returns-clause-answers g t c =
    let ts = trees c.args.types.now.nodes in
    subst (λ (xs : List (Text × ComponentItem)). IfOk c.entries_pass_by_name-passes.result (AnswersEntries c.args.types.now.core c.args.exact c.args.level (reads c.args.left.now) (reads c.args.right.now) (named_trees ts xs) (named_trees ts c.args.b.now))) c.in_ok-by_name.ensures c.entries_pass_by_name-passes.ensures.answers

pub entries_pass-returns-clause-counted : goal.entries_pass-returns-clause-counted
entries_pass-returns-clause-counted g t c =
    let named = ap (λ (xs : List (Text × ComponentItem)). entries_extent (named_trees (trees c.args.types.now.nodes) xs)) c.in_ok-by_name.ensures in
    omega (arith, named, c.entries_pass_by_name-passes.ensures.counted)

-- ## Pairs that are known

pub entity_passes-returns-then-knows-clause-answers : goal.entity_passes-returns-then-knows-clause-answers
entity_passes-returns-then-knows-clause-answers g t c = c.knows.ensures c.if-knows.true c.args.types.now (reads c.args.left.now) (reads c.args.right.now) c.requires.compared

pub entity_passes-returns-then-not-branch-clause-answers : goal.entity_passes-returns-then-not-branch-clause-answers
entity_passes-returns-then-not-branch-clause-answers g t c = answers_are c.args.types.now.core c.args.exact c.args.level (reads c.args.left.now) (reads c.args.right.now) _ _ c.in_ok-entity_compared.ensures.answers c.if-not-branch.true

pub entity_passes-returns-clause-answers : goal.entity_passes-returns-clause-answers
entity_passes-returns-clause-answers g t c = answers_are c.args.types.now.core c.args.exact c.args.level (reads c.args.left.now) (reads c.args.right.now) _ _ c.in_ok-entity_compared.ensures.answers c.if-not-branch.false

pub entity_passes-returns-clause-left : goal.entity_passes-returns-clause-left
entity_passes-returns-clause-left g t c h = c.in_ok-entity_compared.ensures.left c.if-not-branch.false

pub entity_passes-returns-clause-right : goal.entity_passes-returns-clause-right
entity_passes-returns-clause-right g t c h = c.in_ok-entity_compared.ensures.right c.if-not-branch.false

pub entity_passes-returns-clause-compared : goal.entity_passes-returns-clause-compared
entity_passes-returns-clause-compared g t c h =
    c.in_ok-keep.ensures c.args.types.now (reads c.args.left.now) (reads c.args.right.now) (c.in_ok-entity_compared.ensures.compared c.if-not-branch.false)
    (answers_are c.args.types.now.core c.args.exact c.args.level (reads c.args.left.now) (reads c.args.right.now) _ _ c.in_ok-entity_compared.ensures.answers c.if-not-branch.false)

pub entity_compared-returns-in-Module-b-clause-compared : goal.entity_compared-returns-in-Module-b-clause-compared
entity_compared-returns-in-Module-b-clause-compared g t c = if_ok c.modules_pass.result (λ passes m h. c.requires.compared) c.modules_pass.ensures.passes

-- ## Entries under own resources

pub entries_pass_afresh-entries_pass-passes-requires : goal.entries_pass_afresh-entries_pass-passes-requires
entries_pass_afresh-entries_pass-passes-requires g t c κs inside = (omega (arith, c.decreases), (inside, (c.requires.a, (c.requires.b, (c.requires.apart, c.new-compared.ensures _ _ _)))))

pub entries_pass_under-returns-then-own_nothing-clause-answers : goal.entries_pass_under-returns-then-own_nothing-clause-answers
entries_pass_under-returns-then-own_nothing-clause-answers g t c =
    let w = c.own_nothing.ensures c.if-own_nothing.true in
    if_ok c.entries_pass.result (λ passes m. entries_moved c.args.types.now.core c.args.exact c.args.level c.args.level _ _ _ _ _ _ _ _ _ _ refl (sym (w.0 (reads c.args.left.now))) (sym (w.1 (reads c.args.right.now))) refl refl refl m) c.entries_pass.ensures.answers

pub entries_pass_under-returns-else-own_nothing-clause-compared : goal.entries_pass_under-returns-else-own_nothing-clause-compared
entries_pass_under-returns-else-own_nothing-clause-compared g t c = if_ok c.entries_pass_in_scope.result (λ passes m h. c.requires.compared) c.entries_pass_in_scope.ensures.left

pub entries_pass_in_scope-returns-clause-left : goal.entries_pass_in_scope-returns-clause-left
entries_pass_in_scope-returns-clause-left g t c h = c.in_ok-enter.ensures ∙ (λ j. over ((ap (λ es. atoms_of es) c.deref.ensures.value) j) (c.in_ok-entries_pass_afresh.ensures.left c.if-not-branch.false j)) ∙ c.in_ok-kept_left.ensures.back

pub entries_pass_in_scope-returns-clause-right : goal.entries_pass_in_scope-returns-clause-right
entries_pass_in_scope-returns-clause-right g t c h = c.in_ok-enter-2.ensures ∙ (λ j. over ((ap (λ es. atoms_of es) c.deref-2.ensures.value) j) (c.in_ok-entries_pass_afresh.ensures.right c.if-not-branch.false j)) ∙ c.in_ok-kept_right.ensures.back

pub entries_pass_in_scope-returns-then-not-branch-clause-answers : goal.entries_pass_in_scope-returns-then-not-branch-clause-answers
entries_pass_in_scope-returns-then-not-branch-clause-answers g t c = entries_moved c.args.types.now.core c.args.exact c.args.level c.args.level _ _ _ _ _ _ _ _ _ false refl c.in_ok-kept_left.ensures.entered c.in_ok-kept_right.ensures.entered refl refl c.if-not-branch.true c.in_ok-entries_pass_afresh.ensures.answers

pub entries_pass_in_scope-returns-clause-answers : goal.entries_pass_in_scope-returns-clause-answers
entries_pass_in_scope-returns-clause-answers g t c = entries_moved c.args.types.now.core c.args.exact c.args.level c.args.level _ _ _ _ _ _ _ _ _ true refl c.in_ok-kept_left.ensures.entered c.in_ok-kept_right.ensures.entered refl refl c.if-not-branch.false c.in_ok-entries_pass_afresh.ensures.answers

-- ## Instances

pub instances_pass-entries_pass_under-requires : goal.instances_pass-entries_pass_under-requires
instances_pass-entries_pass_under-requires g t c κs inside =
    let x = instance_lower c.args.types.now c.args.a.index c.visited-x.result.now _ c.visited-x.ensures.unfolds in
    let y = instance_lower c.args.types.now c.args.b.index c.visited-y.result.now _ c.visited-y.ensures.unfolds in
    (omega (arith, x, y, c.decreases), (inside, (instance_stands c.args.types.now c.args.a.index c.visited-x.result.now c.visited-x.ensures.before, (instance_stands c.args.types.now c.args.b.index c.visited-y.result.now c.visited-y.ensures.before, (c.visited-y.ensures.apart, c.requires.compared)))))

pub instances_pass-returns-clause-answers : goal.instances_pass-returns-clause-answers
instances_pass-returns-clause-answers g t c =
    if_ok c.entries_pass_under.result
    (λ passes m. instances_answer c.args.types.now c.args.a.index c.visited-x.result.now _ c.visited-x.ensures.unfolds c.args.b.index c.visited-y.result.now _ c.visited-y.ensures.unfolds c.args.exact c.args.level c.in-Some.deeper (reads c.args.left.now) (reads c.args.right.now) _ _ (omega (arith, c.in-Some.ensures))
    (λ j. over ((ap (λ es. atoms_of es) c.deref.ensures.value ∙ c.in_ok-own_left.ensures) j) (reads c.args.left.now)) (λ j. over ((ap (λ es. atoms_of es) c.deref-2.ensures.value ∙ c.in_ok-own_right.ensures) j) (reads c.args.right.now)) m)
    c.entries_pass_under.ensures.answers

-- ## Components

pub same_components-entries_pass_under-requires : goal.same_components-entries_pass_under-requires
same_components-entries_pass_under-requires g t c κs inside =
    let x = imports_below c.args.types.now c.args.a.index c.visited-x.result.now _ c.visited-x.ensures.unfolds in
    let y = imports_below c.args.types.now c.args.b.index c.visited-y.result.now _ c.visited-y.ensures.unfolds in
    (omega (arith, x, y, c.decreases), (inside, (imports_stand c.args.types.now c.args.a.index c.visited-x.result.now c.visited-x.ensures.before, (imports_stand c.args.types.now c.args.b.index c.visited-y.result.now c.visited-y.ensures.before, (c.visited-y.ensures.apart.0, c.requires.compared)))))

pub same_components-entries_pass_under-requires-2 : goal.same_components-entries_pass_under-requires-2
same_components-entries_pass_under-requires-2 g t c κs inside =
    let x = exports_below c.args.types.now c.args.a.index c.visited-x.result.now _ c.visited-x.ensures.unfolds in
    let y = exports_below c.args.types.now c.args.b.index c.visited-y.result.now _ c.visited-y.ensures.unfolds in
    let passed = c.if-not-branch.false in
    let before = c.in_ok-entries_pass_under.ensures in
    let later = passed_as c.args.types.now (reads c.args.left.now) (reads c.args.right.now) _ _ _ _ (before.left passed) (before.right passed) refl (before.compared passed) in
    (omega (arith, x, y, c.decreases), (inside, (component_stands c.args.types.now c.args.a.index c.visited-x.result.now c.visited-x.ensures.before, (component_stands c.args.types.now c.args.b.index c.visited-y.result.now c.visited-y.ensures.before, (c.visited-y.ensures.apart.1, later)))))

pub component_matches-entries_pass_under-requires : goal.component_matches-entries_pass_under-requires
component_matches-entries_pass_under-requires g t c κs inside =
    let x = imports_below c.args.types.now c.args.a.index c.visited-x.result.now _ c.visited-x.ensures.unfolds in
    let y = imports_below c.args.types.now c.args.b.index c.visited-y.result.now _ c.visited-y.ensures.unfolds in
    let exchanged = passed_as c.args.types.now (reads c.args.right.now) (reads c.args.left.now) _ _ _ _ c.in_ok-own.ensures.right c.in_ok-own.ensures.left refl (c.flip.ensures c.args.types.now (reads c.args.left.now) (reads c.args.right.now) c.requires.compared) in
    (omega (arith, x, y, c.decreases), (inside, (imports_stand c.args.types.now c.args.b.index c.visited-y.result.now c.visited-y.ensures.before, (imports_stand c.args.types.now c.args.a.index c.visited-x.result.now c.visited-x.ensures.before, (c.visited-x.ensures.apart.0, exchanged)))))

pub component_matches-entries_pass_under-requires-2 : goal.component_matches-entries_pass_under-requires-2
component_matches-entries_pass_under-requires-2 g t c κs inside =
    let x = exports_below c.args.types.now c.args.a.index c.visited-x.result.now _ c.visited-x.ensures.unfolds in
    let y = exports_below c.args.types.now c.args.b.index c.visited-y.result.now _ c.visited-y.ensures.unfolds in
    let passed = c.if-not-branch.false in
    let before = c.in_ok-entries_pass_under.ensures in
    let later = passed_as c.args.types.now _ _ _ _ _ _ (before.right passed) (before.left passed) refl (c.flip-2.ensures c.args.types.now _ _ (before.compared passed)) in
    (omega (arith, x, y, c.decreases), (inside, (component_stands c.args.types.now c.args.a.index c.visited-x.result.now c.visited-x.ensures.before, (component_stands c.args.types.now c.args.b.index c.visited-y.result.now c.visited-y.ensures.before, (c.visited-y.ensures.apart.1, later)))))

pub same_components-returns-then-not-branch-clause-answers : goal.same_components-returns-then-not-branch-clause-answers
same_components-returns-then-not-branch-clause-answers g t c =
    same_first c.args.types.now c.args.a.index c.visited-x.result.now _ c.visited-x.ensures.unfolds c.args.b.index c.visited-y.result.now _ c.visited-y.ensures.unfolds c.args.level c.in-Some.deeper (omega (arith, c.in-Some.ensures)) (reads c.args.left.now) (reads c.args.right.now)
    _ c.in-Some-2.own c.in-Some-2.is c.in_ok-own.ensures.paired _ _ refl refl _ _ c.deref.ensures.value c.deref-2.ensures.value _ c.if-not-branch.true c.in_ok-entries_pass_under.ensures.answers

pub same_components-returns-clause-answers : goal.same_components-returns-clause-answers
same_components-returns-clause-answers g t c =
    if_ok c.entries_pass_under-2.result
    (λ passes m. same_second c.args.types.now c.args.a.index c.visited-x.result.now _ c.visited-x.ensures.unfolds c.args.b.index c.visited-y.result.now _ c.visited-y.ensures.unfolds c.args.level c.in-Some.deeper (omega (arith, c.in-Some.ensures)) (reads c.args.left.now) (reads c.args.right.now)
    _ c.in-Some-2.own c.in-Some-2.is c.in_ok-own.ensures.paired _ _ refl refl _ _ c.deref.ensures.value c.deref-2.ensures.value _ c.if-not-branch.false c.in_ok-entries_pass_under.ensures.answers
    _ _ (c.in_ok-entries_pass_under.ensures.left c.if-not-branch.false) (c.in_ok-entries_pass_under.ensures.right c.if-not-branch.false) _ _ c.deref-3.ensures.value c.deref-4.ensures.value passes m)
    c.entries_pass_under-2.ensures.answers

pub same_components-returns-clause-left : goal.same_components-returns-clause-left
same_components-returns-clause-left g t c = if_ok c.entries_pass_under-2.result (λ passes m h. m h ∙ c.in_ok-entries_pass_under.ensures.left c.if-not-branch.false) c.entries_pass_under-2.ensures.left

pub same_components-returns-clause-right : goal.same_components-returns-clause-right
same_components-returns-clause-right g t c = if_ok c.entries_pass_under-2.result (λ passes m h. m h ∙ c.in_ok-entries_pass_under.ensures.right c.if-not-branch.false) c.entries_pass_under-2.ensures.right

pub same_components-returns-clause-compared : goal.same_components-returns-clause-compared
same_components-returns-clause-compared g t c =
    if_ok c.entries_pass_under-2.result
    (λ passes m h. passed_as c.args.types.now _ _ _ _ _ _ (sym (c.in_ok-entries_pass_under.ensures.left c.if-not-branch.false)) (sym (c.in_ok-entries_pass_under.ensures.right c.if-not-branch.false)) refl (m h))
    c.entries_pass_under-2.ensures.compared

pub component_matches-returns-then-not-branch-clause-answers : goal.component_matches-returns-then-not-branch-clause-answers
component_matches-returns-then-not-branch-clause-answers g t c =
    match_first c.args.types.now c.args.a.index c.visited-x.result.now _ c.visited-x.ensures.unfolds c.args.b.index c.visited-y.result.now _ c.visited-y.ensures.unfolds c.args.level c.in-Some.deeper (omega (arith, c.in-Some.ensures)) (reads c.args.left.now) (reads c.args.right.now)
    _ c.in-Some-2.own c.in-Some-2.is c.in_ok-own.ensures.opened _ _ c.in_ok-own.ensures.left c.in_ok-own.ensures.right _ _ c.deref-2.ensures.value c.deref.ensures.value _ c.if-not-branch.true c.in_ok-entries_pass_under.ensures.answers

pub component_matches-returns-clause-answers : goal.component_matches-returns-clause-answers
component_matches-returns-clause-answers g t c =
    if_ok c.entries_pass_under-2.result
    (λ passes m. match_second c.args.types.now c.args.a.index c.visited-x.result.now _ c.visited-x.ensures.unfolds c.args.b.index c.visited-y.result.now _ c.visited-y.ensures.unfolds c.args.level c.in-Some.deeper (omega (arith, c.in-Some.ensures)) (reads c.args.left.now) (reads c.args.right.now)
    _ c.in-Some-2.own c.in-Some-2.is c.in_ok-own.ensures.opened _ _ c.in_ok-own.ensures.left c.in_ok-own.ensures.right _ _ c.deref-2.ensures.value c.deref.ensures.value _ c.if-not-branch.false c.in_ok-entries_pass_under.ensures.answers
    _ _ (c.in_ok-entries_pass_under.ensures.right c.if-not-branch.false ∙ c.in_ok-own.ensures.left) (c.in_ok-entries_pass_under.ensures.left c.if-not-branch.false ∙ c.in_ok-own.ensures.right) _ _ c.deref-3.ensures.value c.deref-4.ensures.value passes m)
    c.entries_pass_under-2.ensures.answers

pub component_matches-returns-clause-left : goal.component_matches-returns-clause-left
component_matches-returns-clause-left g t c = if_ok c.entries_pass_under-2.result (λ passes m h. m h ∙ c.in_ok-entries_pass_under.ensures.right c.if-not-branch.false ∙ c.in_ok-own.ensures.left) c.entries_pass_under-2.ensures.left

pub component_matches-returns-clause-right : goal.component_matches-returns-clause-right
component_matches-returns-clause-right g t c = if_ok c.entries_pass_under-2.result (λ passes m h. m h ∙ c.in_ok-entries_pass_under.ensures.left c.if-not-branch.false ∙ c.in_ok-own.ensures.right) c.entries_pass_under-2.ensures.right

pub component_matches-returns-clause-compared : goal.component_matches-returns-clause-compared
component_matches-returns-clause-compared g t c =
    if_ok c.entries_pass_under-2.result
    (λ passes m h. passed_as c.args.types.now _ _ _ _ _ _ (sym (c.in_ok-entries_pass_under.ensures.right c.if-not-branch.false ∙ c.in_ok-own.ensures.left)) (sym (c.in_ok-entries_pass_under.ensures.left c.if-not-branch.false ∙ c.in_ok-own.ensures.right)) refl (m h))
    c.entries_pass_under-2.ensures.compared

pub same_components-returns-in-None-2-clause-answers : goal.same_components-returns-in-None-2-clause-answers
same_components-returns-in-None-2-clause-answers g t c =
    same_none c.args.types.now c.args.a.index c.visited-x.result.now _ c.visited-x.ensures.unfolds c.args.b.index c.visited-y.result.now _ c.visited-y.ensures.unfolds c.args.level c.in-Some.deeper (omega (arith, c.in-Some.ensures)) (reads c.args.left.now) (reads c.args.right.now) _ c.in-None-2.is c.in_ok-own.ensures.paired

-- ## Types that entries refer to

pub types_pass-entity_passes-requires : goal.types_pass-entity_passes-requires
types_pass-entity_passes-requires g t c κs inside =
    let x = entity_of c.args.types.now c.args.a c.in-Some.x (sym c.as_entity.ensures ∙ c.in-Some.is) in
    let y = entity_of c.args.types.now c.args.b c.in-Some-as_entity.y (sym c.as_entity-in-Some.ensures ∙ c.in-Some-as_entity.is) in
    (omega (arith, ap (λ (w : Type_tree). height w) x.1, ap (λ (w : Type_tree). height w) y.1, c.decreases), (inside, (subst (λ (w : Type 0). w) (sym x.0) c.requires.a, (subst (λ (w : Type 0). w) (sym y.0) c.requires.b, c.requires.compared))))

pub types_pass-returns-then-same-clause-answers : goal.types_pass-returns-then-same-clause-answers
types_pass-returns-then-same-clause-answers g t c d l r =
    let x = entity_of c.args.types.now c.args.a c.in-Some.x (sym c.as_entity.ensures ∙ c.in-Some.is) in
    let y = entity_of c.args.types.now c.args.b c.in-Some-as_entity.y (sym c.as_entity-in-Some.ensures ∙ c.in-Some-as_entity.is) in
    c.same_owned.ensures ∙ sym (ap (λ (b : Bool). b && same_members (owned (tree_at c.args.types.now (any_part c.args.a))) (owned (tree_at c.args.types.now (any_part c.args.b)))) (types_told c.args.types.now.core c.args.level (reads c.args.left.now) (reads c.args.right.now) _ _ _ _ x.1 y.1 c.in_ok-same-in-Some-as_entity.ensures.answers d l r ∙ c.if-same.true))

pub types_pass-returns-then-same-clause-left : goal.types_pass-returns-then-same-clause-left
types_pass-returns-then-same-clause-left g t c h = c.in_ok-same-in-Some-as_entity.ensures.left c.if-same.true

pub types_pass-returns-then-same-clause-right : goal.types_pass-returns-then-same-clause-right
types_pass-returns-then-same-clause-right g t c h = c.in_ok-same-in-Some-as_entity.ensures.right c.if-same.true

pub types_pass-returns-then-same-clause-compared : goal.types_pass-returns-then-same-clause-compared
types_pass-returns-then-same-clause-compared g t c h = c.in_ok-same-in-Some-as_entity.ensures.compared c.if-same.true

pub types_pass-returns-else-same-clause-answers : goal.types_pass-returns-else-same-clause-answers
types_pass-returns-else-same-clause-answers g t c d l r =
    let x = entity_of c.args.types.now c.args.a c.in-Some.x (sym c.as_entity.ensures ∙ c.in-Some.is) in
    let y = entity_of c.args.types.now c.args.b c.in-Some-as_entity.y (sym c.as_entity-in-Some.ensures ∙ c.in-Some-as_entity.is) in
    c.if-same.false ∙ sym (ap (λ (b : Bool). b && same_members (owned (tree_at c.args.types.now (any_part c.args.a))) (owned (tree_at c.args.types.now (any_part c.args.b)))) (types_told c.args.types.now.core c.args.level (reads c.args.left.now) (reads c.args.right.now) _ _ _ _ x.1 y.1 c.in_ok-same-in-Some-as_entity.ensures.answers d l r ∙ c.if-same.false))

pub types_pass-returns-in-None-as_entity-clause-answers : goal.types_pass-returns-in-None-as_entity-clause-answers
types_pass-returns-in-None-as_entity-clause-answers g t c =
    no_resource c.args.types.now c.args.level (reads c.args.left.now) (reads c.args.right.now) c.args.a c.args.b c.in-Some.x c.requires.a c.requires.b (sym c.as_entity.ensures ∙ c.in-Some.is) (sym c.as_entity-in-Some.ensures ∙ c.in-None-as_entity.is)

pub types_pass-returns-in-None-clause-answers : goal.types_pass-returns-in-None-clause-answers
types_pass-returns-in-None-clause-answers g t c d l r =
    c.same_resource.ensures ∙ resources_by_ids c.args.types.now c.args.level (reads c.args.left.now) (reads c.args.right.now) c.args.a c.args.b c.requires.b (sym c.as_entity.ensures ∙ c.in-None.is) d l r

-- ## Steps

pub entries_pass_by_name-returns-in_err-entity_passes-in-Some-get-clause-counted : goal.entries_pass_by_name-returns-in_err-entity_passes-in-Some-get-clause-counted
entries_pass_by_name-returns-in_err-entity_passes-in-Some-get-clause-counted g t c =
    let y = c.in-Some.entry.now in
    let e : lookup (bytes_eq y.0) c.args.a.now ≡ Some c.in-Some-get.item.now = sym c.in-Some-get.ensures in
    let n = entries_next (trees c.args.types.now.nodes) c.args.b.now c.loop-k.k y (sym c.in-Some.ensures) in
    let m = matched_next (trees c.args.types.now.nodes) (named_trees (trees c.args.types.now.nodes) c.args.a.now) c.args.b.now c.loop-k.k y (sym c.in-Some.ensures) in
    let f = found_is (trees c.args.types.now.nodes) c.args.a.now y.0 c.in-Some-get.item.now e in
    let w = matched_within (trees c.args.types.now.nodes) (named_trees (trees c.args.types.now.nodes) c.args.a.now) c.args.b.now c.requires.apart in
    omega (arith, n, m, f, w, c.in_err-entity_passes-in-Some-get.ensures.counted, c.loop-k.invariant.counted)

pub entries_pass_by_name-returns-then-not-branch-clause-counted : goal.entries_pass_by_name-returns-then-not-branch-clause-counted
entries_pass_by_name-returns-then-not-branch-clause-counted g t c =
    let y = c.in-Some.entry.now in
    let e : lookup (bytes_eq y.0) c.args.a.now ≡ Some c.in-Some-get.item.now = sym c.in-Some-get.ensures in
    let n = entries_next (trees c.args.types.now.nodes) c.args.b.now c.loop-k.k y (sym c.in-Some.ensures) in
    let m = matched_next (trees c.args.types.now.nodes) (named_trees (trees c.args.types.now.nodes) c.args.a.now) c.args.b.now c.loop-k.k y (sym c.in-Some.ensures) in
    let f = found_is (trees c.args.types.now.nodes) c.args.a.now y.0 c.in-Some-get.item.now e in
    let w = matched_within (trees c.args.types.now.nodes) (named_trees (trees c.args.types.now.nodes) c.args.a.now) c.args.b.now c.requires.apart in
    omega (arith, n, m, f, w, c.in_ok-entity_passes-in-Some-get.ensures.counted, c.loop-k.invariant.counted)

pub entries_pass_by_name-returns-in-None-clause-counted : goal.entries_pass_by_name-returns-in-None-clause-counted
entries_pass_by_name-returns-in-None-clause-counted g t c =
    let w = matched_within (trees c.args.types.now.nodes) (named_trees (trees c.args.types.now.nodes) c.args.a.now) c.args.b.now c.requires.apart in
    omega (arith, w, c.loop-k.invariant.counted)

pub entries_pass_by_name-returns-clause-counted : goal.entries_pass_by_name-returns-clause-counted
entries_pass_by_name-returns-clause-counted g t c =
    let w = matched_within (trees c.args.types.now.nodes) (named_trees (trees c.args.types.now.nodes) c.args.a.now) c.args.b.now c.requires.apart in
    omega (arith, w, c.loop-k.invariant.counted)

pub instances_pass-returns-clause-counted : goal.instances_pass-returns-clause-counted
instances_pass-returns-clause-counted g t c =
    let x = instance_extent c.args.types.now c.args.a.index c.visited-x.result.now _ c.visited-x.ensures.unfolds in
    let y = instance_extent c.args.types.now c.args.b.index c.visited-y.result.now _ c.visited-y.ensures.unfolds in
    omega (arith, x, y, c.visited-x.ensures.counted, c.visited-y.ensures.counted, c.entries_pass_under.ensures.counted)

pub same_components-returns-in_err-entries_pass_under-clause-counted : goal.same_components-returns-in_err-entries_pass_under-clause-counted
same_components-returns-in_err-entries_pass_under-clause-counted g t c =
    let x = component_extent c.args.types.now c.args.a.index c.visited-x.result.now _ c.visited-x.ensures.unfolds in
    let y = component_extent c.args.types.now c.args.b.index c.visited-y.result.now _ c.visited-y.ensures.unfolds in
    omega (arith, x, y, c.visited-x.ensures.counted, c.visited-y.ensures.counted, c.in_ok-own.ensures.counted, c.in_err-entries_pass_under.ensures.counted)

pub same_components-returns-then-not-branch-clause-counted : goal.same_components-returns-then-not-branch-clause-counted
same_components-returns-then-not-branch-clause-counted g t c =
    let x = component_extent c.args.types.now c.args.a.index c.visited-x.result.now _ c.visited-x.ensures.unfolds in
    let y = component_extent c.args.types.now c.args.b.index c.visited-y.result.now _ c.visited-y.ensures.unfolds in
    omega (arith, x, y, c.visited-x.ensures.counted, c.visited-y.ensures.counted, c.in_ok-own.ensures.counted, c.in_ok-entries_pass_under.ensures.counted)

pub same_components-returns-clause-counted : goal.same_components-returns-clause-counted
same_components-returns-clause-counted g t c =
    let x = component_extent c.args.types.now c.args.a.index c.visited-x.result.now _ c.visited-x.ensures.unfolds in
    let y = component_extent c.args.types.now c.args.b.index c.visited-y.result.now _ c.visited-y.ensures.unfolds in
    omega (arith, x, y, c.visited-x.ensures.counted, c.visited-y.ensures.counted, c.in_ok-own.ensures.counted, c.in_ok-entries_pass_under.ensures.counted, c.entries_pass_under-2.ensures.counted)

pub component_matches-returns-in_err-entries_pass_under-clause-counted : goal.component_matches-returns-in_err-entries_pass_under-clause-counted
component_matches-returns-in_err-entries_pass_under-clause-counted g t c =
    let x = component_extent c.args.types.now c.args.a.index c.visited-x.result.now _ c.visited-x.ensures.unfolds in
    let y = component_extent c.args.types.now c.args.b.index c.visited-y.result.now _ c.visited-y.ensures.unfolds in
    omega (arith, x, y, c.visited-x.ensures.counted, c.visited-y.ensures.counted, c.in_ok-own.ensures.counted, c.in_err-entries_pass_under.ensures.counted)

pub component_matches-returns-then-not-branch-clause-counted : goal.component_matches-returns-then-not-branch-clause-counted
component_matches-returns-then-not-branch-clause-counted g t c =
    let x = component_extent c.args.types.now c.args.a.index c.visited-x.result.now _ c.visited-x.ensures.unfolds in
    let y = component_extent c.args.types.now c.args.b.index c.visited-y.result.now _ c.visited-y.ensures.unfolds in
    omega (arith, x, y, c.visited-x.ensures.counted, c.visited-y.ensures.counted, c.in_ok-own.ensures.counted, c.in_ok-entries_pass_under.ensures.counted)

pub component_matches-returns-clause-counted : goal.component_matches-returns-clause-counted
component_matches-returns-clause-counted g t c =
    let x = component_extent c.args.types.now c.args.a.index c.visited-x.result.now _ c.visited-x.ensures.unfolds in
    let y = component_extent c.args.types.now c.args.b.index c.visited-y.result.now _ c.visited-y.ensures.unfolds in
    omega (arith, x, y, c.visited-x.ensures.counted, c.visited-y.ensures.counted, c.in_ok-own.ensures.counted, c.in_ok-entries_pass_under.ensures.counted, c.entries_pass_under-2.ensures.counted)
