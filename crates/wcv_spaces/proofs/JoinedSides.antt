-- An entry joins a side: the context after it, and what the checks of it are to the context.
use Rattle.std.proofs.Common.{◌≡◌, ℕ, List, [], ◌∷◌, map, refl, sym, ◌∙◌, ap, length, Bool}
use Rattle.std.specs.Prelude.{Option, None, ◌&&◌, ◌++◌}
use Rattle.std.proofs.lemmas.List.{map-append}
use Rattle.wcv_core.specs.Names.{Name, number}
use Rattle.wcv_core.specs.declared.core_types.ValType.{ValType}
use Rattle.wcv_syntax.specs.declared.name.ComponentExternName.{ComponentExternName}
use Rattle.wcv_core.specs.declared.features.WasmFeatures.{WasmFeatures}
use Rattle.wcv_types.specs.Arena.{Arena}
use Rattle.wcv_types.specs.ComponentTrees.{resource_path}
use Rattle.wcv_types.specs.Entities.{entity_tree, entry_tree, entry_trees, EntityStands}
use Rattle.wcv_types.specs.Identity.{same_identity}
use Rattle.wcv_types.specs.Sets.{identities}
use Rattle.wcv_types.specs.Tree.{Extern_name, sort}
use Rattle.wcv_types.specs.Unfold.{trees}
use Rattle.wcv_types.specs.declared.ids.ResourceId.{ResourceId}
use Rattle.wcv_types.specs.declared.shapes.ComponentEntityType.{ComponentEntityType}
use Rattle.wcv_types.proofs.Each.{length-mapped}
use Rattle.wcv_lower.specs.Checks.{full_side, bad_entity}
use Rattle.wcv_lower.specs.Context.{in_types, in_funcs, in_values, in_instances, in_components, asks_names, counts, Side, importing, exporting, joined, same_side, names_for, with_named, enlist, introduce, name_types, placed, unknown}
use Rattle.wcv_lower.specs.Entries.{extern_name, lent}
use Rattle.wcv_lower.specs.EntryNames.{name_checks}
use Rattle.wcv_lower.specs.Readers.{weight}
use Rattle.wcv_lower.specs.Step.{Step, apply, joins, enters}
use Rattle.wcv_lower.specs.Trees.{Type_tree, Tree_context, Tree_stack, tree_reader, creates}
use Rattle.wcv_lower.proofs.Joined.{map-joined}
use Rattle.wcv_spaces.specs.Bringing.{Paths, MayJoin, brought_new}
use Rattle.wcv_spaces.specs.Contents.{Contents, SpaceLists, ids, core_ids, kind_of, sides, names, context_of, stack_of, id_tree, core_tree, defined_resource, counts_of}
use Rattle.wcv_spaces.specs.Entering.{entry_checks}
use Rattle.wcv_spaces.specs.Looking.{New_id, own_id, core_id, entity_id, enter_id, entered, entry_of, with_entry}
use Rattle.wcv_spaces.specs.declared.new_entity.NewEntity.{NewEntity}
use Rattle.wcv_spaces.proofs.Keeping.{with_spaces, pushed_spaces, pushed_core, new_step, entity_joins}

module _ (a : Arena) (outer : List Tree_context) where
  -- the context on top
  abbrev on : Tree_context → Tree_stack
  on c = record { top = c; outer = outer; groups = a.core }

  pub new_context : (n : New_id) (s : SpaceLists) (c : Tree_context) → on (with_spaces (trees a.nodes) (enter_id n s) c) ≡ apply (new_step (trees a.nodes) n) (on (with_spaces (trees a.nodes) s c))
  new_context (own_id in_types x) s c = ap on (pushed_spaces (trees a.nodes) in_types x s c)
  new_context (own_id in_funcs x) s c = ap on (pushed_spaces (trees a.nodes) in_funcs x s c)
  new_context (own_id in_values x) s c = ap on (pushed_spaces (trees a.nodes) in_values x s c)
  new_context (own_id in_instances x) s c = ap on (pushed_spaces (trees a.nodes) in_instances x s c)
  new_context (own_id in_components x) s c = ap on (pushed_spaces (trees a.nodes) in_components x s c)
  new_context (core_id k x) s c = ap on (pushed_core (trees a.nodes) k x s c)

  -- an entity in its space is what its tree does to the stack
  pub entered_context : (used : Bool) (x : ComponentEntityType) (s : SpaceLists) (c : Tree_context) → EntityStands a x →
      on (with_spaces (trees a.nodes) (entered used x s) c) ≡ apply (joins tree_reader used (sort (entity_tree (trees a.nodes) x)) (entity_tree (trees a.nodes) x)) (on (with_spaces (trees a.nodes) s c))
  entered_context used x s c h = new_context (entity_id used x) s c ∙ sym (ap (λ (p : Step tree_reader). apply p (on (with_spaces (trees a.nodes) s c))) (entity_joins a used x h))

-- ## What it brings

-- the resources that are imported and defined after an entry of that side
abbrev imported_after : Arena → Side → Contents → NewEntity → List (Name × List ℕ)
imported_after a d z x = (introduce d (brought_new a x).resources (context_of a z)).imported

abbrev defined_after : Arena → Side → Contents → NewEntity → List (Name × Option ValType)
defined_after a d z x = (introduce d (brought_new a x).resources (context_of a z)).defined

placed_same : (k : ℕ) (rs : Paths) → map resource_path (placed k rs) ≡ placed k (map resource_path rs)
placed_same k [] = refl
placed_same k (r ∷ rs) = ap (λ (l : List (Name × List ℕ)). (number r.0.index, k ∷ r.1) ∷ l) (placed_same k rs)

unknown_same : (rs : Paths) → map defined_resource (unknown rs) ≡ unknown (map resource_path rs)
unknown_same [] = refl
unknown_same (r ∷ rs) = ap (λ (l : List (Name × Option ValType)). (number r.0.index, None) ∷ l) (unknown_same rs)

pub import_introduced : (a : Arena) (z : Contents) (rs : Paths) (x : NewEntity) (k : ℕ) → k ≡ length z.imports → rs ≡ z.imported_resources ++ placed k x.resources →
    map resource_path rs ≡ (introduce importing (brought_new a x).resources (context_of a z)).imported
import_introduced a z rs x k e h =
    ap (map resource_path) h ∙ map-append resource_path z.imported_resources (placed k x.resources) ∙ ap (λ l. map resource_path z.imported_resources ++ l) (placed_same k x.resources) ∙
    ap (λ (n : ℕ). map resource_path z.imported_resources ++ placed n (map resource_path x.resources)) (e ∙ sym (length-mapped (entry_tree (trees a.nodes)) z.imports))

pub export_introduced : (a : Arena) (z : Contents) (rs : List (ResourceId × Option ValType)) (x : NewEntity) → rs ≡ z.defined_resources ++ unknown x.resources →
    map defined_resource rs ≡ (introduce exporting (brought_new a x).resources (context_of a z)).defined
export_introduced a z rs x h =
    ap (map defined_resource) h ∙ map-append defined_resource z.defined_resources (unknown x.resources) ∙ ap (λ l. map defined_resource z.defined_resources ++ l) (unknown_same x.resources)

introduce_is : (d : Side) (rs : List (Name × List ℕ)) (c : Tree_context) → introduce d rs c ≡ record c { imported = (introduce d rs c).imported; defined = (introduce d rs c).defined }
introduce_is importing rs c = refl
introduce_is exporting rs c = refl

-- what a call did to the state for an entry of a side
pub record Joined_state (a : Arena) (d : Side) (z s' : Contents) (n : ComponentExternName) (x : NewEntity) : Type 0 where
  pub kinds : s'.kind ≡ z.kind
  pub aliased : s'.aliased ≡ z.aliased
  pub slots : s'.context_type ≡ z.context_type
  pub started : s'.started ≡ z.started
  pub spaces : s'.spaces ≡ entered (same_side d exporting) x.ty z.spaces
  pub info : s'.info ≡ with_entry z.info (entity_tree (trees a.nodes) x.ty)
  pub listed : (e : Side) → sides s' e ≡ joined (same_side e d) (sides z e) (entry_of n x.ty)
  pub imported : map resource_path s'.imported_resources ≡ (introduce d (brought_new a x).resources (context_of a z)).imported
  pub made : map defined_resource s'.defined_resources ≡ (introduce d (brought_new a x).resources (context_of a z)).defined
  pub named : (e : Side) → identities (names s' e) ≡ with_named same_identity (names_for d e && asks_names (kind_of z.kind)) (identities (names z e)) (creates (entity_tree (trees a.nodes) x.ty))

-- the state with the entry stands for the context that it entered
pub joined_stack : (a : Arena) (outer : List Tree_context) (d : Side) (z s' : Contents) (n : ComponentExternName) (x : NewEntity) → MayJoin a x → Joined_state a d z s' n x →
    stack_of a s' outer ≡ apply (enters d (extern_name n) (brought_new a x)) (stack_of a z outer)
joined_stack a outer d z s' n x m w =
    let ts : List Type_tree = trees a.nodes in
    let t : Type_tree = entity_tree ts x.ty in
    let b : Bool = same_side d exporting in
    let before : Tree_context = context_of a z in
    let introduced : Tree_context = record before { imported = imported_after a d z x; defined = defined_after a d z x } in
    let c : Tree_context = name_types d (creates t) (enlist d (extern_name n) t introduced) in
    let step : stack_of a s' outer ≡ on a outer (with_spaces ts (entered b x.ty z.spaces) c) = λ j. on a outer (record {
      kind = kind_of (w.kinds j);
      core = λ k. map (core_tree ts k) (core_ids k (w.spaces j));
      space = λ k. map (id_tree ts k) (ids k (w.spaces j));
      side = λ e. (ap (entry_trees ts) (w.listed e) ∙ map-joined (entry_tree ts) (same_side e d) (sides z e) (entry_of n x.ty)) j;
      imported = w.imported j;
      defined = w.made j;
      named = λ e. w.named e j;
      size = (w.info j).size;
      depth = (w.info j).depth;
      aliased = w.aliased j;
      context_type = w.slots j;
      used = map (λ v. v.1) (w.spaces j).values;
      started = w.started j;
    }) in
    let whole : apply (joins tree_reader b (sort t) t) (on a outer (name_types d (creates t) (enlist d (extern_name n) t (introduce d (brought_new a x).resources before)))) ≡ apply (joins tree_reader b (sort t) t) (on a outer c) =
    λ j. apply (joins tree_reader b (sort t) t) (on a outer (name_types d (creates t) (enlist d (extern_name n) t (introduce_is d (brought_new a x).resources before j)))) in
    step ∙ entered_context a outer b x.ty z.spaces c m.stands ∙ sym whole

-- ## Checks

pub counts_same : (a : Arena) (s : Contents) → counts (context_of a s) ≡ counts_of s
counts_same a s = λ j. record (counts_of s) {
  core = λ k. length-mapped (core_tree (trees a.nodes) k) (core_ids k s.spaces) j;
  space = λ k. length-mapped (id_tree (trees a.nodes) k) (ids k s.spaces) j;
  side = λ d. length-mapped (entry_tree (trees a.nodes)) (sides s d) j;
}

-- the causes of an entry are those of its side, of its name and of its entity in the context
pub entry_checks_same : (a : Arena) (limited : Bool) (d : Side) (s : Contents) (fs : WasmFeatures) (n : Extern_name) (t : Type_tree) →
    entry_checks limited fs d (trees a.nodes) s.spaces (sides s d) s.info n t ≡
    full_side limited d (counts (context_of a s)) ++ (name_checks fs ((context_of a s).side d) n t ++ (bad_entity (counts (context_of a s)) (weight tree_reader t) ++ lent tree_reader d t))
entry_checks_same a limited d s fs n t =
    let c : counts (context_of a s) ≡ counts_of s = counts_same a s in
    λ j. full_side limited d (sym c j) ++ (name_checks fs ((context_of a s).side d) n t ++ (bad_entity (sym c j) (weight tree_reader t) ++ lent tree_reader d t))
