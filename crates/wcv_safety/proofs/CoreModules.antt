-- Core modules and their types: what a context makes, the lists that agree with it make too, and the one agrees with the other.
use Rattle.std.proofs.Common.{◌≡◌, ◌∙◌, ℕ, List, [], ◌∷◌, map, Option, Some, refl, sym, ap, subst}
use Rattle.std.specs.Prelude.{All, slice_get}
use Rattle.std.specs.Option.{option_map}
use Rattle.std.proofs.lemmas.List.Elements.{All-nil, All-cons, All-head, All-tail}
use Rattle.wcv_core.specs.CoreForm.{Group}
use Rattle.wcv_core.specs.CoreGroups.{total}
use Rattle.wcv_core.specs.CoreWritten.{Core_entry, IsKnown}
use Rattle.wcv_core.specs.Names.{Name, Place}
use Rattle.wcv_core.specs.declared.features.WasmFeatures.{WasmFeatures}
use Rattle.wcv_core.specs.declared.core_types.EntityType.{EntityType}
use Rattle.wcv_closed.specs.CoreModules.{Module_items, ModuleMatches}
use Rattle.wcv_closed.specs.ClosedTable.{IsTable}
use Rattle.wcv_syntax.specs.Model.{Module_decl, core_module_type}
use Rattle.wcv_syntax.specs.ModuleTypes.{Core_import, Core_export, Module_type, Made, empty_module}
use Rattle.wcv_types.specs.Tree.{core_imports, core_exports, none}
use Rattle.wcv_matching.specs.ModuleItems.{ItemsMatch, core_imports_in, core_exports_in, module_items}
use Rattle.wcv_lower.specs.Context.{Core_space, core_types, core_modules}
use Rattle.wcv_lower.specs.CoreItems.{core_entries, outer_entries, module_made, module_joins, core_type_step, core_module_step}
use Rattle.wcv_lower.specs.Names.{Names, introduced}
use Rattle.wcv_lower.specs.Step.{Step, core_appends, interns, change, apply}
use Rattle.wcv_lower.specs.Tables.{StandsOver, TableStands}
use Rattle.wcv_lower.specs.Trees.{Tree_context, Tree_stack, tree_reader, tree_maker, module_tree}
use Rattle.wcv_growth.specs.Kept.{IsPrefix}
use Rattle.wcv_growth.proofs.Known.{mapped-some}
use Rattle.wcv_world.specs.Reading.{Value_context, Value_stack, value_reader, value_maker}
use Rattle.wcv_world.specs.Values.{typed}
use Rattle.wcv_safety.specs.Agreeing.{Agrees, AgreesAsType, AgreeAll, AgreeReadings}
use Rattle.wcv_safety.specs.Standing.{AreCoreTypes, BothStand, MatchesItself}
use Rattle.wcv_safety.proofs.Agreeing.{core-appends-agree, readings}
use Rattle.wcv_safety.proofs.CoreTypes.{entries-same, core-entries, interned}
use Rattle.wcv_safety.proofs.Modules.{SameModule, MadeOver, module-over}

-- ## One that declares the same

imports-in : (is : List Core_import) (es : List Core_export) → core_imports_in {R = Name} {I = Name} (core_imports is (core_exports es none)) ≡ is
imports-in [] es = none-behind es
  where
    none-behind : (es : List Core_export) → core_imports_in {R = Name} {I = Name} (core_exports es none) ≡ []
    none-behind [] = refl
    none-behind (e ∷ es) = none-behind es
imports-in (i ∷ is) es = ap (λ xs. i ∷ xs) (imports-in is es)

exports-in : (is : List Core_import) (es : List Core_export) → core_exports_in {R = Name} {I = Name} (core_imports is (core_exports es none)) ≡ es
exports-in [] es = all-behind es
  where
    all-behind : (es : List Core_export) → core_exports_in {R = Name} {I = Name} (core_exports es none) ≡ es
    all-behind [] = refl
    all-behind (e ∷ es) = ap (λ xs. e ∷ xs) (all-behind es)
exports-in (i ∷ is) es = exports-in is es

-- what the tree of a module imports and exports
items-of : (i : Name) (m : Module_type) → module_items (module_tree i m) ≡ record { imports = m.imports; exports = m.exports }
items-of i m = λ k. record { imports = imports-in m.imports m.exports k; exports = exports-in m.imports m.exports k }

module _ (gs : List Group) (g : Name → Name) (i j : Name) (a b : Module_type) (h : SameModule a b) (k : MatchesItself gs b) where
  same-items : module_items (module_tree i a) ≡ module_items (module_tree j b)
  same-items = items-of i a ∙ (λ l. record { imports = h.imports l; exports = h.exports l }) ∙ sym (items-of j b)

  itself : ModuleMatches (ItemsMatch gs) (module_items (module_tree j b)) (module_items (module_tree j b))
  itself = subst (λ (m : Module_items EntityType). ModuleMatches (ItemsMatch gs) m m) (sym (items-of j b)) k

  modules-match : ModuleMatches (ItemsMatch gs) (module_items (module_tree i a)) (module_items (module_tree j b))
  modules-match = subst (λ (m : Module_items EntityType). ModuleMatches (ItemsMatch gs) m (module_items (module_tree j b))) (sym same-items) itself

  modules-back : ModuleMatches (ItemsMatch gs) (module_items (module_tree j b)) (module_items (module_tree i a))
  modules-back = subst (λ (m : Module_items EntityType). ModuleMatches (ItemsMatch gs) (module_items (module_tree j b)) m) (sym same-items) itself

  pub module-agrees : Agrees gs g (typed (module_tree i a)) (module_tree j b)
  module-agrees = (1, (refl, modules-match))

  pub module-type-agrees : AgreesAsType gs g (typed (module_tree i a)) (module_tree j b)
  module-type-agrees = (2, (refl, ((refl, modules-match), (refl, modules-back), λ r. refl)))

-- ## The step

module _ (g : Name → Name) (v : Value_stack) (s : Tree_stack) (h : BothStand v s) (a : AgreeReadings g v s) where
  outers-same : (vs : List Value_context) (cs : List Tree_context) → All AreCoreTypes cs → AgreeAll v.groups v.top.defined g vs cs → map core_entries vs ≡ map core_entries cs
  outers-same [] [] k w = refl
  outers-same [] (c ∷ cs) k w = absurd w
  outers-same (u ∷ us) [] k w = absurd w
  outers-same (u ∷ us) (c ∷ cs) k w =
      let e : core_entries u ≡ core_entries c = entries-same v.groups g (u.core core_types) (c.core core_types) (All-head AreCoreTypes c cs k) w.0.types in
      let r : map core_entries us ≡ map core_entries cs = outers-same us cs (All-tail AreCoreTypes c cs k) w.1 in
      λ i. e i ∷ r i

  all-same : outer_entries v ≡ outer_entries s
  all-same =
      let e : core_entries v.top ≡ core_entries s.top = core-entries g v s h a in
      let r : map core_entries v.outer ≡ map core_entries s.outer = outers-same v.outer s.outer h.around a.stacks.all.1 in
      λ i. e i ∷ r i

  begins : (fs : WasmFeatures) → TableStands s → StandsOver s.groups ([] ∷ outer_entries s)
  begins fs t = record {
    table = t.table;
    forms = t.forms;
    known = All-cons (λ (es : List Core_entry). All (IsKnown (total s.groups)) es) [] (outer_entries s) (All-nil (IsKnown (total s.groups))) t.known;
  }

  -- the module joins both
  joins : (k : Core_space) (i j : Name) (m n : Module_type) (gs hs : List Group) → SameModule m n → MatchesItself hs n → IsPrefix gs hs → v.groups ≡ hs →
      AgreeReadings g (change (core_appends k (typed (module_tree i m))) (change (interns hs) v)) (change (core_appends k (module_tree j n)) (change (interns gs) s))
  joins k i j m n gs hs q w p e =
      let b : AgreeReadings g (change (interns hs) v) (change (interns gs) s) = interned g v s a gs hs p e in
      readings g (change (interns hs) v) (change (core_appends k (typed (module_tree i m))) (change (interns hs) v)) (change (interns gs) s) (change (core_appends k (module_tree j n)) (change (interns gs) s))
      (record { groups = refl; defined = refl; side = λ d. refl }) (record { groups = refl; defined = refl; side = λ d. refl }) b
      (core-appends-agree v.top.defined g k (change (interns hs) v) (change (interns gs) s) (typed (module_tree i m)) (module_tree j n) b.stacks (module-agrees hs g i j m n q w) (λ c. module-type-agrees hs g i j m n q w))

  module _ (names other : Names) (p q : Place) where
    made-follows : (k : Core_space) (o : Option Made) (r : Made) → MadeOver v.groups r o → MatchesItself v.groups r.1 → IsPrefix r.0 v.groups →
        (x : Step value_reader) × (option_map (module_joins (value_maker other q) k) o ≡ Some x) × AgreeReadings g (apply x v) (apply (module_joins (tree_maker names p) k r) s)
    made-follows k o r m w l = (
      module_joins (value_maker other q) k (v.groups, m.over),
      ap (option_map (module_joins (value_maker other q) k)) m.made,
      joins k (other.identity (introduced q)) (names.identity (introduced p)) m.over r.1 r.0 v.groups m.same w l refl,
    )

    -- a core module
    pub module-follows : (fs : WasmFeatures) (ds : List Module_decl) (y : Step tree_reader) → IsTable v.groups → TableStands s → IsPrefix (apply y s).groups v.groups →
        ((r : Made) → module_made [] s.groups (empty_module fs) ds ≡ Some r → MatchesItself v.groups r.1) → core_module_step fs (tree_maker names p) s ds ≡ Some y →
        (x : Step value_reader) × (core_module_step fs (value_maker other q) v ds ≡ Some x) × AgreeReadings g (apply x v) (apply y s)
    module-follows fs ds y t u l w e =
        let m = mapped-some (module_joins (tree_maker names p) core_modules) (module_made [] s.groups (empty_module fs) ds) y e in
        let l' : IsPrefix m.0.0 v.groups = subst (λ (z : Step tree_reader). IsPrefix (apply z s).groups v.groups) (sym m.2) l in
        let o : MadeOver v.groups m.0 (module_made [] v.groups (empty_module fs) ds) =
        module-over [] (outer_entries s) (λ k es e. absurd (none-there k es e)) v.groups t s.groups (empty_module fs) (empty_module fs) ds m.0 (begins fs u) (record { types = refl; imports = refl; exports = refl }) m.1 l' a.stacks.groups in
        let f = made-follows core_modules (module_made [] v.groups (empty_module fs) ds) m.0 o (w m.0 m.1) l' in
        (f.0, f.1, subst (λ (z : Step tree_reader). AgreeReadings g (apply f.0 v) (apply z s)) m.2 f.2)
      where
        none-there : (k : ℕ) (es : List Core_entry) → slice_get {X = List Core_entry} [] k ≡ Some es → ⊥
        none-there k es e = cc

    -- the type of a core module
    pub module-type-follows : (fs : WasmFeatures) (ds : List Module_decl) (y : Step tree_reader) → IsTable v.groups → TableStands s → IsPrefix (apply y s).groups v.groups →
        ((r : Made) → module_made (outer_entries s) s.groups (empty_module fs) ds ≡ Some r → MatchesItself v.groups r.1) → core_type_step fs (tree_maker names p) s (core_module_type ds) ≡ Some y →
        (x : Step value_reader) × (core_type_step fs (value_maker other q) v (core_module_type ds) ≡ Some x) × AgreeReadings g (apply x v) (apply y s)
    module-type-follows fs ds y t u l w e =
        let m = mapped-some (module_joins (tree_maker names p) core_types) (module_made (outer_entries s) s.groups (empty_module fs) ds) y e in
        let l' : IsPrefix m.0.0 v.groups = subst (λ (z : Step tree_reader). IsPrefix (apply z s).groups v.groups) (sym m.2) l in
        let o : MadeOver v.groups m.0 (module_made (outer_entries s) v.groups (empty_module fs) ds) =
        module-over (outer_entries s) (outer_entries s) (λ k es e. (k, e)) v.groups t s.groups (empty_module fs) (empty_module fs) ds m.0 (begins fs u) (record { types = refl; imports = refl; exports = refl }) m.1 l' a.stacks.groups in
        let f = made-follows core_types (module_made (outer_entries v) v.groups (empty_module fs) ds) m.0
        (subst (λ (ess : List (List Core_entry)). MadeOver v.groups m.0 (module_made ess v.groups (empty_module fs) ds)) (sym all-same) o) (w m.0 m.1) l' in
        (f.0, f.1, subst (λ (z : Step tree_reader). AgreeReadings g (apply f.0 v) (apply z s)) m.2 f.2)
