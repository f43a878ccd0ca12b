-- Growth looks at no feature.
use Rattle.std.proofs.Common.{◌≡◌, ◌∙◌, ℕ, zero, suc, List, [], ◌∷◌, ◌++◌, refl, ap, Bool, true, false, cond, Option, Some, None}
use Rattle.std.specs.Map.{lookup}
use Rattle.std.specs.Option.{option_map, option_and_then, option_map_or}
use Rattle.wcv_core.specs.CoreForm.{Group}
use Rattle.wcv_core.specs.CoreJoining.{group_ids, grown, with_types}
use Rattle.wcv_core.specs.CoreWritten.{Core_entry, closed_group}
use Rattle.wcv_core.specs.Names.{Place, deeper, same_place}
use Rattle.wcv_core.specs.declared.features.WasmFeatures.{WasmFeatures}
use Rattle.wcv_syntax.specs.CoreItems.{entity_of}
use Rattle.wcv_syntax.specs.Model.{Form, core_type_item, core_module_item, type_item, component_item, instance_item, core_rec, core_module_type, Module_decl, module_type, module_import, module_export, module_outer, Type_form, defined_type, func_type, component_type, instance_type, resource_type, Decl, core_type_decl, type_decl, alias_decl, export_decl, import_decl, Decls, no_decls, declare, instantiate, bag, Items, no_items, next_item}
use Rattle.wcv_syntax.specs.ModuleTypes.{Module_type, Made, empty_module, module_entries, with_type, with_import, with_export, aliased, declared, and_then}
use Rattle.wcv_lower.specs.Context.{Core_space, core_types, core_modules, concrete, declares_instance, declares_component, Stack}
use Rattle.wcv_lower.specs.CoreItems.{outer_entries, is_declarable, declaration_made, module_made, module_joins}
use Rattle.wcv_lower.specs.Declared.{Makers, inside, ended, read_type, read_decl, read_decls}
use Rattle.wcv_lower.specs.Growth.{step, grow}
use Rattle.wcv_lower.specs.Items.{read_item, read_items}
use Rattle.wcv_lower.specs.Names.{Names}
use Rattle.wcv_lower.specs.Readers.{Reader, Maker, module_node}
use Rattle.wcv_lower.specs.Step.{apply, interns, core_appends}
use Rattle.wcv_lower.specs.Trees.{Tree_stack, tree_reader, tree_maker}
use Rattle.wcv_growth.specs.Nested.{where_read, end_type, nested_from, nested_in}
use Rattle.wcv_world.specs.Growth.{Arguments, grow_values}
use Rattle.wcv_world.specs.Machine.{World, State, after, or_stuck, start_in, Instantiating, with_stack, read_value_item, read_value_items, read_in, taking_a_turn, instantiated, linked, run_root}
use Rattle.wcv_world.specs.Naming.{Naming}
use Rattle.wcv_world.specs.Reading.{Value_stack, value_reader, value_maker}
use Rattle.wcv_world.specs.Recorded.{recorded_type, run_of, start_over, table_behind, table_from, table_in}
use Rattle.wcv_world.specs.Values.{Run, Value, typed, an_instance, closure, Levels, no_levels}

-- ## Modules

-- the type of a module under other features
abbrev pub under : WasmFeatures → Module_type → Module_type
under f m = record { features = f; types = m.types; imports = m.imports; exports = m.exports; size = m.size }

abbrev made_under : WasmFeatures → Made → Made
made_under f s = (s.0, under f s.1)

module _ (f : WasmFeatures) where
  types_under : (m : Module_type) (is : List ℕ) → with_types with_type (under f m) is ≡ under f (with_types with_type m is)
  types_under m [] = refl
  types_under m (i ∷ is) = types_under (with_type m i) is

  mapped_under : {A : Type 0} (g h : A → Made) → ((x : A) → h x ≡ made_under f (g x)) → (o : Option A) → option_map h o ≡ option_map (made_under f) (option_map g o)
  mapped_under g h e None = refl
  mapped_under g h e (Some x) = ap Some (e x)

  declared_under : (outers : List (List Core_entry)) (gs : List Group) (m : Module_type) (d : Module_decl) → declared outers gs (under f m) d ≡ option_map (made_under f) (declared outers gs m d)
  declared_under outers gs m (module_type w) = λ j. Some (grown gs (closed_group (module_entries m) w), types_under m (group_ids gs (closed_group (module_entries m) w)) j)
  declared_under outers gs m (module_import i) = mapped_under (λ e. (gs, with_import gs m (i.module, i.name) e)) (λ e. (gs, with_import gs (under f m) (i.module, i.name) e)) (λ e. refl) (entity_of m.types i.ty)
  declared_under outers gs m (module_export n t) = mapped_under (λ e. (gs, with_export gs m n e)) (λ e. (gs, with_export gs (under f m) n e)) (λ e. refl) (entity_of m.types t)
  declared_under outers gs m (module_outer zero i) = mapped_under (λ t. (gs, with_type m t)) (λ t. (gs, with_type (under f m) t)) (λ e. refl) (aliased outers m 0 i)
  declared_under outers gs m (module_outer (suc k) i) = mapped_under (λ t. (gs, with_type m t)) (λ t. (gs, with_type (under f m) t)) (λ e. refl) (aliased outers m (suc k) i)

  if_under : (b : Bool) (o p : Option Made) → p ≡ option_map (made_under f) o → cond b p None ≡ option_map (made_under f) (cond b o None)
  if_under true o p e = e
  if_under false o p e = refl

  declaration_under : (outers : List (List Core_entry)) (gs : List Group) (m : Module_type) (d : Module_decl) → declaration_made outers gs (under f m) d ≡ option_map (made_under f) (declaration_made outers gs m d)
  declaration_under outers gs m (module_type w) = if_under (is_declarable gs m (module_type w)) _ _ (declared_under outers gs m (module_type w))
  declaration_under outers gs m (module_import i) = if_under (is_declarable gs m (module_import i)) _ _ (declared_under outers gs m (module_import i))
  declaration_under outers gs m (module_export n t) = if_under (is_declarable gs m (module_export n t)) _ _ (declared_under outers gs m (module_export n t))
  declaration_under outers gs m (module_outer k i) = declared_under outers gs m (module_outer k i)

  module_under : (outers : List (List Core_entry)) (gs : List Group) (m : Module_type) (ds : List Module_decl) → module_made outers gs (under f m) ds ≡ option_map (made_under f) (module_made outers gs m ds)
  module_under outers gs m [] = refl
  module_under outers gs m (d ∷ ds) = ap (and_then rest) (declaration_under outers gs m d) ∙ go (λ s. module_under outers s.0 s.1 ds) (declaration_made outers gs m d)
    where
      rest : Made → Option Made
      rest s = module_made outers s.0 s.1 ds

      go : ((s : Made) → rest (made_under f s) ≡ option_map (made_under f) (rest s)) → (o : Option Made) → and_then rest (option_map (made_under f) o) ≡ option_map (made_under f) (and_then rest o)
      go h None = refl
      go h (Some s) = h s

-- ## Items

-- what is made of a module has no features
abbrev pub IsBlind : {X : Reader} → Maker X → Type 0
IsBlind mk = (f : WasmFeatures) (m : Module_type) → mk.build (module_node (under f m)) ≡ mk.build (module_node m)

module _ {X : Reader} (fs gs : WasmFeatures) where
  joins_free : (mk : Maker X) → IsBlind mk → (k : Core_space) (o : Option Made) → option_map (module_joins mk k) (option_map (made_under gs) o) ≡ option_map (module_joins mk k) o
  joins_free mk b k None = refl
  joins_free mk b k (Some s) = ap (λ y. Some (interns s.0 ∷ core_appends k y ∷ [])) (b gs s.1)

  made_free : (mk : Maker X) → IsBlind mk → (k : Core_space) (outers : List (List Core_entry)) (hs : List Group) (ds : List Module_decl) →
      option_map (module_joins mk k) (module_made outers hs (empty_module gs) ds) ≡ option_map (module_joins mk k) (module_made outers hs (empty_module fs) ds)
  made_free mk b k outers hs ds = ap (option_map (module_joins mk k)) (module_under gs outers hs (empty_module fs) ds) ∙ joins_free mk b k (module_made outers hs (empty_module fs) ds)

  step_free : (mk : Maker X) → IsBlind mk → (s : Stack X) (f : Form) → step gs mk s f ≡ step fs mk s f
  step_free mk b s (core_type_item (core_rec w)) = refl
  step_free mk b s (core_type_item (core_module_type ds)) = made_free mk b core_types (outer_entries s) s.groups ds
  step_free mk b s (core_module_item ds) = made_free mk b core_modules [] s.groups ds
  step_free mk b s f = refl

  pub grow_free : (mk : Maker X) → IsBlind mk → (s : Stack X) (f : Form) → grow gs mk s f ≡ grow fs mk s f
  grow_free mk b s f = ap (option_map (λ p. apply p s)) (step_free mk b s f)

  module _ (mk : Makers X) (b : (p : Place) → IsBlind (mk p)) where
    mutual
      pub type_free : (p : Place) (s : Stack X) (t : Type_form) → read_type gs mk p s t ≡ read_type fs mk p s t
      type_free p s (component_type ds) = ap (option_and_then (ended declares_component (mk p))) (decls_free p 0 (inside declares_component s) ds)
      type_free p s (instance_type ds) = ap (option_and_then (ended declares_instance (mk p))) (decls_free p 0 (inside declares_instance s) ds)
      type_free p s (defined_type d) = refl
      type_free p s (func_type f) = refl
      type_free p s (resource_type rep dtor) = refl

      decl_free : (p : Place) (s : Stack X) (d : Decl) → read_decl gs mk p s d ≡ read_decl fs mk p s d
      decl_free p s (core_type_decl t) = grow_free (mk p) (b p) s (core_type_item t)
      decl_free p s (type_decl t) = type_free p s t
      decl_free p s (alias_decl a) = refl
      decl_free p s (export_decl n r) = refl
      decl_free p s (import_decl i) = refl

      decls_free : (p : Place) (n : ℕ) (s : Stack X) (ds : Decls) → read_decls gs mk p n s ds ≡ read_decls fs mk p n s ds
      decls_free p n s no_decls = refl
      decls_free p n s (declare d ds) = λ j. option_and_then (λ t. decls_free p (suc n) t ds j) (decl_free (deeper p n) s d j)

    mutual
      pub item_free : (p : Place) (s : Stack X) (f : Form) → read_item gs mk p s f ≡ read_item fs mk p s f
      item_free p s (type_item t) = type_free p s t
      item_free p s (component_item is end) = ap (option_and_then (ended concrete (mk p))) (items_free p 0 (inside concrete s) is)
      item_free p s f = grow_free (mk p) (b p) s f

      pub items_free : (p : Place) (n : ℕ) (s : Stack X) (is : Items) → read_items gs mk p n s is ≡ read_items fs mk p n s is
      items_free p n s no_items = refl
      items_free p n s (next_item at f is) = λ j. option_and_then (λ t. items_free p (suc n) t is j) (item_free (deeper p n) s f j)

-- ## Recorded types

module _ (fs gs : WasmFeatures) (names : Names) where
  pub trees_blind : (p : Place) → IsBlind {X = tree_reader} (tree_maker names p)
  trees_blind p f m = refl

  mutual
    nested_in-free : (p : Place) (s : Tree_stack) (f : Form) → nested_in gs names p s f ≡ nested_in fs names p s f
    nested_in-free p s (component_item is end) = λ j. nested_from-free p 0 (inside concrete s) is j ++ where_read (end_type names p) (items_free fs gs (tree_maker names) trees_blind p 0 (inside concrete s) is j)
    nested_in-free p s f = refl

    nested_from-free : (w : Place) (k : ℕ) (s : Tree_stack) (is : Items) → nested_from gs names w k s is ≡ nested_from fs names w k s is
    nested_from-free w k s no_items = refl
    nested_from-free w k s (next_item at f is) = λ j. nested_in-free (deeper w k) s f j ++ where_read (λ (u : Tree_stack). nested_from-free w (suc k) u is j) (item_free fs gs (tree_maker names) trees_blind (deeper w k) s f j)

  pub recorded_free : (hs : List Group) (is : Items) → recorded_type gs names hs is ≡ recorded_type fs names hs is
  recorded_free hs is = λ j p. lookup (same_place p) (nested_from-free [] 0 (start_over hs) is j)

  mutual
    table_in-free : (p : Place) (s : Tree_stack) (f : Form) → table_in gs names p s f ≡ table_in fs names p s f
    table_in-free p s (component_item is end) = table_from-free p 0 (inside concrete s) is
    table_in-free p s f = refl

    table_from-free : (w : Place) (k : ℕ) (s : Tree_stack) (is : Items) → table_from gs names w k s is ≡ table_from fs names w k s is
    table_from-free w k s no_items = refl
    table_from-free w k s (next_item at f is) = λ j. option_map_or (λ (u : Tree_stack). table_from-free w (suc k) u is j) (item_free fs gs (tree_maker names) trees_blind (deeper w k) s f j) (table_in-free (deeper w k) s f j)

-- ## The machine

module _ (fs gs : WasmFeatures) (n : Naming) where
  values_blind : (names : Names) (p : Place) → IsBlind {X = value_reader} (value_maker names p)
  values_blind names p f m = refl

  growth_free : (names : Names) (R : Run) (p : Place) (args : Arguments) (s : Value_stack) (f : Form) → grow_values gs n names R p args s f ≡ grow_values fs n names R p args s f
  growth_free names R p args s (type_item (resource_type rep dtor)) = refl
  growth_free names R p args s (type_item (component_type ds)) = type_free fs gs (value_maker names) (values_blind names) p s (component_type ds)
  growth_free names R p args s (type_item (instance_type ds)) = type_free fs gs (value_maker names) (values_blind names) p s (instance_type ds)
  growth_free names R p args s (type_item (defined_type d)) = refl
  growth_free names R p args s (type_item (func_type t)) = refl
  growth_free names R p args s (core_type_item t) = grow_free fs gs (value_maker names p) (values_blind names p) s (core_type_item t)
  growth_free names R p args s (core_module_item ds) = grow_free fs gs (value_maker names p) (values_blind names p) s (core_module_item ds)
  growth_free names R p args s (instance_item (bag es)) = refl
  growth_free names R p args s (instance_item (instantiate c qs)) = refl
  growth_free names R p args s f = refl

  module _ (I J : Instantiating) (e : J ≡ I) where
    item_read_free : (names : Names) (R : Run) (p : Place) (args : Arguments) (s : State) (f : Form) → read_value_item gs n J names R p args s f ≡ read_value_item fs n I names R p args s f
    item_read_free names R p args s (instance_item (instantiate c qs)) = λ j. read_value_item fs n (e j) names R p args s (instance_item (instantiate c qs))
    item_read_free names R p args s (instance_item (bag es)) = refl
    item_read_free names R p args s f = ap (λ o. or_stuck (option_map (with_stack s) o)) (growth_free names R p args s.stack f)

    items_read_free : (names : Names) (R : Run) (p : Place) (k : ℕ) (args : Arguments) (s : State) (is : Items) → read_value_items gs n J names R p k args s is ≡ read_value_items fs n I names R p k args s is
    items_read_free names R p k args s no_items = refl
    items_read_free names R p k args s (next_item at f is) = λ j. after (λ t. items_read_free names R p (suc k) args t is j) (item_read_free names R (deeper p k) args s f j)

    pub read_in_free : (w : World) (R : Run) (p : Place) (is : Items) (ls : Levels) (args : Arguments) → read_in gs n J w R p is ls args ≡ read_in fs n I w R p is ls args
    read_in_free w R p is ls args = items_read_free (n.reading R.number w.readings) R p 0 args (start_in ls (record w { readings = suc w.readings })) is

  pub instantiated_free : (most : ℕ) → instantiated gs n most ≡ instantiated fs n most
  instantiated_free most = λ j w v args. go most w v args j
    where
      go : (most : ℕ) (w : World) (v : Value) (args : Arguments) → instantiated gs n most w v args ≡ instantiated fs n most w v args
      go zero w v args = refl
      go (suc most) w (closure R p is ls t) args = ap (taking_a_turn w.turns) (λ j turns. read_in_free (instantiated fs n most) (instantiated gs n most) (λ i w v args. go most w v args i) (record w { turns = turns }) R p is ls args j)
      go (suc most) w (typed t) args = refl
      go (suc most) w (an_instance i vs) args = refl

  pub linked_free : (w : World) (R : Run) (is : Items) (args : Arguments) → linked gs n w R is args ≡ linked fs n w R is args
  linked_free w R is args = read_in_free (instantiated fs n w.turns) (instantiated gs n w.turns) (instantiated_free w.turns) w R [] is no_levels args

  pub root_free : (w : World) (r : ℕ) (is : Items) (args : Arguments) → run_root gs n w r is args ≡ run_root fs n w r is args
  root_free w r is args =
      (λ j. linked gs n (record w { groups = table_from-free fs gs (n.run r) [] 0 (start_over w.groups) is j }) (record { number = r; recorded = recorded_free fs gs (n.run r) w.groups is j }) is args) ∙
      linked_free (record w { groups = table_behind fs (n.run r) w.groups is }) (run_of fs n r w.groups is) is args
