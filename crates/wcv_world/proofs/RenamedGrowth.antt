-- What an item appends to renamed lists of values, by renamed names, is what it appends, renamed.
use Rattle.std.proofs.Common.{◌≡◌, ◌∙◌, ℕ, List, [], ◌∷◌, map, length, refl, ap, Bool, true, false, cond, Option, Some, None}
use Rattle.std.specs.Prelude.{bytes_eq}
use Rattle.std.specs.Map.{lookup}
use Rattle.std.specs.Option.{option_map, option_and_then, option_map_or}
use Rattle.wcv_core.specs.CoreForm.{Group}
use Rattle.wcv_core.specs.Names.{Name, Place, base}
use Rattle.wcv_core.specs.declared.features.WasmFeatures.{WasmFeatures}
use Rattle.wcv_syntax.specs.Model.{Form, core_instance_item, type_item, import_item, export_item, component_item, instance_item, Core_instance_form, core_instantiate, core_bag, defined_type, func_type, component_type, instance_type, resource_type, instantiate, bag, Items}
use Rattle.wcv_syntax.specs.declared.core_section.InstantiationArg.{InstantiationArg}
use Rattle.wcv_syntax.specs.declared.name.ComponentExport.{ComponentExport}
use Rattle.wcv_syntax.specs.declared.name.ComponentImport.{ComponentImport}
use Rattle.wcv_types.specs.Tree as tree
use Rattle.wcv_types.specs.Tree.{Text, plain_name}
use Rattle.wcv_types.specs.Unfold.{Type_tree}
use Rattle.wcv_types.proofs.Each.{length-mapped}
use Rattle.wcv_lower.specs.Context.{core_instances, core_modules, in_components, importing, exporting, placed}
use Rattle.wcv_lower.specs.CoreInstances.{all_served, offered, core_instance_at, core_module_at, exported_by}
use Rattle.wcv_lower.specs.Declared.{applied}
use Rattle.wcv_lower.specs.Entries.{extern_name, exported_at, written}
use Rattle.wcv_lower.specs.Growth.{grow}
use Rattle.wcv_lower.specs.Mapped.{map_brought, map_context, map_paths, map_stack, map_step}
use Rattle.wcv_lower.specs.Names.{Names, Under, AreRenamed}
use Rattle.wcv_lower.specs.Readers.{Brought, component_node}
use Rattle.wcv_lower.specs.Renamed.{Renaming}
use Rattle.wcv_lower.specs.Step.{Step, appends, apply, bare}
use Rattle.wcv_lower.specs.Trees.{tree_reader}
use Rattle.wcv_lower.specs.Uses.{ref_uses}
use Rattle.wcv_lower.proofs.EntryLaws.{entering, items-mapped, written-mapped}
use Rattle.wcv_lower.proofs.MadeRenamed.{node_tree-renamed}
use Rattle.wcv_lower.proofs.Mapping.{apply-mapped, get-mapped, mapped-square}
use Rattle.wcv_lower.proofs.Renamed.{renaming_commutes}
use Rattle.wcv_world.specs.Growth.{Arguments, importing_alone, fits_written, if_fits, argument_for, import_step, export_step, named_alone, levels_of, closure_joins, closure_step, are_served, grow_values}
use Rattle.wcv_world.specs.Naming.{Naming}
use Rattle.wcv_world.specs.Reading.{Value_context, Value_stack, value_reader, value_maker, token_maker}
use Rattle.wcv_world.specs.Renamed.{Renames, rename_type, rename_run, rename_value, rename_values, rename_levels, value_renaming, rename_arguments}
use Rattle.wcv_world.specs.Values.{Run, Value, closure, value, level, type_over, unnamed}
use Rattle.wcv_world.proofs.RenamedMade.{anything, values_made, values-grow, token-grows, types-grow}
use Rattle.wcv_world.proofs.RenamedValues.{over, values-follow}

module _ (w : Renaming) where
  abbrev pub to : Value_stack → Value_stack
  to s = map_stack (value_renaming w) s

  -- ## Imports

  placed-renamed : (k : ℕ) (rs : List (Name × List ℕ)) → placed k (map_paths w.resources.to rs) ≡ map_paths w.resources.to (placed k rs)
  placed-renamed k [] = refl
  placed-renamed k (r ∷ rs) = ap (λ xs. (w.resources.to r.0, k ∷ r.1) ∷ xs) (placed-renamed k rs)

  fits-renamed : (gs : List Group) (v : Value) (b : Brought value_reader) → fits_written gs (rename_value w v) (map_brought (value_renaming w) b) ≡ fits_written gs v b
  fits-renamed gs v b =
      (λ j. tree_reader.opens gs (([], over w v j) ∷ []) (tree.component_type (w.identities.to (base [])) (placed-renamed 0 b.resources j) [] ((plain_name [], over w b.entity j) ∷ []) [])) ∙
      ap (tree_reader.opens gs (([], rename_type w (type_over v)) ∷ [])) (node_tree-renamed w (base []) (component_node (placed 0 b.resources) [] ((plain_name [], type_over b.entity) ∷ []) [])) ∙
      (renaming_commutes w).opens gs (([], type_over v) ∷ []) (importing_alone b)

  if_fits-renamed : (gs : List Group) (v : Value) (b : Brought value_reader) → if_fits gs (rename_value w v) (map_brought (value_renaming w) b) ≡ option_map (map_brought (value_renaming w)) (if_fits gs v b)
  if_fits-renamed gs v b = ap (λ (x : Bool). cond x (Some (bare value_reader (rename_value w v))) None) (fits-renamed gs v b) ∙ go (fits_written gs v b)
    where
      go : (x : Bool) → cond x (Some (bare value_reader (rename_value w v))) None ≡ option_map (map_brought (value_renaming w)) (cond x (Some (bare value_reader v)) None)
      go true = refl
      go false = refl

  named-renamed : (n : Text) (args : Arguments) → lookup (bytes_eq n) (rename_arguments w args) ≡ option_map (rename_value w) (lookup (bytes_eq n) args)
  named-renamed n [] = refl
  named-renamed n (a ∷ rest) = ap (cond (bytes_eq n a.0) (Some (rename_value w a.1))) (named-renamed n rest) ∙ go (bytes_eq n a.0) (lookup (bytes_eq n) rest)
    where
      go : (b : Bool) (o : Option Value) → cond b (Some (rename_value w a.1)) (option_map (rename_value w) o) ≡ option_map (rename_value w) (cond b (Some a.1) o)
      go true o = refl
      go false o = refl

  then-renamed : {A B C D : Type 0} (f : A → Option B) (g : C → Option D) (u : A → C) (v : B → D) (o : Option A) → ((x : A) → g (u x) ≡ option_map v (f x)) → option_and_then g (option_map u o) ≡ option_map v (option_and_then f o)
  then-renamed f g u v None h = refl
  then-renamed f g u v (Some x) h = h x

  -- ## Components

  unnamed-renamed : (vs : List Value) → unnamed (map (rename_value w) vs) ≡ rename_values w (unnamed vs)
  unnamed-renamed [] = refl
  unnamed-renamed (v ∷ vs) = ap (value (plain_name []) (rename_value w v)) (unnamed-renamed vs)

  levels-renamed : (cs : List Value_context) → levels_of (map (map_context (value_renaming w)) cs) ≡ rename_levels w (levels_of cs)
  levels-renamed [] = refl
  levels-renamed (c ∷ cs) = λ j. level (λ k. unnamed-renamed (c.space k) j) (λ k. unnamed-renamed (c.core k) j) (levels-renamed cs j)

  closure-renamed : (R : Run) (p : Place) (is : Items) (s : Value_stack) → closure_step (rename_run w R) p is (to s) ≡ option_map (map_step (value_renaming w)) (closure_step R p is s)
  closure-renamed R p is s = mapped-square (rename_type w) (closure_joins (rename_run w R) p is (to s)) (closure_joins R p is s) (map_step (value_renaming w)) joins (R.recorded p)
    where
      joins : (t : Type_tree) → closure_joins (rename_run w R) p is (to s) (rename_type w t) ≡ map_step (value_renaming w) (closure_joins R p is s t)
      joins t = λ j. appends in_components (closure (rename_run w R) p is (levels-renamed (s.top ∷ s.outer) j) (rename_type w t)) ∷ []

  -- ## Core instances

  exported_by-renamed : (o : Option Value) → exported_by value_reader (option_map (rename_value w) o) ≡ exported_by value_reader o
  exported_by-renamed None = refl
  exported_by-renamed (Some v) = (values-follow w).core_exports v

  offered-renamed : (c : Value_context) (args : List InstantiationArg) → offered (map_context (value_renaming w) c) args ≡ offered c args
  offered-renamed c [] = refl
  offered-renamed c (a ∷ args) = λ j. (a.name, (ap (exported_by value_reader) (get-mapped (value_renaming w) (values-follow w) (c.core core_instances) a.index) ∙ exported_by-renamed (core_instance_at c a.index)) j) ∷ offered-renamed c args j

  served-renamed : (s : Value_stack) (i : Core_instance_form) → are_served (to s) i ≡ are_served s i
  served-renamed s (core_bag es) = refl
  served-renamed s (core_instantiate i args) =
      (λ j. option_map_or (λ m. all_served s.groups (offered-renamed s.top args j) (value_reader.core_imports m)) (get-mapped (value_renaming w) (values-follow w) (s.top.core core_modules) i j) true) ∙ go (core_module_at s.top i)
    where
      go : (o : Option Value) → option_map_or (λ m. all_served s.groups (offered s.top args) (value_reader.core_imports m)) (option_map (rename_value w) o) true ≡ option_map_or (λ m. all_served s.groups (offered s.top args) (value_reader.core_imports m)) o true
      go None = refl
      go (Some m) = ap (all_served s.groups (offered s.top args)) ((values-follow w).core_imports m)

  -- ## Items

  applied-renamed : (s : Value_stack) (o q : Option (Step value_reader)) → q ≡ option_map (map_step (value_renaming w)) o → applied (to s) q ≡ option_map to (applied s o)
  applied-renamed s o q e = ap (applied (to s)) e ∙ mapped-square (map_step (value_renaming w)) (λ p. apply p (to s)) (λ p. apply p s) to (λ p. apply-mapped (value_renaming w) (values-follow w) p s) o

  if-renamed : (b : Bool) (o q : Option Value_stack) → q ≡ option_map to o → cond b q None ≡ option_map to (cond b o None)
  if-renamed true o q e = e
  if-renamed false o q e = refl

  bare-renamed : (o : Option Value) → option_map (bare value_reader) (option_map (rename_value w) o) ≡ option_map (map_brought (value_renaming w)) (option_map (bare value_reader) o)
  bare-renamed None = refl
  bare-renamed (Some v) = refl

  module _ (fs : WasmFeatures) (n m : Naming) (r : Renames w n m) (a b : Names) (h : AreRenamed (λ p. Unit {0}) w.resources.to w.identities.to a b) (R : Run) (args : Arguments) where
    here : (p : Place) → AreRenamed (Under p) w.resources.to w.identities.to a b
    here p = record { resource = λ o u. h.resource o tt; identity = λ o u. h.identity o tt }

    import-renamed : (p : Place) (s : Value_stack) (i : ComponentImport) → import_step (value_maker b p) (to s) (rename_arguments w args) i ≡ option_map (map_step (value_renaming w)) (import_step (value_maker a p) s args i)
    import-renamed p s i =
        entering (value_renaming w) (values-follow w) importing (extern_name i.name) s.top (argument_for (value_maker a p) s args i) _
        (ap (option_and_then (λ y. option_and_then (λ v. if_fits s.groups v y) (lookup (bytes_eq i.name.name) (rename_arguments w args))))
        (written-mapped (value_renaming w) (values-follow w) (value_maker a p) (value_maker b p) s.top (anything w s.top) i.ty (values_made w a b p (here p) (ref_uses s.top i.ty))) ∙
        then-renamed (λ y. option_and_then (λ v. if_fits s.groups v y) (lookup (bytes_eq i.name.name) args)) (λ y. option_and_then (λ v. if_fits s.groups v y) (lookup (bytes_eq i.name.name) (rename_arguments w args)))
        (map_brought (value_renaming w)) (map_brought (value_renaming w)) (written (value_maker a p) s.top i.ty)
        (λ y. ap (option_and_then (λ v. if_fits s.groups v (map_brought (value_renaming w) y))) (named-renamed i.name.name args) ∙
        then-renamed (λ v. if_fits s.groups v y) (λ v. if_fits s.groups v (map_brought (value_renaming w) y)) (rename_value w) (map_brought (value_renaming w)) (lookup (bytes_eq i.name.name) args) (λ v. if_fits-renamed s.groups v y)))
        (λ y e. tt)

    export-renamed : (s : Value_stack) (e : ComponentExport) → export_step (to s).top e ≡ option_map (map_step (value_renaming w)) (export_step s.top e)
    export-renamed s e =
        entering (value_renaming w) (values-follow w) exporting (plain_name e.name.name) s.top (option_map (bare value_reader) (exported_at s.top e)) _
        (ap (option_map (bare value_reader)) (items-mapped (value_renaming w) (values-follow w) s.top e.kind e.index) ∙ bare-renamed (exported_at s.top e))
        (λ y e. tt)

    pub growth-renamed : (p : Place) (s : Value_stack) (f : Form) → grow_values fs m b (rename_run w R) p (rename_arguments w args) (to s) f ≡ option_map to (grow_values fs n a R p args s f)
    growth-renamed p s (type_item (resource_type rep dtor)) =
        ap (λ k. grow fs (token_maker b (m.token k) p) (to s) (type_item (resource_type rep dtor))) (length-mapped _ s.top.defined) ∙
        token-grows w fs a b here (n.token (length s.top.defined)) (m.token (length s.top.defined)) (r.token (length s.top.defined)) p s (type_item (resource_type rep dtor))
    growth-renamed p s (type_item (component_type ds)) = types-grow w fs a b here p s (component_type ds)
    growth-renamed p s (type_item (instance_type ds)) = types-grow w fs a b here p s (instance_type ds)
    growth-renamed p s (type_item (defined_type d)) = types-grow w fs a b here p s (defined_type d)
    growth-renamed p s (type_item (func_type f)) = types-grow w fs a b here p s (func_type f)
    growth-renamed p s (import_item i) = applied-renamed s (import_step (value_maker a p) s args i) _ (import-renamed p s i)
    growth-renamed p s (export_item e) = applied-renamed s (export_step s.top e) _ (export-renamed s e)
    growth-renamed p s (component_item is end) = applied-renamed s (closure_step R p is s) _ (closure-renamed R p is s)
    growth-renamed p s (core_instance_item i) =
        ap (λ (x : Bool). cond x (grow fs (value_maker b p) (to s) (core_instance_item i)) None) (served-renamed s i) ∙
        if-renamed (are_served s i) (grow fs (value_maker a p) s (core_instance_item i)) _ (values-grow w fs a b here p s (core_instance_item i))
    growth-renamed p s (instance_item (bag es)) = values-grow w fs a b here p s (instance_item (bag (map named_alone es)))
    growth-renamed p s (instance_item (instantiate c qs)) = refl
    growth-renamed p s f = values-grow w fs a b here p s f
