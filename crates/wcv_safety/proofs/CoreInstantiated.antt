-- Core instances of core modules: where the arguments serve a module of the context, those of the lists that agree serve the module in its
-- place, and the one instance serves as the other.
use Rattle.std.proofs.Common.{◌≡◌, ◌∙◌, ℕ, zero, suc, List, [], ◌∷◌, Bool, true, false, not, ◌&&◌, cond, Option, Some, None, refl, sym, ap, subst, append-nil, bytes_eq}
use Rattle.std.specs.Prelude.{All}
use Rattle.std.specs.List.{list_all}
use Rattle.std.specs.Map.{lookup}
use Rattle.std.specs.Option.{option_map, option_map_or}
use Rattle.std.proofs.lemmas.List.Elements.{All-nil, All-cons}
use Rattle.std.proofs.lemmas.Map.Views.{Contains-from_lookup}
use Rattle.wcv_core.specs.CoreForm.{Group}
use Rattle.wcv_core.specs.CoreGroups.{total}
use Rattle.wcv_core.specs.CoreSizes.{IsEntityWithin}
use Rattle.wcv_core.specs.Names.{Name, Place}
use Rattle.wcv_core.specs.declared.core_types.EntityType.{EntityType}
use Rattle.wcv_closed.specs.ClosedMatching.{SupersKeepForm}
use Rattle.wcv_closed.specs.ClosedTable.{IsTable}
use Rattle.wcv_closed.specs.CoreModules.{ModuleMatches, AllServed, EachArgument}
use Rattle.wcv_closed.proofs.ModuleMatching.{same_text, same_names}
use Rattle.wcv_syntax.specs.Model.{core_instantiate}
use Rattle.wcv_syntax.specs.ModuleTypes.{Core_import, Core_export}
use Rattle.wcv_syntax.specs.declared.core_section.InstantiationArg.{InstantiationArg}
use Rattle.wcv_types.specs.Tree.{Text, Sort, is_module, is_core_instance, sort, parts}
use Rattle.wcv_types.specs.Unfold.{Type_tree}
use Rattle.wcv_types.proofs.Lists.{some-inj}
use Rattle.wcv_matching.specs.Matching.{MatchBelow, MatchAs}
use Rattle.wcv_matching.specs.ModuleItems.{ItemsMatch, core_exports_in, module_items}
use Rattle.wcv_matching.proofs.MatchingOrder.{Goes_on}
use Rattle.wcv_matching.proofs.TableMatching.{items_go_on}
use Rattle.wcv_lower.specs.Checks.{is_none}
use Rattle.wcv_lower.specs.Context.{core_modules, core_instances}
use Rattle.wcv_lower.specs.CoreInstances.{core_module_at, core_instance_at, exported_by, offered, all_served, listed_size, module_instance, core_instance_made, instance_joins, core_instance_step}
use Rattle.wcv_lower.specs.Names.{Names, introduced}
use Rattle.wcv_lower.specs.Step.{Step, apply}
use Rattle.wcv_lower.specs.Trees.{Tree_stack, tree_reader, tree_maker, of_module}
use Rattle.wcv_lower.proofs.Served.{served_told}
use Rattle.wcv_growth.proofs.Known.{mapped-some, all-get}
use Rattle.wcv_world.specs.Growth.{are_served}
use Rattle.wcv_world.specs.Reading.{Value_stack, value_reader, value_maker}
use Rattle.wcv_world.specs.Values.{Value, typed, type_over}
use Rattle.wcv_safety.specs.Agreeing.{Agrees, AgreesAs, AgreeReadings}
use Rattle.wcv_safety.specs.Fitting.{Fits}
use Rattle.wcv_safety.specs.Standing.{BothStand, CoreArgumentsServe}
use Rattle.wcv_safety.proofs.Agreeing.{core-appends-agree, quiet-follows}
use Rattle.wcv_safety.proofs.Lists.{zip-get}
use Rattle.wcv_safety.proofs.Tests.{if-some}

-- a core module that fits another matches it
module _ (gs : List Group) (g : Name → Name) (a b : Type_tree) where
  module-below : (d : ℕ) → sort b ≡ is_module → MatchBelow (ItemsMatch gs) d Name (λ r. r) g a b → ModuleMatches (ItemsMatch gs) (module_items a) (module_items b)
  module-below zero e m = absurd m
  module-below (suc d) e m = subst (λ (k : Sort). MatchAs (ItemsMatch gs) (MatchBelow (ItemsMatch gs) d) k Name (λ r. r) g a b) (m.0 ∙ e) m.1

  pub module-matches : sort b ≡ is_module → Fits gs g a b → ModuleMatches (ItemsMatch gs) (module_items a) (module_items b)
  module-matches e m = module-below m.0 e m.1

-- what the one list exports, the other exports too, as an item that matches
abbrev ServesList : List Group → List Core_export → List Core_export → Type 0
ServesList gs xs es = (n : Text) (e : EntityType) → lookup (bytes_eq n) es ≡ Some e → (x : EntityType) × (lookup (bytes_eq n) xs ≡ Some x) × ItemsMatch gs x e

-- an instance of a module exports what the module does
instance-serves : (gs : List Group) (i j : Name) (m n : ℕ) (a b : Type_tree) → ModuleMatches (ItemsMatch gs) (module_items a) (module_items b) → ServesList gs (tree_reader.core_exports (of_module i m a)) (tree_reader.core_exports (of_module j n b))
instance-serves gs i j m n a b w k e q =
    let f = w.exports k e (Contains-from_lookup same_text k e (core_exports_in (parts b)) (ap (lookup (bytes_eq k)) (sym (append-nil (core_exports_in (parts b)))) ∙ q)) in
    (f.0, ap (lookup (bytes_eq k)) (append-nil (core_exports_in (parts a))) ∙ f.1, f.2)

module _ (g : Name → Name) (v : Value_stack) (s : Tree_stack) (table : IsTable v.groups) (supers : SupersKeepForm v.groups) (h : BothStand v s) (a : AgreeReadings g v s) where
  -- ## What arguments offer

  one-serves : (i : ℕ) → ServesList v.groups (exported_by value_reader (core_instance_at v.top i)) (exported_by tree_reader (core_instance_at s.top i))
  one-serves i = go (core_instance_at s.top i) refl
    where
      go : (o : Option Type_tree) → core_instance_at s.top i ≡ o → ServesList v.groups (exported_by value_reader (core_instance_at v.top i)) (exported_by tree_reader o)
      go None q = λ n e k. absurd (cc)
      go (Some t) q =
          let z = zip-get (Agrees v.groups g) (v.top.core core_instances) (s.top.core core_instances) i t (a.stacks.all.0.core core_instances) q in
          let k : sort t ≡ is_core_instance = all-get (λ (x : Type_tree). sort x ≡ is_core_instance) (s.top.core core_instances) i t (h.types.core_sorted core_instances) q in
          let f : AgreesAs is_core_instance v.groups g (type_over z.0) t = subst (λ (l : Sort). AgreesAs l v.groups g (type_over z.0) t) k z.2 in
          subst (λ (o : Option Value). ServesList v.groups (exported_by value_reader o) (tree_reader.core_exports t)) (sym z.1) f.1

  offered-found : (n : Text) (args : List InstantiationArg) (es : List Core_export) → lookup (bytes_eq n) (offered s.top args) ≡ Some es → (xs : List Core_export) × (lookup (bytes_eq n) (offered v.top args) ≡ Some xs) × ServesList v.groups xs es
  offered-found n [] es q = absurd (cc)
  offered-found n (x ∷ args) es q = go (bytes_eq n x.name) q (offered-found n args es)
    where
      go : (b : Bool) → cond b (Some (exported_by tree_reader (core_instance_at s.top x.index))) (lookup (bytes_eq n) (offered s.top args)) ≡ Some es →
          (lookup (bytes_eq n) (offered s.top args) ≡ Some es → (xs : List Core_export) × (lookup (bytes_eq n) (offered v.top args) ≡ Some xs) × ServesList v.groups xs es) →
          (xs : List Core_export) × (cond b (Some (exported_by value_reader (core_instance_at v.top x.index))) (lookup (bytes_eq n) (offered v.top args)) ≡ Some xs) × ServesList v.groups xs es
      go true q later = (exported_by value_reader (core_instance_at v.top x.index), refl, subst (λ (ys : List Core_export). ServesList v.groups (exported_by value_reader (core_instance_at v.top x.index)) ys) (some-inj q) (one-serves x.index))
      go false q later = later q

  abbrev Within : EntityType → Type 0
  Within e = IsEntityWithin (total v.groups) e

  one-within : (i : ℕ) → All (λ (e : Core_export). Within e.1) (exported_by value_reader (core_instance_at v.top i))
  one-within i = go (core_instance_at v.top i) refl
    where
      go : (o : Option Value) → core_instance_at v.top i ≡ o → All (λ (e : Core_export). Within e.1) (exported_by value_reader o)
      go None q = All-nil (λ (e : Core_export). Within e.1)
      go (Some x) q = all-get (λ (x : Value). All (λ (e : Core_export). Within e.1) (tree_reader.core_exports (type_over x))) (v.top.core core_instances) i x h.values.offered q

  offered-within : (args : List InstantiationArg) → EachArgument Within (offered v.top args)
  offered-within [] = All-nil (λ (y : Text × List Core_export). All (λ (e : Core_export). Within e.1) y.1)
  offered-within (x ∷ args) = All-cons (λ (y : Text × List Core_export). All (λ (e : Core_export). Within e.1) y.1) (x.name, exported_by value_reader (core_instance_at v.top x.index)) (offered v.top args) (one-within x.index) (offered-within args)

  on : Goes_on (ItemsMatch v.groups)
  on = items_go_on v.groups table supers

  -- the arguments serve the module in the place of the one that they serve there
  served-over : (args : List InstantiationArg) (x : Value) (m : Type_tree) → ModuleMatches (ItemsMatch v.groups) (module_items (type_over x)) (module_items m) → AllServed (ItemsMatch v.groups) (offered s.top args) (tree_reader.core_imports m) →
      AllServed (ItemsMatch v.groups) (offered v.top args) (value_reader.core_imports x)
  served-over args x m w f i item c =
      let y = w.imports i item c in
      let z = f i y.0 (Contains-from_lookup same_names i y.0 (tree_reader.core_imports m) y.1) in
      let o = offered-found i.0 args z.0 z.1 in
      let u = o.2 i.1 z.2.0 z.2.1 in
      (o.0, o.1, (u.0, u.1, on u.0 z.2.0 item u.2 (on z.2.0 y.0 item z.2.2 y.2)))

  -- ## The step

  all-there : (args : List InstantiationArg) → list_all (λ (x : InstantiationArg). not (is_none (core_instance_at s.top x.index))) args ≡ true → list_all (λ (x : InstantiationArg). not (is_none (core_instance_at v.top x.index))) args ≡ true
  all-there [] e = refl
  all-there (x ∷ args) e = go (core_instance_at s.top x.index) refl e (all-there args)
    where
      go : (o : Option Type_tree) → core_instance_at s.top x.index ≡ o → (not (is_none o) && list_all (λ (x : InstantiationArg). not (is_none (core_instance_at s.top x.index))) args) ≡ true →
          (list_all (λ (x : InstantiationArg). not (is_none (core_instance_at s.top x.index))) args ≡ true → list_all (λ (x : InstantiationArg). not (is_none (core_instance_at v.top x.index))) args ≡ true) →
          (not (is_none (core_instance_at v.top x.index)) && list_all (λ (x : InstantiationArg). not (is_none (core_instance_at v.top x.index))) args) ≡ true
      go None q e later = cc
      go (Some t) q e later =
          let z = zip-get (Agrees v.groups g) (v.top.core core_instances) (s.top.core core_instances) x.index t (a.stacks.all.0.core core_instances) q in
          ap (λ (o : Option Value). not (is_none o) && list_all (λ (x : InstantiationArg). not (is_none (core_instance_at v.top x.index))) args) z.1 ∙ later e

  pub core-instance-follows : (names other : Names) (p q : Place) (i : ℕ) (args : List InstantiationArg) (y : Step tree_reader) → CoreArgumentsServe v.groups s.top i args → core_instance_step (tree_maker names p) s (core_instantiate i args) ≡ Some y →
      (are_served v (core_instantiate i args) ≡ true) × ((x : Step value_reader) × (core_instance_step (value_maker other q) v (core_instantiate i args) ≡ Some x) × AgreeReadings g (apply x v) (apply y s))
  core-instance-follows names other p q i args y serve e =
      let m = mapped-some (instance_joins (tree_maker names p)) (core_instance_made s (core_instantiate i args)) y e in
      let b = if-some (list_all (λ (x : InstantiationArg). not (is_none (core_instance_at s.top x.index))) args) (option_map (module_instance tree_reader s.groups) (core_module_at s.top i)) m.0 m.1 in
      let t = mapped-some (module_instance tree_reader s.groups) (core_module_at s.top i) m.0 b.1 in
      let z = zip-get (Agrees v.groups g) (v.top.core core_modules) (s.top.core core_modules) i t.0 (a.stacks.all.0.core core_modules) t.1 in
      let k : sort t.0 ≡ is_module = all-get (λ (x : Type_tree). sort x ≡ is_module) (s.top.core core_modules) i t.0 (h.types.core_sorted core_modules) t.1 in
      let f : Fits v.groups g (type_over z.0) t.0 = subst (λ (l : Sort). AgreesAs l v.groups g (type_over z.0) t.0) k z.2 in
      let w : ModuleMatches (ItemsMatch v.groups) (module_items (type_over z.0)) (module_items t.0) = module-matches v.groups g (type_over z.0) t.0 k f in
      let served : all_served v.groups (offered v.top args) (value_reader.core_imports z.0) ≡ true =
      (served_told v.groups (offered v.top args) (value_reader.core_imports z.0) table (offered-within args)
      (all-get (λ (x : Value). All (λ (j : Core_import). Within j.1) (tree_reader.core_imports (type_over x))) (v.top.core core_modules) i z.0 h.values.asked z.1)).1 (served-over args z.0 t.0 w (serve t.0 t.1)) in
      let sv : ℕ = listed_size v.groups (value_reader.core_exports z.0) in
      let st : ℕ = listed_size s.groups (tree_reader.core_exports t.0) in
      let one : Step value_reader = instance_joins (value_maker other q) (module_instance value_reader v.groups z.0) in
      let two : Step tree_reader = instance_joins (tree_maker names p) (module_instance tree_reader s.groups t.0) in (
        ap (λ (o : Option Value). option_map_or (λ x. all_served v.groups (offered v.top args) (value_reader.core_imports x)) o true) z.1 ∙ served,
        (
          one,
          ap (λ (c : Bool). option_map (instance_joins (value_maker other q)) (cond c (option_map (module_instance value_reader v.groups) (core_module_at v.top i)) None)) (all-there args b.0)
              ∙ ap (λ (o : Option Value). option_map (instance_joins (value_maker other q)) (option_map (module_instance value_reader v.groups) o)) z.1,
          subst (λ (p : Step tree_reader). AgreeReadings g (apply one v) (apply p s)) (ap (instance_joins (tree_maker names p)) t.2 ∙ m.2)
              (quiet-follows g v s one two a (tt, tt) (tt, tt)
              (core-appends-agree v.top.defined g core_instances v s (typed (of_module (other.identity (introduced q)) sv (type_over z.0))) (of_module (names.identity (introduced p)) st t.0) a.stacks
              (refl, instance-serves v.groups (other.identity (introduced q)) (names.identity (introduced p)) sv st (type_over z.0) t.0 w)
              (λ c. absurd (cc)))),
        ),
      )
