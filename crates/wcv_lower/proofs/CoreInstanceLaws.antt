-- Core instances and aliases of what they export, under a map of entries; where there is no cause, they do something.
use Rattle.std.proofs.Common.{◌≡◌, ℕ, List, [], ◌∷◌, ◌++◌, map, refl, sym, ◌∙◌, ap, Bool, true, false, cond, not, ◌&&◌, bytes_eq, Some, None}
use Rattle.std.specs.Prelude.{Option}
use Rattle.std.specs.List.{list_all}
use Rattle.std.specs.Map.{lookup}
use Rattle.std.specs.Option.{option_map, option_and_then}
use Rattle.std.proofs.lemmas.Bool.{false≢true}
use Rattle.wcv_core.specs.Checks.{all_checks}
use Rattle.wcv_core.specs.CoreForm.{Group}
use Rattle.wcv_core.specs.Limits.{max_size}
use Rattle.wcv_core.specs.declared.core_types.EntityType.{EntityType}
use Rattle.wcv_core.specs.declared.error.ErrorKind.TheVariants as error
use Rattle.wcv_core.specs.declared.features.WasmFeatures.{WasmFeatures}
use Rattle.wcv_syntax.specs.Model.{Core_instance_form, core_instantiate, core_bag}
use Rattle.wcv_syntax.specs.ModuleTypes.{Core_export}
use Rattle.wcv_syntax.specs.declared.core_section.Export.{Export}
use Rattle.wcv_syntax.specs.declared.core_section.ExternalKind.{ExternalKind}
use Rattle.wcv_syntax.specs.declared.core_section.InstantiationArg.{InstantiationArg}
use Rattle.wcv_types.specs.Tree.{Text, is_instance}
use Rattle.wcv_matching.specs.ModuleItems.{before}
use Rattle.wcv_lower.specs.Checks.{Checks, IsFree, too_many, is_none, missing, has_repeat, if_found, no_room}
use Rattle.wcv_lower.specs.Context.{Context, Stack, core_modules, core_instances, is_concrete, counts}
use Rattle.wcv_lower.specs.CoreInstances.{space_of, is_of, sort_needs, no_item_room, core_module_at, core_instance_at, core_item_at, exported_by, offered, all_served, is_no_item, item_listed, items_listed, listed_size, listed_checks, module_instance, core_instance_made, instance_joins, core_instance_step, unserved, arg_names, listed_names, core_instance_checks, core_export_of, if_of, item_joins, core_alias_step, export_checks, core_alias_checks}
use Rattle.wcv_lower.specs.Mapped.{Map, Commutes, MakesSame, map_context, map_stack, map_node, map_step}
use Rattle.wcv_lower.specs.Readers.{Reader, Maker, New_node, core_instance_node, core_exports_node}
use Rattle.wcv_lower.specs.Step.{Step, core_appends}
use Rattle.wcv_lower.specs.Uses.{core_instance_uses}
use Rattle.wcv_lower.proofs.Causes.{free_left, free_right}
use Rattle.wcv_lower.proofs.EndingLaws.{none-mapped}
use Rattle.wcv_lower.proofs.Mapping.{missing-mapped, get-mapped, counts-mapped}
use Rattle.wcv_lower.proofs.ValueLaws.{mapped, not-false}

-- the nodes, with the kind of entry named
abbrev of_module : (X : Reader) → ℕ → X.Entry → New_node X
of_module X n x = core_instance_node n x

abbrev of_items : (X : Reader) → ℕ → List Core_export → New_node X
of_items X n es = core_exports_node n es

module _ {X Y : Reader} (m : Map X Y) {Known : X.Entry → Type 0} (law : Commutes m Known) where
  -- ## What stands at an index

  instance_at-mapped : (c : Context X) (i : ℕ) → core_instance_at (map_context m c) i ≡ option_map m.entry (core_instance_at c i)
  instance_at-mapped c i = get-mapped m law (c.core core_instances) i

  module_at-mapped : (c : Context X) (i : ℕ) → core_module_at (map_context m c) i ≡ option_map m.entry (core_module_at c i)
  module_at-mapped c i = get-mapped m law (c.core core_modules) i

  pub item_at-mapped : (c : Context X) (k : ExternalKind) (i : ℕ) → core_item_at (map_context m c) k i ≡ option_map m.entry (core_item_at c k i)
  item_at-mapped c k i = get-mapped m law (c.core (space_of k)) i

  instance_missing-mapped : (c : Context X) (i : ℕ) → missing (core_instance_at (map_context m c) i) ≡ missing (core_instance_at c i)
  instance_missing-mapped c i = ap missing (instance_at-mapped c i) ∙ missing-mapped m.entry (core_instance_at c i)

  instance_none-mapped : (c : Context X) (i : ℕ) → is_none (core_instance_at (map_context m c) i) ≡ is_none (core_instance_at c i)
  instance_none-mapped c i = ap is_none (instance_at-mapped c i) ∙ none-mapped m.entry (core_instance_at c i)

  -- ## Arguments

  exported_by-mapped : (o : Option X.Entry) → exported_by Y (option_map m.entry o) ≡ exported_by X o
  exported_by-mapped None = refl
  exported_by-mapped (Some x) = law.core_exports x

  exports_at-mapped : (c : Context X) (i : ℕ) → exported_by Y (core_instance_at (map_context m c) i) ≡ exported_by X (core_instance_at c i)
  exports_at-mapped c i = ap (exported_by Y) (instance_at-mapped c i) ∙ exported_by-mapped (core_instance_at c i)

  offered-mapped : (c : Context X) (args : List InstantiationArg) → offered (map_context m c) args ≡ offered c args
  offered-mapped c args = λ j. map (λ (a : InstantiationArg). (a.name, exports_at-mapped c a.index j)) args

  unserved-mapped : (s : Stack X) (args : List InstantiationArg) (o : Option X.Entry) → if_found (unserved (map_stack m s) args) (option_map m.entry o) ≡ if_found (unserved s args) o
  unserved-mapped s args None = refl
  unserved-mapped s args (Some x) = λ j. (error.Mismatch, not (all_served s.groups (offered-mapped s.top args j) (law.core_imports x j))) ∷ []

  -- ## Items that are listed

  pub item_found-mapped : (o : Option X.Entry) → option_and_then Y.item (option_map m.entry o) ≡ option_and_then X.item o
  item_found-mapped None = refl
  item_found-mapped (Some x) = law.item x

  item_listed-mapped : (c : Context X) (e : Export) → item_listed (map_context m c) e ≡ item_listed c e
  item_listed-mapped c e = ap (option_and_then Y.item) (item_at-mapped c e.kind e.index) ∙ item_found-mapped (core_item_at c e.kind e.index)

  items_listed-mapped : (c : Context X) (es : List Export) → items_listed (map_context m c) es ≡ items_listed c es
  items_listed-mapped c [] = refl
  items_listed-mapped c (e ∷ es) = λ j. before e.name (item_listed-mapped c e j) (items_listed-mapped c es j)

  no_item-mapped : (o : Option X.Entry) → is_no_item Y (option_map m.entry o) ≡ is_no_item X o
  no_item-mapped None = refl
  no_item-mapped (Some x) = ap is_none (law.item x)

  listed_checks-mapped : (fs : WasmFeatures) (c : Context X) (e : Export) → listed_checks fs (map_context m c) e ≡ listed_checks fs c e
  listed_checks-mapped fs c e =
      let o : Option X.Entry = core_item_at c e.kind e.index in
      let p : Option Y.Entry = core_item_at (map_context m c) e.kind e.index in
      let looked : missing p ≡ missing o = ap missing (item_at-mapped c e.kind e.index) ∙ missing-mapped m.entry o in
      let item : is_no_item Y p ≡ is_no_item X o = ap (is_no_item Y) (item_at-mapped c e.kind e.index) ∙ no_item-mapped o in
      λ j. sort_needs fs e.kind ++ (looked j ++ (error.WrongSort, item j) ∷ [])

  -- ## Core instances

  instantiated-mapped : (gs : List Group) (b : Bool) (o : Option X.Entry) → cond b (option_map (module_instance Y gs) (option_map m.entry o)) None ≡ option_map (map_node m) (cond b (option_map (module_instance X gs) o) None)
  instantiated-mapped gs true None = refl
  instantiated-mapped gs true (Some x) = ap (λ (es : List Core_export). Some (of_module Y (listed_size gs es) (m.entry x))) (law.core_exports x)
  instantiated-mapped gs false o = refl

  listing-mapped : (b : Bool) (n : ℕ) (es : List Core_export) → cond b (Some (of_items Y n es)) None ≡ option_map (map_node m) (cond b (Some (of_items X n es)) None)
  listing-mapped true n es = refl
  listing-mapped false n es = refl

  made-mapped : (s : Stack X) (i : Core_instance_form) → core_instance_made (map_stack m s) i ≡ option_map (map_node m) (core_instance_made s i)
  made-mapped s (core_instantiate i args) =
      (λ j. cond (list_all (λ (a : InstantiationArg). not (instance_none-mapped s.top a.index j)) args) (option_map (module_instance Y s.groups) (module_at-mapped s.top i j)) None) ∙
      instantiated-mapped s.groups (list_all (λ (a : InstantiationArg). not (is_none (core_instance_at s.top a.index))) args) (core_module_at s.top i)
  made-mapped s (core_bag es) =
      (λ j. cond (list_all (λ (e : Export). not (is_none (item_listed-mapped s.top e j))) es) (Some (of_items Y (listed_size s.groups (items_listed-mapped s.top es j)) (items_listed-mapped s.top es j))) None) ∙
      listing-mapped (list_all (λ (e : Export). not (is_none (item_listed s.top e))) es) (listed_size s.groups (items_listed s.top es)) (items_listed s.top es)

  module _ (k : Maker X) (l : Maker Y) where
    joined-mapped : (o : Option (New_node X)) → ((n : New_node X) → o ≡ Some n → l.build (map_node m n) ≡ m.entry (k.build n)) → option_map (instance_joins l) (option_map (map_node m) o) ≡ option_map (map_step m) (option_map (instance_joins k) o)
    joined-mapped None u = refl
    joined-mapped (Some n) u = ap (λ y. Some (core_appends core_instances y ∷ [])) (u n refl)

    pub core_instance_step-mapped : (s : Stack X) (i : Core_instance_form) → MakesSame m Known k l (core_instance_uses s i) → core_instance_step l (map_stack m s) i ≡ option_map (map_step m) (core_instance_step k s i)
    core_instance_step-mapped s i u = ap (option_map (instance_joins l)) (made-mapped s i) ∙ joined-mapped (core_instance_made s i) u.build

  pub core_instance_checks-mapped : (fs : WasmFeatures) (s : Stack X) (i : Core_instance_form) → core_instance_checks fs (map_stack m s) i ≡ core_instance_checks fs s i
  core_instance_checks-mapped fs s (core_instantiate i args) =
      let looked : missing (core_module_at (map_context m s.top) i) ≡ missing (core_module_at s.top i) = ap missing (module_at-mapped s.top i) ∙ missing-mapped m.entry (core_module_at s.top i) in
      let found : if_found (unserved (map_stack m s) args) (core_module_at (map_context m s.top) i) ≡ if_found (unserved s args) (core_module_at s.top i) =
      ap (if_found (unserved (map_stack m s) args)) (module_at-mapped s.top i) ∙ unserved-mapped s args (core_module_at s.top i) in
      λ j. looked j
      ++ (all_checks (λ (a : InstantiationArg). instance_missing-mapped s.top a.index j) args ++ (found j ++ ((error.Conflict, has_repeat (arg_names args)) ∷ no_room (counts-mapped m law s.top j) is_instance)))
  core_instance_checks-mapped fs s (core_bag es) = λ j.
      all_checks (λ (e : Export). listed_checks-mapped fs s.top e j) es
      ++ (too_many max_size (listed_size s.groups (items_listed-mapped s.top es j)) ++ ((error.Conflict, has_repeat (listed_names es)) ∷ no_room (counts-mapped m law s.top j) is_instance))

  -- ## Aliases

  export_found-mapped : (n : Text) (o : Option X.Entry) → option_and_then (core_export_of Y n) (option_map m.entry o) ≡ option_and_then (core_export_of X n) o
  export_found-mapped n None = refl
  export_found-mapped n (Some x) = ap (lookup (bytes_eq n)) (law.core_exports x)

  item_joined-mapped : (k : ExternalKind) (o : Option EntityType) → option_map (item_joins Y k) o ≡ option_map (map_step m) (option_map (item_joins X k) o)
  item_joined-mapped k None = refl
  item_joined-mapped k (Some e) = ap (λ y. Some (core_appends (space_of k) y ∷ [])) (law.core_item e)

  pub core_alias_step-mapped : (c : Context X) (k : ExternalKind) (i : ℕ) (n : Text) → core_alias_step (map_context m c) k i n ≡ option_map (map_step m) (core_alias_step c k i n)
  core_alias_step-mapped c k i n =
      let o : Option X.Entry = core_instance_at c i in
      ap (λ p. option_map (item_joins Y k) (option_and_then (if_of k) (option_and_then (core_export_of Y n) p))) (instance_at-mapped c i) ∙
      ap (λ p. option_map (item_joins Y k) (option_and_then (if_of k) p)) (export_found-mapped n o) ∙
      item_joined-mapped k (option_and_then (if_of k) (option_and_then (core_export_of X n) o))

  export_checks-mapped : (k : ExternalKind) (n : Text) (o : Option X.Entry) → if_found (λ y. export_checks k (core_export_of Y n y)) (option_map m.entry o) ≡ if_found (λ x. export_checks k (core_export_of X n x)) o
  export_checks-mapped k n None = refl
  export_checks-mapped k n (Some x) = ap (λ es. export_checks k (lookup (bytes_eq n) es)) (law.core_exports x)

  pub core_alias_checks-mapped : (fs : WasmFeatures) (c : Context X) (k : ExternalKind) (i : ℕ) (n : Text) → core_alias_checks fs (map_context m c) k i n ≡ core_alias_checks fs c k i n
  core_alias_checks-mapped fs c k i n =
      let found : if_found (λ y. export_checks k (core_export_of Y n y)) (core_instance_at (map_context m c) i) ≡ if_found (λ x. export_checks k (core_export_of X n x)) (core_instance_at c i) =
      ap (if_found (λ y. export_checks k (core_export_of Y n y))) (instance_at-mapped c i) ∙ export_checks-mapped k n (core_instance_at c i) in
      λ j. (error.AliasKind, not (is_concrete c.kind)) ∷ (sort_needs fs k ++ (instance_missing-mapped c i j ++ (found j ++ no_item_room (counts-mapped m law c j) k)))

-- ## Without a cause

-- the test of each element is true where its checks are not
pub all_true : {A : Type 0} (f : A → Checks) (test : A → Bool) → ((x : A) → IsFree (f x) → test x ≡ true) → (xs : List A) → IsFree (all_checks f xs) → list_all test xs ≡ true
all_true f test h [] w = refl
all_true f test h (x ∷ xs) w = λ j. h x (free_left (f x) (all_checks f xs) w) j && all_true f test h xs (free_right (f x) (all_checks f xs) w) j

pub some_there : {A : Type 0} (o : Option A) → is_none o ≡ false → (x : A) × (o ≡ Some x)
some_there None h = absurd (false≢true (sym h))
some_there (Some x) h = (x, refl)

module _ (X : Reader) where
  item_there : (o : Option X.Entry) → is_none o ≡ false → is_no_item X o ≡ false → not (is_none (option_and_then X.item o)) ≡ true
  item_there None h k = absurd (false≢true (sym h))
  item_there (Some x) h k = ap not k

  node_there : (fs : WasmFeatures) (s : Stack X) (i : Core_instance_form) → IsFree (core_instance_checks fs s i) → (n : New_node X) × (core_instance_made s i ≡ Some n)
  node_there fs s (core_instantiate i args) h =
      let o : Option X.Entry = core_module_at s.top i in
      let each : Checks = all_checks (λ (a : InstantiationArg). missing (core_instance_at s.top a.index)) args in
      let rest : Checks = if_found (unserved s args) o ++ ((error.Conflict, has_repeat (arg_names args)) ∷ no_room (counts s.top) is_instance) in
      let there : list_all (λ (a : InstantiationArg). not (is_none (core_instance_at s.top a.index))) args ≡ true = all_true
      (λ (a : InstantiationArg). missing (core_instance_at s.top a.index))
      (λ (a : InstantiationArg). not (is_none (core_instance_at s.top a.index)))
      (λ a f. ap not f.0) args (free_left each rest (free_right (missing o) (each ++ rest) h)) in
      let w : (n : New_node X) × (option_map (module_instance X s.groups) o ≡ Some n) = mapped (module_instance X s.groups) o (some_there o h.0) in
      (w.0, ap (λ (b : Bool). cond b (option_map (module_instance X s.groups) o) None) there ∙ w.1)
  node_there fs s (core_bag es) h =
      let n : New_node X = of_items X (listed_size s.groups (items_listed s.top es)) (items_listed s.top es) in
      let rest : Checks = too_many max_size (listed_size s.groups (items_listed s.top es)) ++ ((error.Conflict, has_repeat (listed_names es)) ∷ no_room (counts s.top) is_instance) in
      let there : list_all (λ (e : Export). not (is_none (item_listed s.top e))) es ≡ true = all_true
      (listed_checks fs s.top)
      (λ (e : Export). not (is_none (item_listed s.top e)))
      (λ e f. item_there (core_item_at s.top e.kind e.index) f.1.0 f.1.1.0) es (free_left (all_checks (listed_checks fs s.top) es) rest h) in
      (n, ap (λ (b : Bool). cond b (Some n) None) there)

  pub core_instance_does : (fs : WasmFeatures) (mk : Maker X) (s : Stack X) (i : Core_instance_form) → IsFree (core_instance_checks fs s i) → (p : Step X) × (core_instance_step mk s i ≡ Some p)
  core_instance_does fs mk s i h = mapped (instance_joins mk) (core_instance_made s i) (node_there fs s i h)

  named_there : (k : ExternalKind) (o : Option EntityType) → IsFree (export_checks k o) → (e : EntityType) × (option_and_then (if_of k) o ≡ Some e)
  named_there k None h = absurd (false≢true (sym h.0))
  named_there k (Some e) h = (e, ap (λ (b : Bool). cond b (Some e) None) (not-false (is_of k e) h.1.0))

  export_there : (k : ExternalKind) (n : Text) (o : Option X.Entry) → IsFree (missing o) → IsFree (if_found (λ x. export_checks k (core_export_of X n x)) o) →
      (e : EntityType) × (option_and_then (if_of k) (option_and_then (core_export_of X n) o) ≡ Some e)
  export_there k n None h w = absurd (false≢true (sym h.0))
  export_there k n (Some x) h w = named_there k (core_export_of X n x) w

  pub core_alias_does : (fs : WasmFeatures) (c : Context X) (k : ExternalKind) (i : ℕ) (n : Text) → IsFree (core_alias_checks fs c k i n) → (p : Step X) × (core_alias_step c k i n ≡ Some p)
  core_alias_does fs c k i n h =
      let o : Option X.Entry = core_instance_at c i in
      let found : Checks = if_found (λ x. export_checks k (core_export_of X n x)) o in
      let room : Checks = no_item_room (counts c) k in
      mapped (item_joins X k) (option_and_then (if_of k) (option_and_then (core_export_of X n) o))
      (export_there k n o (free_left (missing o) (found ++ room) h.1.1) (free_left found room (free_right (missing o) (found ++ room) h.1.1)))
