-- Instances of components and bags of exports, under a map of entries; where there is no cause, they are made.
use Rattle.std.proofs.Common.{◌≡◌, ℕ, List, [], ◌∷◌, ◌++◌, map, refl, sym, ◌∙◌, ap, subst, Bool, true, false, cond, not, ◌&&◌, Some, None}
use Rattle.std.specs.Prelude.{Option}
use Rattle.std.specs.List.{list_all}
use Rattle.std.specs.Option.{option_map, option_map_or, option_and_then}
use Rattle.std.proofs.lemmas.Bool.{false≢true}
use Rattle.std.proofs.lemmas.List.{map-append}
use Rattle.wcv_core.specs.Checks.{all_checks}
use Rattle.wcv_core.specs.CoreForm.{Group}
use Rattle.wcv_core.specs.Limits.{max_depth, max_size}
use Rattle.wcv_core.specs.declared.error.ErrorKind.TheVariants as error
use Rattle.wcv_core.specs.declared.features.WasmFeatures.{WasmFeatures}
use Rattle.wcv_syntax.specs.Model.{Instance_form, instantiate, bag}
use Rattle.wcv_syntax.specs.declared.component_type.ComponentTypeRef.{ComponentTypeRef}
use Rattle.wcv_syntax.specs.declared.instance.ComponentExternalKind.{ComponentExternalKind}
use Rattle.wcv_syntax.specs.declared.instance.ComponentExternalKind.TheVariants as kind
use Rattle.wcv_syntax.specs.declared.instance.ComponentInstantiationArg.{ComponentInstantiationArg}
use Rattle.wcv_syntax.specs.declared.name.ComponentExport.{ComponentExport}
use Rattle.wcv_types.specs.Tree.{Text, Extern_name, is_instance}
use Rattle.wcv_matching.specs.ModuleItems.{before}
use Rattle.wcv_names.specs.Externs.{entry_names}
use Rattle.wcv_lower.specs.Checks.{Checks, IsFree, if_found, is_none, missing, has_repeat, no_room, too_many}
use Rattle.wcv_lower.specs.Context.{Context, Stack, in_types, in_funcs, in_values, in_instances, in_components, core_modules, counts}
use Rattle.wcv_lower.specs.Entries.{extern_name, is_written}
use Rattle.wcv_lower.specs.Instances.{component_at, item_at, argument_at, arguments, if_opened, opened, listed_at, listed, all_listed, may_list, bag_made, instance_of_component, instance_of_items, instance_made, instance_joins, instance_step, size_checks, opening_checks, argument_names, shape_checks, borrow_checks, listed_checks, argument_checks, names_checks, argument_values, listed_values, instance_values, made_checks, instance_checks}
use Rattle.wcv_lower.specs.Mapped.{Map, Commutes, MakesSame, IsKnown, map_entries, map_named, map_context, map_stack, map_node, map_step, map_brought}
use Rattle.wcv_lower.specs.Marks.{uses_each, use_checks}
use Rattle.wcv_lower.specs.Readers.{Reader, Maker, Named, New_node, instance_node}
use Rattle.wcv_lower.specs.SideNames.{TellsRepeats}
use Rattle.wcv_lower.specs.Step.{Step, Brought, bare}
use Rattle.wcv_lower.specs.Uses.{instance_uses}
use Rattle.wcv_lower.specs.Values.{kind_checks}
use Rattle.wcv_lower.proofs.Causes.{free_left, free_right}
use Rattle.wcv_lower.proofs.CoreInstanceLaws.{all_true, some_there}
use Rattle.wcv_lower.proofs.EndingLaws.{none-mapped}
use Rattle.wcv_lower.proofs.EntryLaws.{items-mapped, is_written-mapped, written_checks-mapped}
use Rattle.wcv_lower.proofs.Mapping.{mapped-square, missing-mapped, using-mapped, get-mapped, lends-mapped, counts-mapped}
use Rattle.wcv_lower.proofs.NewNames.{entry_names-mapped, names_differ}
use Rattle.wcv_lower.proofs.ValueLaws.{mapped, not-false}

before-mapped : {K A B : Type 0} (f : A → B) (k : K) (o : Option A) (es : List (K × A)) → before k (option_map f o) (map (λ e. (e.0, f e.1)) es) ≡ map (λ e. (e.0, f e.1)) (before k o es)
before-mapped f k None es = refl
before-mapped f k (Some x) es = refl

-- a component with its arguments
abbrev Opened : Reader → Type 0
Opened X = List (Text × X.Entry) × X.Entry

abbrev of_items : (X : Reader) → Named X → New_node X
of_items X es = instance_node [] es

module _ {X Y : Reader} (m : Map X Y) {Known : X.Entry → Type 0} (law : Commutes m Known) where
  abbrev pub map_opened : Opened X → Opened Y
  map_opened o = (map_named m.entry o.0, m.entry o.1)

  -- ## What stands at an index

  component_at-mapped : (c : Context X) (i : ℕ) → component_at (map_context m c) i ≡ option_map m.entry (component_at c i)
  component_at-mapped c i = get-mapped m law (c.space in_components) i

  item_at-mapped : (c : Context X) (k : ComponentExternalKind) (i : ℕ) → item_at (map_context m c) k i ≡ option_map m.entry (item_at c k i)
  item_at-mapped c k i = items-mapped m law c k i

  item_known : (c : Context X) → IsKnown Known c → (k : ComponentExternalKind) (i : ℕ) (x : X.Entry) → item_at c k i ≡ Some x → Known x
  item_known c w kind.Module i x e = w.core core_modules i x e
  item_known c w kind.Func i x e = w.space in_funcs i x e
  item_known c w kind.Value i x e = w.space in_values i x e
  item_known c w kind.Ty i x e = w.space in_types i x e
  item_known c w kind.Instance i x e = w.space in_instances i x e
  item_known c w kind.Component i x e = w.space in_components i x e

  item_none-mapped : (c : Context X) (k : ComponentExternalKind) (i : ℕ) → is_none (item_at (map_context m c) k i) ≡ is_none (item_at c k i)
  item_none-mapped c k i = ap is_none (item_at-mapped c k i) ∙ none-mapped m.entry (item_at c k i)

  item_missing-mapped : (c : Context X) (k : ComponentExternalKind) (i : ℕ) → missing (item_at (map_context m c) k i) ≡ missing (item_at c k i)
  item_missing-mapped c k i = ap missing (item_at-mapped c k i) ∙ missing-mapped m.entry (item_at c k i)

  -- ## What is made

  arguments-mapped : (c : Context X) (args : List ComponentInstantiationArg) → arguments (map_context m c) args ≡ map_named m.entry (arguments c args)
  arguments-mapped c [] = refl
  arguments-mapped c (a ∷ rest) = (λ j. before a.name (item_at-mapped c a.kind a.index j) (arguments-mapped c rest j)) ∙ before-mapped m.entry a.name (argument_at c a) (arguments c rest)

  listed-mapped : (c : Context X) (es : List ComponentExport) → listed (map_context m c) es ≡ map_entries m.entry (listed c es)
  listed-mapped c [] = refl
  listed-mapped c (e ∷ es) = (λ j. before (extern_name e.name) (item_at-mapped c e.kind e.index j) (listed-mapped c es j)) ∙ before-mapped m.entry (extern_name e.name) (listed_at c e) (listed c es)

  if_opened-mapped : (gs : List Group) (args : List (Text × X.Entry)) (o : Option X.Entry) → option_and_then (if_opened Y gs (map_named m.entry args)) (option_map m.entry o) ≡ option_map map_opened (option_and_then (if_opened X gs args) o)
  if_opened-mapped gs args None = refl
  if_opened-mapped gs args (Some x) = ap (λ (b : Bool). cond b (Some (map_opened (args, x))) None) (law.opens gs args x) ∙ go (X.opens gs args x)
    where
      go : (b : Bool) → cond b (Some (map_opened (args, x))) None ≡ option_map map_opened (cond b (Some (args, x)) None)
      go true = refl
      go false = refl

  where_all : {A B : Type 0} (f : A → B) (b : Bool) (o : Option A) → cond b (option_map f o) None ≡ option_map f (cond b o None)
  where_all f true o = refl
  where_all f false o = refl

  opened-mapped : (s : Stack X) (i : ℕ) (args : List ComponentInstantiationArg) → opened (map_stack m s) i args ≡ option_map map_opened (opened s i args)
  opened-mapped s i args =
      (λ j. cond (list_all (λ (a : ComponentInstantiationArg). not (item_none-mapped s.top a.kind a.index j)) args)
      (((λ k. option_and_then (if_opened Y s.groups (arguments-mapped s.top args k)) (component_at-mapped s.top i k)) ∙ if_opened-mapped s.groups (arguments s.top args) (component_at s.top i)) j) None) ∙
      where_all map_opened (list_all (λ (a : ComponentInstantiationArg). not (is_none (argument_at s.top a))) args) (option_and_then (if_opened X s.groups (arguments s.top args)) (component_at s.top i))

  all_listed-mapped : (c : Context X) (es : List ComponentExport) → all_listed (map_context m c) es ≡ option_map (map_node m) (all_listed c es)
  all_listed-mapped c es =
      (λ j. cond (list_all (λ (e : ComponentExport). not (item_none-mapped c e.kind e.index j)) es) (Some (of_items Y (listed-mapped c es j))) None) ∙
      where_all (map_node m) (list_all (λ (e : ComponentExport). not (is_none (listed_at c e))) es) (Some (of_items X (listed c es)))

  beside-mapped : (c : Context X) → IsKnown Known c → (o : Option ComponentTypeRef) → option_map_or (is_written (map_context m c)) o true ≡ option_map_or (is_written c) o true
  beside-mapped c w None = refl
  beside-mapped c w (Some r) = is_written-mapped m law c w r

  bag_made-mapped : (c : Context X) → IsKnown Known c → (es : List ComponentExport) → bag_made (map_context m c) es ≡ option_map (map_node m) (bag_made c es)
  bag_made-mapped c w es =
      let names : entry_names (listed (map_context m c) es) ≡ entry_names (listed c es) = ap entry_names (listed-mapped c es) ∙ entry_names-mapped m.entry (listed c es) in
      (λ j. cond (not (has_repeat (names j)) && list_all (λ (e : ComponentExport). beside-mapped c w e.ty j) es) (all_listed-mapped c es j) None) ∙ where_all (map_node m) (may_list c es) (all_listed c es)

  module _ (k : Maker X) (l : Maker Y) where
    component_made-mapped : (o : Option (Opened X)) → ((args : List (Text × X.Entry)) (x : X.Entry) → o ≡ Some (args, x) → l.instantiate (map_named m.entry args) (m.entry x) ≡ map_brought m (k.instantiate args x)) →
        option_map (instance_of_component l) (option_map map_opened o) ≡ option_map (map_brought m) (option_map (instance_of_component k) o)
    component_made-mapped None u = refl
    component_made-mapped (Some o) u = ap Some (u o.0 o.1 refl)

    items_made-mapped : (o : Option (New_node X)) → ((n : New_node X) → o ≡ Some n → l.build (map_node m n) ≡ m.entry (k.build n)) →
        option_map (instance_of_items l) (option_map (map_node m) o) ≡ option_map (map_brought m) (option_map (instance_of_items k) o)
    items_made-mapped None u = refl
    items_made-mapped (Some n) u = ap (λ y. Some (bare Y y)) (u n refl)

    is_listed : {A : Type 0} (b : Bool) (o : Option A) (x : A) → cond b o None ≡ Some x → o ≡ Some x
    is_listed true o x e = e
    is_listed false o x e = cc

    instance_made-mapped : (s : Stack X) → IsKnown Known s.top → (i : Instance_form) → MakesSame m Known k l (instance_uses s i) → instance_made l (map_stack m s) i ≡ option_map (map_brought m) (instance_made k s i)
    instance_made-mapped s w (instantiate i args) u = ap (option_map (instance_of_component l)) (opened-mapped s i args) ∙ component_made-mapped (opened s i args) u.instantiate
    instance_made-mapped s w (bag es) u = ap (option_map (instance_of_items l)) (bag_made-mapped s.top w es) ∙ items_made-mapped (bag_made s.top es) (λ n e. u.build n (is_listed (may_list s.top es) (all_listed s.top es) n e))

    pub instance_step-mapped : (s : Stack X) → IsKnown Known s.top → (i : Instance_form) → MakesSame m Known k l (instance_uses s i) → instance_step l (map_stack m s) i ≡ option_map (map_step m) (instance_step k s i)
    instance_step-mapped s w i u =
        using-mapped m law (instance_values i) (option_map instance_joins (instance_made k s i)) _
        (ap (option_map instance_joins) (instance_made-mapped s w i u) ∙ mapped-square (map_brought m) instance_joins instance_joins (map_step m) (λ b. refl) (instance_made k s i))

    -- ## Causes

    sizes-mapped : (o : Option (Brought X)) → if_found size_checks (option_map (map_brought m) o) ≡ if_found size_checks o
    sizes-mapped None = refl
    sizes-mapped (Some b) = λ j. too_many max_size (law.size b.entity j) ++ too_many max_depth (law.depth b.entity j)

    opening-mapped : (gs : List Group) (args : List (Text × X.Entry)) (o : Option X.Entry) → if_found (opening_checks Y gs (map_named m.entry args)) (option_map m.entry o) ≡ if_found (opening_checks X gs args) o
    opening-mapped gs args None = refl
    opening-mapped gs args (Some x) = λ j. (error.Mismatch, not (law.opens gs args x j)) ∷ []

    borrow-mapped : (o : Option X.Entry) → ((x : X.Entry) → o ≡ Some x → Known x) → if_found (borrow_checks Y) (option_map m.entry o) ≡ if_found (borrow_checks X) o
    borrow-mapped None h = refl
    borrow-mapped (Some x) h = λ j. (error.Borrow, lends-mapped m law x (h x refl) j) ∷ []

    shape-mapped : (fs : WasmFeatures) (c : Context X) → IsKnown Known c → (o : Option ComponentTypeRef) → shape_checks fs (map_context m c) o ≡ shape_checks fs c o
    shape-mapped fs c w None = refl
    shape-mapped fs c w (Some r) = λ j. (error.Shape, true) ∷ written_checks-mapped m law fs c w r j

    listed_checks-mapped : (fs : WasmFeatures) (c : Context X) → IsKnown Known c → (e : ComponentExport) → listed_checks fs (map_context m c) e ≡ listed_checks fs c e
    listed_checks-mapped fs c w e = λ j.
        kind_checks fs e.kind
        ++ (item_missing-mapped c e.kind e.index j
        ++ (shape-mapped fs c w e.ty j ++ (ap (if_found (borrow_checks Y)) (item_at-mapped c e.kind e.index) ∙ borrow-mapped (listed_at c e) (λ x q. item_known c w e.kind e.index x q)) j))

    names-mapped : (fs : WasmFeatures) (es xs : Named X) → names_checks Y fs (map_entries m.entry es) (map_entries m.entry xs) ≡ names_checks X fs es xs
    names-mapped fs es [] = refl
    names-mapped fs es (x ∷ xs) = λ j.
        law.bare_name_checks fs es x.0 x.1 j
        ++ (ap (λ (ys : Named Y). names_checks Y fs ys (map_entries m.entry xs)) (sym (map-append (λ (e : Extern_name × X.Entry). (e.0, m.entry e.1)) es (x ∷ []))) ∙ names-mapped fs (es ++ x ∷ []) xs) j

    made_checks-mapped : (fs : WasmFeatures) (s : Stack X) → IsKnown Known s.top → (i : Instance_form) → MakesSame m Known k l (instance_uses s i) → made_checks fs l (map_stack m s) i ≡ made_checks fs k s i
    made_checks-mapped fs s w (instantiate i args) u =
        let found : if_found (opening_checks Y s.groups (arguments (map_context m s.top) args)) (component_at (map_context m s.top) i) ≡ if_found (opening_checks X s.groups (arguments s.top args)) (component_at s.top i) =
        (λ j. if_found (opening_checks Y s.groups (arguments-mapped s.top args j)) (component_at-mapped s.top i j)) ∙ opening-mapped s.groups (arguments s.top args) (component_at s.top i) in
        let size : if_found size_checks (instance_made l (map_stack m s) (instantiate i args)) ≡ if_found size_checks (instance_made k s (instantiate i args)) =
        ap (if_found size_checks) (instance_made-mapped s w (instantiate i args) u) ∙ sizes-mapped (instance_made k s (instantiate i args)) in
        λ j. (ap missing (component_at-mapped s.top i) ∙ missing-mapped m.entry (component_at s.top i)) j
        ++ (all_checks (λ (a : ComponentInstantiationArg). kind_checks fs a.kind ++ item_missing-mapped s.top a.kind a.index j) args
        ++ (found j ++ ((error.Conflict, has_repeat (argument_names args)) ∷ (size j ++ no_room (counts-mapped m law s.top j) is_instance))))
    made_checks-mapped fs s w (bag es) u =
        let named : names_checks Y fs [] (listed (map_context m s.top) es) ≡ names_checks X fs [] (listed s.top es) = ap (names_checks Y fs []) (listed-mapped s.top es) ∙ names-mapped fs [] (listed s.top es) in
        let made : option_map (instance_of_items l) (all_listed (map_context m s.top) es) ≡ option_map (map_brought m) (option_map (instance_of_items k) (all_listed s.top es)) =
        ap (option_map (instance_of_items l)) (all_listed-mapped s.top es) ∙ items_made-mapped (all_listed s.top es) u.build in
        let size : if_found size_checks (option_map (instance_of_items l) (all_listed (map_context m s.top) es)) ≡ if_found size_checks (option_map (instance_of_items k) (all_listed s.top es)) =
        ap (if_found size_checks) made ∙ sizes-mapped (option_map (instance_of_items k) (all_listed s.top es)) in
        λ j. all_checks (λ (e : ComponentExport). listed_checks-mapped fs s.top w e j) es ++ (named j ++ (size j ++ no_room (counts-mapped m law s.top j) is_instance))

    pub instance_checks-mapped : (fs : WasmFeatures) (s : Stack X) → IsKnown Known s.top → (i : Instance_form) → MakesSame m Known k l (instance_uses s i) → instance_checks fs l (map_stack m s) i ≡ instance_checks fs k s i
    instance_checks-mapped fs s w i u = ap (λ (cs : Checks). use_checks s.top (instance_values i) ++ cs) (made_checks-mapped fs s w i u)

-- ## Without a cause

module _ (X : Reader) where
  pub opening_there : (fs : WasmFeatures) (s : Stack X) (i : ℕ) (args : List ComponentInstantiationArg) → IsFree (missing (component_at s.top i)) → IsFree (all_checks (argument_checks fs s.top) args) →
      IsFree (if_found (opening_checks X s.groups (arguments s.top args)) (component_at s.top i)) → (x : X.Entry) × (component_at s.top i ≡ Some x) × (opened s i args ≡ Some (arguments s.top args, x)) × (X.opens s.groups (arguments s.top args) x ≡ true)
  opening_there fs s i args h g w =
      let x = some_there (component_at s.top i) h.0 in
      let found : IsFree (opening_checks X s.groups (arguments s.top args) x.0) = subst (λ (o : Option X.Entry). IsFree (if_found (opening_checks X s.groups (arguments s.top args)) o)) x.1 w in
      let open_it : X.opens s.groups (arguments s.top args) x.0 ≡ true = not-false (X.opens s.groups (arguments s.top args) x.0) found.0 in
      let there : list_all (λ (a : ComponentInstantiationArg). not (is_none (argument_at s.top a))) args ≡ true = all_true
      (argument_checks fs s.top) (λ (a : ComponentInstantiationArg). not (is_none (argument_at s.top a))) (λ a f. ap not (free_right (kind_checks fs a.kind) (missing (argument_at s.top a)) f).0) args g in (
        x.0,
        x.1,
        (λ j. cond (there j) (option_and_then (if_opened X s.groups (arguments s.top args)) (x.1 j)) None) ∙ ap (λ (b : Bool). cond b (Some (arguments s.top args, x.0)) None) open_it,
        open_it,
      )

  -- of the causes of an instantiation, those that are looked at first
  pub opening_looked : (fs : WasmFeatures) (mk : Maker X) (s : Stack X) (i : ℕ) (args : List ComponentInstantiationArg) → IsFree (instance_checks fs mk s (instantiate i args)) →
      (x : X.Entry) × (component_at s.top i ≡ Some x) × (opened s i args ≡ Some (arguments s.top args, x)) × (X.opens s.groups (arguments s.top args) x ≡ true)
  opening_looked fs mk s i args h =
      let o : Option X.Entry = component_at s.top i in
      let each : Checks = all_checks (argument_checks fs s.top) args in
      let found : Checks = if_found (opening_checks X s.groups (arguments s.top args)) o in
      let rest : Checks = (error.Conflict, has_repeat (argument_names args)) ∷ (if_found size_checks (instance_made mk s (instantiate i args)) ++ no_room (counts s.top) is_instance) in
      let g : IsFree (made_checks fs mk s (instantiate i args)) = free_right (use_checks s.top (argument_values args)) (made_checks fs mk s (instantiate i args)) h in
      opening_there fs s i args (free_left (missing o) (each ++ (found ++ rest)) g) (free_left each (found ++ rest) (free_right (missing o) (each ++ (found ++ rest)) g))
      (free_left found rest (free_right each (found ++ rest) (free_right (missing o) (each ++ (found ++ rest)) g)))

  -- no type is written beside it
  unwritten : (fs : WasmFeatures) (c : Context X) (o : Option ComponentTypeRef) → IsFree (shape_checks fs c o) → option_map_or (is_written c) o true ≡ true
  unwritten fs c None h = refl
  unwritten fs c (Some r) h = absurd (false≢true (sym h.0))

  -- items that have no cause, under names that have none, are listed
  pub bag_there : TellsRepeats X → (fs : WasmFeatures) (c : Context X) (es : List ComponentExport) → IsFree (all_checks (listed_checks fs c) es) → IsFree (names_checks X fs [] (listed c es)) → bag_made c es ≡ Some (of_items X (listed c es))
  bag_there tells fs c es h g =
      let rest : ComponentExport → Checks = λ e. shape_checks fs c e.ty ++ if_found (borrow_checks X) (listed_at c e) in
      let own : (e : ComponentExport) → IsFree (listed_checks fs c e) → IsFree (missing (listed_at c e) ++ rest e) = λ e f. free_right (kind_checks fs e.kind) (missing (listed_at c e) ++ rest e) f in
      let there : list_all (λ (e : ComponentExport). not (is_none (listed_at c e))) es ≡ true = all_true (listed_checks fs c) (λ (e : ComponentExport). not (is_none (listed_at c e))) (λ e f. ap not (own e f).0) es h in
      let beside : list_all (λ (e : ComponentExport). option_map_or (is_written c) e.ty true) es ≡ true = all_true
      (listed_checks fs c) (λ (e : ComponentExport). option_map_or (is_written c) e.ty true)
      (λ e f. unwritten fs c e.ty (free_left (shape_checks fs c e.ty) (if_found (borrow_checks X) (listed_at c e)) (free_right (missing (listed_at c e)) (rest e) (own e f)))) es h in
      λ j. cond (not (names_differ X tells fs [] (listed c es) refl g j) && beside j) (cond (there j) (Some (of_items X (listed c es))) None) None

  made_there : TellsRepeats X → (fs : WasmFeatures) (mk : Maker X) (s : Stack X) (i : Instance_form) → IsFree (instance_checks fs mk s i) → (b : Brought X) × (instance_made mk s i ≡ Some b)
  made_there tells fs mk s (instantiate i args) h =
      let w = opening_looked fs mk s i args h in
      (mk.instantiate (arguments s.top args) w.0, ap (option_map (instance_of_component mk)) w.2)
  made_there tells fs mk s (bag es) h =
      let items : Checks = all_checks (listed_checks fs s.top) es in
      let names : Checks = names_checks X fs [] (listed s.top es) in
      let rest : Checks = if_found size_checks (option_map (instance_of_items mk) (all_listed s.top es)) ++ no_room (counts s.top) is_instance in
      let own : IsFree (items ++ (names ++ rest)) = free_right (use_checks s.top (listed_values es)) (made_checks fs mk s (bag es)) h in
      mapped (instance_of_items mk) (bag_made s.top es) (of_items X (listed s.top es), bag_there tells fs s.top es (free_left items (names ++ rest) own) (free_left names rest (free_right items (names ++ rest) own)))

  pub instance_does : TellsRepeats X → (fs : WasmFeatures) (mk : Maker X) (s : Stack X) (i : Instance_form) → IsFree (instance_checks fs mk s i) → (p : Step X) × (instance_step mk s i ≡ Some p)
  instance_does tells fs mk s i h = mapped (λ (p : Step X). uses_each (instance_values i) ++ p) (option_map instance_joins (instance_made mk s i)) (mapped instance_joins (instance_made mk s i) (made_there tells fs mk s i h))
