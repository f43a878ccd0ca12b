-- Instances: those of components, and those that list items, over any kind of entry.
use Rattle.std.specs.Prelude.{ℕ, List, [], ◌∷◌, ◌++◌, map, Bool, true, not, ◌&&◌, cond, Option, Some, None, is_some, slice_get, length}
use Rattle.std.specs.List.{list_all}
use Rattle.std.specs.Option.{option_map, option_map_or, option_and_then}
use Rattle.wcv_core.specs.Checks.{all_checks}
use Rattle.wcv_core.specs.CoreForm.{Group}
use Rattle.wcv_core.specs.Limits.{max_depth, max_list, max_size}
use Rattle.wcv_core.specs.declared.error.ErrorKind.TheVariants as error
use Rattle.wcv_core.specs.declared.features.WasmFeatures.{WasmFeatures}
use Rattle.wcv_syntax.specs.Model.{Instance_form, instantiate, bag}
use Rattle.wcv_syntax.specs.declared.component_type.ComponentTypeRef.{ComponentTypeRef}
use Rattle.wcv_syntax.specs.declared.instance.ComponentExternalKind.{ComponentExternalKind}
use Rattle.wcv_syntax.specs.declared.instance.ComponentInstantiationArg.{ComponentInstantiationArg}
use Rattle.wcv_syntax.specs.declared.name.ComponentExport.{ComponentExport}
use Rattle.wcv_types.specs.Tree.{Text, is_instance}
use Rattle.wcv_matching.specs.ModuleItems.{before}
use Rattle.wcv_names.specs.Externs.{entry_names}
use Rattle.wcv_lower.specs.Checks.{Checks, too_many, each_too_long, has_repeat, if_found, is_none, missing, no_room, texts_of}
use Rattle.wcv_lower.specs.Context.{Context, Stack, in_instances, in_components, exporting, counts}
use Rattle.wcv_lower.specs.Entries.{extern_name, items_of, is_written, written_checks, lends}
use Rattle.wcv_lower.specs.Marks.{value_index, using, use_checks}
use Rattle.wcv_lower.specs.Readers.{Reader, Maker, Named, New_node, Brought, instance_node}
use Rattle.wcv_lower.specs.Step.{Step, introduces, appends, bare}
use Rattle.wcv_lower.specs.Values.{kind_checks}

abbrev pub component_at : {X : Reader} → Context X → ℕ → Option X.Entry
component_at c i = slice_get (c.space in_components) i

-- the item of that sort at the index
abbrev pub item_at : {X : Reader} → Context X → ComponentExternalKind → ℕ → Option X.Entry
item_at c k i = slice_get (items_of c k) i

-- ## Arguments

abbrev pub argument_at : {X : Reader} → Context X → ComponentInstantiationArg → Option X.Entry
argument_at c a = item_at c a.kind a.index

-- those that are there, by name
abbrev pub arguments : {X : Reader} → Context X → List ComponentInstantiationArg → List (Text × X.Entry)
arguments c [] = []
arguments c (a ∷ rest) = before a.name (argument_at c a) (arguments c rest)

-- the component, with the arguments, where these open what it imports
abbrev pub if_opened : (X : Reader) → List Group → List (Text × X.Entry) → X.Entry → Option (List (Text × X.Entry) × X.Entry)
if_opened X gs args x = cond (X.opens gs args x) (Some (args, x)) None

-- the component and the arguments at indices, where something stands at each and these open what it imports
abbrev pub opened : {X : Reader} → Stack X → ℕ → List ComponentInstantiationArg → Option (List (Text × X.Entry) × X.Entry)
opened {X} s i args =
    cond (list_all (λ (a : ComponentInstantiationArg). not (is_none (argument_at s.top a))) args) (option_and_then (if_opened X s.groups (arguments s.top args)) (component_at s.top i)) None

-- ## Items that are listed

abbrev pub listed_at : {X : Reader} → Context X → ComponentExport → Option X.Entry
listed_at c e = item_at c e.kind e.index

-- those that are there, by their whole names; of a type both nodes are the one that stands there
abbrev pub listed : {X : Reader} → Context X → List ComponentExport → Named X
listed c [] = []
listed c (e ∷ es) = before (extern_name e.name) (listed_at c e) (listed c es)

-- the node that lists them, where something stands at each index
abbrev pub all_listed : {X : Reader} → Context X → List ComponentExport → Option (New_node X)
all_listed c es = cond (list_all (λ (e : ComponentExport). not (is_none (listed_at c e))) es) (Some (instance_node [] (listed c es))) None

-- no name stands twice among them, and what a type that is written beside one names is there
abbrev pub may_list : {X : Reader} → Context X → List ComponentExport → Bool
may_list c es = not (has_repeat (entry_names (listed c es))) && list_all (λ (e : ComponentExport). option_map_or (is_written c) e.ty true) es

-- the node that is made
abbrev pub bag_made : {X : Reader} → Context X → List ComponentExport → Option (New_node X)
bag_made c es = cond (may_list c es) (all_listed c es) None

-- ## What is made

abbrev pub instance_of_component : {X : Reader} → Maker X → List (Text × X.Entry) × X.Entry → Brought X
instance_of_component mk o = mk.instantiate o.0 o.1

abbrev pub instance_of_items : {X : Reader} → Maker X → New_node X → Brought X
instance_of_items {X} mk n = bare X (mk.build n)

abbrev pub instance_made : {X : Reader} → Maker X → Stack X → Instance_form → Option (Brought X)
instance_made mk s (instantiate i args) = option_map (instance_of_component mk) (opened s i args)
instance_made mk s (bag es) = option_map (instance_of_items mk) (bag_made s.top es)

-- it joins the instances, and what is new in it is defined, without a representation
abbrev pub instance_joins : {X : Reader} → Brought X → Step X
instance_joins b = introduces exporting b.resources ∷ appends in_instances b.entity ∷ []

-- the values among the arguments, or among the listed items
abbrev pub argument_values : List ComponentInstantiationArg → List ℕ
argument_values [] = []
argument_values (a ∷ rest) = value_index a.kind a.index ++ argument_values rest

abbrev pub listed_values : List ComponentExport → List ℕ
listed_values [] = []
listed_values (e ∷ es) = value_index e.kind e.index ++ listed_values es

abbrev pub instance_values : Instance_form → List ℕ
instance_values (instantiate i args) = argument_values args
instance_values (bag es) = listed_values es

abbrev pub instance_step : {X : Reader} → Maker X → Stack X → Instance_form → Option (Step X)
instance_step mk s i = using (instance_values i) (option_map instance_joins (instance_made mk s i))

-- ## Why it is refused

-- it is too large, or too deep
abbrev pub size_checks : {X : Reader} → Brought X → Checks
size_checks {X} b = too_many max_size (X.size b.entity) ++ too_many max_depth (X.depth b.entity)

-- the arguments do not open what the component imports
abbrev pub opening_checks : (X : Reader) → List Group → List (Text × X.Entry) → X.Entry → Checks
opening_checks X gs args x = (error.Mismatch, not (X.opens gs args x)) ∷ []

abbrev pub argument_names : List ComponentInstantiationArg → List Text
argument_names args = map (λ (a : ComponentInstantiationArg). a.name) args

-- no type may be written beside a listed item; what is written is looked at
abbrev pub shape_checks : {X : Reader} → WasmFeatures → Context X → Option ComponentTypeRef → Checks
shape_checks fs c t = (error.Shape, is_some t) ∷ if_found (written_checks fs c) t

-- a value that is exported holds no borrowed handle
abbrev pub borrow_checks : (X : Reader) → X.Entry → Checks
borrow_checks X x = (error.Borrow, lends X x) ∷ []

abbrev pub listed_checks : {X : Reader} → WasmFeatures → Context X → ComponentExport → Checks
listed_checks {X} fs c e = kind_checks fs e.kind ++ (missing (listed_at c e) ++ (shape_checks fs c e.ty ++ if_found (borrow_checks X) (listed_at c e)))

abbrev pub argument_checks : {X : Reader} → WasmFeatures → Context X → ComponentInstantiationArg → Checks
argument_checks fs c a = kind_checks fs a.kind ++ missing (argument_at c a)

-- each whole name beside those before it, where no resource has a name
abbrev pub names_checks : (X : Reader) → WasmFeatures → Named X → Named X → Checks
names_checks X fs es [] = []
names_checks X fs es (x ∷ xs) = X.bare_name_checks fs es x.0 x.1 ++ names_checks X fs (es ++ x ∷ []) xs

-- of what is made, use of values aside
abbrev pub made_checks : {X : Reader} → WasmFeatures → Maker X → Stack X → Instance_form → Checks
made_checks {X} fs mk s (instantiate i args) =
    missing (component_at s.top i)
    ++ (all_checks (argument_checks fs s.top) args
    ++ (if_found (opening_checks X s.groups (arguments s.top args)) (component_at s.top i)
    ++ ((error.Conflict, has_repeat (argument_names args)) ∷ (if_found size_checks (instance_made mk s (instantiate i args)) ++ no_room (counts s.top) is_instance))))
made_checks {X} fs mk s (bag es) =
    all_checks (listed_checks fs s.top) es
    ++ (names_checks X fs [] (listed s.top es) ++ (if_found size_checks (option_map (instance_of_items mk) (all_listed s.top es)) ++ no_room (counts s.top) is_instance))

abbrev pub instance_checks : {X : Reader} → WasmFeatures → Maker X → Stack X → Instance_form → Checks
instance_checks fs mk s i = use_checks s.top (instance_values i) ++ made_checks fs mk s i

-- the limits that are left to the caller
abbrev pub instance_left : Instance_form → Checks
instance_left (instantiate i args) = too_many max_list (length args) ++ each_too_long (argument_names args)
instance_left (bag es) = too_many max_list (length es) ++ all_checks (λ (e : ComponentExport). each_too_long (texts_of (extern_name e.name))) es
