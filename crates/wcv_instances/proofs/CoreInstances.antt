-- Core instances: what is looked up by ids is what the rules say of the trees, and what joins is the node that they make.
use Rattle.std.proofs.Common.{◌≡◌, ◌≤◌, ℕ, suc, List, [], ◌∷◌, ◌++◌, map, length, refl, sym, ◌∙◌, ap, subst, arith, length-append, Bool, true, false, not, ◌&&◌, cond, Some, None, inl, inr, ◌⊎◌, ⊎_elim, All}
use Rattle.std.specs.Prelude.{Option, slice_get}
use Rattle.std.specs.List.{AllZip, list_all}
use Rattle.std.specs.Option.{option_map, option_and_then}
use Rattle.std.proofs.lemmas.List.Elements.{All-nil, All-cons, All-head, All-tail, All-append}
use Rattle.std.proofs.lemmas.Option.{slice_get-map}
use Rattle.wcv_core.specs.Checks.{Checks, Cause, IsFree, all_checks}
use Rattle.wcv_core.specs.CoreGroups.{total}
use Rattle.wcv_core.specs.CoreSizes.{IsEntityWithin}
use Rattle.wcv_core.specs.Limits.{max_size}
use Rattle.wcv_core.specs.Names.{Place, number}
use Rattle.wcv_core.specs.Refusal.{error_kind}
use Rattle.wcv_core.specs.declared.core_types.EntityType.{EntityType}
use Rattle.wcv_core.specs.declared.error.Error.{Error}
use Rattle.wcv_core.specs.declared.error.ErrorKind.{ErrorKind}
use Rattle.wcv_core.specs.declared.error.ErrorKind.TheVariants as kind
use Rattle.wcv_core.specs.declared.features.WasmFeatures.{WasmFeatures}
use Rattle.wcv_core.proofs.Causes.{cause_left, cause_right, cause_either, free_both, free_left, free_right}
use Rattle.wcv_syntax.specs.Model.{Text, Core_instance_form, core_instantiate, core_bag, core_instance_item}
use Rattle.wcv_syntax.specs.ModuleTypes.{Core_export}
use Rattle.wcv_syntax.specs.declared.core_section.Export.{Export}
use Rattle.wcv_syntax.specs.declared.core_section.InstantiationArg.{InstantiationArg}
use Rattle.wcv_types.specs.Arena.{Arena}
use Rattle.wcv_types.specs.CoreParts.{exported_items}
use Rattle.wcv_types.specs.ByName.{texts_in}
use Rattle.wcv_types.specs.Standing.{Stands, AllFit, Extends, entity_sizes, own_size, with_node}
use Rattle.wcv_types.specs.Tree.{here, label, import, export, core_import, core_export, core_instance, core_exports, Parts, none, part, node, head, parts}
use Rattle.wcv_types.specs.Unfold.{Type_tree, capped, head_of, kind_slots, slot_parts, slots_of, tree_at, tree_of, trees}
use Rattle.wcv_types.specs.declared.arena.Node.TheVariants as n
use Rattle.wcv_types.specs.declared.core_shapes.CoreInstanceTypeKind.{CoreInstanceTypeKind}
use Rattle.wcv_types.specs.declared.core_shapes.CoreInstanceTypeKind.TheVariants as shape_kind
use Rattle.wcv_types.specs.declared.core_shapes.InstanceType.{InstanceType}
use Rattle.wcv_types.specs.declared.ids.ComponentCoreInstanceTypeId.{ComponentCoreInstanceTypeId}
use Rattle.wcv_types.specs.declared.ids.ComponentCoreModuleTypeId.{ComponentCoreModuleTypeId}
use Rattle.wcv_types.specs.declared.ids.Part.TheVariants as p
use Rattle.wcv_types.proofs.EntryParts.{core_export_parts}
use Rattle.wcv_types.proofs.Grown.{extends_push, length-trees}
use Rattle.wcv_closed.specs.CoreModules.{EachArgument, EachItem}
use Rattle.wcv_matching.specs.CoreArguments.{argument_exports}
use Rattle.wcv_matching.specs.ModuleItems.{item_at, before, core_exports_in, core_imports_in, instance_exports, instance_exports_in}
use Rattle.wcv_matching.specs.Orderly.{EachModule, EachNodeIn, items_in}
use Rattle.wcv_matching.specs.Refusals.{MemoryOrMismatch}
use Rattle.wcv_matching.proofs.CoreInside.{all_within}
use Rattle.wcv_lower.specs.Checks.{if_found, is_none, missing, has_repeat, no_room, too_many}
use Rattle.wcv_lower.specs.Context.{core_instances, core_modules, push_core, counts}
use Rattle.wcv_lower.specs.CoreInstances.{all_served, core_item_at, core_instance_at, core_module_at, exported_by, offered, item_listed, items_listed, listed_size, module_instance, listed_checks, sort_needs, is_no_item, core_instance_checks, instance_joins, unserved, arg_names, listed_names}
use Rattle.wcv_lower.specs.Given.{named, names_of, none_given}
use Rattle.wcv_lower.specs.Names.{introduced}
use Rattle.wcv_lower.specs.Readers.{Maker, New_node, core_exports_node}
use Rattle.wcv_lower.specs.Step.{Step, apply}
use Rattle.wcv_lower.specs.Trees.{Tree_context, tree_reader, tree_maker, node_tree}
use Rattle.wcv_types.specs.Tree.{is_instance}
use Rattle.wcv_spaces.specs.Contents.{Contents, core_tree, context_of, stack_of, with_core, StateStands}
use Rattle.wcv_spaces.specs.Looking.{core_item_in}
use Rattle.wcv_spaces.specs.Promises.{MemoryOrCausedBy, Grew, Refuses}
use Rattle.wcv_spaces.proofs.Calls.{caused_more}
use Rattle.wcv_spaces.proofs.CoreItems.{item_tree, item_here, item_within, missing_mapped}
use Rattle.wcv_spaces.proofs.Found.{core_same, core_stands_at}
use Rattle.wcv_state.proofs.Stacks.{none_made}
use Rattle.wcv_decls.specs.CoreItems.{JoinedCore}
use Rattle.wcv_decls.proofs.CoreModules.{joined_as}
use Rattle.wcv_decls.proofs.Naming.{node_names, node_given, node_name}
use Rattle.wcv_instances.specs.CoreInstances.{IsArg, IsItem, arg_checks, item_checks, items_of, served_checks, MadeInstance, FreeInstance, CausedInstance}

-- ## The item

module _ (a b : Arena) (s s' : Contents) (i : Core_instance_form) (shape : InstanceType) (m : MadeInstance a s i shape) (w : JoinedCore core_instances a b s s' (tree_of (trees a.nodes) (n.CoreInstance shape))) where
  abbrev maker : Place → Maker tree_reader
  maker q = tree_maker (names_of (node_names a b q w.nodes)) q

  built : (q : Place) → node_tree (named (node_names a b q w.nodes).identities (introduced q)) m.made_node ≡ tree_of (trees a.nodes) (n.CoreInstance shape)
  built q =
      (λ j. node_tree (node_name a b q w.nodes j) m.made_node) ∙ m.tree (length a.nodes) ∙
      (λ j. node (head_of (sym (length-trees a.nodes) j) (n.CoreInstance shape)) (slot_parts (trees a.nodes) (slots_of (n.CoreInstance shape))))

  reached : (outer : List Tree_context) (q : Place) → apply (instance_joins (maker q) m.made_node) (stack_of a s outer) ≡ stack_of b s' outer
  reached outer q =
      let e : push_core core_instances (node_tree (named (node_names a b q w.nodes).identities (introduced q)) m.made_node) (context_of a s) ≡ context_of b s' =
      (λ j. push_core core_instances (built q j) (context_of a s)) ∙ sym w.grown in
      λ j. record { top = e j; outer = outer; groups = sym w.core j }

  pub instance_grew : FreeInstance a s i → (outer : List Tree_context) (q : Place) → Grew a b outer q s s' (core_instance_item i)
  instance_grew free outer q = record {
    names = node_names a b q w.nodes;
    given = node_given a b q w.nodes;
    grown = ap (λ (o : Option (New_node tree_reader)). option_map (λ (x : Step tree_reader). apply x (stack_of a s outer)) (option_map (instance_joins (maker q)) o)) (m.made outer) ∙ ap Some (reached outer q);
    free = free outer;
    live = w.live;
  }

-- the node joined the arena, and the state
pub instance_joined : (a b : Arena) (s s' : Contents) (shape : InstanceType) (i : ComponentCoreInstanceTypeId) → StateStands a s → s.spent ≡ false → b ≡ with_node a (n.CoreInstance shape) → Stands b (p.CoreInstance i) →
    tree_at b (p.CoreInstance i) ≡ tree_of (trees a.nodes) (n.CoreInstance shape) → s' ≡ with_core core_instances i s → JoinedCore core_instances a b s s' (tree_of (trees a.nodes) (n.CoreInstance shape))
instance_joined a b s s' shape i h live e stands tree is =
    let grown : Extends a b = subst (Extends a) (sym e) (extends_push a (n.CoreInstance shape)) in
    joined_as core_instances i a b s s' (tree_of (trees a.nodes) (n.CoreInstance shape)) h live grown
    (ap (λ (y : Arena). length y.nodes) e ∙ length-append a.nodes (n.CoreInstance shape ∷ []) ∙ omega arith) (ap (λ (y : Arena). y.core) e) tree stands is

-- refused before it was made
pub instance_refused : {M : Type 0} (a b : Arena) (s s' : Contents) (i : Core_instance_form) (offset : ℕ) (e : Error M) → s'.spent ≡ true → CausedInstance a s i offset e → (outer : List Tree_context) (q : Place) → Refuses a b outer q s s' (core_instance_item i) offset e
instance_refused a b s s' i offset e gone c outer q = (gone, record { names = none_given; given = none_made a b q; caused = c outer })

pub memory_caused : {M : Type 0} (a : Arena) (s : Contents) (i : Core_instance_form) (offset : ℕ) (e : Error M) → error_kind e ≡ kind.OutOfMemory → CausedInstance a s i offset e
memory_caused a s i offset e m outer = inl m

-- ## Names

pub same_names : {A B : Type 0} (name : A → Text) (Is : A → Text × B → Type 0) → ((x : A) (y : Text × B) → Is x y → y.0 ≡ name x) → (xs : List A) (ys : List (Text × B)) → AllZip Is xs ys → texts_in ys ≡ map name xs
same_names name Is f [] [] w = refl
same_names name Is f [] (y ∷ ys) w = elim w [ ]
same_names name Is f (x ∷ xs) [] w = elim w [ ]
same_names name Is f (x ∷ xs) (y ∷ ys) w = let e = f x y w.0 in let es = same_names name Is f xs ys w.1 in λ j. e j ∷ es j

-- ## Arguments

module _ (a : Arena) (s : Contents) where
  instance_here : (i : ℕ) → core_instance_at (context_of a s) i ≡ option_map (core_tree (trees a.nodes) core_instances) (slice_get s.spaces.core_instances i)
  instance_here i = slice_get-map (core_tree (trees a.nodes) core_instances) s.spaces.core_instances i

  instance_is : (x : InstantiationArg) (y : Text × ComponentCoreInstanceTypeId) → IsArg s.spaces x y → core_instance_at (context_of a s) x.index ≡ Some (tree_at a (p.CoreInstance y.1))
  instance_is x y w = instance_here x.index ∙ ap (option_map (core_tree (trees a.nodes) core_instances)) w.1

  args_same : (xs : List InstantiationArg) → all_checks (arg_checks s.spaces) xs ≡ all_checks (λ (x : InstantiationArg). missing (core_instance_at (context_of a s) x.index)) xs
  args_same [] = refl
  args_same (x ∷ xs) =
      let e : missing (slice_get s.spaces.core_instances x.index) ≡ missing (core_instance_at (context_of a s) x.index) =
      sym (missing_mapped (core_tree (trees a.nodes) core_instances) (slice_get s.spaces.core_instances x.index)) ∙ ap missing (sym (instance_here x.index)) in
      let es = args_same xs in
      λ j. e j ++ es j

  all_there : (xs : List InstantiationArg) (ys : List (Text × ComponentCoreInstanceTypeId)) → AllZip (IsArg s.spaces) xs ys → list_all (λ (x : InstantiationArg). not (is_none (core_instance_at (context_of a s) x.index))) xs ≡ true
  all_there [] [] w = refl
  all_there [] (y ∷ ys) w = elim w [ ]
  all_there (x ∷ xs) [] w = elim w [ ]
  all_there (x ∷ xs) (y ∷ ys) w =
      ap (λ (o : Option Type_tree). not (is_none o) && list_all (λ (x : InstantiationArg). not (is_none (core_instance_at (context_of a s) x.index))) xs) (instance_is x y w.0) ∙ all_there xs ys w.1

  offered_same : (xs : List InstantiationArg) (ys : List (Text × ComponentCoreInstanceTypeId)) → AllZip (IsArg s.spaces) xs ys → argument_exports a ys ≡ offered (context_of a s) xs
  offered_same [] [] w = refl
  offered_same [] (y ∷ ys) w = elim w [ ]
  offered_same (x ∷ xs) [] w = elim w [ ]
  offered_same (x ∷ xs) (y ∷ ys) w =
      let e : instance_exports (tree_at a (p.CoreInstance y.1)) ≡ exported_by tree_reader (core_instance_at (context_of a s) x.index) = ap (exported_by tree_reader) (sym (instance_is x y w.0)) in
      let k : y.0 ≡ x.name = w.0.0 in
      let es = offered_same xs ys w.1 in
      λ j. (k j, e j) ∷ es j

  pub args_stand : StateStands a s → (xs : List InstantiationArg) (ys : List (Text × ComponentCoreInstanceTypeId)) → AllZip (IsArg s.spaces) xs ys → All (λ (y : Text × ComponentCoreInstanceTypeId). Stands a (p.CoreInstance y.1)) ys
  args_stand h [] [] w = All-nil _
  args_stand h [] (y ∷ ys) w = elim w [ ]
  args_stand h (x ∷ xs) [] w = elim w [ ]
  args_stand h (x ∷ xs) (y ∷ ys) w = All-cons (λ (z : Text × ComponentCoreInstanceTypeId). Stands a (p.CoreInstance z.1)) y ys (core_stands_at a s h core_instances x.index y.1 w.0.1) (args_stand h xs ys w.1)

-- ## Of a core module

module _ (a : Arena) (s : Contents) (h : StateStands a s) (k : ℕ) (args : List InstantiationArg) where
  abbrev at_index : Option ComponentCoreModuleTypeId
  at_index = slice_get s.spaces.core_modules k

  module_here : core_module_at (context_of a s) k ≡ option_map (core_tree (trees a.nodes) core_modules) at_index
  module_here = core_same a s h core_modules k

  module_is : (m : ComponentCoreModuleTypeId) → at_index ≡ Some m → core_module_at (context_of a s) k ≡ Some (tree_at a (p.Module m))
  module_is m e = module_here ∙ ap (option_map (core_tree (trees a.nodes) core_modules)) e

  pub module_stands : (m : ComponentCoreModuleTypeId) → at_index ≡ Some m → Stands a (p.Module m)
  module_stands m e = core_stands_at a s h core_modules k m e

  pub of_module_made : (m : ComponentCoreModuleTypeId) (found : List (Text × ComponentCoreInstanceTypeId)) (shape : InstanceType) → at_index ≡ Some m → AllZip (IsArg s.spaces) args found →
      shape.kind ≡ shape_kind.Instantiated m → shape.info.size ≡ own_size a.core (exported_items (tree_at a (p.Module m))) → MadeInstance a s (core_instantiate k args) shape
  of_module_made m found shape e w is large = record {
    made_node = module_instance tree_reader a.core (tree_at a (p.Module m));
    made = λ outer.
        ap (λ (b : Bool). cond b (option_map (module_instance tree_reader a.core) (core_module_at (context_of a s) k)) None) (all_there a s args found w) ∙ ap (option_map (module_instance tree_reader a.core)) (module_is m e);
    tree = λ x j. node (core_instance (number x) (sym large j)) (slot_parts (trees a.nodes) (kind_slots (sym is j)));
  }

  -- ## Its causes

  module _ (fs : WasmFeatures) (outer : List Tree_context) where
    abbrev there : Checks
    there = missing (core_module_at (context_of a s) k)

    abbrev args_there : Checks
    args_there = all_checks (λ (x : InstantiationArg). missing (core_instance_at (context_of a s) x.index)) args

    abbrev not_served : Checks
    not_served = if_found (unserved (stack_of a s outer) args) (core_module_at (context_of a s) k)

    abbrev repeats : Checks
    repeats = (kind.Conflict, has_repeat (arg_names args)) ∷ []

    abbrev room : Checks
    room = no_room (counts (context_of a s)) is_instance

    abbrev all : Checks
    all = core_instance_checks fs (stack_of a s outer) (core_instantiate k args)

    there_same : missing at_index ≡ there
    there_same = sym (missing_mapped (core_tree (trees a.nodes) core_modules) at_index) ∙ ap missing (sym module_here)

    served_same : (m : ComponentCoreModuleTypeId) (found : List (Text × ComponentCoreInstanceTypeId)) → at_index ≡ Some m → AllZip (IsArg s.spaces) args found → served_checks a found m ≡ not_served
    served_same m found e w =
        (λ j. served_by (offered_same a s args found w j)) ∙ ap (if_found (unserved (stack_of a s outer) args)) (sym (module_is m e))
      where
        served_by : List (Text × List Core_export) → Checks
        served_by es = (kind.Mismatch, not (all_served a.core es (core_imports_in (parts (tree_at a (p.Module m)))))) ∷ []

    repeats_same : (found : List (Text × ComponentCoreInstanceTypeId)) → AllZip (IsArg s.spaces) args found → (kind.Conflict, has_repeat (texts_in found)) ∷ [] ≡ repeats
    repeats_same found w = λ j. (kind.Conflict, has_repeat (same_names (λ (x : InstantiationArg). x.name) (IsArg s.spaces) (λ x y i. i.0) args found w j)) ∷ []

    pub of_module_free : (m : ComponentCoreModuleTypeId) (found : List (Text × ComponentCoreInstanceTypeId)) → at_index ≡ Some m → AllZip (IsArg s.spaces) args found → IsFree (all_checks (arg_checks s.spaces) args) →
        IsFree (served_checks a found m) → IsFree ((kind.Conflict, has_repeat (texts_in found)) ∷ []) → IsFree room → IsFree all
    of_module_free m found e w f g r q =
        free_both there (args_there ++ (not_served ++ (repeats ++ room))) (subst IsFree (ap missing (sym (module_is m e))) (refl, tt))
        (free_both args_there (not_served ++ (repeats ++ room)) (subst IsFree (args_same a s args) f)
        (free_both not_served (repeats ++ room) (subst IsFree (served_same m found e w) g)
        (free_both repeats room (subst IsFree (repeats_same found w) r) q)))

    module _ {M : Type 0} (offset : ℕ) (e : Error M) where
      abbrev Caused : Checks → Type 0
      Caused cs = MemoryOrCausedBy cs offset e

      pub module_missing : Caused (missing at_index) → Caused all
      module_missing t = caused_more there all offset e (cause_left there (args_there ++ (not_served ++ (repeats ++ room))) (error_kind e)) (subst Caused there_same t)

      behind : (cs : Checks) → (Cause cs (error_kind e) → Cause (args_there ++ (not_served ++ (repeats ++ room))) (error_kind e)) → Caused cs → Caused all
      behind cs f t = caused_more cs all offset e (λ c. cause_right there (args_there ++ (not_served ++ (repeats ++ room))) (error_kind e) (f c)) t

      pub arg_missing : Caused (all_checks (arg_checks s.spaces) args) → Caused all
      arg_missing t = behind args_there (cause_left args_there (not_served ++ (repeats ++ room)) (error_kind e)) (subst Caused (args_same a s args) t)

      behind_args : (cs : Checks) → (Cause cs (error_kind e) → Cause (not_served ++ (repeats ++ room)) (error_kind e)) → Caused cs → Caused all
      behind_args cs f t = behind cs (λ c. cause_right args_there (not_served ++ (repeats ++ room)) (error_kind e) (f c)) t

      pub module_unserved : (m : ComponentCoreModuleTypeId) (found : List (Text × ComponentCoreInstanceTypeId)) → at_index ≡ Some m → AllZip (IsArg s.spaces) args found → Caused (served_checks a found m) → Caused all
      module_unserved m found i w t = behind_args not_served (cause_left not_served (repeats ++ room) (error_kind e)) (subst Caused (served_same m found i w) t)

      pub arg_repeated : (found : List (Text × ComponentCoreInstanceTypeId)) → AllZip (IsArg s.spaces) args found → Caused ((kind.Conflict, has_repeat (texts_in found)) ∷ []) → Caused all
      arg_repeated found w t =
          behind_args repeats (λ c. cause_right not_served (repeats ++ room) (error_kind e) (cause_left repeats room (error_kind e) c)) (subst Caused (repeats_same found w) t)

      pub no_room_here : Caused room → Caused all
      no_room_here t = behind_args room (λ c. cause_right not_served (repeats ++ room) (error_kind e) (cause_right repeats room (error_kind e) c)) t

-- where what a mismatch denies holds if the test does, the test fails
pub mismatch_caused : {M : Type 0} (b : Bool) (P : Type 0) (offset : ℕ) (e : Error M) → (b ≡ true → P) → MemoryOrMismatch offset P e → MemoryOrCausedBy ((kind.Mismatch, not b) ∷ []) offset e
mismatch_caused b P offset e f (inl m) = inl m
mismatch_caused true P offset e f (inr k) = absurd (k.fails (f refl))
mismatch_caused false P offset e f (inr k) = inr (inl (k.is, refl), k.at)

-- ## Of a list of items

module _ (a : Arena) (s : Contents) where
  listed_is : (x : Export) (y : Text × EntityType) → IsItem s.spaces x y → item_listed (context_of a s) x ≡ Some y.1
  listed_is x y w = ap (option_and_then tree_reader.item) (item_here a s x.kind x.index) ∙ ap (λ (o : Option EntityType). option_and_then tree_reader.item (option_map item_tree o)) w.1

  all_listed : (xs : List Export) (ys : List (Text × EntityType)) → AllZip (IsItem s.spaces) xs ys → list_all (λ (x : Export). not (is_none (item_listed (context_of a s) x))) xs ≡ true
  all_listed [] [] w = refl
  all_listed [] (y ∷ ys) w = elim w [ ]
  all_listed (x ∷ xs) [] w = elim w [ ]
  all_listed (x ∷ xs) (y ∷ ys) w =
      ap (λ (o : Option EntityType). not (is_none o) && list_all (λ (x : Export). not (is_none (item_listed (context_of a s) x))) xs) (listed_is x y w.0) ∙ all_listed xs ys w.1

  listed_same : (xs : List Export) (ys : List (Text × EntityType)) → AllZip (IsItem s.spaces) xs ys → items_listed (context_of a s) xs ≡ ys
  listed_same [] [] w = refl
  listed_same [] (y ∷ ys) w = elim w [ ]
  listed_same (x ∷ xs) [] w = elim w [ ]
  listed_same (x ∷ xs) (y ∷ ys) w =
      let es = listed_same xs ys w.1 in
      ap (λ (o : Option EntityType). before x.name o (items_listed (context_of a s) xs)) (listed_is x y w.0) ∙ λ j. (sym w.0.0 j, y.1) ∷ es j

  -- what is looked at of each
  no_other : (x : Export) → is_no_item tree_reader (core_item_at (context_of a s) x.kind x.index) ≡ false
  no_other x = ap (is_no_item tree_reader) (item_here a s x.kind x.index) ∙ go (core_item_in s.spaces x.kind x.index)
    where
      go : (o : Option EntityType) → is_no_item tree_reader (option_map item_tree o) ≡ false
      go None = refl
      go (Some e) = refl

  there_here : (x : Export) → missing (core_item_in s.spaces x.kind x.index) ≡ missing (core_item_at (context_of a s) x.kind x.index)
  there_here x = sym (missing_mapped item_tree (core_item_in s.spaces x.kind x.index)) ∙ ap missing (sym (item_here a s x.kind x.index))

  listed_free : (fs : WasmFeatures) (xs : List Export) → IsFree (all_checks (item_checks fs s.spaces) xs) → IsFree (all_checks (listed_checks fs (context_of a s)) xs)
  listed_free fs [] f = tt
  listed_free fs (x ∷ xs) f =
      let g = free_left (item_checks fs s.spaces x) (all_checks (item_checks fs s.spaces) xs) f in
      free_both (listed_checks fs (context_of a s) x) (all_checks (listed_checks fs (context_of a s)) xs)
      (free_both (sort_needs fs x.kind) (missing (core_item_at (context_of a s) x.kind x.index) ++ (kind.WrongSort, is_no_item tree_reader (core_item_at (context_of a s) x.kind x.index)) ∷ [])
      (free_left (sort_needs fs x.kind) (missing (core_item_in s.spaces x.kind x.index)) g)
      (free_both (missing (core_item_at (context_of a s) x.kind x.index)) ((kind.WrongSort, is_no_item tree_reader (core_item_at (context_of a s) x.kind x.index)) ∷ [])
      (subst IsFree (there_here x) (free_right (sort_needs fs x.kind) (missing (core_item_in s.spaces x.kind x.index)) g)) (no_other x, tt)))
      (listed_free fs xs (free_right (item_checks fs s.spaces x) (all_checks (item_checks fs s.spaces) xs) f))

  -- so of causes
  one_listed : (fs : WasmFeatures) (x : Export) (k : ErrorKind) → Cause (item_checks fs s.spaces x) k → Cause (listed_checks fs (context_of a s) x) k
  one_listed fs x k c = go (cause_either (sort_needs fs x.kind) (missing (core_item_in s.spaces x.kind x.index)) k c)
    where
      rest : Checks
      rest = missing (core_item_at (context_of a s) x.kind x.index) ++ (kind.WrongSort, is_no_item tree_reader (core_item_at (context_of a s) x.kind x.index)) ∷ []

      go : Cause (sort_needs fs x.kind) k ⊎ Cause (missing (core_item_in s.spaces x.kind x.index)) k → Cause (listed_checks fs (context_of a s) x) k
      go (inl d) = cause_left (sort_needs fs x.kind) rest k d
      go (inr d) = cause_right (sort_needs fs x.kind) rest k (cause_left (missing (core_item_at (context_of a s) x.kind x.index)) ((kind.WrongSort, is_no_item tree_reader (core_item_at (context_of a s) x.kind x.index)) ∷ []) k (subst (λ cs. Cause cs k) (there_here x) d))

  listed_cause : (fs : WasmFeatures) (xs : List Export) (k : ErrorKind) → Cause (all_checks (item_checks fs s.spaces) xs) k → Cause (all_checks (listed_checks fs (context_of a s)) xs) k
  listed_cause fs [] k c = c
  listed_cause fs (x ∷ xs) k c =
      ⊎_elim (λ d. cause_left (listed_checks fs (context_of a s) x) (all_checks (listed_checks fs (context_of a s)) xs) k (one_listed fs x k d))
      (λ d. cause_right (listed_checks fs (context_of a s) x) (all_checks (listed_checks fs (context_of a s)) xs) k (listed_cause fs xs k d))
      (cause_either (item_checks fs s.spaces x) (all_checks (item_checks fs s.spaces) xs) k c)

-- the size is stated as it is
stated : (k : ℕ) → k ≤ max_size → capped k ≡ k
stated k h = omega arith

module _ (a : Arena) (s : Contents) (es : List Export) (found : List (Text × EntityType)) (w : AllZip (IsItem s.spaces) es found) where
  pub of_exports_made : (shape : InstanceType) → shape.kind ≡ shape_kind.Exports found → shape.info.size ≡ suc (entity_sizes a.core (items_of found)) → suc (entity_sizes a.core (items_of found)) ≤ max_size → MadeInstance a s (core_bag es) shape
  of_exports_made shape is large small =
      let size_is : capped (listed_size a.core found) ≡ shape.info.size = stated (listed_size a.core found) small ∙ sym large in
      let slots_are : core_exports found none ≡ slot_parts (trees a.nodes) (kind_slots shape.kind) = sym (core_export_parts (trees a.nodes) found) ∙ ap (λ (c : CoreInstanceTypeKind). slot_parts (trees a.nodes) (kind_slots c)) (sym is) in
      record {
        made_node = core_exports_node (listed_size a.core found) found;
        made = λ outer.
            ap (λ (b : Bool). cond b (Some (core_exports_node (listed_size a.core (items_listed (context_of a s) es)) (items_listed (context_of a s) es))) None) (all_listed a s es found w) ∙
            λ j. Some (core_exports_node (listed_size a.core (listed_same a s es found w j)) (listed_same a s es found w j));
        tree = λ x j. node (core_instance (number x) (size_is j)) (slots_are j);
      }

  module _ (fs : WasmFeatures) (outer : List Tree_context) where
    abbrev listed : Checks
    listed = all_checks (listed_checks fs (context_of a s)) es

    abbrev too_large : Checks
    too_large = too_many max_size (listed_size a.core (items_listed (context_of a s) es))

    abbrev twice : Checks
    twice = (kind.Conflict, has_repeat (listed_names es)) ∷ []

    abbrev room_here : Checks
    room_here = no_room (counts (context_of a s)) is_instance

    abbrev whole : Checks
    whole = core_instance_checks fs (stack_of a s outer) (core_bag es)

    large_same : too_many max_size (suc (entity_sizes a.core (items_of found))) ≡ too_large
    large_same = λ j. too_many max_size (listed_size a.core (sym (listed_same a s es found w) j))

    twice_same : (kind.Conflict, has_repeat (texts_in found)) ∷ [] ≡ twice
    twice_same = λ j. (kind.Conflict, has_repeat (same_names (λ (x : Export). x.name) (IsItem s.spaces) (λ x y i. i.0) es found w j)) ∷ []

    pub of_exports_free : IsFree (all_checks (item_checks fs s.spaces) es) → IsFree (too_many max_size (suc (entity_sizes a.core (items_of found)))) → IsFree ((kind.Conflict, has_repeat (texts_in found)) ∷ []) → IsFree room_here → IsFree whole
    of_exports_free f g r q =
        free_both listed (too_large ++ (twice ++ room_here)) (listed_free a s fs es f)
        (free_both too_large (twice ++ room_here) (subst IsFree large_same g)
        (free_both twice room_here (subst IsFree twice_same r) q))

    module _ {M : Type 0} (offset : ℕ) (e : Error M) where
      after : (cs : Checks) → (Cause cs (error_kind e) → Cause (too_large ++ (twice ++ room_here)) (error_kind e)) → MemoryOrCausedBy cs offset e → MemoryOrCausedBy whole offset e
      after cs f t = caused_more cs whole offset e (λ c. cause_right listed (too_large ++ (twice ++ room_here)) (error_kind e) (f c)) t

      pub list_too_large : MemoryOrCausedBy (too_many max_size (suc (entity_sizes a.core (items_of found)))) offset e → MemoryOrCausedBy whole offset e
      list_too_large t = after too_large (cause_left too_large (twice ++ room_here) (error_kind e)) (subst (λ cs. MemoryOrCausedBy cs offset e) large_same t)

      pub name_repeated : MemoryOrCausedBy ((kind.Conflict, has_repeat (texts_in found)) ∷ []) offset e → MemoryOrCausedBy whole offset e
      name_repeated t = after twice (λ c. cause_right too_large (twice ++ room_here) (error_kind e) (cause_left twice room_here (error_kind e) c)) (subst (λ cs. MemoryOrCausedBy cs offset e) twice_same t)

      pub list_no_room : MemoryOrCausedBy room_here offset e → MemoryOrCausedBy whole offset e
      list_no_room t = after room_here (λ c. cause_right too_large (twice ++ room_here) (error_kind e) (cause_right twice room_here (error_kind e) c)) t

-- one that is listed is not there
pub item_missing : {M : Type 0} (a : Arena) (s : Contents) (es : List Export) (fs : WasmFeatures) (outer : List Tree_context) (offset : ℕ) (e : Error M) → MemoryOrCausedBy (all_checks (item_checks fs s.spaces) es) offset e →
    MemoryOrCausedBy (core_instance_checks fs (stack_of a s outer) (core_bag es)) offset e
item_missing a s es fs outer offset e t =
    let behind_listed : Checks = too_many max_size (listed_size a.core (items_listed (context_of a s) es)) ++ ((kind.Conflict, has_repeat (listed_names es)) ∷ no_room (counts (context_of a s)) is_instance) in
    caused_more (all_checks (item_checks fs s.spaces) es) (all_checks (listed_checks fs (context_of a s)) es ++ behind_listed) offset e
    (λ c. cause_left (all_checks (listed_checks fs (context_of a s)) es) behind_listed (error_kind e) (listed_cause a s fs es (error_kind e) c)) t

-- the items are of the table
pub items_within : (a : Arena) (s : Contents) → StateStands a s → (es : List Export) (found : List (Text × EntityType)) → AllZip (IsItem s.spaces) es found → All (λ (y : Text × EntityType). IsEntityWithin (total a.core) y.1) found
items_within a s h [] [] w = All-nil _
items_within a s h [] (y ∷ ys) w = elim w [ ]
items_within a s h (x ∷ xs) [] w = elim w [ ]
items_within a s h (x ∷ xs) (y ∷ ys) w = All-cons (λ (z : Text × EntityType). IsEntityWithin (total a.core) z.1) y ys (item_within a s h x.kind x.index y.1 w.0.1) (items_within a s h xs ys w.1)

-- ## What core instances export is of the table

module _ (W : EntityType → Type 0) where
  abbrev Within : List (Text × EntityType) → Type 0
  Within es = All (λ (e : Text × EntityType). W e.1) es

  own_within : (x : Text) (o : Option EntityType) (es fs : List (Text × EntityType)) → Within (before x o es) → (Within es → Within fs) → Within (before x o fs)
  own_within x None es fs w f = f w
  own_within x (Some e) es fs w f =
      All-cons (λ (y : Text × EntityType). W y.1) (x, e) fs (All-head (λ (y : Text × EntityType). W y.1) (x, e) es w) (f (All-tail (λ (y : Text × EntityType). W y.1) (x, e) es w))

  child_within : (t : Type_tree) → EachModule (EachItem W) t → Within (core_exports_in (parts t))
  child_within (node h ps) e = e.0.exports

  parts_within : (ps : Parts _ _) → EachNodeIn (λ h qs. EachItem W (items_in qs)) ps → Within (core_exports_in ps) → Within (instance_exports_in ps)
  parts_within none c w = All-nil _
  parts_within (part here t ps) c w = All-append (λ (y : Text × EntityType). W y.1) (core_exports_in (parts t)) (instance_exports_in ps) (child_within t c.0) (parts_within ps c.1 w)
  parts_within (part (core_export x) t ps) c w = own_within x (item_at (head t)) (core_exports_in ps) (instance_exports_in ps) w (parts_within ps c.1)
  parts_within (part (label l) t ps) c w = parts_within ps c.1 w
  parts_within (part (import l) t ps) c w = parts_within ps c.1 w
  parts_within (part (export l) t ps) c w = parts_within ps c.1 w
  parts_within (part (core_import m x) t ps) c w = parts_within ps c.1 w

  exports_within : (t : Type_tree) → EachModule (EachItem W) t → Within (instance_exports t)
  exports_within (node h ps) e = parts_within ps e.1 e.0.exports

  module_imports_within : (t : Type_tree) → EachModule (EachItem W) t → All (λ i. W i.1) (core_imports_in (parts t))
  module_imports_within (node h ps) e = e.0.imports

module _ (a : Arena) (fit : AllFit a) where
  pub args_within : (ys : List (Text × ComponentCoreInstanceTypeId)) → All (λ (y : Text × ComponentCoreInstanceTypeId). Stands a (p.CoreInstance y.1)) ys → EachArgument (IsEntityWithin (total a.core)) (argument_exports a ys)
  args_within [] h = All-nil _
  args_within (y ∷ ys) h =
      All-cons (λ (x : Text × List (Text × EntityType)). Within (IsEntityWithin (total a.core)) x.1) (y.0, instance_exports (tree_at a (p.CoreInstance y.1))) (argument_exports a ys)
      (exports_within (IsEntityWithin (total a.core)) (tree_at a (p.CoreInstance y.1)) (all_within a fit (p.CoreInstance y.1) (All-head (λ (z : Text × ComponentCoreInstanceTypeId). Stands a (p.CoreInstance z.1)) y ys h)))
      (args_within ys (All-tail (λ (z : Text × ComponentCoreInstanceTypeId). Stands a (p.CoreInstance z.1)) y ys h))

  pub imports_within : (m : ComponentCoreModuleTypeId) → Stands a (p.Module m) → All (λ i. IsEntityWithin (total a.core) i.1) (core_imports_in (parts (tree_at a (p.Module m))))
  imports_within m h = module_imports_within (IsEntityWithin (total a.core)) (tree_at a (p.Module m)) (all_within a fit (p.Module m) h)
