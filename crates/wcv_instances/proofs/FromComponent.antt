-- An instance of a component: what is looked up by ids is what the rules say of the trees, and what is made is what they make.
use Rattle.std.proofs.Common.{◌≡◌, ℕ, List, [], ◌∷◌, ◌++◌, refl, sym, ◌∙◌, ap, subst, Bool, true, not, ◌&&◌, cond, Some, None, All}
use Rattle.std.specs.Prelude.{Option, Contains, slice_get}
use Rattle.std.specs.Bool.{Decides}
use Rattle.std.specs.List.{AllZip, list_all}
use Rattle.std.specs.Option.{option_map, option_and_then}
use Rattle.std.proofs.lemmas.List.Elements.{All-nil, All-cons, All-head, All-tail, All-contains}
use Rattle.wcv_core.specs.Checks.{Checks, Cause, IsFree, all_checks}
use Rattle.wcv_core.specs.Names.{Name, Place}
use Rattle.wcv_core.specs.Refusal.{error_kind}
use Rattle.wcv_core.specs.declared.error.Error.{Error}
use Rattle.wcv_core.specs.declared.error.ErrorKind.TheVariants as kind
use Rattle.wcv_core.proofs.Causes.{cause_left, cause_right, free_both}
use Rattle.wcv_syntax.specs.Model.{instantiate}
use Rattle.wcv_syntax.specs.declared.instance.ComponentInstantiationArg.{ComponentInstantiationArg}
use Rattle.wcv_types.specs.Arena.{Arena}
use Rattle.wcv_types.specs.ByName.{texts_in}
use Rattle.wcv_types.specs.Entities.{entity_tree, EntityStands}
use Rattle.wcv_types.specs.Standing.{Stands, AllFit}
use Rattle.wcv_types.specs.Tree.{Text, is_instance}
use Rattle.wcv_types.specs.Unfold.{Type_tree, tree_at, trees}
use Rattle.wcv_types.specs.declared.ids.ComponentTypeId.{ComponentTypeId}
use Rattle.wcv_types.specs.declared.ids.Part.TheVariants as p
use Rattle.wcv_types.specs.declared.shapes.ComponentEntityType.{ComponentEntityType}
use Rattle.wcv_types.specs.declared.shapes.ComponentEntityType.TheVariants as entity
use Rattle.wcv_closed.specs.ClosedTable.{IsTable}
use Rattle.wcv_matching.specs.AtomTests.{same_seen}
use Rattle.wcv_matching.specs.ModuleItems.{before}
use Rattle.wcv_matching.specs.Orderly.{Orderly}
use Rattle.wcv_matching.specs.Refusals.{MemoryOrMismatch}
use Rattle.wcv_matching.specs.TableMatching.{CoreWithin, Opens}
use Rattle.wcv_matching.proofs.AtomTests.{seen-decides}
use Rattle.wcv_matching.proofs.PassByIds.{opening-by_ids}
use Rattle.wcv_atoms.proofs.EntityLaws.{entity_orderly, entity_within}
use Rattle.wcv_subtype.specs.Openings.{named_args, ArgumentStands}
use Rattle.wcv_lower.specs.Checks.{if_found, is_none, missing, has_repeat, no_room}
use Rattle.wcv_lower.specs.Context.{in_components, counts}
use Rattle.wcv_lower.specs.Given.{names_of, none_given}
use Rattle.wcv_lower.specs.Instances as rules
use Rattle.wcv_lower.specs.Instances.{argument_at, argument_names, argument_checks, arguments, component_at, if_opened, instance_of_component, made_checks, opened, opening_checks}
use Rattle.wcv_lower.specs.Readers.{Brought}
use Rattle.wcv_lower.specs.Trees.{Tree_context, tree_maker, tree_reader}
use Rattle.wcv_lower.specs.Values.{kind_checks}
use Rattle.wcv_spaces.specs.Contents.{Contents, context_of, id_tree, stack_of, StateStands}
use Rattle.wcv_instantiate.specs.Instantiations.{ComponentInstanceMade, MayInstantiate, brought_of}
use Rattle.wcv_spaces.specs.Promises.{MemoryOrCausedBy}
use Rattle.wcv_instantiate.specs.declared.instances.NewInstance.{NewInstance}
use Rattle.wcv_instantiate.proofs.Ascribed.{mismatch_caused}
use Rattle.wcv_spaces.proofs.Calls.{caused_more}
use Rattle.wcv_spaces.proofs.Found.{get_same, stands_at}
use Rattle.wcv_state.proofs.ItemsAt.{item_stands, item_there, items_missing}
use Rattle.wcv_state.proofs.Stacks.{none_made}
use Rattle.wcv_instances.proofs.CoreInstances.{same_names}
use Rattle.wcv_instances.specs.ComponentInstances.{arg_checks, size_checks, ItemMayInstantiate, CausedInstance, IsArg, MadeInstance}

module _ (a : Arena) (s : Contents) (h : StateStands a s) where
  abbrev ts : List Type_tree
  ts = trees a.nodes

  -- ## Arguments

  arg_is : (x : ComponentInstantiationArg) (y : Text × ComponentEntityType) → IsArg s.spaces x y → argument_at (context_of a s) x ≡ Some (entity_tree ts y.1)
  arg_is x y w = item_there a s h x.kind x.index y.1 w.1

  args_same : (xs : List ComponentInstantiationArg) → all_checks (arg_checks s.features s.spaces) xs ≡ all_checks (argument_checks s.features (context_of a s)) xs
  args_same [] = refl
  args_same (x ∷ xs) = λ j. (kind_checks s.features x.kind ++ sym (items_missing a s h x.kind x.index) j) ++ args_same xs j

  all_there : (xs : List ComponentInstantiationArg) (ys : List (Text × ComponentEntityType)) → AllZip (IsArg s.spaces) xs ys → list_all (λ (x : ComponentInstantiationArg). not (is_none (argument_at (context_of a s) x))) xs ≡ true
  all_there [] [] w = refl
  all_there [] (y ∷ ys) w = elim w [ ]
  all_there (x ∷ xs) [] w = elim w [ ]
  all_there (x ∷ xs) (y ∷ ys) w =
      ap (λ (o : Option Type_tree). not (is_none o) && list_all (λ (x : ComponentInstantiationArg). not (is_none (argument_at (context_of a s) x))) xs) (arg_is x y w.0) ∙ all_there xs ys w.1

  args_are : (xs : List ComponentInstantiationArg) (ys : List (Text × ComponentEntityType)) → AllZip (IsArg s.spaces) xs ys → arguments (context_of a s) xs ≡ named_args a ys
  args_are [] [] w = refl
  args_are [] (y ∷ ys) w = elim w [ ]
  args_are (x ∷ xs) [] w = elim w [ ]
  args_are (x ∷ xs) (y ∷ ys) w =
      let k : x.name ≡ y.0 = sym w.0.0 in
      ap (λ (o : Option Type_tree). before x.name o (arguments (context_of a s) xs)) (arg_is x y w.0) ∙ λ j. (k j, entity_tree ts y.1) ∷ args_are xs ys w.1 j

  pub args_stand : (xs : List ComponentInstantiationArg) (ys : List (Text × ComponentEntityType)) → AllZip (IsArg s.spaces) xs ys → All (ArgumentStands a) ys
  args_stand [] [] w = All-nil _
  args_stand [] (y ∷ ys) w = elim w [ ]
  args_stand (x ∷ xs) [] w = elim w [ ]
  args_stand (x ∷ xs) (y ∷ ys) w = All-cons (ArgumentStands a) y ys (item_stands a s h x.kind x.index y.1 w.0.1) (args_stand xs ys w.1)

  -- ## The component

  module _ (k : ℕ) (args : List ComponentInstantiationArg) where
    abbrev at_index : Option ComponentTypeId
    at_index = slice_get s.spaces.components k

    component_here : component_at (context_of a s) k ≡ option_map (id_tree ts in_components) at_index
    component_here = get_same a s h in_components k

    component_is : (i : ComponentTypeId) → at_index ≡ Some i → component_at (context_of a s) k ≡ Some (tree_at a (p.Component i))
    component_is i e = component_here ∙ ap (option_map (id_tree ts in_components)) e

    pub component_stands : (i : ComponentTypeId) → at_index ≡ Some i → Stands a (p.Component i)
    component_stands i e = stands_at a s h in_components k i e

    -- one may be made
    pub may_be_made : (i : ComponentTypeId) (found : List (Text × ComponentEntityType)) → at_index ≡ Some i → AllZip (IsArg s.spaces) args found → ItemMayInstantiate a s (instantiate k args) → MayInstantiate (named_args a found) (tree_at a (p.Component i))
    may_be_made i found e w all = subst (λ (xs : List (Text × Type_tree)). MayInstantiate xs (tree_at a (p.Component i))) (args_are args found w) (all (tree_at a (p.Component i)) (component_is i e))

    -- ## Its causes

    mapped_missing : (o : Option ComponentTypeId) → missing (option_map (id_tree ts in_components) o) ≡ missing o
    mapped_missing None = refl
    mapped_missing (Some i) = refl

    abbrev there : Checks
    there = missing (component_at (context_of a s) k)

    there_same : missing at_index ≡ there
    there_same = sym (mapped_missing at_index) ∙ ap missing (sym component_here)

    abbrev args_there : Checks
    args_there = all_checks (argument_checks s.features (context_of a s)) args

    abbrev unopened : Checks
    unopened = if_found (opening_checks tree_reader a.core (arguments (context_of a s) args)) (component_at (context_of a s) k)

    abbrev repeats : Checks
    repeats = (kind.Conflict, has_repeat (argument_names args)) ∷ []

    abbrev room : Checks
    room = no_room (counts (context_of a s)) is_instance

    abbrev sizes : Option (Brought tree_reader) → Checks
    sizes o = if_found rules.size_checks o

    -- those of what is made
    abbrev all : Option (Brought tree_reader) → Checks
    all o = there ++ (args_there ++ (unopened ++ (repeats ++ (sizes o ++ room))))

    repeats_same : (found : List (Text × ComponentEntityType)) → AllZip (IsArg s.spaces) args found → (kind.Conflict, has_repeat (texts_in found)) ∷ [] ≡ repeats
    repeats_same found w = λ j. (kind.Conflict, has_repeat (same_names (λ (x : ComponentInstantiationArg). x.name) (IsArg s.spaces) (λ x y i. i.0) args found w j)) ∷ []

    module _ (i : ComponentTypeId) (found : List (Text × ComponentEntityType)) (e : at_index ≡ Some i) (w : AllZip (IsArg s.spaces) args found) where
      abbrev comp : Type_tree
      comp = tree_at a (p.Component i)

      abbrev opens : Bool
      opens = tree_reader.opens a.core (named_args a found) comp

      unopened_same : (kind.Mismatch, not opens) ∷ [] ≡ unopened
      unopened_same = (λ j. (kind.Mismatch, not (tree_reader.opens a.core (sym (args_are args found w) j) comp)) ∷ []) ∙ ap (if_found (opening_checks tree_reader a.core (arguments (context_of a s) args))) (sym (component_is i e))

      -- the test decides whether the arguments open the component
      args_each : (fit : AllFit a) (ys : List (Text × ComponentEntityType)) → All (ArgumentStands a) ys → (n : Text) (x : Type_tree) → Contains (named_args a ys) (n, x) → Orderly x × CoreWithin a.core x
      args_each fit ys st n x c = All-contains (λ (z : Text × Type_tree). Orderly z.1 × CoreWithin a.core z.1) (named_args a ys) (n, x) (each ys st) c
        where
          each : (ys : List (Text × ComponentEntityType)) → All (ArgumentStands a) ys → All (λ (z : Text × Type_tree). Orderly z.1 × CoreWithin a.core z.1) (named_args a ys)
          each [] st = All-nil _
          each (y ∷ ys) st =
              All-cons (λ (z : Text × Type_tree). Orderly z.1 × CoreWithin a.core z.1) (y.0, entity_tree ts y.1) (named_args a ys)
              (entity_orderly a fit y.1 (All-head (ArgumentStands a) y ys st), entity_within a fit y.1 (All-head (ArgumentStands a) y ys st)) (each ys (All-tail (ArgumentStands a) y ys st))

      test_decides : AllFit a → IsTable a.core → Decides opens ((u : Name → Name) × Opens a.core u (named_args a found) comp)
      test_decides fit table =
          let each = args_each fit found (args_stand args found w) in
          let st : EntityStands a (entity.Component i) = component_stands i e in
          opening-by_ids a.core same_seen seen-decides table (named_args a found) comp (λ n x c. (each n x c).0) (entity_orderly a fit (entity.Component i) st) (λ n x c. (each n x c).1) (entity_within a fit (entity.Component i) st)

      module _ (fit : AllFit a) (table : IsTable a.core) (ok : (u : Name → Name) × Opens a.core u (named_args a found) comp) (b : Arena) (m : NewInstance) (made : ComponentInstanceMade a b found i m) where
        open_true : opens ≡ true
        open_true = (test_decides fit table).1 ok

        made_at : (outer : List Tree_context) (q : Place) → rules.instance_made (tree_maker (names_of (made.given_names q)) q) (stack_of a s outer) (instantiate k args) ≡ Some (brought_of b m)
        made_at outer q =
            let mk = tree_maker (names_of (made.given_names q)) q in
            let opened_is : opened (stack_of a s outer) k args ≡ Some (named_args a found, comp) =
            ap (λ (z : Bool). cond z (option_and_then (if_opened tree_reader a.core (arguments (context_of a s) args)) (component_at (context_of a s) k)) None) (all_there args found w) ∙
            (λ j. option_and_then (if_opened tree_reader a.core (args_are args found w j)) (component_is i e j)) ∙ ap (λ (z : Bool). cond z (Some (named_args a found, comp)) None) open_true in
            ap (option_map (instance_of_component mk)) opened_is ∙ ap Some (made.brought q)

        made_free : IsFree (all_checks (arg_checks s.features s.spaces) args) → IsFree ((kind.Conflict, has_repeat (texts_in found)) ∷ []) → IsFree room → IsFree (size_checks (tree_at b (p.Instance m.ty))) → (outer : List Tree_context) (q : Place) →
            IsFree (made_checks s.features (tree_maker (names_of (made.given_names q)) q) (stack_of a s outer) (instantiate k args))
        made_free f r q l outer place =
            let o : Option (Brought tree_reader) = Some (brought_of b m) in
            subst (λ (x : Option (Brought tree_reader)). IsFree (all x)) (sym (made_at outer place))
            (free_both there (args_there ++ (unopened ++ (repeats ++ (sizes o ++ room)))) (subst IsFree (ap missing (sym (component_is i e))) (refl, tt))
            (free_both args_there (unopened ++ (repeats ++ (sizes o ++ room))) (subst IsFree (args_same args) f)
            (free_both unopened (repeats ++ (sizes o ++ room)) (subst IsFree unopened_same (ap not open_true, tt))
            (free_both repeats (sizes o ++ room) (subst IsFree (repeats_same found w) r) (free_both (sizes o) room l q)))))

        pub component_instance : IsFree (all_checks (arg_checks s.features s.spaces) args) → IsFree ((kind.Conflict, has_repeat (texts_in found)) ∷ []) → IsFree room → IsFree (size_checks (tree_at b (p.Instance m.ty))) → MadeInstance a b s (instantiate k args) m
        component_instance f r q l = record {
          given_names = made.given_names;
          given = made.given;
          made = made_at;
          free = made_free f r q l;
          stands = made.stands;
          alone = made.alone;
          fresh = made.fresh;
          below = made.below;
          distinct = made.distinct;
          core = made.core;
        }

        -- it is too large
        pub too_large : {M : Type 0} (offset : ℕ) (x : Error M) → MemoryOrCausedBy (size_checks (tree_at b (p.Instance m.ty))) offset x → CausedInstance a b s (instantiate k args) offset x
        too_large offset x t = record {
          given_names = made.given_names;
          given = made.given;
          caused = λ outer q.
              let o : Option (Brought tree_reader) = Some (brought_of b m) in
              subst (λ (y : Option (Brought tree_reader)). MemoryOrCausedBy (all y) offset x) (sym (made_at outer q))
              (caused_more (sizes o) (all o) offset x
              (λ c. cause_right there (args_there ++ (unopened ++ (repeats ++ (sizes o ++ room)))) (error_kind x)
              (cause_right args_there (unopened ++ (repeats ++ (sizes o ++ room))) (error_kind x)
              (cause_right unopened (repeats ++ (sizes o ++ room)) (error_kind x) (cause_right repeats (sizes o ++ room) (error_kind x) (cause_left (sizes o) room (error_kind x) c))))) t);
        }

    -- ## Refused before anything was made

    module _ {M : Type 0} (b : Arena) (offset : ℕ) (x : Error M) where
      abbrev Caused : Checks → Type 0
      Caused cs = MemoryOrCausedBy cs offset x

      abbrev Refused : Type 0
      Refused = CausedInstance a b s (instantiate k args) offset x

      abbrev made_none : Place → List Tree_context → Option (Brought tree_reader)
      made_none q outer = rules.instance_made (tree_maker (names_of none_given) q) (stack_of a s outer) (instantiate k args)

      refused : (cs : Checks) → ((o : Option (Brought tree_reader)) → Cause cs (error_kind x) → Cause (all o) (error_kind x)) → Caused cs → Refused
      refused cs f t = record { given_names = λ q. none_given; given = λ q. none_made a b q; caused = λ outer q. caused_more cs (all (made_none q outer)) offset x (f (made_none q outer)) t }

      behind : (cs : Checks) → ((o : Option (Brought tree_reader)) → Cause cs (error_kind x) → Cause (unopened ++ (repeats ++ (sizes o ++ room))) (error_kind x)) → Caused cs → Refused
      behind cs f t =
          refused cs
          (λ o c. cause_right there (args_there ++ (unopened ++ (repeats ++ (sizes o ++ room)))) (error_kind x) (cause_right args_there (unopened ++ (repeats ++ (sizes o ++ room))) (error_kind x) (f o c))) t

      pub no_component : Caused (missing at_index) → Refused
      no_component t = refused there (λ o c. cause_left there (args_there ++ (unopened ++ (repeats ++ (sizes o ++ room)))) (error_kind x) c) (subst Caused there_same t)

      pub no_arg : Caused (all_checks (arg_checks s.features s.spaces) args) → Refused
      no_arg t =
          refused args_there (λ o c. cause_right there (args_there ++ (unopened ++ (repeats ++ (sizes o ++ room)))) (error_kind x) (cause_left args_there (unopened ++ (repeats ++ (sizes o ++ room))) (error_kind x) c))
          (subst Caused (args_same args) t)

      pub arg_twice : (found : List (Text × ComponentEntityType)) → AllZip (IsArg s.spaces) args found → Caused ((kind.Conflict, has_repeat (texts_in found)) ∷ []) → Refused
      arg_twice found w t = behind repeats (λ o c. cause_right unopened (repeats ++ (sizes o ++ room)) (error_kind x) (cause_left repeats (sizes o ++ room) (error_kind x) c)) (subst Caused (repeats_same found w) t)

      pub full_here : Caused room → Refused
      full_here t = behind room (λ o c. cause_right unopened (repeats ++ (sizes o ++ room)) (error_kind x) (cause_right repeats (sizes o ++ room) (error_kind x) (cause_right (sizes o) room (error_kind x) c))) t

      pub not_opened : AllFit a → IsTable a.core → (i : ComponentTypeId) (found : List (Text × ComponentEntityType)) → at_index ≡ Some i → AllZip (IsArg s.spaces) args found →
          MemoryOrMismatch offset ((u : Name → Name) × Opens a.core u (named_args a found) (tree_at a (p.Component i))) x → Refused
      not_opened fit table i found e w t =
          behind unopened (λ o c. cause_left unopened (repeats ++ (sizes o ++ room)) (error_kind x) c)
          (subst Caused (unopened_same i found e w) (mismatch_caused (opens i found e w) _ offset x (test_decides i found e w fit table).0 t))
