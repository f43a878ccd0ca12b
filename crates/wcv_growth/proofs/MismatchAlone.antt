-- Of the checks of an instantiation, and of an export with a written type, one is of the kind that says of arguments, or of an item, that it
-- does not match.
use Rattle.std.proofs.Common.{◌≡◌, ℕ, List, [], ◌∷◌, ◌++◌, Bool, true, false, not, ◌&&◌, refl, sym, ◌∙◌, ap, subst, Option, Some, None, ◌⊎◌, inl, inr}
use Rattle.std.proofs.lemmas.Bool.{false≢true}
use Rattle.wcv_core.specs.Checks.{Checks, Cause, all_checks, lacks, missing}
use Rattle.wcv_core.specs.declared.error.ErrorKind.{ErrorKind}
use Rattle.wcv_core.specs.declared.error.ErrorKind.TheVariants as error
use Rattle.wcv_core.specs.declared.features.WasmFeatures.{WasmFeatures}
use Rattle.wcv_core.specs.declared.primitive.PrimitiveValType.{PrimitiveValType}
use Rattle.wcv_core.specs.declared.primitive.PrimitiveValType.TheVariants as prim
use Rattle.wcv_core.proofs.Causes.{cause_left, cause_right, cause_either}
use Rattle.wcv_core.proofs.Names.{and_left, and_right}
use Rattle.wcv_syntax.specs.Model.{instantiate}
use Rattle.wcv_syntax.specs.declared.component_type.ComponentTypeRef.{ComponentTypeRef}
use Rattle.wcv_syntax.specs.declared.component_type.ComponentTypeRef.TheVariants as ref
use Rattle.wcv_syntax.specs.declared.component_type.ComponentValType.{ComponentValType}
use Rattle.wcv_syntax.specs.declared.component_type.ComponentValType.TheVariants as val
use Rattle.wcv_syntax.specs.declared.component_type.TypeBounds.TheVariants as bounds
use Rattle.wcv_syntax.specs.declared.instance.ComponentExternalKind.{ComponentExternalKind}
use Rattle.wcv_syntax.specs.declared.instance.ComponentExternalKind.TheVariants as kind
use Rattle.wcv_syntax.specs.declared.instance.ComponentInstantiationArg.{ComponentInstantiationArg}
use Rattle.wcv_syntax.specs.declared.name.ComponentExport.{ComponentExport}
use Rattle.wcv_types.specs.Tree.{Text, Sort, is_nothing, is_value, is_resource, is_func, is_instance, is_component, is_type, is_module, is_core_instance, is_core_type, is_core_item}
use Rattle.wcv_lower.specs.Checks.{Counts, if_found, full_side, no_room, has_repeat, bad_entity, too_large}
use Rattle.wcv_lower.specs.Context.{exporting, counts}
use Rattle.wcv_lower.specs.Defined.{is_empty}
use Rattle.wcv_lower.specs.Entries.{extern_name, exported_at, exported, written, written_checks, mismatch, ascribed_checks, found_checks, exported_checks, exported_values, entity_checks, unnamed, lent, export_checks}
use Rattle.wcv_lower.specs.EntryNames.{name_checks}
use Rattle.wcv_lower.specs.Instances.{component_at, argument_at, argument_checks, argument_names, argument_values, arguments, instance_made, instance_checks, made_checks, opening_checks, size_checks}
use Rattle.wcv_lower.specs.Marks.{use_checks}
use Rattle.wcv_lower.specs.Readers.{Maker, weight}
use Rattle.wcv_lower.specs.Step.{Brought}
use Rattle.wcv_lower.specs.Trees.{Type_tree, Tree_context, Tree_stack, tree_reader}
use Rattle.wcv_core.specs.Features.{cm_values}
use Rattle.wcv_lower.specs.Values.{kind_checks, value_checks, primitive_checks}

-- it is none of the causes
abbrev pub NotMismatch : Checks → Type 0
NotMismatch cs = Cause cs error.Mismatch → ⊥

both : (cs ds : Checks) → NotMismatch cs → NotMismatch ds → NotMismatch (cs ++ ds)
both cs ds a b c = go (cause_either cs ds error.Mismatch c)
  where
    go : Cause cs error.Mismatch ⊎ Cause ds error.Mismatch → ⊥
    go (inl x) = a x
    go (inr x) = b x

abbrev is_other : ErrorKind → Bool
is_other error.Mismatch = false
is_other k = true

abbrev are_other : Checks → Bool
are_other [] = true
are_other (c ∷ cs) = is_other c.0 && are_other cs

-- checks of other kinds
others : (cs : Checks) → are_other cs ≡ true → NotMismatch cs
others [] e c = c
others (x ∷ cs) e (inl c) = false≢true (ap is_other c.0 ∙ and_left (is_other x.0) (are_other cs) e)
others (x ∷ cs) e (inr c) = others cs (and_right (is_other x.0) (are_other cs) e) c

none : NotMismatch []
none c = c

each : {A : Type 0} (f : A → Checks) → ((x : A) → NotMismatch (f x)) → (xs : List A) → NotMismatch (all_checks f xs)
each f h [] = none
each f h (x ∷ xs) = both (f x) (all_checks f xs) (h x) (each f h xs)

found : {A : Type 0} (f : A → Checks) → ((x : A) → NotMismatch (f x)) → (o : Option A) → NotMismatch (if_found f o)
found f h None = none
found f h (Some x) = h x

lacking : (fs : WasmFeatures) (k : ComponentExternalKind) → NotMismatch (kind_checks fs k)
lacking fs kind.Value = others (kind_checks fs kind.Value) refl
lacking fs k = none

room : (n : Counts) (s : Sort) → NotMismatch (no_room n s)
room n is_func = others (no_room n is_func) refl
room n is_type = others (no_room n is_type) refl
room n is_value = others (no_room n is_value) refl
room n is_instance = others (no_room n is_instance) refl
room n is_component = others (no_room n is_component) refl
room n is_resource = none
room n is_nothing = none
room n is_module = others (no_room n is_module) refl
room n is_core_instance = none
room n is_core_type = none
room n is_core_item = none

-- ## An instantiation

module _ (fs : WasmFeatures) (mk : Maker tree_reader) (s : Tree_stack) (i : ℕ) (given : List ComponentInstantiationArg) (c : Type_tree) (there : component_at s.top i ≡ Some c) where
  abbrev args : List (Text × Type_tree)
  args = arguments s.top given

  abbrev opens : Bool
  opens = tree_reader.opens s.groups args c

  abbrev Opened : Checks
  Opened = if_found (opening_checks tree_reader s.groups args) (component_at s.top i)

  abbrev Behind : Checks
  Behind = (error.Conflict, has_repeat (argument_names given)) ∷ (if_found size_checks (instance_made mk s (instantiate i given)) ++ no_room (counts s.top) is_instance)

  abbrev Found : Checks
  Found = all_checks (argument_checks fs s.top) given

  abbrev Own : Checks
  Own = made_checks fs mk s (instantiate i given)

  sizes : (b : Brought tree_reader) → NotMismatch (size_checks b)
  sizes b = others (size_checks b) refl

  looked : (a : ComponentInstantiationArg) → NotMismatch (argument_checks fs s.top a)
  looked a = both (kind_checks fs a.kind) (missing (argument_at s.top a)) (lacking fs a.kind) (others (missing (argument_at s.top a)) refl)

  behind : NotMismatch Behind
  behind = both ((error.Conflict, has_repeat (argument_names given)) ∷ []) (if_found size_checks (instance_made mk s (instantiate i given)) ++ no_room (counts s.top) is_instance) (others ((error.Conflict, has_repeat (argument_names given)) ∷ []) refl)
      (both (if_found size_checks (instance_made mk s (instantiate i given))) (no_room (counts s.top) is_instance) (found size_checks sizes (instance_made mk s (instantiate i given))) (room (counts s.top) is_instance))

  -- it is a cause exactly where the test fails
  pub unopened : Cause (instance_checks fs mk s (instantiate i given)) error.Mismatch → opens ≡ false
  unopened w = first (cause_either (use_checks s.top (argument_values given)) Own error.Mismatch w)
    where
      here : Cause Opened error.Mismatch → opens ≡ false
      here x = one-here (subst (λ (o : Option Type_tree). Cause (if_found (opening_checks tree_reader s.groups args) o) error.Mismatch) there x)
        where
          flip : (b : Bool) → not b ≡ true → b ≡ false
          flip true e = cc
          flip false e = refl

          one-here : Cause (opening_checks tree_reader s.groups args c) error.Mismatch → opens ≡ false
          one-here (inl y) = flip opens y.1
          one-here (inr y) = absurd y

      fourth : Cause Opened error.Mismatch ⊎ Cause Behind error.Mismatch → opens ≡ false
      fourth (inl x) = here x
      fourth (inr x) = absurd (behind x)

      third : Cause Found error.Mismatch ⊎ Cause (Opened ++ Behind) error.Mismatch → opens ≡ false
      third (inl x) = absurd (each (argument_checks fs s.top) looked given x)
      third (inr x) = fourth (cause_either Opened Behind error.Mismatch x)

      second : Cause (missing (component_at s.top i)) error.Mismatch ⊎ Cause (Found ++ (Opened ++ Behind)) error.Mismatch → opens ≡ false
      second (inl x) = absurd (others (missing (component_at s.top i)) refl x)
      second (inr x) = third (cause_either Found (Opened ++ Behind) error.Mismatch x)

      first : Cause (use_checks s.top (argument_values given)) error.Mismatch ⊎ Cause Own error.Mismatch → opens ≡ false
      first (inl x) = absurd (others (use_checks s.top (argument_values given)) refl x)
      first (inr x) = second (cause_either (missing (component_at s.top i)) (Found ++ (Opened ++ Behind)) error.Mismatch x)

  pub then-unopened : opens ≡ false → Cause (instance_checks fs mk s (instantiate i given)) error.Mismatch
  then-unopened e =
      let x : Cause Opened error.Mismatch = subst (λ (o : Option Type_tree). Cause (if_found (opening_checks tree_reader s.groups args) o) error.Mismatch) (sym there) (inl (refl, ap not e)) in
      cause_right (use_checks s.top (argument_values given)) Own error.Mismatch
      (cause_right (missing (component_at s.top i)) (Found ++ (Opened ++ Behind)) error.Mismatch (cause_right Found (Opened ++ Behind) error.Mismatch (cause_left Opened Behind error.Mismatch x)))

-- ## An export with a written type

value-looked : (fs : WasmFeatures) (c : Tree_context) (v : ComponentValType) → NotMismatch (value_checks {X = tree_reader} fs c v)
value-looked fs c (val.Ty k) = others (value_checks {X = tree_reader} fs c (val.Ty k)) refl
value-looked fs c (val.Primitive p) = primitives p
  where
    primitives : (p : PrimitiveValType) → NotMismatch (primitive_checks fs p)
    primitives prim.ErrorContext = others (primitive_checks fs prim.ErrorContext) refl
    primitives p = none

written-looked : (fs : WasmFeatures) (c : Tree_context) (r : ComponentTypeRef) → NotMismatch (written_checks {X = tree_reader} fs c r)
written-looked fs c (ref.Module k) = others (written_checks {X = tree_reader} fs c (ref.Module k)) refl
written-looked fs c (ref.Func k) = others (written_checks {X = tree_reader} fs c (ref.Func k)) refl
written-looked fs c (ref.Instance k) = others (written_checks {X = tree_reader} fs c (ref.Instance k)) refl
written-looked fs c (ref.Component k) = others (written_checks {X = tree_reader} fs c (ref.Component k)) refl
written-looked fs c (ref.Ty (bounds.Eq k)) = others (written_checks {X = tree_reader} fs c (ref.Ty (bounds.Eq k))) refl
written-looked fs c (ref.Ty bounds.SubResource) = none
written-looked fs c (ref.Value v) = both (lacks fs cm_values) (value_checks {X = tree_reader} fs c v) (others (lacks fs cm_values) refl) (value-looked fs c v)

module _ (fs : WasmFeatures) (mk : Maker tree_reader) (s : Tree_stack) (e : ComponentExport) (r : ComponentTypeRef) (x : Type_tree) (b : Brought tree_reader) (says : e.ty ≡ Some r) (there : exported_at s.top e ≡ Some x) (gives : written mk s.top r ≡ Some b) where
  abbrev matches : Bool
  matches = is_empty b.resources && tree_reader.matches s.groups x b.entity

  abbrev Tested : Checks
  Tested = if_found (λ (y : Type_tree). if_found (mismatch s.groups y) (written mk s.top r)) (exported_at s.top e)

  abbrev Ascribed : Option ComponentTypeRef → Checks
  Ascribed o = ascribed_checks fs s.groups mk s.top o (exported_at s.top e)

  abbrev Missing : Checks
  Missing = missing (exported_at s.top e)

  abbrev Uses : Checks
  Uses = use_checks s.top (exported_values e)

  abbrev Looked : Checks
  Looked = exported_checks fs s.groups mk s.top e

  abbrev Entity : Checks
  Entity = if_found (λ (y : Brought tree_reader). entity_checks fs exporting (extern_name e.name) s.top y.entity) (exported mk s.top e)

  abbrev Full : Checks
  Full = full_side true exporting (counts s.top)

  entity-looked : (y : Brought tree_reader) → NotMismatch (entity_checks fs exporting (extern_name e.name) s.top y.entity)
  entity-looked y =
      let c : Counts = counts s.top in
      let names : Checks = name_checks fs (s.top.side exporting) (extern_name e.name) y.entity in
      let last : Checks = unnamed tree_reader s.top.kind s.top.named exporting y.entity ++ lent tree_reader exporting y.entity in
      both names (bad_entity c (weight tree_reader y.entity) ++ last) (others names refl)
      (both (bad_entity c (weight tree_reader y.entity)) last
      (both (no_room c (weight tree_reader y.entity).sort) (too_large c (weight tree_reader y.entity)) (room c (weight tree_reader y.entity).sort) (others (too_large c (weight tree_reader y.entity)) refl)) (others last refl))

  -- it is a cause exactly where the test fails
  pub unmatched : Cause (export_checks fs mk s e) error.Mismatch → matches ≡ false
  unmatched w = first (cause_either Full (Looked ++ Entity) error.Mismatch w)
    where
      flip : (c : Bool) → not c ≡ true → c ≡ false
      flip true q = cc
      flip false q = refl

      here : Cause (mismatch s.groups x b) error.Mismatch → matches ≡ false
      here (inl y) = flip matches y.1
      here (inr y) = absurd y

      tested : Cause Tested error.Mismatch → matches ≡ false
      tested y =
          here (subst (λ (o : Option (Brought tree_reader)). Cause (if_found (mismatch s.groups x) o) error.Mismatch) gives
          (subst (λ (o : Option Type_tree). Cause (if_found (λ (z : Type_tree). if_found (mismatch s.groups z) (written mk s.top r)) o) error.Mismatch) there y))

      sixth : Cause (written_checks fs s.top r) error.Mismatch ⊎ Cause Tested error.Mismatch → matches ≡ false
      sixth (inl y) = absurd (written-looked fs s.top r y)
      sixth (inr y) = tested y

      fifth : Cause Missing error.Mismatch ⊎ Cause (Ascribed e.ty) error.Mismatch → matches ≡ false
      fifth (inl y) = absurd (others Missing refl y)
      fifth (inr y) = sixth (cause_either (written_checks fs s.top r) Tested error.Mismatch (subst (λ (o : Option ComponentTypeRef). Cause (Ascribed o) error.Mismatch) says y))

      fourth : Cause (kind_checks fs e.kind) error.Mismatch ⊎ Cause (Missing ++ Ascribed e.ty) error.Mismatch → matches ≡ false
      fourth (inl y) = absurd (lacking fs e.kind y)
      fourth (inr y) = fifth (cause_either Missing (Ascribed e.ty) error.Mismatch y)

      third : Cause Uses error.Mismatch ⊎ Cause (found_checks fs s.groups mk s.top e) error.Mismatch → matches ≡ false
      third (inl y) = absurd (others Uses refl y)
      third (inr y) = fourth (cause_either (kind_checks fs e.kind) (Missing ++ Ascribed e.ty) error.Mismatch y)

      second : Cause Looked error.Mismatch ⊎ Cause Entity error.Mismatch → matches ≡ false
      second (inl y) = third (cause_either Uses (found_checks fs s.groups mk s.top e) error.Mismatch y)
      second (inr y) = absurd (found (λ (z : Brought tree_reader). entity_checks fs exporting (extern_name e.name) s.top z.entity) entity-looked (exported mk s.top e) y)

      first : Cause Full error.Mismatch ⊎ Cause (Looked ++ Entity) error.Mismatch → matches ≡ false
      first (inl y) = absurd (others Full refl y)
      first (inr y) = second (cause_either Looked Entity error.Mismatch y)

  pub then-unmatched : matches ≡ false → Cause (export_checks fs mk s e) error.Mismatch
  then-unmatched q =
      let y : Cause Tested error.Mismatch = subst (λ (o : Option Type_tree). Cause (if_found (λ (z : Type_tree). if_found (mismatch s.groups z) (written mk s.top r)) o) error.Mismatch) (sym there)
      (subst (λ (o : Option (Brought tree_reader)). Cause (if_found (mismatch s.groups x) o) error.Mismatch) (sym gives) (inl (refl, ap not q))) in
      let a : Cause (Ascribed e.ty) error.Mismatch = subst (λ (o : Option ComponentTypeRef). Cause (Ascribed o) error.Mismatch) (sym says) (cause_right (written_checks fs s.top r) Tested error.Mismatch y) in
      cause_right Full (Looked ++ Entity) error.Mismatch
      (cause_left Looked Entity error.Mismatch (cause_right Uses (found_checks fs s.groups mk s.top e) error.Mismatch (cause_right (kind_checks fs e.kind) (Missing ++ Ascribed e.ty) error.Mismatch (cause_right Missing (Ascribed e.ty) error.Mismatch a))))
