-- Aliases of an instance's export, of a core instance's, and of what stands further out, over any kind of entry.
use Rattle.std.specs.Prelude.{ℕ, ◌+◌, nat_lt, zero, suc, List, [], ◌∷◌, ◌++◌, Bool, true, false, not, ◌&&◌, cond, Option, Some, None, slice_get}
use Rattle.std.specs.Option.{option_map, option_and_then}
use Rattle.wcv_core.specs.Limits.{max_size}
use Rattle.wcv_core.specs.declared.error.ErrorKind.TheVariants as error
use Rattle.wcv_core.specs.declared.features.WasmFeatures.{WasmFeatures}
use Rattle.wcv_syntax.specs.declared.instance.ComponentAlias.{ComponentAlias}
use Rattle.wcv_syntax.specs.declared.instance.ComponentAlias.TheVariants as alias
use Rattle.wcv_syntax.specs.declared.instance.ComponentExternalKind.{ComponentExternalKind}
use Rattle.wcv_syntax.specs.declared.instance.ComponentExternalKind.TheVariants as kind
use Rattle.wcv_syntax.specs.declared.instance.ComponentOuterAliasKind.{ComponentOuterAliasKind}
use Rattle.wcv_syntax.specs.declared.instance.ComponentOuterAliasKind.TheVariants as outer
use Rattle.wcv_types.specs.Tree.{Text, Sort, is_value, is_func, is_instance, is_component, is_type, is_module}
use Rattle.wcv_lower.specs.Checks.{Checks, Counts, too_long, no_type_room, no_core_type_room, if_found, is_none, missing, is_other, no_room}
use Rattle.wcv_lower.specs.Context.{Context, Stack, in_types, in_instances, in_components, core_types, core_modules, is_concrete, at_distance, counts}
use Rattle.wcv_lower.specs.CoreInstances.{core_alias_step, core_alias_checks}
use Rattle.wcv_lower.specs.Readers.{Reader, sort_of, if_sort, first_named}
use Rattle.wcv_lower.specs.Step.{Step, charges, appends, core_appends, joins}
use Rattle.wcv_lower.specs.Values.{kind_checks}

-- ## An instance's export

abbrev pub sort_named : ComponentExternalKind → Sort
sort_named kind.Module = is_module
sort_named kind.Func = is_func
sort_named kind.Value = is_value
sort_named kind.Ty = is_type
sort_named kind.Instance = is_instance
sort_named kind.Component = is_component

-- a declared type may alias types and instances alone
abbrev pub is_admitted : ComponentExternalKind → Bool
is_admitted kind.Ty = true
is_admitted kind.Instance = true
is_admitted _ = false

abbrev pub instance_at : {X : Reader} → Context X → ℕ → Option X.Entry
instance_at c i = slice_get (c.space in_instances) i

-- the export of that name
abbrev pub export_of : (X : Reader) → Text → X.Entry → Option X.Entry
export_of X n x = first_named n (X.exports x)

-- it joins the space of its sort
abbrev pub joining : {X : Reader} → X.Entry → Step X
joining {X} x = joins X false (sort_of X x) x

abbrev pub export_alias_step : {X : Reader} → Context X → ComponentExternalKind → ℕ → Text → Option (Step X)
export_alias_step {X} c w i n = option_map joining (option_and_then (if_sort X (sort_named w)) (option_and_then (export_of X n) (instance_at c i)))

-- the instance lacks the name, or what has it is of another sort
abbrev pub named_checks : (X : Reader) → Sort → Option X.Entry → Checks
named_checks X s o = (error.UnknownExport, is_none o) ∷ (error.WrongSort, is_other s (option_map (sort_of X) o)) ∷ []

abbrev pub export_alias_checks : {X : Reader} → Context X → ComponentExternalKind → ℕ → Text → Checks
export_alias_checks {X} c w i n =
    (error.AliasKind, not (is_concrete c.kind) && not (is_admitted w))
    ∷ (missing (instance_at c i) ++ (if_found (λ x. named_checks X (sort_named w) (export_of X n x)) (instance_at c i) ++ no_room (counts c) (sort_named w)))

-- ## What stands further out

abbrev pub outer_items : {X : Reader} → ComponentOuterAliasKind → Context X → List X.Entry
outer_items outer.CoreModule c = c.core core_modules
outer_items outer.CoreType c = c.core core_types
outer_items outer.Ty c = c.space in_types
outer_items outer.Component c = c.space in_components

abbrev pub outer_at : {X : Reader} → Stack X → ComponentOuterAliasKind → ℕ → ℕ → Option X.Entry
outer_at s w n i = option_and_then (λ c. slice_get (outer_items w c) i) (at_distance n s)

-- of a type as it is there, and it is not created again
abbrev pub outer_joins : {X : Reader} → ComponentOuterAliasKind → X.Entry → Step X
outer_joins outer.CoreModule x = core_appends core_modules x ∷ []
outer_joins outer.CoreType x = core_appends core_types x ∷ []
outer_joins outer.Ty x = appends in_types x ∷ []
outer_joins outer.Component x = appends in_components x ∷ []

-- types and components are charged
abbrev pub is_charged : ComponentOuterAliasKind → Bool
is_charged outer.Ty = true
is_charged outer.Component = true
is_charged _ = false

-- it is there and concrete
abbrev pub is_concrete_one : {X : Reader} → Option (Context X) → Bool
is_concrete_one None = false
is_concrete_one (Some c) = is_concrete c.kind

abbrev pub concrete_at : {X : Reader} → ℕ → Stack X → Bool
concrete_at n s = is_concrete_one (at_distance n s)

-- a concrete context right after the target is charged; with none between there is no such context
abbrev pub charged : {X : Reader} → Stack X → ComponentOuterAliasKind → ℕ → X.Entry → Step X
charged s w zero x = []
charged {X} s w (suc n) x = cond (is_charged w && concrete_at n s) (charges n (X.size x) ∷ []) []

-- how much was aliased into it, if it is there
abbrev pub aliased_one : {X : Reader} → Option (Context X) → ℕ
aliased_one None = 0
aliased_one (Some c) = c.aliased

abbrev pub aliased_at : {X : Reader} → ℕ → Stack X → ℕ
aliased_at n s = aliased_one (at_distance n s)

-- a resource is free in what is aliased into it, or that is too much in all
abbrev pub escapes : {X : Reader} → Stack X → ComponentOuterAliasKind → ℕ → X.Entry → Checks
escapes s w zero x = []
escapes {X} s w (suc n) x =
    (error.ResourceScope, is_charged w && (concrete_at n s && X.has_free x)) ∷ (error.Limit, is_charged w && (concrete_at n s && nat_lt max_size (aliased_at n s + X.size x))) ∷ []

-- no room for one more there
abbrev pub outer_room : ComponentOuterAliasKind → Counts → Checks
outer_room outer.CoreModule n = no_room n is_module
outer_room outer.CoreType n = no_core_type_room 1 n
outer_room outer.Ty n = no_type_room true n
outer_room outer.Component n = no_room n is_component

abbrev pub outer_alias_step : {X : Reader} → Stack X → ComponentOuterAliasKind → ℕ → ℕ → Option (Step X)
outer_alias_step s w n i = option_map (λ x. charged s w n x ++ outer_joins w x) (outer_at s w n i)

abbrev pub outer_admitted : ComponentOuterAliasKind → Bool
outer_admitted outer.Ty = true
outer_admitted outer.CoreType = true
outer_admitted _ = false

abbrev pub outer_alias_checks : {X : Reader} → Stack X → ComponentOuterAliasKind → ℕ → ℕ → Checks
outer_alias_checks s w n i =
    (error.AliasKind, not (is_concrete s.top.kind) && not (outer_admitted w)) ∷ (error.OutOfBounds, is_none (outer_at s w n i)) ∷ (if_found (escapes s w n) (outer_at s w n i) ++ outer_room w (counts s.top))

-- ## Items

abbrev pub alias_step : {X : Reader} → Stack X → ComponentAlias → Option (Step X)
alias_step s (alias.InstanceExport w i n) = export_alias_step s.top w i n
alias_step s (alias.CoreInstanceExport w i n) = core_alias_step s.top w i n
alias_step s (alias.Outer w n i) = outer_alias_step s w n i

abbrev pub alias_checks : {X : Reader} → WasmFeatures → Stack X → ComponentAlias → Checks
alias_checks fs s (alias.InstanceExport w i n) = kind_checks fs w ++ export_alias_checks s.top w i n
alias_checks fs s (alias.CoreInstanceExport w i n) = core_alias_checks fs s.top w i n
alias_checks fs s (alias.Outer w n i) = outer_alias_checks s w n i

-- the limits that are left to the caller
abbrev pub alias_left : ComponentAlias → Checks
alias_left (alias.InstanceExport w i n) = too_long n
alias_left (alias.CoreInstanceExport w i n) = too_long n
alias_left (alias.Outer w n i) = []
