-- Declared types: instance types and component types. Their declarations are read one by one, as items are, each in the stack that
-- those before it leave, with a context of their own on top.
use Rattle.std.specs.Prelude.{ℕ, zero, suc, List, [], ◌∷◌, ◌++◌, length, Bool, true, Option, Some, None}
use Rattle.std.specs.Option.{option_map, option_and_then}
use Rattle.wcv_core.specs.CoreForm.{Group}
use Rattle.wcv_core.specs.Limits.{max_list, max_open}
use Rattle.wcv_core.specs.Names.{Place, deeper}
use Rattle.wcv_core.specs.declared.features.WasmFeatures.{WasmFeatures}
use Rattle.wcv_syntax.specs.Model.{core_type_item, type_item, import_item, Type_form, component_type, instance_type, Decl, core_type_decl, type_decl, alias_decl, export_decl, import_decl, Decls, no_decls, declare}
use Rattle.wcv_syntax.specs.declared.component_type.ComponentTypeRef.{ComponentTypeRef}
use Rattle.wcv_syntax.specs.declared.name.ComponentExternName.{ComponentExternName}
use Rattle.wcv_lower.specs.Aliases.{alias_step, alias_checks, alias_left}
use Rattle.wcv_lower.specs.Checks.{Checks, too_many, each_too_long, texts_of, no_type_room}
use Rattle.wcv_lower.specs.Context.{Kind, concrete, declares_instance, declares_component, in_components, Context, Stack, empty, exporting, counts}
use Rattle.wcv_lower.specs.CoreItems.{core_type_checks, core_type_left}
use Rattle.wcv_lower.specs.Ending.{declared_made, declared_end_checks}
use Rattle.wcv_lower.specs.Entries.{extern_name, new_there, written, written_checks, entry_checks, import_checks}
use Rattle.wcv_lower.specs.Growth.{grow}
use Rattle.wcv_lower.specs.Readers.{Reader, Maker, New_node}
use Rattle.wcv_lower.specs.Step.{appends, Step, apply, enters}
use Rattle.wcv_lower.specs.Types.{added, type_checks, type_left}

-- what is made at each place
abbrev pub Makers : Reader → Type 0
Makers X = Place → Maker X

-- ## Its context

-- on the stack, before its first declaration
abbrev pub inside : {X : Reader} → Kind → Stack X → Stack X
inside {X} k s = record { top = empty X k; outer = s.top ∷ s.outer; groups = s.groups }

abbrev pub stack_of : {X : Reader} → List (Context X) → List Group → Option (Stack X)
stack_of [] gs = None
stack_of (c ∷ cs) gs = Some (record { top = c; outer = cs; groups = gs })

-- the stack without its top, if a context stands around that
abbrev pub around : {X : Reader} → Stack X → Option (Stack X)
around s = stack_of s.outer s.groups

-- what it is joins the types of the context around it, or of a component the components
abbrev pub closed_as : {X : Reader} → Kind → Maker X → New_node X → Step X
closed_as concrete mk n = appends in_components (mk.build n) ∷ []
closed_as declares_instance mk n = added mk n
closed_as declares_component mk n = added mk n

-- at its end it leaves the stack, and what it is joins the context around it
abbrev pub ended : {X : Reader} → Kind → Maker X → Stack X → Option (Stack X)
ended k mk s = option_and_then (λ t. option_map (λ n. apply (closed_as k mk n) t) (declared_made k s.top)) (around s)

-- no room for one more context on the stack
abbrev pub full_stack : {X : Reader} → Stack X → Checks
full_stack s = too_many max_open (suc (suc (length s.outer)))

-- ## Declarations

abbrev pub applied : {X : Reader} → Stack X → Option (Step X) → Option (Stack X)
applied s o = option_map (λ x. apply x s) o

-- an export that is declared is of a written type, as an import is
abbrev pub declared_export_step : {X : Reader} → Maker X → Context X → ComponentExternName → ComponentTypeRef → Option (Step X)
declared_export_step mk c n r = option_map (enters exporting (extern_name n)) (new_there exporting (extern_name n) c (written mk c r))

abbrev pub declared_export_checks : {X : Reader} → WasmFeatures → Maker X → Context X → ComponentExternName → ComponentTypeRef → Checks
declared_export_checks fs mk c n r = entry_checks fs exporting (extern_name n) c (written_checks fs c r) (written mk c r)

-- the stack behind the type item or the declaration at place p, and behind declarations at p of which the first has position n
abbrev mutual
  pub read_type : {X : Reader} → WasmFeatures → Makers X → Place → Stack X → Type_form → Option (Stack X)
  read_type fs mk p s (component_type ds) = option_and_then (ended declares_component (mk p)) (read_decls fs mk p 0 (inside declares_component s) ds)
  read_type fs mk p s (instance_type ds) = option_and_then (ended declares_instance (mk p)) (read_decls fs mk p 0 (inside declares_instance s) ds)
  read_type fs mk p s t = grow fs (mk p) s (type_item t)

  pub read_decl : {X : Reader} → WasmFeatures → Makers X → Place → Stack X → Decl → Option (Stack X)
  read_decl fs mk p s (core_type_decl t) = grow fs (mk p) s (core_type_item t)
  read_decl fs mk p s (type_decl t) = read_type fs mk p s t
  read_decl fs mk p s (alias_decl a) = applied s (alias_step s a)
  read_decl fs mk p s (export_decl n r) = applied s (declared_export_step (mk p) s.top n r)
  read_decl fs mk p s (import_decl i) = grow fs (mk p) s (import_item i)

  pub read_decls : {X : Reader} → WasmFeatures → Makers X → Place → ℕ → Stack X → Decls → Option (Stack X)
  read_decls fs mk p n s no_decls = Some s
  read_decls fs mk p n s (declare d ds) = option_and_then (λ t. read_decls fs mk p (suc n) t ds) (read_decl fs mk (deeper p n) s d)

-- ## Causes

-- those in what was read, if it was
abbrev pub on_read : {X : Reader} → (Stack X → Checks) → Option (Stack X) → Checks
on_read f None = []
on_read f (Some s) = f s

-- a cause of a declaration, or of the end, is one of the type item. Where a declaration does nothing, none behind it counts
abbrev mutual
  pub declared_checks : {X : Reader} → Bool → WasmFeatures → Makers X → Place → Stack X → Type_form → Checks
  declared_checks limited fs mk p s (component_type ds) = full_stack s ++ (decls_checks fs mk p 0 declares_component (inside declares_component s) ds ++ no_type_room limited (counts s.top))
  declared_checks limited fs mk p s (instance_type ds) = full_stack s ++ (decls_checks fs mk p 0 declares_instance (inside declares_instance s) ds ++ no_type_room limited (counts s.top))
  declared_checks limited fs mk p s t = type_checks limited fs (mk p) s t

  pub decl_checks : {X : Reader} → WasmFeatures → Makers X → Place → Stack X → Decl → Checks
  decl_checks fs mk p s (core_type_decl t) = core_type_checks fs s t
  decl_checks fs mk p s (type_decl t) = declared_checks true fs mk p s t
  decl_checks fs mk p s (alias_decl a) = alias_checks fs s a
  decl_checks fs mk p s (export_decl n r) = declared_export_checks fs (mk p) s.top n r
  decl_checks fs mk p s (import_decl i) = import_checks fs (mk p) s.top i

  pub decls_checks : {X : Reader} → WasmFeatures → Makers X → Place → ℕ → Kind → Stack X → Decls → Checks
  decls_checks fs mk p n k s no_decls = declared_end_checks k s.top
  decls_checks fs mk p n k s (declare d ds) = decl_checks fs mk (deeper p n) s d ++ on_read (λ t. decls_checks fs mk p (suc n) k t ds) (read_decl fs mk (deeper p n) s d)

-- ## Limits that are left to the caller

abbrev pub decl_count : Decls → ℕ
decl_count no_decls = zero
decl_count (declare d ds) = suc (decl_count ds)

abbrev mutual
  pub declared_left : Type_form → Checks
  declared_left (component_type ds) = too_many max_list (decl_count ds) ++ decls_left ds
  declared_left (instance_type ds) = too_many max_list (decl_count ds) ++ decls_left ds
  declared_left t = type_left t

  pub decl_left : Decl → Checks
  decl_left (core_type_decl t) = core_type_left t
  decl_left (type_decl t) = declared_left t
  decl_left (alias_decl a) = alias_left a
  decl_left (export_decl n r) = each_too_long (texts_of (extern_name n))
  decl_left (import_decl i) = each_too_long (texts_of (extern_name i.name))

  pub decls_left : Decls → Checks
  decls_left no_decls = []
  decls_left (declare d ds) = decl_left d ++ decls_left ds
