-- Worked roots, and what they come to in a new world.
use Rattle.std.specs.Prelude.{ℕ, List, [], ◌∷◌, true, false, Option, None, Some, codes}
use Rattle.wcv_core.specs.CoreForm.{Group, func_form, struct_form}
use Rattle.wcv_core.specs.Names.{number, at, stamped}
use Rattle.wcv_core.specs.declared.core_types.SuperType.TheVariants as super
use Rattle.wcv_core.specs.declared.core_types.ValType.{ValType}
use Rattle.wcv_core.specs.declared.core_types.ValType.TheVariants as val
use Rattle.wcv_core.specs.declared.features.WasmFeatures.{WasmFeatures}
use Rattle.wcv_core.specs.declared.primitive.PrimitiveValType.TheVariants as prim
use Rattle.wcv_syntax.specs.Model.{Text, Form, core_type_item, core_module_item, core_instance_item, type_item, import_item, export_item, component_item, instance_item, alias_item, canon_item, core_rec, Module_decl, module_type, module_import, module_export, core_instantiate, core_bag, defined_type, simple, func_type, component_type, instance_type, resource_type, Decl, type_decl, export_decl, import_decl, Decls, no_decls, declare, instantiate, bag, lift, lower, Items, no_items, next_item}
use Rattle.wcv_syntax.specs.declared.canonical.CanonicalOption.TheVariants as option
use Rattle.wcv_syntax.specs.declared.component_type.ComponentDefinedType.TheVariants as defined
use Rattle.wcv_syntax.specs.declared.component_type.ComponentTypeRef.{ComponentTypeRef}
use Rattle.wcv_syntax.specs.declared.component_type.ComponentTypeRef.TheVariants as ref
use Rattle.wcv_syntax.specs.declared.component_type.ComponentValType.{ComponentValType}
use Rattle.wcv_syntax.specs.declared.component_type.ComponentValType.TheVariants as vt
use Rattle.wcv_syntax.specs.declared.component_type.TypeBounds.TheVariants as bounds
use Rattle.wcv_syntax.specs.declared.core_section.ExternalKind.{ExternalKind}
use Rattle.wcv_syntax.specs.declared.core_section.ExternalKind.TheVariants as core
use Rattle.wcv_syntax.specs.declared.core_section.TypeRef.TheVariants as item
use Rattle.wcv_syntax.specs.declared.instance.ComponentAlias.TheVariants as alias
use Rattle.wcv_syntax.specs.declared.instance.ComponentExternalKind.{ComponentExternalKind}
use Rattle.wcv_syntax.specs.declared.instance.ComponentExternalKind.TheVariants as kind
use Rattle.wcv_syntax.specs.declared.name.ComponentExternName.{ComponentExternName}
use Rattle.wcv_types.specs.Tree as tree
use Rattle.wcv_types.specs.Unfold.{Type_tree}
use Rattle.wcv_lower.specs.NewTypes.{type_entry}
use Rattle.wcv_world.specs.Machine.{World, Outcome, End, run_root}
use Rattle.wcv_world.specs.Naming.{naming_by_number}
use Rattle.wcv_world.specs.Values.{Value, typed}

-- ## As roots are written

abbrev pub items : List Form → Items
items [] = no_items
items (f ∷ fs) = next_item 0 f (items fs)

abbrev pub decls : List Decl → Decls
decls [] = no_decls
decls (d ∷ ds) = declare d (decls ds)

abbrev pub named : Text → ComponentExternName
named n = record { name = n; implements = None; version_suffix = None; external_id = None }

abbrev pub imports : Text → ComponentTypeRef → Form
imports n t = import_item (record { name = named n; ty = t })

abbrev pub exports : Text → ComponentExternalKind → ℕ → Form
exports n k i = export_item (record { name = named n; kind = k; index = i; ty = None })

abbrev pub resource : Form
resource = type_item (resource_type val.I32 None)

abbrev pub a_resource : ComponentTypeRef
a_resource = ref.Ty bounds.SubResource

abbrev pub component : List Form → Form
component fs = component_item (items fs) 0

abbrev pub func : List (Text × ComponentValType) → Option ComponentValType → Form
func ps r = type_item (func_type (record { async = false; params = ps; result = r }))

-- a core function type alone in its group
abbrev pub core_func : List ValType → List ValType → Group
core_func ps rs = record { is_final = true; supertype = None; shared = false; inner = func_form ps rs } ∷ []

-- ## In a new world

abbrev pub new_world : ℕ → World
new_world turns = record { turns = turns; readings = 0; tokens = []; groups = [] }

abbrev pub linked_anew : WasmFeatures → ℕ → List Form → Outcome End
linked_anew fs turns fs' = run_root fs naming_by_number (new_world turns) 0 (items fs') []

-- the reference to the first token, as the first item of the first reading of run r makes it
abbrev pub first_reference : ℕ → Type_tree
first_reference r = tree.resource_type (number 0) (at (0 ∷ []) (stamped (r ∷ 0 ∷ [])))

abbrev pub first_token : ℕ → Value
first_token r = typed (type_entry (first_reference r))

-- behind so many readings, with one token
abbrev pub with_one_token : ℕ → ℕ → World
with_one_token turns readings = record { turns = turns; readings = readings; tokens = (number 0, Some val.I32) ∷ []; groups = [] }

-- ## Resources

abbrev pub asking_for : Text → List Form
asking_for n = imports n a_resource ∷ []

-- a resource, exported
abbrev pub exporting_one : Text → List Form
exporting_one n = resource ∷ exports n kind.Ty 0 ∷ []

-- a component that asks for two resources, given one twice
abbrev pub giving_one_twice : List Form
giving_one_twice =
    component (imports (codes "a") a_resource ∷ imports (codes "b") a_resource ∷ [])
    ∷ resource
    ∷ instance_item (instantiate 0 (record { name = codes "a"; kind = kind.Ty; index = 0 } ∷ record { name = codes "b"; kind = kind.Ty; index = 0 } ∷ []))
    ∷ []

-- imports two resources, and an instance that exports two
abbrev pub asking_for_four : List Form
asking_for_four =
    imports (codes "r") a_resource
    ∷ imports (codes "r2") a_resource
    ∷ type_item (instance_type (decls (export_decl (named (codes "r3")) a_resource ∷ export_decl (named (codes "r4")) a_resource ∷ [])))
    ∷ imports (codes "i") (ref.Instance 2)
    ∷ []

-- that as a component, given one resource for all four
abbrev pub giving_one_for_all : List Form
giving_one_for_all =
    component asking_for_four
    ∷ resource
    ∷ instance_item (bag (record { name = named (codes "r3"); kind = kind.Ty; index = 0; ty = None } ∷ record { name = named (codes "r4"); kind = kind.Ty; index = 0; ty = None } ∷ []))
    ∷ instance_item (instantiate 0 (record { name = codes "r"; kind = kind.Ty; index = 0 } ∷ record { name = codes "r2"; kind = kind.Ty; index = 0 } ∷ record { name = codes "i"; kind = kind.Instance; index = 0 } ∷ []))
    ∷ []

-- ## An interface, and a command that asks for it

abbrev pub memory : Module_decl
memory = module_export (codes "memory") (item.Memory (record { initial = 1; maximum = None; memory64 = false; shared = false; page_size_log2 = 16 }))

abbrev pub alias_core : ExternalKind → ℕ → Text → Form
alias_core k i n = alias_item (alias.CoreInstanceExport k i n)

-- defines a resource with a method that a core module implements
abbrev pub streams : List Form
streams =
    resource
    ∷ exports (codes "output-stream") kind.Ty 0
    ∷ type_item (defined_type (simple (defined.Borrow 1)))
    ∷ type_item (defined_type (simple (defined.List (vt.Primitive prim.U8))))
    ∷ func ((codes "self", vt.Ty 2) ∷ (codes "contents", vt.Ty 3) ∷ []) None
    ∷ core_module_item
    (memory
    ∷ module_type (core_func (val.I32 ∷ val.I32 ∷ val.I32 ∷ val.I32 ∷ []) (val.I32 ∷ []))
    ∷ module_export (codes "cabi_realloc") (item.Func 0)
    ∷ module_type (core_func (val.I32 ∷ val.I32 ∷ val.I32 ∷ []) [])
    ∷ module_export (codes "write") (item.Func 1)
    ∷ [])
    ∷ core_instance_item (core_instantiate 0 [])
    ∷ alias_core core.Memory 0 (codes "memory")
    ∷ alias_core core.Func 0 (codes "cabi_realloc")
    ∷ alias_core core.Func 0 (codes "write")
    ∷ canon_item (lift 1 4 (option.Memory 0 ∷ option.Realloc 0 ∷ option.UTF8 ∷ []))
    ∷ exports (codes "[method]output-stream.write") kind.Func 0
    ∷ []

abbrev pub streams_name : Text
streams_name = codes "wasi:io/streams@0.2.0"

-- imports the interface, lowers the method for a core module, and exports what that runs
abbrev pub command : List Form
command =
    type_item
    (instance_type
    (decls
    (export_decl (named (codes "output-stream")) a_resource
    ∷ type_decl (defined_type (simple (defined.Borrow 0)))
    ∷ type_decl (defined_type (simple (defined.List (vt.Primitive prim.U8))))
    ∷ type_decl (func_type (record { async = false; params = (codes "self", vt.Ty 1) ∷ (codes "contents", vt.Ty 2) ∷ []; result = None }))
    ∷ export_decl (named (codes "[method]output-stream.write")) (ref.Func 3)
    ∷ [])))
    ∷ imports streams_name (ref.Instance 0)
    ∷ alias_item (alias.InstanceExport kind.Func 0 (codes "[method]output-stream.write"))
    ∷ core_module_item (memory ∷ module_type (core_func (val.I32 ∷ val.I32 ∷ val.I32 ∷ val.I32 ∷ []) (val.I32 ∷ [])) ∷ module_export (codes "cabi_realloc") (item.Func 0) ∷ [])
    ∷ core_instance_item (core_instantiate 0 [])
    ∷ alias_core core.Memory 0 (codes "memory")
    ∷ alias_core core.Func 0 (codes "cabi_realloc")
    ∷ canon_item (lower 0 (option.Memory 0 ∷ option.UTF8 ∷ []))
    ∷ core_instance_item (core_bag (record { name = codes "write"; kind = core.Func; index = 1 } ∷ []))
    ∷ core_module_item
    (module_type (core_func (val.I32 ∷ val.I32 ∷ val.I32 ∷ []) [])
    ∷ module_type (core_func [] (val.I32 ∷ []))
    ∷ module_import (record { «module» = streams_name; name = codes "write"; ty = item.Func 0 })
    ∷ module_export (codes "run") (item.Func 1)
    ∷ [])
    ∷ core_instance_item (core_instantiate 1 (record { name = streams_name; index = 1 } ∷ []))
    ∷ alias_core core.Func 2 (codes "run")
    ∷ type_item (defined_type (simple (defined.Result None None)))
    ∷ func [] (Some (vt.Ty 1))
    ∷ canon_item (lift 2 2 [])
    ∷ component
    (type_item (defined_type (simple (defined.Result None None)))
    ∷ func [] (Some (vt.Ty 0))
    ∷ imports (codes "import-func-run") (ref.Func 1)
    ∷ exports (codes "run") kind.Func 0
    ∷ [])
    ∷ instance_item (instantiate 0 (record { name = codes "import-func-run"; kind = kind.Func; index = 1 } ∷ []))
    ∷ exports (codes "wasi:cli/run@0.2.0") kind.Instance 1
    ∷ []

-- both, and the interface handed to the command
abbrev pub running : List Form
running =
    component streams
    ∷ component command
    ∷ instance_item (instantiate 0 [])
    ∷ instance_item (instantiate 1 (record { name = streams_name; kind = kind.Instance; index = 0 } ∷ []))
    ∷ []

-- ## Where the machine is stuck

-- an instantiation of a component that is not there
abbrev pub nothing_there : List Form
nothing_there = instance_item (instantiate 0 []) ∷ []

-- a component without an item that it asks for, and one with an item of another sort
abbrev pub nothing_given : List Form
nothing_given = component (imports (codes "a") a_resource ∷ []) ∷ instance_item (instantiate 0 []) ∷ []

abbrev pub another_sort : List Form
another_sort = component (imports (codes "a") a_resource ∷ []) ∷ instance_item (instantiate 0 (record { name = codes "a"; kind = kind.Component; index = 0 } ∷ [])) ∷ []

-- one name twice
abbrev pub a_name_twice : List Form
a_name_twice = resource ∷ exports (codes "a") kind.Ty 0 ∷ exports (codes "a") kind.Ty 0 ∷ []

-- a type of another form below one that it declares
abbrev pub a_broken_rule : List Form
a_broken_rule =
    core_type_item (core_rec (record { is_final = false; supertype = None; shared = false; inner = func_form [] [] } ∷ []))
    ∷ core_type_item (core_rec (record { is_final = false; supertype = Some (super.Index 0); shared = false; inner = struct_form [] } ∷ []))
    ∷ []

-- a component that exports a type which is not there, so that it has no type
abbrev pub no_type : List Form
no_type = component (exports (codes "a") kind.Ty 0 ∷ []) ∷ []

-- a resource that a declared type defines
abbrev pub a_declared_resource : List Form
a_declared_resource = type_item (instance_type (declare (type_decl (resource_type val.I32 None)) no_decls)) ∷ []

-- a declared component type in whose import a resource is free that it defines by an export
abbrev pub a_refused_end : List Form
a_refused_end =
    type_item
    (component_type
    (decls
    (export_decl (named (codes "r")) a_resource
    ∷ import_decl (record { name = named (codes "a"); ty = ref.Ty (bounds.Eq 0) })
    ∷ [])))
    ∷ []

-- a core module whose import nothing serves
abbrev pub nothing_served : List Form
nothing_served = core_module_item (module_type (core_func [] []) ∷ module_import (record { «module» = codes "m"; name = codes "f"; ty = item.Func 0 }) ∷ []) ∷ core_instance_item (core_instantiate 0 []) ∷ []
