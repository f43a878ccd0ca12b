-- What an item uses of what is made at its place.
use Rattle.std.specs.Prelude.{List, Bool, true, false, Option, Some, None}
use Rattle.std.specs.Option.{option_map}
use Rattle.wcv_core.specs.declared.features.WasmFeatures.{WasmFeatures}
use Rattle.wcv_syntax.specs.Model.{Form, core_type_item, core_module_item, core_instance_item, type_item, import_item, export_item, instance_item, Core_type_form, Core_instance_form, Instance_form, instantiate, bag, Module_decl, Type_form, resource_type}
use Rattle.wcv_syntax.specs.ModuleTypes.{Made}
use Rattle.wcv_syntax.specs.declared.component_type.ComponentTypeRef.{ComponentTypeRef}
use Rattle.wcv_syntax.specs.declared.name.ComponentExport.{ComponentExport}
use Rattle.wcv_types.specs.Tree.{Text}
use Rattle.wcv_lower.specs.Context.{Context, Stack}
use Rattle.wcv_lower.specs.CoreInstances.{core_instance_made}
use Rattle.wcv_lower.specs.CoreItems.{core_type_made, core_module_made}
use Rattle.wcv_lower.specs.Entries.{made_from, instance_from, makes_new, exported_from, exported_instance}
use Rattle.wcv_lower.specs.Instances.{opened, all_listed}
use Rattle.wcv_lower.specs.Readers.{Reader, New_node, module_node}
use Rattle.wcv_lower.specs.Types.{type_made}

pub record Uses (X : Reader) : Type 0 where
  -- the type that it makes again
  pub old : Option X.Entry
  -- it makes a resource that is new
  pub new : Bool
  -- the type of the instance that it introduces
  pub instance : Option X.Entry
  -- the component that it instantiates, with the arguments
  pub component : Option (List (Text × X.Entry) × X.Entry)
  -- the node that it makes
  pub node : Option (New_node X)

abbrev pub uses_nothing : (X : Reader) → Uses X
uses_nothing X = record { old = None; new = false; instance = None; component = None; node = None }

-- that type alone, a resource alone, that node alone
abbrev pub uses_again : (X : Reader) → X.Entry → Uses X
uses_again X x = record { old = Some x; new = false; instance = None; component = None; node = None }

abbrev pub uses_new : (X : Reader) → Uses X
uses_new X = record { old = None; new = true; instance = None; component = None; node = None }

-- an instance of that type alone
abbrev pub uses_instance : (X : Reader) → X.Entry → Uses X
uses_instance X x = record { old = None; new = false; instance = Some x; component = None; node = None }

abbrev pub uses_node : {X : Reader} → Option (New_node X) → Uses X
uses_node o = record { old = None; new = false; instance = None; component = None; node = o }

-- that component alone
abbrev pub uses_component : {X : Reader} → Option (List (Text × X.Entry) × X.Entry) → Uses X
uses_component o = record { old = None; new = false; instance = None; component = o; node = None }

abbrev pub ref_uses : {X : Reader} → Context X → ComponentTypeRef → Uses X
ref_uses c r = record { old = made_from c r; new = makes_new r; instance = instance_from c r; component = None; node = None }

-- an exported item uses what the type does that is written beside it, or the type or the instance that is exported
abbrev pub exported_uses : {X : Reader} → Context X → ComponentExport → Option ComponentTypeRef → Uses X
exported_uses c e None = record { old = exported_from c e.kind e.index; new = false; instance = exported_instance c e.kind e.index; component = None; node = None }
exported_uses c e (Some r) = ref_uses c r

abbrev pub export_uses : {X : Reader} → Context X → ComponentExport → Uses X
export_uses c e = exported_uses c e e.ty

abbrev pub is_resource_type : Type_form → Bool
is_resource_type (resource_type rep dtor) = true
is_resource_type t = false

abbrev pub type_uses : {X : Reader} → Context X → Type_form → Uses X
type_uses c t = record { old = None; new = is_resource_type t; instance = None; component = None; node = type_made c t }

abbrev pub made_node : {X : Reader} → Option Made → Option (New_node X)
made_node o = option_map (λ s. module_node s.1) o

abbrev pub core_type_uses : {X : Reader} → WasmFeatures → Stack X → Core_type_form → Uses X
core_type_uses fs s t = uses_node (made_node (core_type_made fs s t))

abbrev pub core_module_uses : {X : Reader} → WasmFeatures → Stack X → List Module_decl → Uses X
core_module_uses fs s ds = uses_node (made_node (core_module_made fs s ds))

-- an instantiation the component, a bag the node of its items
abbrev pub instance_uses : {X : Reader} → Stack X → Instance_form → Uses X
instance_uses s (instantiate i args) = uses_component (opened s i args)
instance_uses s (bag es) = uses_node (all_listed s.top es)

abbrev pub core_instance_uses : {X : Reader} → Stack X → Core_instance_form → Uses X
core_instance_uses s i = uses_node (core_instance_made s i)

-- one line for each family of forms
abbrev pub uses : {X : Reader} → WasmFeatures → Stack X → Form → Uses X
uses fs s (type_item t) = type_uses s.top t
uses fs s (import_item i) = ref_uses s.top i.ty
uses fs s (export_item e) = export_uses s.top e
uses fs s (core_type_item t) = core_type_uses fs s t
uses fs s (core_module_item ds) = core_module_uses fs s ds
uses fs s (core_instance_item i) = core_instance_uses s i
uses fs s (instance_item i) = instance_uses s i
uses {X} fs s _ = uses_nothing X
