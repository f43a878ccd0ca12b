-- What a listing can say: indices below 2^32, and no ids of core types.
use Rattle.std.specs.Prelude.{◌≡◌, ℕ, zero, suc, ◌^◌, ◌≤◌, List, [], ◌∷◌, Bool, true, false, nat_lt, Option, Some, None, ⊤}
use Rattle.std.specs.Str.{is_utf8}
use Rattle.json.specs.Tree.{HasNumbers}
use Rattle.serde_json.specs.Data.{Data, depth}
use Rattle.serde_json.specs.Read.{of_json, max_depth}
use Rattle.serde_json.specs.Written.{outline, compact_text}
use Rattle.wcv_core.specs.CoreForm.{CompositeForm, func_form, struct_form, array_form, SubForm}
use Rattle.wcv_core.specs.declared.core_types.FieldType.{FieldType}
use Rattle.wcv_core.specs.declared.core_types.GlobalType.{GlobalType}
use Rattle.wcv_core.specs.declared.core_types.HeapType.{HeapType}
use Rattle.wcv_core.specs.declared.core_types.HeapType.TheVariants as heap
use Rattle.wcv_core.specs.declared.core_types.MemoryType.{MemoryType}
use Rattle.wcv_core.specs.declared.core_types.StorageType.{StorageType}
use Rattle.wcv_core.specs.declared.core_types.StorageType.TheVariants as storage
use Rattle.wcv_core.specs.declared.core_types.SuperType.{SuperType}
use Rattle.wcv_core.specs.declared.core_types.SuperType.TheVariants as parent
use Rattle.wcv_core.specs.declared.core_types.TableType.{TableType}
use Rattle.wcv_core.specs.declared.core_types.ValType.{ValType}
use Rattle.wcv_core.specs.declared.core_types.ValType.TheVariants as val
use Rattle.wcv_syntax.specs.Model.{Text, Defined_form, record_of, variant_of, tuple_of, flags_of, enum_of, simple, Func_form, Instance_form, instantiate, bag, Module_decl, module_type, module_import, module_export, module_outer, Core_type_form, core_rec, core_module_type, Core_instance_form, core_instantiate, core_bag, Canon_form, lift, lower, task_return, stream_read, stream_write, future_read, future_write, error_context_new, error_context_message, builtin, Type_form, defined_type, func_type, component_type, instance_type, resource_type, Decl, core_type_decl, type_decl, alias_decl, export_decl, import_decl, Decls, no_decls, declare, Form, core_type_item, core_module_item, core_instance_item, type_item, import_item, export_item, component_item, instance_item, alias_item, start_item, canon_item, Items, no_items, next_item, Entry}
use Rattle.wcv_syntax.specs.declared.canonical.CanonicalFunction.{CanonicalFunction}
use Rattle.wcv_syntax.specs.declared.canonical.CanonicalFunction.TheVariants as canon
use Rattle.wcv_syntax.specs.declared.canonical.CanonicalOption.{CanonicalOption}
use Rattle.wcv_syntax.specs.declared.canonical.CanonicalOption.TheVariants as option
use Rattle.wcv_syntax.specs.declared.component_type.ComponentDefinedType.{ComponentDefinedType}
use Rattle.wcv_syntax.specs.declared.component_type.ComponentDefinedType.TheVariants as defined
use Rattle.wcv_syntax.specs.declared.component_type.ComponentTypeRef.{ComponentTypeRef}
use Rattle.wcv_syntax.specs.declared.component_type.ComponentTypeRef.TheVariants as ref
use Rattle.wcv_syntax.specs.declared.component_type.ComponentValType.{ComponentValType}
use Rattle.wcv_syntax.specs.declared.component_type.ComponentValType.TheVariants.{Primitive, Ty}
use Rattle.wcv_syntax.specs.declared.component_type.TypeBounds.{TypeBounds}
use Rattle.wcv_syntax.specs.declared.component_type.TypeBounds.TheVariants as bounds
use Rattle.wcv_syntax.specs.declared.component_type.VariantCase.{VariantCase}
use Rattle.wcv_syntax.specs.declared.core_section.Export.{Export}
use Rattle.wcv_syntax.specs.declared.core_section.Import.{Import}
use Rattle.wcv_syntax.specs.declared.core_section.InstantiationArg.{InstantiationArg}
use Rattle.wcv_syntax.specs.declared.core_section.TypeRef.{TypeRef}
use Rattle.wcv_syntax.specs.declared.core_section.TypeRef.TheVariants as entity
use Rattle.wcv_syntax.specs.declared.instance.ComponentAlias.{ComponentAlias}
use Rattle.wcv_syntax.specs.declared.instance.ComponentAlias.TheVariants as alias
use Rattle.wcv_syntax.specs.declared.instance.ComponentInstantiationArg.{ComponentInstantiationArg}
use Rattle.wcv_syntax.specs.declared.name.ComponentExport.{ComponentExport}

abbrev pub IsIndex : ℕ → Type 0
IsIndex k = nat_lt k (2 ^ 32) ≡ true

abbrev pub SaysValue : ComponentValType → Type 0
SaysValue (Primitive p) = ⊤
SaysValue (Ty k) = IsIndex k

-- a shared reference is one to a heap with a word
abbrev pub SaysHeap : HeapType → Bool → Type 0
SaysHeap (heap.Abstract a) shared = ⊤
SaysHeap (heap.Index k) shared = IsIndex k × (shared ≡ false)
SaysHeap (heap.Id t) shared = true ≡ false

abbrev pub SaysCoreValue : ValType → Type 0
SaysCoreValue (val.Ref r) = SaysHeap r.heap r.shared
SaysCoreValue _ = ⊤

abbrev pub SaysAlias : ComponentAlias → Type 0
SaysAlias (alias.InstanceExport kind k name) = IsIndex k
SaysAlias (alias.CoreInstanceExport kind k name) = IsIndex k
SaysAlias (alias.Outer kind steps k) = IsIndex steps × IsIndex k

-- each thing of a list can be said
abbrev pub SaysAll : {X : Type 0} → (X → Type 0) → List X → Type 0
SaysAll says [] = ⊤
SaysAll says (x ∷ xs) = says x × SaysAll says xs

abbrev pub SaysParam : Text × ComponentValType → Type 0
SaysParam p = SaysValue p.1

abbrev pub SaysBounds : TypeBounds → Type 0
SaysBounds (bounds.Eq k) = IsIndex k
SaysBounds bounds.SubResource = ⊤

abbrev pub SaysRef : ComponentTypeRef → Type 0
SaysRef (ref.Module k) = IsIndex k
SaysRef (ref.Func k) = IsIndex k
SaysRef (ref.Value v) = SaysValue v
SaysRef (ref.Ty b) = SaysBounds b
SaysRef (ref.Instance k) = IsIndex k
SaysRef (ref.Component k) = IsIndex k

-- what may be there
abbrev pub SaysMaybe : {X : Type 0} → (X → Type 0) → Option X → Type 0
SaysMaybe says None = ⊤
SaysMaybe says (Some x) = says x

abbrev pub SaysCase : VariantCase → Type 0
SaysCase c = SaysMaybe SaysValue c.ty

-- one that holds no vector
abbrev pub SaysSimple : ComponentDefinedType → Type 0
SaysSimple (defined.Primitive p) = ⊤
SaysSimple (defined.List v) = SaysValue v
SaysSimple (defined.Map k v) = SaysValue k × SaysValue v
SaysSimple (defined.FixedLengthList v n) = SaysValue v × IsIndex n
SaysSimple (defined.Option v) = SaysValue v
SaysSimple (defined.Result ok err) = SaysMaybe SaysValue ok × SaysMaybe SaysValue err
SaysSimple (defined.Own k) = IsIndex k
SaysSimple (defined.Borrow k) = IsIndex k
SaysSimple (defined.Future v) = SaysMaybe SaysValue v
SaysSimple (defined.Stream v) = SaysMaybe SaysValue v
SaysSimple d = true ≡ false

abbrev pub SaysDefined : Defined_form → Type 0
SaysDefined (record_of fields) = SaysAll SaysParam fields
SaysDefined (variant_of cases) = SaysAll SaysCase cases
SaysDefined (tuple_of types) = SaysAll SaysValue types
SaysDefined (flags_of names) = ⊤
SaysDefined (enum_of names) = ⊤
SaysDefined (simple d) = SaysSimple d

abbrev pub SaysFunc : Func_form → Type 0
SaysFunc f = SaysAll SaysParam f.params × SaysMaybe SaysValue f.result

abbrev pub SaysExport : ComponentExport → Type 0
SaysExport e = IsIndex e.index × SaysMaybe SaysRef e.ty

abbrev pub SaysArg : ComponentInstantiationArg → Type 0
SaysArg a = IsIndex a.index

abbrev pub SaysInstance : Instance_form → Type 0
SaysInstance (instantiate c args) = IsIndex c × SaysAll SaysArg args
SaysInstance (bag es) = SaysAll SaysExport es

-- ## Core forms

abbrev pub SaysStorage : StorageType → Type 0
SaysStorage (storage.Val v) = SaysCoreValue v
SaysStorage _ = ⊤

abbrev pub SaysField : FieldType → Type 0
SaysField f = SaysStorage f.storage

abbrev pub SaysComposite : CompositeForm → Type 0
SaysComposite (func_form params results) = SaysAll SaysCoreValue params × SaysAll SaysCoreValue results
SaysComposite (struct_form fields) = SaysAll SaysField fields
SaysComposite (array_form field) = SaysField field

abbrev pub SaysSuper : SuperType → Type 0
SaysSuper (parent.Index k) = IsIndex k
SaysSuper (parent.Id t) = true ≡ false

abbrev pub SaysSub : SubForm → Type 0
SaysSub s = SaysMaybe SaysSuper s.supertype × SaysComposite s.inner

abbrev pub SaysTable : TableType → Type 0
SaysTable t = SaysHeap t.element_type.heap t.element_type.shared

abbrev pub SaysMemory : MemoryType → Type 0
SaysMemory m = IsIndex m.page_size_log2

abbrev pub SaysGlobal : GlobalType → Type 0
SaysGlobal g = SaysCoreValue g.content_type

abbrev pub SaysEntity : TypeRef → Type 0
SaysEntity (entity.Func k) = IsIndex k
SaysEntity (entity.Tag k) = IsIndex k
SaysEntity (entity.Table t) = SaysTable t
SaysEntity (entity.Memory m) = SaysMemory m
SaysEntity (entity.Global g) = SaysGlobal g

abbrev pub SaysCoreImport : Import → Type 0
SaysCoreImport i = SaysEntity i.ty

-- a declaration of the type of a core module
abbrev pub SaysModuleDecl : Module_decl → Type 0
SaysModuleDecl (module_type g) = SaysAll SaysSub g
SaysModuleDecl (module_import i) = SaysCoreImport i
SaysModuleDecl (module_export name t) = SaysEntity t
SaysModuleDecl (module_outer steps k) = IsIndex steps × IsIndex k

-- one of a core module, which is no alias
abbrev pub SaysOwnDecl : Module_decl → Type 0
SaysOwnDecl (module_outer steps k) = true ≡ false
SaysOwnDecl d = SaysModuleDecl d

abbrev pub SaysCoreType : Core_type_form → Type 0
SaysCoreType (core_rec g) = SaysAll SaysSub g
SaysCoreType (core_module_type ds) = SaysAll SaysModuleDecl ds

abbrev pub SaysCoreArg : InstantiationArg → Type 0
SaysCoreArg a = IsIndex a.index

abbrev pub SaysCoreListed : Export → Type 0
SaysCoreListed e = IsIndex e.index

abbrev pub SaysCoreInstance : Core_instance_form → Type 0
SaysCoreInstance (core_instantiate m args) = IsIndex m × SaysAll SaysCoreArg args
SaysCoreInstance (core_bag es) = SaysAll SaysCoreListed es

-- ## Canonical functions

abbrev pub SaysOption : CanonicalOption → Type 0
SaysOption (option.Memory k) = IsIndex k
SaysOption (option.Realloc k) = IsIndex k
SaysOption (option.PostReturn k) = IsIndex k
SaysOption (option.Callback k) = IsIndex k
SaysOption (option.CoreType k) = IsIndex k
SaysOption o = ⊤

-- one without options
abbrev pub SaysBuiltin : CanonicalFunction → Type 0
SaysBuiltin (canon.ResourceNew k) = IsIndex k
SaysBuiltin (canon.ResourceDrop k) = IsIndex k
SaysBuiltin (canon.ResourceRep k) = IsIndex k
SaysBuiltin (canon.StreamNew k) = IsIndex k
SaysBuiltin (canon.StreamForward k) = IsIndex k
SaysBuiltin (canon.StreamDropReadable k) = IsIndex k
SaysBuiltin (canon.StreamDropWritable k) = IsIndex k
SaysBuiltin (canon.FutureNew k) = IsIndex k
SaysBuiltin (canon.FutureForward k) = IsIndex k
SaysBuiltin (canon.FutureDropReadable k) = IsIndex k
SaysBuiltin (canon.FutureDropWritable k) = IsIndex k
SaysBuiltin (canon.WaitableSetWait k) = IsIndex k
SaysBuiltin (canon.WaitableSetPoll k) = IsIndex k
SaysBuiltin (canon.ThreadSpawnRef k) = IsIndex k
SaysBuiltin (canon.ContextGet v n) = SaysCoreValue v × IsIndex n
SaysBuiltin (canon.ContextSet v n) = SaysCoreValue v × IsIndex n
SaysBuiltin (canon.ThreadSpawnIndirect k n) = IsIndex k × IsIndex n
SaysBuiltin (canon.ThreadNewIndirect k n) = IsIndex k × IsIndex n
SaysBuiltin (canon.StreamCancelRead k async) = IsIndex k
SaysBuiltin (canon.StreamCancelWrite k async) = IsIndex k
SaysBuiltin (canon.FutureCancelRead k async) = IsIndex k
SaysBuiltin (canon.FutureCancelWrite k async) = IsIndex k
SaysBuiltin (canon.Lift f t os) = true ≡ false
SaysBuiltin (canon.Lower f os) = true ≡ false
SaysBuiltin (canon.TaskReturn r os) = true ≡ false
SaysBuiltin (canon.StreamRead t os) = true ≡ false
SaysBuiltin (canon.StreamWrite t os) = true ≡ false
SaysBuiltin (canon.FutureRead t os) = true ≡ false
SaysBuiltin (canon.FutureWrite t os) = true ≡ false
SaysBuiltin (canon.ErrorContextNew os) = true ≡ false
SaysBuiltin (canon.ErrorContextDebugMessage os) = true ≡ false
SaysBuiltin f = ⊤

abbrev pub SaysCanon : Canon_form → Type 0
SaysCanon (lift f t os) = IsIndex f × IsIndex t × SaysAll SaysOption os
SaysCanon (lower f os) = IsIndex f × SaysAll SaysOption os
SaysCanon (task_return result os) = SaysMaybe SaysValue result × SaysAll SaysOption os
SaysCanon (stream_read t os) = IsIndex t × SaysAll SaysOption os
SaysCanon (stream_write t os) = IsIndex t × SaysAll SaysOption os
SaysCanon (future_read t os) = IsIndex t × SaysAll SaysOption os
SaysCanon (future_write t os) = IsIndex t × SaysAll SaysOption os
SaysCanon (error_context_new os) = SaysAll SaysOption os
SaysCanon (error_context_message os) = SaysAll SaysOption os
SaysCanon (builtin f) = SaysBuiltin f

-- ## Types

-- declared types nest in one another at most so deep
unfoldable mutual
  pub SaysType : Type_form → ℕ → Type 0
  SaysType (defined_type d) n = SaysDefined d
  SaysType (func_type f) n = SaysFunc f
  SaysType (component_type ds) n = SaysDecls true ds n
  SaysType (instance_type ds) n = SaysDecls false ds n
  SaysType (resource_type rep dtor) n = SaysCoreValue rep × SaysMaybe IsIndex dtor

  -- an instance type has no imports
  pub SaysDecl : Bool → Decl → ℕ → Type 0
  SaysDecl imports (core_type_decl t) n = SaysCoreType t
  SaysDecl imports (type_decl t) zero = true ≡ false
  SaysDecl imports (type_decl t) (suc n) = SaysType t n
  SaysDecl imports (alias_decl a) n = SaysAlias a
  SaysDecl imports (export_decl name ty) n = SaysRef ty
  SaysDecl true (import_decl i) n = SaysRef i.ty
  SaysDecl false (import_decl i) n = true ≡ false

  pub SaysDecls : Bool → Decls → ℕ → Type 0
  SaysDecls imports no_decls n = ⊤
  SaysDecls imports (declare d ds) n = SaysDecl imports d n × SaysDecls imports ds n

-- ## Items

-- components nest in one another at most so deep
unfoldable mutual
  pub SaysForm : Form → ℕ → Type 0
  SaysForm (core_type_item t) n = SaysCoreType t
  SaysForm (core_module_item ds) n = SaysAll SaysOwnDecl ds
  SaysForm (core_instance_item i) n = SaysCoreInstance i
  SaysForm (type_item t) n = SaysType t 126
  SaysForm (import_item i) n = SaysRef i.ty
  SaysForm (export_item e) n = SaysExport e
  SaysForm (component_item is end) n = SaysItems is n
  SaysForm (instance_item i) n = SaysInstance i
  SaysForm (alias_item a) n = SaysAlias a
  SaysForm (start_item f args results) n = IsIndex f × SaysAll IsIndex args × IsIndex results
  SaysForm (canon_item f) n = SaysCanon f

  pub SaysItems : Items → ℕ → Type 0
  SaysItems no_items n = ⊤
  SaysItems (next_item offset f is) zero = true ≡ false
  SaysItems (next_item offset f is) (suc n) = SaysForm f n × SaysItems is (suc n)

abbrev pub SaysEntry : Entry → Type 0
SaysEntry e = SaysForm e.form 126

-- ## Texts

-- The compact text of data can be read: it is UTF-8, each number fits 64 bits, the keys of each object are in order, and
-- arrays and objects nest no deeper than the reader goes.
pub record IsReadable (d : Data) : Type 0 where
  pub utf8 : is_utf8 (compact_text d) ≡ true
  pub numbers : HasNumbers (outline d)
  pub ordered : of_json (outline d) ≡ Some d
  pub shallow : depth d ≤ max_depth
