-- Core types, core modules and core instances that are written are read again.
use Rattle.std.proofs.Common.{◌≡◌, ℕ, ◌^◌, Some, None, Option, refl, ap, option_map, Bool, true, false, nat_lt, nat_eq, List, arith}
use Rattle.std.proofs.lemmas.Bool.Decides.{nat_tests}
use Rattle.wcv_core.specs.CoreForm.{CompositeForm, func_form, struct_form, array_form, SubForm, Group}
use Rattle.wcv_core.specs.declared.core_types.FieldType.{FieldType}
use Rattle.wcv_core.specs.declared.core_types.GlobalType.{GlobalType}
use Rattle.wcv_core.specs.declared.core_types.MemoryType.{MemoryType}
use Rattle.wcv_core.specs.declared.core_types.RefType.{RefType}
use Rattle.wcv_core.specs.declared.core_types.StorageType.{StorageType}
use Rattle.wcv_core.specs.declared.core_types.StorageType.TheVariants as storage
use Rattle.wcv_core.specs.declared.core_types.SuperType.{SuperType}
use Rattle.wcv_core.specs.declared.core_types.SuperType.TheVariants as parent
use Rattle.wcv_core.specs.declared.core_types.TableType.{TableType}
use Rattle.wcv_core.specs.declared.core_types.ValType.{ValType}
use Rattle.wcv_core.specs.declared.core_types.ValType.TheVariants as val
use Rattle.wcv_syntax.specs.Model.{Module_decl, module_type, module_import, module_export, module_outer, Core_type_form, core_rec, core_module_type, Core_instance_form, core_instantiate, core_bag}
use Rattle.wcv_syntax.specs.declared.core_section.Export.{Export}
use Rattle.wcv_syntax.specs.declared.core_section.Import.{Import}
use Rattle.wcv_syntax.specs.declared.core_section.InstantiationArg.{InstantiationArg}
use Rattle.wcv_syntax.specs.declared.core_section.TypeRef.{TypeRef}
use Rattle.wcv_syntax.specs.declared.core_section.TypeRef.TheVariants as ref
use Rattle.wcv_listing.specs.Core.{core_value_of}
use Rattle.wcv_listing.specs.CoreForms.{storage_of, field_of, core_func_of, sub_of, rec_of, table_of, memory_of, global_of, entity_of, core_import_of, module_decl_of, type_decl_of, core_type_of, core_module_of, core_arg_of, core_listed_of, core_instance_of}
use Rattle.wcv_listing.specs.Fields.{array_of}
use Rattle.wcv_write.specs.Core.{ref_type_data, core_value_data}
use Rattle.wcv_write.specs.CoreForms.{storage_data, field_data, core_func_data, sub_data, group_data, core_import_data, module_decl_data, core_type_data, core_module_data, core_arg_data, core_listed_data, core_instance_data}
use Rattle.wcv_write.specs.CoreItems.{table_data, memory_data, global_data, entity_data}
use Rattle.wcv_write.specs.Indices.{numbers}
use Rattle.wcv_write.specs.Json.{list_data}
use Rattle.wcv_write.specs.Sayable.{IsIndex, SaysHeap, SaysCoreValue, SaysAll, SaysMaybe, SaysStorage, SaysField, SaysComposite, SaysSuper, SaysSub, SaysTable, SaysMemory, SaysGlobal, SaysEntity, SaysCoreImport, SaysModuleDecl, SaysOwnDecl, SaysCoreType, SaysCoreArg, SaysCoreListed, SaysCoreInstance}
use Rattle.wcv_write.proofs.FormsAgain.{core_value_again, ref_type_again, core_sort_again, list_again, index-count}

-- ## Core types

storage_again : (s : StorageType) → SaysStorage s → storage_of (storage_data s) ≡ Some s
unfolding storage_data core_value_data ref_type_data
storage_again storage.I8 h = refl
storage_again storage.I16 h = refl
storage_again (storage.Val val.I32) h = refl
storage_again (storage.Val val.I64) h = refl
storage_again (storage.Val val.F32) h = refl
storage_again (storage.Val val.F64) h = refl
storage_again (storage.Val val.V128) h = refl
storage_again (storage.Val (val.Ref r)) h = ap (option_map storage.Val) (core_value_again (val.Ref r) h)

field_with : (s : StorageType) (mutable : Bool) → SaysStorage s → field_of (field_data (record { storage = s; mutable = mutable })) ≡ Some (record { storage = s; mutable = mutable })
unfolding field_data
field_with s true h = rw (storage_again s h) refl
field_with s false h = rw (storage_again s h) refl

field_again : (f : FieldType) → SaysField f → field_of (field_data f) ≡ Some f
field_again f h = field_with f.storage f.mutable h

values_again : (vs : List ValType) → SaysAll SaysCoreValue vs → array_of core_value_of (list_data core_value_data vs) ≡ Some vs
values_again vs h = list_again core_value_of core_value_data SaysCoreValue core_value_again vs h

core_func_again : (ps rs : List ValType) → SaysAll SaysCoreValue ps → SaysAll SaysCoreValue rs → core_func_of (core_func_data ps rs) ≡ Some (func_form ps rs)
unfolding core_func_data
core_func_again ps rs h g = rw (values_again ps h, values_again rs g) refl

fields_again : (fs : List FieldType) → SaysAll SaysField fs → array_of field_of (list_data field_data fs) ≡ Some fs
fields_again fs h = list_again field_of field_data SaysField field_again fs h

sub_with : (final shared : Bool) (above : Option SuperType) (inner : CompositeForm) → SaysMaybe SaysSuper above → SaysComposite inner → sub_of (sub_data (record { is_final = final; supertype = above; shared = shared; inner = inner })) ≡ Some (record { is_final = final; supertype = above; shared = shared; inner = inner })
unfolding sub_data
sub_with true true None (func_form ps rs) h g = rw (core_func_again ps rs g.0 g.1) refl
sub_with true true (Some (parent.Index k)) (func_form ps rs) h g = let low : nat_lt k (2 ^ 32) ≡ true = h in rw (core_func_again ps rs g.0 g.1, low) refl
sub_with true true (Some (parent.Id t)) (func_form ps rs) h g = absurd (cc)
sub_with true false None (func_form ps rs) h g = rw (core_func_again ps rs g.0 g.1) refl
sub_with true false (Some (parent.Index k)) (func_form ps rs) h g = let low : nat_lt k (2 ^ 32) ≡ true = h in rw (core_func_again ps rs g.0 g.1, low) refl
sub_with true false (Some (parent.Id t)) (func_form ps rs) h g = absurd (cc)
sub_with false true None (func_form ps rs) h g = rw (core_func_again ps rs g.0 g.1) refl
sub_with false true (Some (parent.Index k)) (func_form ps rs) h g = let low : nat_lt k (2 ^ 32) ≡ true = h in rw (core_func_again ps rs g.0 g.1, low) refl
sub_with false true (Some (parent.Id t)) (func_form ps rs) h g = absurd (cc)
sub_with false false None (func_form ps rs) h g = rw (core_func_again ps rs g.0 g.1) refl
sub_with false false (Some (parent.Index k)) (func_form ps rs) h g = let low : nat_lt k (2 ^ 32) ≡ true = h in rw (core_func_again ps rs g.0 g.1, low) refl
sub_with false false (Some (parent.Id t)) (func_form ps rs) h g = absurd (cc)
sub_with true true None (struct_form fs) h g = rw (fields_again fs g) refl
sub_with true true (Some (parent.Index k)) (struct_form fs) h g = let low : nat_lt k (2 ^ 32) ≡ true = h in rw (fields_again fs g, low) refl
sub_with true true (Some (parent.Id t)) (struct_form fs) h g = absurd (cc)
sub_with true false None (struct_form fs) h g = rw (fields_again fs g) refl
sub_with true false (Some (parent.Index k)) (struct_form fs) h g = let low : nat_lt k (2 ^ 32) ≡ true = h in rw (fields_again fs g, low) refl
sub_with true false (Some (parent.Id t)) (struct_form fs) h g = absurd (cc)
sub_with false true None (struct_form fs) h g = rw (fields_again fs g) refl
sub_with false true (Some (parent.Index k)) (struct_form fs) h g = let low : nat_lt k (2 ^ 32) ≡ true = h in rw (fields_again fs g, low) refl
sub_with false true (Some (parent.Id t)) (struct_form fs) h g = absurd (cc)
sub_with false false None (struct_form fs) h g = rw (fields_again fs g) refl
sub_with false false (Some (parent.Index k)) (struct_form fs) h g = let low : nat_lt k (2 ^ 32) ≡ true = h in rw (fields_again fs g, low) refl
sub_with false false (Some (parent.Id t)) (struct_form fs) h g = absurd (cc)
sub_with true true None (array_form f) h g = rw (field_again f g) refl
sub_with true true (Some (parent.Index k)) (array_form f) h g = let low : nat_lt k (2 ^ 32) ≡ true = h in rw (field_again f g, low) refl
sub_with true true (Some (parent.Id t)) (array_form f) h g = absurd (cc)
sub_with true false None (array_form f) h g = rw (field_again f g) refl
sub_with true false (Some (parent.Index k)) (array_form f) h g = let low : nat_lt k (2 ^ 32) ≡ true = h in rw (field_again f g, low) refl
sub_with true false (Some (parent.Id t)) (array_form f) h g = absurd (cc)
sub_with false true None (array_form f) h g = rw (field_again f g) refl
sub_with false true (Some (parent.Index k)) (array_form f) h g = let low : nat_lt k (2 ^ 32) ≡ true = h in rw (field_again f g, low) refl
sub_with false true (Some (parent.Id t)) (array_form f) h g = absurd (cc)
sub_with false false None (array_form f) h g = rw (field_again f g) refl
sub_with false false (Some (parent.Index k)) (array_form f) h g = let low : nat_lt k (2 ^ 32) ≡ true = h in rw (field_again f g, low) refl
sub_with false false (Some (parent.Id t)) (array_form f) h g = absurd (cc)

sub_again : (s : SubForm) → SaysSub s → sub_of (sub_data s) ≡ Some s
sub_again s h = sub_with s.is_final s.shared s.supertype s.inner h.0 h.1

pub group_again : (g : Group) → SaysAll SaysSub g → rec_of (group_data g) ≡ Some g
group_again g h = list_again sub_of sub_data SaysSub sub_again g h

-- ## What is imported and exported

table_with : (e : RefType) (least : ℕ) (most : Option ℕ) (wide shared : Bool) → SaysHeap e.heap e.shared → table_of (table_data (record { element_type = e; initial = least; maximum = most; table64 = wide; shared = shared })) ≡ Some (record { element_type = e; initial = least; maximum = most; table64 = wide; shared = shared })
unfolding table_data
table_with e n None true true h = rw (ref_type_again e h) refl
table_with e n None true false h = rw (ref_type_again e h) refl
table_with e n None false true h = rw (ref_type_again e h) refl
table_with e n None false false h = rw (ref_type_again e h) refl
table_with e n (Some m) true true h = rw (ref_type_again e h) refl
table_with e n (Some m) true false h = rw (ref_type_again e h) refl
table_with e n (Some m) false true h = rw (ref_type_again e h) refl
table_with e n (Some m) false false h = rw (ref_type_again e h) refl

table_again : (t : TableType) → SaysTable t → table_of (table_data t) ≡ Some t
table_again t h = table_with t.element_type t.initial t.maximum t.table64 t.shared h

is_sixteen : (k : ℕ) → nat_eq k 16 ≡ true → 16 ≡ k
is_sixteen k e = grind (arith, nat_tests)

-- the exponent of a page that is written where it is not 16
memory_with : (least : ℕ) (most : Option ℕ) (wide shared : Bool) (page : ℕ) (t : Bool) → nat_eq page 16 ≡ t → IsIndex page → memory_of (memory_data (record { initial = least; maximum = most; memory64 = wide; shared = shared; page_size_log2 = page })) ≡ Some (record { initial = least; maximum = most; memory64 = wide; shared = shared; page_size_log2 = page })
unfolding memory_data
memory_with n None true true k true e h = rw e (ap (λ (p : ℕ). Some (record { initial = n; maximum = None; memory64 = true; shared = true; page_size_log2 = p })) (is_sixteen k e))
memory_with n None true true k false e h = let low : nat_lt k (2 ^ 32) ≡ true = h in rw (e, low) refl
memory_with n None true false k true e h = rw e (ap (λ (p : ℕ). Some (record { initial = n; maximum = None; memory64 = true; shared = false; page_size_log2 = p })) (is_sixteen k e))
memory_with n None true false k false e h = let low : nat_lt k (2 ^ 32) ≡ true = h in rw (e, low) refl
memory_with n None false true k true e h = rw e (ap (λ (p : ℕ). Some (record { initial = n; maximum = None; memory64 = false; shared = true; page_size_log2 = p })) (is_sixteen k e))
memory_with n None false true k false e h = let low : nat_lt k (2 ^ 32) ≡ true = h in rw (e, low) refl
memory_with n None false false k true e h = rw e (ap (λ (p : ℕ). Some (record { initial = n; maximum = None; memory64 = false; shared = false; page_size_log2 = p })) (is_sixteen k e))
memory_with n None false false k false e h = let low : nat_lt k (2 ^ 32) ≡ true = h in rw (e, low) refl
memory_with n (Some m) true true k true e h = rw e (ap (λ (p : ℕ). Some (record { initial = n; maximum = Some m; memory64 = true; shared = true; page_size_log2 = p })) (is_sixteen k e))
memory_with n (Some m) true true k false e h = let low : nat_lt k (2 ^ 32) ≡ true = h in rw (e, low) refl
memory_with n (Some m) true false k true e h = rw e (ap (λ (p : ℕ). Some (record { initial = n; maximum = Some m; memory64 = true; shared = false; page_size_log2 = p })) (is_sixteen k e))
memory_with n (Some m) true false k false e h = let low : nat_lt k (2 ^ 32) ≡ true = h in rw (e, low) refl
memory_with n (Some m) false true k true e h = rw e (ap (λ (p : ℕ). Some (record { initial = n; maximum = Some m; memory64 = false; shared = true; page_size_log2 = p })) (is_sixteen k e))
memory_with n (Some m) false true k false e h = let low : nat_lt k (2 ^ 32) ≡ true = h in rw (e, low) refl
memory_with n (Some m) false false k true e h = rw e (ap (λ (p : ℕ). Some (record { initial = n; maximum = Some m; memory64 = false; shared = false; page_size_log2 = p })) (is_sixteen k e))
memory_with n (Some m) false false k false e h = let low : nat_lt k (2 ^ 32) ≡ true = h in rw (e, low) refl

memory_again : (m : MemoryType) → SaysMemory m → memory_of (memory_data m) ≡ Some m
memory_again m h = memory_with m.initial m.maximum m.memory64 m.shared m.page_size_log2 (nat_eq m.page_size_log2 16) refl h

global_with : (v : ValType) (mutable shared : Bool) → SaysCoreValue v → global_of (global_data (record { content_type = v; mutable = mutable; shared = shared })) ≡ Some (record { content_type = v; mutable = mutable; shared = shared })
unfolding global_data
global_with v true true h = rw (core_value_again v h) refl
global_with v true false h = rw (core_value_again v h) refl
global_with v false true h = rw (core_value_again v h) refl
global_with v false false h = rw (core_value_again v h) refl

global_again : (g : GlobalType) → SaysGlobal g → global_of (global_data g) ≡ Some g
global_again g h = global_with g.content_type g.mutable g.shared h

pub entity_again : (t : TypeRef) → SaysEntity t → entity_of (entity_data t) ≡ Some t
unfolding entity_data
entity_again (ref.Func k) h = ap (option_map ref.Func) (index-count k h)
entity_again (ref.Tag k) h = ap (option_map ref.Tag) (index-count k h)
entity_again (ref.Table t) h = ap (option_map ref.Table) (table_again t h)
entity_again (ref.Memory m) h = ap (option_map ref.Memory) (memory_again m h)
entity_again (ref.Global g) h = ap (option_map ref.Global) (global_again g h)

-- ## Declarations

core_import_again : (i : Import) → SaysCoreImport i → core_import_of (core_import_data i) ≡ Some i
core_import_again i h = rw (entity_again i.ty h) refl

own_decl_again : (d : Module_decl) → SaysOwnDecl d → module_decl_of (module_decl_data d) ≡ Some d
unfolding module_decl_data
own_decl_again (module_type g) h = ap (option_map module_type) (group_again g h)
own_decl_again (module_import i) h = ap (option_map module_import) (core_import_again i h)
own_decl_again (module_export n t) h = rw (entity_again t h) refl
own_decl_again (module_outer n k) h = absurd (cc)

type_decl_again : (d : Module_decl) → SaysModuleDecl d → type_decl_of (module_decl_data d) ≡ Some d
unfolding module_decl_data
type_decl_again (module_type g) h = ap (option_map module_type) (group_again g h)
type_decl_again (module_import i) h = ap (option_map module_import) (core_import_again i h)
type_decl_again (module_export n t) h = rw (entity_again t h) refl
type_decl_again (module_outer n k) h = let low : nat_lt n (2 ^ 32) ≡ true = h.0 in let less : nat_lt k (2 ^ 32) ≡ true = h.1 in rw (low, less) refl

-- ## Bodies of items

pub core_type_again : (t : Core_type_form) → SaysCoreType t → core_type_of (core_type_data t) ≡ Some t
unfolding core_type_data
core_type_again (core_rec g) h = ap (option_map core_rec) (group_again g h)
core_type_again (core_module_type ds) h = ap (option_map core_module_type) (list_again type_decl_of module_decl_data SaysModuleDecl type_decl_again ds h)

pub core_module_again : (ds : List Module_decl) → SaysAll SaysOwnDecl ds → core_module_of (core_module_data ds) ≡ Some ds
core_module_again ds h = list_again module_decl_of module_decl_data SaysOwnDecl own_decl_again ds h

core_arg_again : (a : InstantiationArg) → SaysCoreArg a → core_arg_of (core_arg_data numbers a) ≡ Some a
core_arg_again a h = let low : nat_lt a.index (2 ^ 32) ≡ true = h in rw low refl

core_listed_again : (e : Export) → SaysCoreListed e → core_listed_of (core_listed_data numbers e) ≡ Some e
core_listed_again e h = let low : nat_lt e.index (2 ^ 32) ≡ true = h in rw (core_sort_again e.kind, low) refl

pub core_instance_again : (i : Core_instance_form) → SaysCoreInstance i → core_instance_of (core_instance_data numbers i) ≡ Some i
unfolding core_instance_data
core_instance_again (core_instantiate m args) h = let low : nat_lt m (2 ^ 32) ≡ true = h.0 in rw (low, list_again core_arg_of (core_arg_data numbers) SaysCoreArg core_arg_again args h.1) refl
core_instance_again (core_bag es) h = ap (option_map core_bag) (list_again core_listed_of (core_listed_data numbers) SaysCoreListed core_listed_again es h)
