-- Forms that are written are read again.
use Rattle.std.proofs.Common.{◌≡◌, ℕ, Some, refl, ap, option_map, ◌^◌, Bool, true, false, nat_lt, List, [], ◌∷◌, None, Option}
use Rattle.serde_json.specs.Data.{Data, string}
use Rattle.wcv_core.specs.CoreFeatures.{heap_word}
use Rattle.wcv_core.specs.declared.core_types.AbstractHeap.{AbstractHeap}
use Rattle.wcv_core.specs.declared.core_types.AbstractHeap.TheVariants as word
use Rattle.wcv_core.specs.declared.core_types.HeapType.{HeapType}
use Rattle.wcv_core.specs.declared.core_types.HeapType.TheVariants as heap
use Rattle.wcv_core.specs.declared.core_types.RefType.{RefType}
use Rattle.wcv_core.specs.declared.core_types.ValType.{ValType}
use Rattle.wcv_core.specs.declared.core_types.ValType.TheVariants as val
use Rattle.wcv_core.specs.declared.primitive.PrimitiveValType.{PrimitiveValType}
use Rattle.wcv_core.specs.declared.primitive.PrimitiveValType.TheVariants as prim
use Rattle.wcv_syntax.specs.Model.{Text}
use Rattle.wcv_syntax.specs.declared.component_type.ComponentTypeRef.{ComponentTypeRef}
use Rattle.wcv_syntax.specs.declared.component_type.ComponentTypeRef.TheVariants as ref
use Rattle.wcv_syntax.specs.declared.component_type.TypeBounds.{TypeBounds}
use Rattle.wcv_syntax.specs.declared.component_type.TypeBounds.TheVariants as bounds
use Rattle.wcv_syntax.specs.declared.name.ComponentExternName.{ComponentExternName}
use Rattle.wcv_syntax.specs.declared.name.ComponentImport.{ComponentImport}
use Rattle.wcv_syntax.specs.declared.component_type.ComponentValType.{ComponentValType}
use Rattle.wcv_syntax.specs.declared.component_type.ComponentValType.TheVariants.{Primitive, Ty}
use Rattle.wcv_syntax.specs.declared.core_section.ExternalKind.{ExternalKind}
use Rattle.wcv_syntax.specs.declared.core_section.ExternalKind.TheVariants as core_sort
use Rattle.wcv_syntax.specs.declared.instance.ComponentExternalKind.{ComponentExternalKind}
use Rattle.wcv_syntax.specs.declared.instance.ComponentExternalKind.TheVariants as sort
use Rattle.wcv_syntax.specs.declared.instance.ComponentOuterAliasKind.{ComponentOuterAliasKind}
use Rattle.wcv_syntax.specs.declared.instance.ComponentOuterAliasKind.TheVariants as outer
use Rattle.wcv_syntax.specs.declared.instance.ComponentAlias.{ComponentAlias}
use Rattle.wcv_syntax.specs.declared.instance.ComponentAlias.TheVariants as alias
use Rattle.wcv_listing.specs.Aliases.{sort_of, core_sort_of, outer_of, alias_of}
use Rattle.wcv_listing.specs.Core.{heap_names, ref_type_of, core_value_of}
use Rattle.wcv_write.specs.Core.{ref_type_data, core_value_data}
use Rattle.wcv_listing.specs.Fields.{both, named, index, all_of, array_of}
use Rattle.wcv_listing.specs.Forms.{ref_of, extern_name_of, import_of}
use Rattle.wcv_listing.specs.Values.{primitive_named, value_of, param_of, params_of}
use Rattle.wcv_write.specs.Indices.{numbers}
use Rattle.wcv_write.specs.Externs.{bounds_data, ref_data, name_data, import_data}
use Rattle.wcv_write.specs.Json.{count, items_of, list_data}
use Rattle.wcv_write.specs.Sayable.{IsIndex, SaysValue, SaysHeap, SaysCoreValue, SaysAlias, SaysAll, SaysParam, SaysBounds, SaysRef}
use Rattle.wcv_write.specs.Sorts.{sort_name, core_sort_name, outer_name, alias_data}
use Rattle.wcv_write.specs.Values.{primitive_name, value_data, param_data}

pub index-count : (k : ℕ) → IsIndex k → index (count k) ≡ Some k
index-count k h = rw h refl

bool_apart : true ≡ false → ⊥
bool_apart e = cc

-- ## Names

pub primitive_again : (p : PrimitiveValType) → primitive_named (primitive_name p) ≡ Some p
primitive_again prim.Bool = refl
primitive_again prim.S8 = refl
primitive_again prim.U8 = refl
primitive_again prim.S16 = refl
primitive_again prim.U16 = refl
primitive_again prim.S32 = refl
primitive_again prim.U32 = refl
primitive_again prim.S64 = refl
primitive_again prim.U64 = refl
primitive_again prim.F32 = refl
primitive_again prim.F64 = refl
primitive_again prim.Char = refl
primitive_again prim.String = refl
primitive_again prim.ErrorContext = refl

pub heap_again : (a : AbstractHeap) → named heap_names (heap_word a) ≡ Some a
heap_again word.Func = refl
heap_again word.NoFunc = refl
heap_again word.Extern = refl
heap_again word.NoExtern = refl
heap_again word.Any = refl
heap_again word.Eq = refl
heap_again word.I31 = refl
heap_again word.Struct = refl
heap_again word.Array = refl
heap_again word.None = refl
heap_again word.Exn = refl
heap_again word.NoExn = refl

pub sort_again : (s : ComponentExternalKind) → sort_of (string (sort_name s)) ≡ Some s
sort_again sort.Module = refl
sort_again sort.Func = refl
sort_again sort.Value = refl
sort_again sort.Ty = refl
sort_again sort.Instance = refl
sort_again sort.Component = refl

pub core_sort_again : (s : ExternalKind) → core_sort_of (string (core_sort_name s)) ≡ Some s
core_sort_again core_sort.Func = refl
core_sort_again core_sort.Table = refl
core_sort_again core_sort.Memory = refl
core_sort_again core_sort.Global = refl
core_sort_again core_sort.Tag = refl

pub outer_again : (k : ComponentOuterAliasKind) → outer_of (string (outer_name k)) ≡ Some k
outer_again outer.CoreModule = refl
outer_again outer.CoreType = refl
outer_again outer.Ty = refl
outer_again outer.Component = refl

-- ## Value types

pub value_again : (v : ComponentValType) → SaysValue v → value_of (value_data numbers v) ≡ Some v
unfolding value_data
value_again (Primitive p) h = ap (option_map Primitive) (primitive_again p)
value_again (Ty k) h = ap (option_map Ty) (index-count k h)

-- ## Core value types

ref_again : (nullable shared : Bool) (h : HeapType) → SaysHeap h shared → ref_type_of (ref_type_data (record { nullable = nullable; shared = shared; heap = h })) ≡ Some (record { nullable = nullable; shared = shared; heap = h })
unfolding ref_type_data
ref_again true true (heap.Abstract a) h = rw (heap_again a) refl
ref_again true false (heap.Abstract a) h = rw (heap_again a) refl
ref_again false true (heap.Abstract a) h = rw (heap_again a) refl
ref_again false false (heap.Abstract a) h = rw (heap_again a) refl
ref_again true true (heap.Index k) h = absurd (bool_apart h.1)
ref_again true false (heap.Index k) h = let low : nat_lt k (2 ^ 32) ≡ true = h.0 in rw low refl
ref_again false true (heap.Index k) h = absurd (bool_apart h.1)
ref_again false false (heap.Index k) h = let low : nat_lt k (2 ^ 32) ≡ true = h.0 in rw low refl
ref_again true true (heap.Id t) h = absurd (bool_apart h)
ref_again true false (heap.Id t) h = absurd (bool_apart h)
ref_again false true (heap.Id t) h = absurd (bool_apart h)
ref_again false false (heap.Id t) h = absurd (bool_apart h)

pub ref_type_again : (r : RefType) → SaysHeap r.heap r.shared → ref_type_of (ref_type_data r) ≡ Some r
ref_type_again r h = ref_again r.nullable r.shared r.heap h

pub core_value_again : (v : ValType) → SaysCoreValue v → core_value_of (core_value_data v) ≡ Some v
unfolding core_value_data ref_type_data
core_value_again val.I32 h = refl
core_value_again val.I64 h = refl
core_value_again val.F32 h = refl
core_value_again val.F64 h = refl
core_value_again val.V128 h = refl
core_value_again (val.Ref r) h = ap (option_map val.Ref) (ref_type_again r h)

-- ## Aliases

pub alias_again : (a : ComponentAlias) → SaysAlias a → alias_of (alias_data numbers a) ≡ Some a
unfolding alias_data
alias_again (alias.InstanceExport kind k name) h = rw (h, sort_again kind) refl
alias_again (alias.CoreInstanceExport kind k name) h = rw (h, core_sort_again kind) refl
alias_again (alias.Outer kind steps k) h = let low : nat_lt steps (2 ^ 32) ≡ true = h.0 in let less : nat_lt k (2 ^ 32) ≡ true = h.1 in rw (outer_again kind, low, less) refl

-- ## Lists

pub both_cons : {X : Type 0} (x : X) (xs : List X) (first : Option X) (rest : Option (List X)) → first ≡ Some x → rest ≡ Some xs → both (λ y ys. y ∷ ys) first rest ≡ Some (x ∷ xs)
both_cons x xs first rest p q = rw (p, q) refl

pub list_again : {X : Type 0} (read : Data → Option X) (write : X → Data) (says : X → Type 0) → ((x : X) → says x → read (write x) ≡ Some x) → (xs : List X) → SaysAll says xs → array_of read (list_data write xs) ≡ Some xs
list_again {X} read write says one xs h = go xs h
  where
    go : (ys : List X) → SaysAll says ys → all_of read (items_of write ys) ≡ Some ys
    go [] h = refl
    go (y ∷ ys) h = both_cons y ys (read (write y)) (all_of read (items_of write ys)) (one y h.0) (go ys h.1)

pub param_again : (p : Text × ComponentValType) → SaysParam p → param_of (param_data numbers p) ≡ Some p
param_again p h = rw (value_again p.1 h) refl

pub params_again : (ps : List (Text × ComponentValType)) → SaysAll SaysParam ps → params_of (list_data (param_data numbers) ps) ≡ Some ps
params_again ps h = list_again param_of (param_data numbers) SaysParam param_again ps h

-- ## Imports

bounds_again : (b : TypeBounds) → SaysBounds b → ref_of (bounds_data numbers b) ≡ Some (ref.Ty b)
bounds_again (bounds.Eq k) h = rw h refl
bounds_again bounds.SubResource h = refl

pub ref_type_form_again : (t : ComponentTypeRef) → SaysRef t → ref_of (ref_data numbers t) ≡ Some t
unfolding ref_data
ref_type_form_again (ref.Module k) h = rw h refl
ref_type_form_again (ref.Func k) h = rw h refl
ref_type_form_again (ref.Value v) h = rw (value_again v h) refl
ref_type_form_again (ref.Ty b) h = bounds_again b h
ref_type_form_again (ref.Instance k) h = rw h refl
ref_type_form_again (ref.Component k) h = rw h refl

named_again : (name : Text) (i s e : Option Text) → extern_name_of (name_data (record { name = name; implements = i; version_suffix = s; external_id = e })) ≡ Some (record { name = name; implements = i; version_suffix = s; external_id = e })
unfolding name_data
named_again name None None None = refl
named_again name None None (Some e) = refl
named_again name None (Some s) None = refl
named_again name None (Some s) (Some e) = refl
named_again name (Some i) None None = refl
named_again name (Some i) None (Some e) = refl
named_again name (Some i) (Some s) None = refl
named_again name (Some i) (Some s) (Some e) = refl

pub name_again : (n : ComponentExternName) → extern_name_of (name_data n) ≡ Some n
name_again n = named_again n.name n.implements n.version_suffix n.external_id

pub import_again : (i : ComponentImport) → SaysRef i.ty → import_of (import_data numbers i) ≡ Some i
import_again i h = rw (name_again i.name, ref_type_form_again i.ty h) refl
