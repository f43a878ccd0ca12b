-- The declarations of a type, one after another.
use Rattle.std.proofs.Common.{◌≡◌, ℕ, suc, ◌+◌, ◌<◌, ◌≤◌, Bool, true, false, Some, Option, List, [], ◌∷◌, length, get_or, drop, map, refl, sym, ap, ◌∙◌}
use Rattle.std.proofs.lemmas.List.{at_drop_more, at_drop_all, length-map}
use Rattle.wcv_syntax.specs.Model.{Decl}
use Rattle.wcv_syntax.specs.View.{decls_of, component_decl_view, instance_decl_view}
use Rattle.wcv_syntax.specs.declared.component_type.ComponentTypeDeclaration.{ComponentTypeDeclaration}
use Rattle.wcv_syntax.specs.declared.component_type.InstanceTypeDeclaration.{InstanceTypeDeclaration}
use Rattle.std.specs.Prelude.{Vec}
use Rattle.std.specs.declared.alloc.Global.{Global}
use Rattle.wcv_core.specs.declared.core_types.ValType.{ValType}
use Rattle.wcv_syntax.specs.View.{core_type_view, defined_view, func_view, type_view}
use Rattle.wcv_syntax.specs.declared.component_type.ComponentDefinedType.{ComponentDefinedType}
use Rattle.wcv_syntax.specs.declared.component_type.ComponentFuncType.{ComponentFuncType}
use Rattle.wcv_syntax.specs.declared.component_type.ComponentType.{ComponentType}
use Rattle.wcv_syntax.specs.declared.component_type.ComponentType.TheVariants as ty
use Rattle.wcv_syntax.specs.declared.component_type.ComponentTypeDeclaration.TheVariants as in_component
use Rattle.wcv_syntax.specs.declared.component_type.ComponentTypeRef.{ComponentTypeRef}
use Rattle.wcv_syntax.specs.declared.component_type.InstanceTypeDeclaration.TheVariants as in_instance
use Rattle.wcv_syntax.specs.declared.core_section.CoreType.{CoreType}
use Rattle.wcv_syntax.specs.declared.instance.ComponentAlias.{ComponentAlias}
use Rattle.wcv_syntax.specs.declared.name.ComponentExternName.{ComponentExternName}
use Rattle.wcv_syntax.specs.declared.name.ComponentImport.{ComponentImport}
use Rattle.wcv_syntax.proofs.Views.{type_view-Defined, type_view-Func, type_view-Component, type_view-Instance, type_view-Resource, component_of_core_type, component_of_type, component_of_alias, component_of_export, component_of_import, instance_of_core_type, instance_of_type, instance_of_alias, instance_of_export}
use Rattle.wcv_encode.specs.Bytes.{Bytes, ◌⧺◌, byte, u32_bytes, maybe}
use Rattle.wcv_encode.specs.CoreTypes.{val_bytes}
use Rattle.wcv_encode.specs.Entries.{name_bytes, ref_of, import_bytes, alias_bytes}
use Rattle.wcv_encode.specs.Modules.{core_type_bytes}
use Rattle.wcv_encode.specs.Types.{decl_count, type_bytes, decl_bytes, decls_bytes}
use Rattle.wcv_encode.specs.Values.{defined_bytes, func_bytes}

count_of_decls : (ds : List Decl) → decl_count (decls_of ds) ≡ length ds
count_of_decls [] = refl
count_of_decls (d ∷ ds) = ap suc (count_of_decls ds)

component_count : (ds : List ComponentTypeDeclaration) → decl_count (decls_of (map component_decl_view ds)) ≡ length ds
component_count ds = count_of_decls (map component_decl_view ds) ∙ length-map ds component_decl_view

instance_count : (ds : List InstanceTypeDeclaration) → decl_count (decls_of (map instance_decl_view ds)) ≡ length ds
instance_count ds = count_of_decls (map instance_decl_view ds) ∙ length-map ds instance_decl_view

-- the bytes of declarations
abbrev pub declared : {D : Type 0} → Bool → (D → Decl) → List D → Bytes
declared imports v ds = decls_bytes imports (decls_of (map v ds))

declared_more : {D : Type 0} (imports : Bool) (v : D → Decl) (d : D) (ds : List D) → declared imports v (d ∷ ds) ≡ decl_bytes imports (v d) ⧺ declared imports v ds
unfolding decls_bytes
declared_more imports v d ds = refl

pub declared_drop : {D : Type 0} (imports : Bool) (v : D → Decl) (ds : List D) (i : ℕ) (d : D) → i < length ds → d ≡ get_or ds i d → declared imports v (drop i ds) ≡ decl_bytes imports (v d) ⧺ declared imports v (drop (i + 1) ds)
declared_drop imports v ds i d h e =
    at_drop_more (declared imports v) ds i d h ∙ ap (λ x. declared imports v (x ∷ drop (i + 1) ds)) (sym e) ∙ declared_more imports v d (drop (i + 1) ds)

pub declared_end : {D : Type 0} (imports : Bool) (v : D → Decl) (ds : List D) (i : ℕ) → length ds ≤ i → declared imports v (drop i ds) ≡ Some []
unfolding decls_bytes
declared_end imports v ds i h = at_drop_all (declared imports v) ds i h

-- ## Each form

pub core_type_in_component : (t : CoreType) → decl_bytes true (component_decl_view (in_component.CoreType t)) ≡ byte 0x00 ⧺ core_type_bytes (core_type_view t)
unfolding decl_bytes
core_type_in_component t = ap (decl_bytes true) (component_of_core_type t)

pub type_in_component : (t : ComponentType) → decl_bytes true (component_decl_view (in_component.Ty t)) ≡ byte 0x01 ⧺ type_bytes (type_view t)
unfolding decl_bytes
type_in_component t = ap (decl_bytes true) (component_of_type t)

pub alias_in_component : (a : ComponentAlias) → decl_bytes true (component_decl_view (in_component.Alias a)) ≡ byte 0x02 ⧺ alias_bytes a
unfolding decl_bytes
alias_in_component a = ap (decl_bytes true) (component_of_alias a)

pub export_in_component : (n : ComponentExternName) (t : ComponentTypeRef) → decl_bytes true (component_decl_view (in_component.Export n t)) ≡ byte 0x04 ⧺ name_bytes n ⧺ ref_of t
unfolding decl_bytes
export_in_component n t = ap (decl_bytes true) (component_of_export n t)

pub import_in_component : (i : ComponentImport) → decl_bytes true (component_decl_view (in_component.Import i)) ≡ byte 0x03 ⧺ import_bytes i
unfolding decl_bytes
import_in_component i = ap (decl_bytes true) (component_of_import i)

pub core_type_in_instance : (t : CoreType) → decl_bytes false (instance_decl_view (in_instance.CoreType t)) ≡ byte 0x00 ⧺ core_type_bytes (core_type_view t)
unfolding decl_bytes
core_type_in_instance t = ap (decl_bytes false) (instance_of_core_type t)

pub type_in_instance : (t : ComponentType) → decl_bytes false (instance_decl_view (in_instance.Ty t)) ≡ byte 0x01 ⧺ type_bytes (type_view t)
unfolding decl_bytes
type_in_instance t = ap (decl_bytes false) (instance_of_type t)

pub alias_in_instance : (a : ComponentAlias) → decl_bytes false (instance_decl_view (in_instance.Alias a)) ≡ byte 0x02 ⧺ alias_bytes a
unfolding decl_bytes
alias_in_instance a = ap (decl_bytes false) (instance_of_alias a)

pub export_in_instance : (n : ComponentExternName) (t : ComponentTypeRef) → decl_bytes false (instance_decl_view (in_instance.Export n t)) ≡ byte 0x04 ⧺ name_bytes n ⧺ ref_of t
unfolding decl_bytes
export_in_instance n t = ap (decl_bytes false) (instance_of_export n t)

pub bytes_of_defined : (d : ComponentDefinedType) → type_bytes (type_view (ty.Defined d)) ≡ defined_bytes (defined_view d)
unfolding type_bytes
bytes_of_defined d = ap type_bytes (type_view-Defined d)

pub bytes_of_func : (f : ComponentFuncType) → type_bytes (type_view (ty.Func f)) ≡ func_bytes (func_view f)
unfolding type_bytes
bytes_of_func f = ap type_bytes (type_view-Func f)

pub bytes_of_component : (ds : Vec ComponentTypeDeclaration Global) → type_bytes (type_view (ty.Component ds)) ≡ byte 0x41 ⧺ u32_bytes (length ds.items) ⧺ declared true component_decl_view ds.items
unfolding type_bytes
bytes_of_component ds = ap type_bytes (type_view-Component ds) ∙ ap (λ n. byte 0x41 ⧺ u32_bytes n ⧺ declared true component_decl_view ds.items) (component_count ds.items)

pub bytes_of_instance : (ds : Vec InstanceTypeDeclaration Global) → type_bytes (type_view (ty.Instance ds)) ≡ byte 0x42 ⧺ u32_bytes (length ds.items) ⧺ declared false instance_decl_view ds.items
unfolding type_bytes
bytes_of_instance ds = ap type_bytes (type_view-Instance ds) ∙ ap (λ n. byte 0x42 ⧺ u32_bytes n ⧺ declared false instance_decl_view ds.items) (instance_count ds.items)

pub bytes_of_resource : (rep : ValType) (dtor : Option ℕ) → type_bytes (type_view (ty.Resource rep dtor)) ≡ byte 0x3F ⧺ val_bytes rep ⧺ maybe u32_bytes dtor
unfolding type_bytes
bytes_of_resource rep dtor = ap type_bytes (type_view-Resource rep dtor)

pub ruleset in_components = (core_type_in_component, type_in_component, alias_in_component, export_in_component, import_in_component)

pub ruleset in_instances = (core_type_in_instance, type_in_instance, alias_in_instance, export_in_instance)

pub ruleset type_forms = (bytes_of_defined, bytes_of_func, bytes_of_component, bytes_of_instance, bytes_of_resource)
