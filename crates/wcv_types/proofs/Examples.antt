-- Texts and measures of some types.
use Rattle.std.proofs.Common.{◌≡◌, ℕ, [], ◌∷◌, ◌++◌, refl, true, false}
use Rattle.std.specs.Prelude.{codes, Bool, Some, None}
use Rattle.std.specs.Fmt.{digits}
use Rattle.wcv_core.specs.CoreForm.{CompositeForm, func_form, struct_form, SubForm, Group}
use Rattle.wcv_core.specs.Names.{Name, number, stamp}
use Rattle.wcv_core.specs.declared.core_types.EntityType.TheVariants as entity_type
use Rattle.wcv_core.specs.declared.core_types.FieldType.{FieldType}
use Rattle.wcv_core.specs.declared.core_types.HeapType.{HeapType}
use Rattle.wcv_core.specs.declared.core_types.HeapType.TheVariants as heap
use Rattle.wcv_core.specs.declared.core_types.StorageType.TheVariants as storage
use Rattle.wcv_core.specs.declared.core_types.SuperType.TheVariants as super
use Rattle.wcv_core.specs.declared.core_types.ValType.{ValType}
use Rattle.wcv_core.specs.declared.core_types.ValType.TheVariants as val
use Rattle.wcv_core.specs.declared.primitive.PrimitiveValType.TheVariants as prim
use Rattle.wcv_types.specs.Tree.{Tree, node, none, part, here, nothing, defined, named, record_of, variant_of, result_of, flags_of, fixed_list_of, borrow_of, fields, primitive_type, resource_type, own_type, type_of, func_type, instance_type, component_type, module_type, plain_name}
use Rattle.wcv_types.specs.Identity.{of_reference}
use Rattle.wcv_types.specs.Measure.{size, depth}
use Rattle.wcv_types.specs.Named.{passes}
use Rattle.wcv_types.specs.Quoting.{quoted}
use Rattle.wcv_types.specs.Text.{type_text}

abbrev Type_tree : Type 0
Type_tree = Tree Name Name

abbrev reference : ℕ → ℕ → Type_tree
reference r s = resource_type (number r) (stamp s)

abbrev entity : ℕ → ℕ → ℕ → Type_tree
entity r s s' = type_of (reference r s) (reference r s')

abbrev no_result : Type_tree
no_result = node nothing none

quotes_and_controls : quoted (34 ∷ 97 ∷ 92 ∷ 10 ∷ 127 ∷ 31 ∷ 200 ∷ []) ≡ codes "\"\\\"a\\\\\\x0a\\x7f\\x1f" ++ 200 ∷ 34 ∷ []
quotes_and_controls = refl

-- two resources and an instance are imported
imports_of_resources : type_text [] (component_type (number 0) ((number 1, 0 ∷ []) ∷ (number 2, 1 ∷ []) ∷ (number 3, 2 ∷ 0 ∷ []) ∷ (number 4, 2 ∷ 1 ∷ []) ∷ []) []
    ((plain_name (codes "r"), entity 1 1 1) ∷ (plain_name (codes "r2"), entity 2 2 2) ∷ (plain_name (codes "i"), instance_type (number 9) [] ((plain_name (codes "r3"), entity 3 3 3) ∷ (plain_name (codes "r4"), entity 4 4 4) ∷ [])) ∷ []) []) ≡
    codes "0: resource r0\nimport \"r\" type 0 of 0\n1: resource r1\nimport \"r2\" type 1 of 1\n2: resource r2\n3: resource r3\n4: instance {export \"r3\" type 2 of 2, export \"r4\" type 3 of 3}\nimport \"i\" instance 4\nimported r0 [0]\nimported r1 [1]\nimported r2 [2,0]\nimported r3 [2,1]\n"
unfolding digits
imports_of_resources = refl

-- a resource is defined, and a function takes it
exported_resource : type_text [] (component_type (number 0) [] ((number 1, 0 ∷ []) ∷ []) []
    ((plain_name (codes "r"), entity 1 2 1) ∷ (plain_name (codes "f"), func_type (number 3) false ((codes "x", own_type (number 4) (reference 1 2)) ∷ []) no_result) ∷ [])) ≡
    codes "0: resource r0\n1: resource r0\nexport \"r\" type 0 of 1\n2: own 0\n3: func {\"x\" 2} -> -\nexport \"f\" func 3\ndefined r0 [0]\n"
unfolding digits
exported_resource = refl

-- a component in a component, with an import and an export of a resource
inner_component : type_text [] (component_type (number 0) ((number 5, 1 ∷ []) ∷ []) []
    ((plain_name (codes "c"), component_type (number 1) ((number 3, 0 ∷ []) ∷ []) ((number 4, 0 ∷ []) ∷ []) ((plain_name (codes "t"), entity 3 3 3) ∷ []) ((plain_name (codes "u"), entity 4 4 4) ∷ [])) ∷ (plain_name (codes "r"), entity 5 5 5) ∷ []) []) ≡
    codes "0: resource r0\n1: resource r1\n2: component {import \"t\" type 0 of 0, export \"u\" type 1 of 1, imported r0 [0], defined r1 [0]}\nimport \"c\" component 2\n3: resource r2\nimport \"r\" type 3 of 3\nimported r2 [1]\n"
unfolding digits
inner_component = refl

abbrev record_type : Type_tree
record_type = node (defined (number 1) record_of) (fields ((codes "a", primitive_type prim.U32) ∷ (codes "b", node (defined (number 2) (named prim.String)) none) ∷ []) none)

abbrev variant_type : Type_tree
variant_type = node (defined (number 3) variant_of) (fields ((codes "a", no_result) ∷ (codes "b", record_type) ∷ []) none)

abbrev result_type : Type_tree
result_type = node (defined (number 4) result_of) (part here variant_type (part here no_result none))

abbrev flags_type : Type_tree
flags_type = node (defined (number 5) (flags_of (codes "a" ∷ codes "b" ∷ []))) none

abbrev list_type : Type_tree
list_type = node (defined (number 6) (fixed_list_of 4)) (part here flags_type none)

-- an async function over defined types
defined_types : type_text [] (component_type (number 0) [] [] ((plain_name (codes "f"), func_type (number 7) true ((codes "x", result_type) ∷ (codes "y", primitive_type prim.ErrorContext) ∷ []) list_type) ∷ []) []) ≡
    codes "0: prim string\n1: record {\"a\" u32, \"b\" 0}\n2: variant {\"a\", \"b\" 1}\n3: result 2 -\n4: flags {\"a\", \"b\"}\n5: fixed-list 4 4\n6: async func {\"x\" 3, \"y\" error-context} -> 5\nimport \"f\" func 6\n"
unfolding digits
defined_types = refl

-- what a name says beside it stands behind the entity
whole_names : type_text [] (component_type (number 0) [] []
    ((record { name = codes "a"; implements = Some (codes "b:c/d"); version_suffix = Some (codes ".0"); external_id = Some (codes "\"") }, instance_type (number 1) [] []) ∷ []) []) ≡
    codes "0: instance {}\nimport \"a\" instance 0 implements \"b:c/d\" suffix \".0\" id \"\\\"\"\n"
unfolding digits
whole_names = refl

-- an instance type that owns a resource
own_resource : type_text [] (component_type (number 0) [] [] ((plain_name (codes "c"), component_type (number 1) [] [] ((plain_name (codes "i"), type_of (instance_type (number 2) (number 3 ∷ []) ((plain_name (codes "r"), entity 3 3 3) ∷ [])) (instance_type (number 4) (number 3 ∷ []) ((plain_name (codes "r"), entity 3 3 3) ∷ []))) ∷ []) []) ∷ []) []) ≡
    codes "0: resource r0\n1: instance {own r0, export \"r\" type 0 of 0}\n2: instance {own r0, export \"r\" type 0 of 0}\n3: component {import \"i\" type 1 of 2}\nimport \"c\" component 3\n"
unfolding digits
own_resource = refl

-- ## Core modules

-- a final type that declares no supertype
abbrev final_type : CompositeForm → SubForm
final_type form = record { is_final = true; supertype = None; shared = false; inner = form }

abbrev takes_number : Group
takes_number = final_type (func_form (val.I32 ∷ []) []) ∷ []

imported_module : type_text (takes_number ∷ []) (component_type (number 0) [] []
    ((plain_name (codes "m"), module_type (number 1) 3 [] ((codes "f", entity_type.Func (record { index = 0 })) ∷ [])) ∷ []) []) ≡
    codes "g0: rec {func (i32) -> ()}\n0: module {export \"f\" func g0.0}\nimport \"m\" module 0\n"
unfolding digits
imported_module = refl

abbrev reference_to : HeapType → ValType
reference_to h = val.Ref (record { nullable = true; shared = false; heap = h })

abbrev pointing_to : Bool → HeapType → FieldType
pointing_to mutable h = record { storage = storage.Val (reference_to h); mutable = mutable }

-- a struct that points to itself and to the function, and one that declares it as its supertype
abbrev names_older : Group
names_older =
    record (final_type (struct_form (pointing_to false (heap.Index 0) ∷ pointing_to true (heap.Id (record { index = 0 })) ∷ []))) { is_final = false } ∷
    record (final_type (struct_form [])) { supertype = Some (super.Index 0) } ∷
    []

-- the older group is written before the one that names it
group_names_older : type_text (takes_number ∷ names_older ∷ []) (component_type (number 0) [] []
    ((plain_name (codes "m"), module_type (number 1) 3 (((codes "a", codes "b"), entity_type.Global (record { content_type = reference_to (heap.Id (record { index = 2 })); mutable = true; shared = false })) ∷ []) []) ∷ []) []) ≡
    codes "g0: rec {func (i32) -> ()}\ng1: rec {open struct {(ref null .0), mut (ref null g0.0)}, super .0 struct {}}\n0: module {import \"a\" \"b\" global (ref null g1.1) mut}\nimport \"m\" module 0\n"
unfolding digits
group_names_older = refl

size_of_result : size result_type ≡ 5
size_of_result = refl

depth_of_result : depth result_type ≡ 4
depth_of_result = refl

abbrev takes_borrow : Type_tree
takes_borrow = func_type (number 3) false ((codes "self", node (defined (number 4) borrow_of) (part here (reference 1 2) none)) ∷ []) no_result

unnamed_reference : passes [] takes_borrow ≡ false
unnamed_reference = refl

named_reference : passes (of_reference (number 1) (stamp 2) ∷ []) takes_borrow ≡ true
named_reference = refl

-- an export of a type names what it creates for the exports after it
named_before : passes [] (instance_type (number 5) [] ((plain_name (codes "r"), entity 1 2 2) ∷ (plain_name (codes "f"), takes_borrow) ∷ [])) ≡ true
named_before = refl

named_too_late : passes [] (instance_type (number 5) [] ((plain_name (codes "f"), takes_borrow) ∷ (plain_name (codes "r"), entity 1 2 2) ∷ [])) ≡ false
named_too_late = refl
