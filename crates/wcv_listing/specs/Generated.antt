-- The items that are made for a number: a component, so many instances of it, and what they export.
use Rattle.std.specs.Prelude.{ℕ, ◌+◌, List, [], ◌∷◌, ◌++◌, length, map, codes, None, false, ◌≡◌}
use Rattle.std.specs.Fmt.{decimal}
use Rattle.std.specs.List.{range_with_len}
use Rattle.wcv_syntax.specs.declared.component_type.ComponentDefinedType.TheVariants as defined
use Rattle.wcv_syntax.specs.declared.component_type.ComponentTypeRef.TheVariants as type_ref
use Rattle.wcv_syntax.specs.declared.component_type.ComponentValType.TheVariants as value
use Rattle.wcv_syntax.specs.declared.component_type.TypeBounds.TheVariants as bounds
use Rattle.wcv_syntax.specs.declared.instance.ComponentAlias.TheVariants as alias
use Rattle.wcv_syntax.specs.declared.instance.ComponentExternalKind.{ComponentExternalKind}
use Rattle.wcv_syntax.specs.declared.instance.ComponentExternalKind.TheVariants as sort
use Rattle.wcv_syntax.specs.declared.instance.ComponentInstantiationArg.{ComponentInstantiationArg}
use Rattle.wcv_syntax.specs.declared.name.ComponentExternName.{ComponentExternName}
use Rattle.wcv_syntax.specs.Model.{Text, Form, Items, Entry, type_item, import_item, export_item, component_item, instance_item, alias_item, defined_type, func_type, simple, instantiate}
use Rattle.wcv_syntax.specs.View.{items_of}

-- a name with no text beside it
abbrev pub plain_name : Text → ComponentExternName
plain_name text = record { name = text; implements = None; version_suffix = None; external_id = None }

-- a new resource is imported as `r`, and is type 0
abbrev pub resource_import : Form
resource_import = import_item (record { name = plain_name (codes "r"); ty = type_ref.Ty bounds.SubResource })

-- type 1 owns one
abbrev pub own_type : Form
own_type = type_item (defined_type (simple (defined.Own 0)))

-- type 2 is that of functions that take what owns one, and give nothing
abbrev pub taker_type : Form
taker_type = type_item (func_type (record { async = false; params = (codes "x", value.Ty 1) ∷ []; result = None }))

-- such a function is imported as `f`
abbrev pub taker_import : Form
taker_import = import_item (record { name = plain_name (codes "f"); ty = type_ref.Func 2 })

abbrev pub imports : List Form
imports = resource_import ∷ own_type ∷ taker_type ∷ taker_import ∷ []

-- a function is exported under a name
abbrev pub func_export : Text → ℕ → Form
func_export name index = export_item (record { name = plain_name name; kind = sort.Func; index = index; ty = None })

-- an item at an offset
abbrev pub at : ℕ → Form → Entry
at offset form = record { offset = offset; form = form }

-- the forms as items, the first at an offset, and each so far behind the one before it
abbrev pub spaced : ℕ → ℕ → List Form → List Entry
spaced gap offset [] = []
spaced gap offset (f ∷ fs) = at offset f ∷ spaced gap (offset + gap) fs

-- a component that imports the same, and exports the function as `g`; its items and its end are at offset 0
abbrev pub passing_component : Form
passing_component = component_item (items_of (spaced 0 0 (imports ++ func_export (codes "g") 0 ∷ []))) 0

-- an item is given for the import of a name
abbrev pub argument : Text → ComponentExternalKind → ComponentInstantiationArg
argument name kind = record { name = name; kind = kind; index = 0 }

-- an instance of the component, which gets what the root imports
abbrev pub passing_instance : Form
passing_instance = instance_item (instantiate 0 (argument (codes "r") sort.Ty ∷ argument (codes "f") sort.Func ∷ []))

-- what an instance exports
abbrev pub passed_alias : ℕ → Form
passed_alias i = alias_item (alias.InstanceExport sort.Func i (codes "g"))

-- it is exported as `g` with the instance's number behind it; function 0 is the imported one
abbrev pub passed_export : ℕ → Form
passed_export i = func_export (codes "g" ++ decimal i) (i + 1)

-- a form for each number below n
abbrev pub each_below : ℕ → (ℕ → Form) → List Form
each_below n form = map form (range_with_len 0 n)

-- all forms of the root
abbrev pub generated_forms : ℕ → List Form
generated_forms n = imports ++ (passing_component ∷ []) ++ each_below n (λ i. passing_instance) ++ each_below n passed_alias ++ each_below n passed_export

-- the items of the root, each at its position
unfoldable pub generated : ℕ → Items
generated n = items_of (spaced 1 0 (generated_forms n))

-- behind the items so far the forms have joined, each at its position
abbrev pub Joins : List Entry → List Form → List Entry → Type 0
Joins before forms after = after ≡ before ++ spaced 1 (length before) forms
