-- Defined value types as they are written.
use Rattle.wcv_core.specs.Limits.{max_abi_size, max_depth, max_elements, max_list, max_size}
use Rattle.std.specs.Prelude.{ℕ, List, [], ◌∷◌, ◌++◌, map, length, Bool, true, false, not, ◌||◌, ◌==◌, nat_lt, Option, Some, None}
use Rattle.std.specs.Option.{option_map}
use Rattle.wcv_core.specs.declared.error.ErrorKind.TheVariants as kind
use Rattle.wcv_core.specs.declared.features.WasmFeatures.{WasmFeatures}
use Rattle.wcv_core.specs.declared.primitive.PrimitiveValType.{PrimitiveValType}
use Rattle.wcv_core.specs.declared.primitive.PrimitiveValType.TheVariants as prim
use Rattle.wcv_syntax.specs.declared.component_type.ComponentDefinedType.{ComponentDefinedType}
use Rattle.wcv_syntax.specs.declared.component_type.ComponentDefinedType.TheVariants as d
use Rattle.wcv_syntax.specs.Model.{Defined_form, record_of, variant_of, tuple_of, flags_of, enum_of, simple}
use Rattle.wcv_types.specs.Abi.{handle, borrow}
use Rattle.wcv_types.specs.Tree as tree
use Rattle.wcv_types.specs.Tree.{Text, Former, here, label, is_resource}
use Rattle.wcv_lower.specs.Checks.{Checks, if_found, too_many, each_too_long, label_checks, max_flags}
use Rattle.wcv_lower.specs.Context.{Context}
use Rattle.wcv_lower.specs.Readers.{Reader, Made_parts, New_node, defined_node, Maker}
use Rattle.wcv_core.specs.Features.{cm_async, cm_map, cm_fixed_length_lists}
use Rattle.wcv_lower.specs.Values.{lacks, primitive_checks, sort_checks, resource_at, value_entry, option_entry, Written_parts, parts_entries, parts_checks}

-- ## What it is made of

abbrev pub simple_former : ComponentDefinedType → Former
simple_former (d.Primitive p) = tree.named p
simple_former (d.List v) = tree.list_of
simple_former (d.Map k v) = tree.map_of
simple_former (d.FixedLengthList v n) = tree.fixed_list_of n
simple_former (d.Option v) = tree.option_of
simple_former (d.Result o e) = tree.result_of
simple_former (d.Own r) = tree.own_of
simple_former (d.Borrow r) = tree.borrow_of
simple_former (d.Future o) = tree.future_of
simple_former (d.Stream o) = tree.stream_of
-- those that hold a vector stand for themselves in no form
simple_former (d.Record fs) = tree.record_of
simple_former (d.Variant cs) = tree.variant_of
simple_former (d.Tuple vs) = tree.tuple_of
simple_former (d.Flags ns) = tree.flags_of ns.items
simple_former (d.Enum ns) = tree.enum_of ns.items

abbrev pub former : Defined_form → Former
former (record_of fs) = tree.record_of
former (variant_of cs) = tree.variant_of
former (tuple_of vs) = tree.tuple_of
former (flags_of ns) = tree.flags_of ns
former (enum_of ns) = tree.enum_of ns
former (simple x) = simple_former x

abbrev pub simple_parts : ComponentDefinedType → Written_parts
simple_parts (d.List v) = (here, Some v) ∷ []
simple_parts (d.Map k v) = (here, Some k) ∷ (here, Some v) ∷ []
simple_parts (d.FixedLengthList v n) = (here, Some v) ∷ []
simple_parts (d.Option v) = (here, Some v) ∷ []
simple_parts (d.Result o e) = (here, o) ∷ (here, e) ∷ []
simple_parts (d.Future o) = (here, o) ∷ []
simple_parts (d.Stream o) = (here, o) ∷ []
simple_parts x = []

-- the value types in it
abbrev pub written_parts : Defined_form → Written_parts
written_parts (record_of fs) = map (λ f. (label f.0, Some f.1)) fs
written_parts (variant_of cs) = map (λ c. (label c.name, c.ty)) cs
written_parts (tuple_of vs) = map (λ v. (here, Some v)) vs
written_parts (flags_of ns) = []
written_parts (enum_of ns) = []
written_parts (simple x) = simple_parts x

-- the names in it
abbrev pub names_in : Defined_form → List Text
names_in (record_of fs) = map (λ f. f.0) fs
names_in (variant_of cs) = map (λ c. c.name) cs
names_in (tuple_of vs) = []
names_in (flags_of ns) = ns
names_in (enum_of ns) = ns
names_in (simple x) = []

-- the index of the resource type that a handle is of
abbrev pub simple_handle : ComponentDefinedType → Option ℕ
simple_handle (d.Own k) = Some k
simple_handle (d.Borrow k) = Some k
simple_handle x = None

abbrev pub handle_index : Defined_form → Option ℕ
handle_index (simple x) = simple_handle x
handle_index x = None

-- what it is made of: a handle of the reference to its resource, other types of value types
abbrev pub made_of : {X : Reader} → Context X → Option ℕ → Written_parts → Option (Made_parts X)
made_of c None ps = parts_entries c ps
made_of c (Some k) ps = option_map (λ x. (here, x) ∷ []) (resource_at c k)

-- the node, where each of them is found
abbrev pub defined_made : {X : Reader} → Context X → Defined_form → Option (New_node X)
defined_made c x = option_map (defined_node (former x)) (made_of c (handle_index x) (written_parts x))

-- ## How many entries

-- there is none
abbrev pub is_empty : {X : Type 0} → List X → Bool
is_empty [] = true
is_empty (x ∷ xs) = false

abbrev pub no_entry : {X : Type 0} → List X → Checks
no_entry xs = (kind.Shape, is_empty xs) ∷ []

abbrev pub simple_shape : ComponentDefinedType → Checks
simple_shape (d.FixedLengthList v n) = (kind.Shape, n == 0) ∷ too_many max_elements n
simple_shape x = []

abbrev pub shape_checks : Defined_form → Checks
shape_checks (record_of fs) = no_entry fs
shape_checks (variant_of cs) = no_entry cs
shape_checks (tuple_of vs) = no_entry vs
shape_checks (flags_of ns) = (kind.Shape, is_empty ns || nat_lt max_flags (length ns)) ∷ []
shape_checks (enum_of ns) = no_entry ns
shape_checks (simple x) = simple_shape x

-- ## Features

abbrev pub simple_features : WasmFeatures → ComponentDefinedType → Checks
simple_features fs (d.Primitive p) = primitive_checks fs p
simple_features fs (d.Map k v) = lacks fs cm_map
simple_features fs (d.FixedLengthList v n) = lacks fs cm_fixed_length_lists
simple_features fs (d.Future o) = lacks fs cm_async
simple_features fs (d.Stream o) = lacks fs cm_async
simple_features fs x = []

abbrev pub feature_checks : WasmFeatures → Defined_form → Checks
feature_checks fs (simple x) = simple_features fs x
feature_checks fs x = []

-- ## What may stand in it

-- a primitive that keys of a map may have
abbrev pub is_key : Option PrimitiveValType → Bool
is_key None = false
is_key (Some prim.F32) = false
is_key (Some prim.F64) = false
is_key (Some prim.ErrorContext) = false
is_key (Some p) = true

abbrev pub is_char : Option PrimitiveValType → Bool
is_char (Some prim.Char) = true
is_char o = false

-- no borrowed handle may stand in it
abbrev pub has_borrow : (X : Reader) → X.Entry → Checks
has_borrow X x = (kind.Borrow, X.contains borrow x) ∷ []

abbrev pub bad_key : (X : Reader) → X.Entry → Checks
bad_key X x = (kind.Shape, not (is_key (X.primitive_of x))) ∷ []

abbrev pub bad_map_value : (X : Reader) → X.Entry → Checks
bad_map_value X x = (kind.Shape, X.contains handle x) ∷ []

abbrev pub bad_element : (X : Reader) → X.Entry → Checks
bad_element X x = (kind.Shape, is_char (X.primitive_of x)) ∷ []

-- what a stream may not carry
abbrev pub bad_item : (X : Reader) → X.Entry → Checks
bad_item X x = has_borrow X x ++ bad_element X x

abbrev pub simple_content : {X : Reader} → Context X → ComponentDefinedType → Checks
simple_content {X} c (d.Map k v) = if_found (bad_key X) (value_entry c k) ++ if_found (bad_map_value X) (value_entry c v)
simple_content {X} c (d.Future o) = if_found (has_borrow X) (option_entry c o)
simple_content {X} c (d.Stream o) = if_found (bad_item X) (option_entry c o)
simple_content c x = []

abbrev pub content_checks : {X : Reader} → Context X → Defined_form → Checks
content_checks c (simple x) = simple_content c x
content_checks c x = []

-- ## Limits

-- a type that is too large, too deep, or too large in memory
abbrev pub size_checks : (X : Reader) → X.Entry → Checks
size_checks X x = too_many max_size (X.size x) ++ (too_many max_depth (X.depth x) ++ (too_many max_abi_size (X.abi_size 4 x) ++ too_many max_abi_size (X.abi_size 8 x)))

-- a node that is made is too large, too deep, or too large in memory
abbrev pub node_checks : {X : Reader} → Maker X → New_node X → Checks
node_checks {X} mk n = size_checks X (mk.build n)

-- ## All causes, but for the limits that are left to the caller

-- what it is made of is not there
abbrev pub made_checks : {X : Reader} → WasmFeatures → Context X → Option ℕ → Written_parts → Checks
made_checks fs c None ps = parts_checks fs c ps
made_checks fs c (Some k) ps = sort_checks is_resource c k

-- the causes that need no context
abbrev pub own_checks : WasmFeatures → Defined_form → Checks
own_checks fs x = shape_checks x ++ (label_checks (names_in x) ++ feature_checks fs x)

abbrev pub defined_checks : {X : Reader} → WasmFeatures → Maker X → Context X → Defined_form → Checks
defined_checks fs mk c x = own_checks fs x ++ (made_checks fs c (handle_index x) (written_parts x) ++ (content_checks c x ++ if_found (node_checks mk) (defined_made c x)))

-- how long its list is
abbrev pub list_length : Defined_form → ℕ
list_length (record_of fs) = length fs
list_length (variant_of cs) = length cs
list_length (tuple_of vs) = length vs
list_length (flags_of ns) = length ns
list_length (enum_of ns) = length ns
list_length (simple x) = 0

-- the limits that are left to the caller
abbrev pub defined_left : Defined_form → Checks
defined_left x = too_many max_list (list_length x) ++ each_too_long (names_in x)
