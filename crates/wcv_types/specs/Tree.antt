-- Type trees of components. R is the type of resources, I that of identities and stamps.
use Rattle.std.specs.Prelude.{ℕ, List, [], ◌∷◌, Bool, Option, None}
use Rattle.wcv_core.specs.declared.core_types.EntityType.{EntityType}
use Rattle.wcv_core.specs.declared.primitive.PrimitiveValType.{PrimitiveValType}

-- the bytes of a text
abbrev pub Text : Type 0
Text = List ℕ

-- the whole name of an import or an export
pub record Extern_name : Type 0 where
  pub name : Text
  -- the interface that the entry implements, the rest of its version, and an id from outside
  pub implements : Option Text
  pub version_suffix : Option Text
  pub external_id : Option Text

-- one with nothing beside it
abbrev pub plain_name : Text → Extern_name
plain_name n = record { name = n; implements = None; version_suffix = None; external_id = None }

-- how a defined value type is formed from its parts
pub data Former : Type 0 where
  -- a primitive under a name
  named : PrimitiveValType → Former
  record_of variant_of list_of map_of tuple_of option_of result_of own_of borrow_of future_of stream_of : Former
  -- its length
  fixed_list_of : ℕ → Former
  -- their names
  flags_of enum_of : List Text → Former

-- what a node is, without its parts. T is the type of names of core types, E that of what core modules import and export
pub data Head_of (R I T E : Type 0) : Type 0 where
  -- stands where a payload, a result, or the type of a case is left out
  nothing : Head_of R I T E
  primitive : PrimitiveValType → Head_of R I T E
  -- a resource reference: a resource and a stamp
  resource : R → I → Head_of R I T E
  defined : I → Former → Head_of R I T E
  -- whether it is async
  func : I → Bool → Head_of R I T E
  -- its own resources
  instance : I → List R → Head_of R I T E
  -- its imported and its defined resources, each with its path
  component : I → List (R × List ℕ) → List (R × List ℕ) → Head_of R I T E
  -- a type entity: its parts are the created and the referenced node
  type_entity : Head_of R I T E
  -- the type of a core module, and its size, since what a core function counts is read in the table of core types
  core_module : I → ℕ → Head_of R I T E
  -- that of a core instance
  core_instance : I → ℕ → Head_of R I T E
  -- a core type
  core_type : T → Head_of R I T E
  -- what a core module imports or exports
  core_item : E → Head_of R I T E

-- what a part is to its node
pub data Role : Type 0 where
  -- known by its place among the parts
  here : Role
  -- a field, a case or a parameter
  label : Text → Role
  import export : Extern_name → Role
  -- of a core module: under the name of a module and a name in it, and under a name
  core_import : Text → Text → Role
  core_export : Text → Role

-- a node and its parts, each in its role
mutual
  pub data Tree_of (R I T E : Type 0) : Type 0 where
    node : Head_of R I T E → Parts_of R I T E → Tree_of R I T E

  pub data Parts_of (R I T E : Type 0) : Type 0 where
    none : Parts_of R I T E
    part : Role → Tree_of R I T E → Parts_of R I T E → Parts_of R I T E

-- ## With ids of core types, in a table

abbrev pub Head : Type 0 → Type 0 → Type 0
Head R I = Head_of R I ℕ EntityType

abbrev pub Tree : Type 0 → Type 0 → Type 0
Tree R I = Tree_of R I ℕ EntityType

abbrev pub Parts : Type 0 → Type 0 → Type 0
Parts R I = Parts_of R I ℕ EntityType

-- ## Trees by sort

-- a primitive value type
abbrev pub primitive_type : {R I : Type 0} → PrimitiveValType → Tree R I
primitive_type p = node (primitive p) none

-- a reference to a resource, with its stamp
abbrev pub resource_type : {R I : Type 0} → R → I → Tree R I
resource_type r s = node (resource r s) none

-- a handle that owns what the reference stands for
abbrev pub own_type : {R I : Type 0} → I → Tree R I → Tree R I
own_type i reference = node (defined i own_of) (part here reference none)

-- a type entity, from its created and its referenced node
abbrev pub type_of : {R I : Type 0} → Tree R I → Tree R I → Tree R I
type_of created referenced = node type_entity (part here created (part here referenced none))

-- parts under labels, before others
abbrev pub fields : {R I : Type 0} → List (Text × Tree R I) → Parts R I → Parts R I
fields [] rest = rest
fields (f ∷ fs) rest = part (label f.0) f.1 (fields fs rest)

-- a function, from its parameters and its result
abbrev pub func_type : {R I : Type 0} → I → Bool → List (Text × Tree R I) → Tree R I → Tree R I
func_type i async params result = node (func i async) (fields params (part here result none))

-- imports or exports, before other parts
abbrev pub entries : {R I : Type 0} → (Extern_name → Role) → List (Extern_name × Tree R I) → Parts R I → Parts R I
entries role [] rest = rest
entries role (e ∷ es) rest = part (role e.0) e.1 (entries role es rest)

-- an instance, from its own resources and its exports
abbrev pub instance_type : {R I : Type 0} → I → List R → List (Extern_name × Tree R I) → Tree R I
instance_type i owned es = node (instance i owned) (entries export es none)

-- a component, from its imported and its defined resources, its imports and its exports
abbrev pub component_type : {R I : Type 0} → I → List (R × List ℕ) → List (R × List ℕ) → List (Extern_name × Tree R I) → List (Extern_name × Tree R I) → Tree R I
component_type i imported made ins outs = node (component i imported made) (entries import ins (entries export outs none))

-- what a core module imports, before other parts
abbrev pub core_imports : {R I : Type 0} → List ((Text × Text) × EntityType) → Parts R I → Parts R I
core_imports [] rest = rest
core_imports (i ∷ is) rest = part (core_import i.0.0 i.0.1) (node (core_item i.1) none) (core_imports is rest)

-- what it exports, before other parts
abbrev pub core_exports : {R I : Type 0} → List (Text × EntityType) → Parts R I → Parts R I
core_exports [] rest = rest
core_exports (e ∷ es) rest = part (core_export e.0) (node (core_item e.1) none) (core_exports es rest)

-- a core module, from its size, its imports and its exports
abbrev pub module_type : {R I : Type 0} → I → ℕ → List ((Text × Text) × EntityType) → List (Text × EntityType) → Tree R I
module_type i n ins outs = node (core_module i n) (core_imports ins (core_exports outs none))

-- a core type
abbrev pub sub_type : {R I : Type 0} → ℕ → Tree R I
sub_type i = node (core_type i) none

-- ## Views

-- what a tree can be
pub data Sort : Type 0 where
  is_nothing is_value is_resource is_func is_instance is_component is_type : Sort
  is_module is_core_instance is_core_type is_core_item : Sort

-- the root of the tree, without its parts
abbrev pub head : {R I : Type 0} → Tree R I → Head R I
head (node h ps) = h

-- the parts of the root
abbrev pub parts : {R I : Type 0} → Tree R I → Parts R I
parts (node h ps) = ps

-- the sort by the root
abbrev pub sort_at : {R I : Type 0} → Head R I → Sort
sort_at nothing = is_nothing
sort_at (primitive p) = is_value
sort_at (resource r s) = is_resource
sort_at (defined i k) = is_value
sort_at (func i b) = is_func
sort_at (instance i owned) = is_instance
sort_at (component i ins outs) = is_component
sort_at type_entity = is_type
sort_at (core_module i n) = is_module
sort_at (core_instance i n) = is_core_instance
sort_at (core_type i) = is_core_type
sort_at (core_item e) = is_core_item

-- the sort of the tree
abbrev pub sort : {R I : Type 0} → Tree R I → Sort
sort t = sort_at (head t)

-- the parts that are exports
abbrev pub exports_in : {R I : Type 0} → Parts R I → List (Extern_name × Tree R I)
exports_in none = []
exports_in (part (export n) t ps) = (n, t) ∷ exports_in ps
exports_in (part _ t ps) = exports_in ps

-- the parts that are imports
abbrev pub imports_in : {R I : Type 0} → Parts R I → List (Extern_name × Tree R I)
imports_in none = []
imports_in (part (import n) t ps) = (n, t) ∷ imports_in ps
imports_in (part _ t ps) = imports_in ps

-- the exports by name, in order
abbrev pub exports : {R I : Type 0} → Tree R I → List (Extern_name × Tree R I)
exports t = exports_in (parts t)

-- the imports by name, in order
abbrev pub imports : {R I : Type 0} → Tree R I → List (Extern_name × Tree R I)
imports t = imports_in (parts t)

-- the first part, or nothing
abbrev pub first_part : {R I : Type 0} → Parts R I → Tree R I
first_part none = node nothing none
first_part (part r t ps) = t

-- the parts after the first
abbrev pub rest_parts : {R I : Type 0} → Parts R I → Parts R I
rest_parts none = none
rest_parts (part r t ps) = ps

-- the node that a type entity creates
abbrev pub created : {R I : Type 0} → Tree R I → Tree R I
created t = first_part (parts t)

-- the node that a type entity refers to
abbrev pub referenced : {R I : Type 0} → Tree R I → Tree R I
referenced t = first_part (rest_parts (parts t))

-- the own resources of an instance node
abbrev pub owned_at : {R I : Type 0} → Head R I → List R
owned_at (instance i rs) = rs
owned_at _ = []

-- the own resources of an instance type
abbrev pub owned : {R I : Type 0} → Tree R I → List R
owned t = owned_at (head t)

-- resources without their paths
abbrev pub firsts : {R : Type 0} → List (R × List ℕ) → List R
firsts [] = []
firsts (p ∷ ps) = p.0 ∷ firsts ps

-- the imported resources of a component node
abbrev pub imported_at : {R I : Type 0} → Head R I → List R
imported_at (component i ins outs) = firsts ins
imported_at _ = []

-- the resources that a component type imports
abbrev pub imported : {R I : Type 0} → Tree R I → List R
imported t = imported_at (head t)
