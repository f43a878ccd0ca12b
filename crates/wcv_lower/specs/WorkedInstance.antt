-- A worked component, and an instance of it: it imports a resource and a list type, defines a resource, exports both resources, and a
-- function that takes such a list, and the imported resource.
use Rattle.std.specs.Prelude.{List, [], ◌∷◌, false, None}
use Rattle.wcv_core.specs.Names.{Name, Place, base, at, stamped}
use Rattle.wcv_core.specs.declared.primitive.PrimitiveValType.TheVariants as prim
use Rattle.wcv_types.specs.Tree as tree
use Rattle.wcv_types.specs.Tree.{Text, Extern_name, list_of, defined, here, node, none, part}
use Rattle.wcv_types.specs.Unfold.{left_out}
use Rattle.wcv_lower.specs.Trees.{Type_tree, Entries, type_entry}

abbrev pub plain_name : Text → Extern_name
plain_name t = record { name = t; implements = None; version_suffix = None; external_id = None }

-- the names t, e, u, v and f
abbrev pub t : Text
t = 116 ∷ []

abbrev pub e : Text
e = 101 ∷ []

abbrev pub u : Text
u = 117 ∷ []

abbrev pub v : Text
v = 118 ∷ []

abbrev pub f : Text
f = 102 ∷ []

-- a list of bytes, under an identity
abbrev pub bytes : Name → Type_tree
bytes i = node (defined i list_of) (part here (tree.primitive_type prim.U8) none)

-- the resource that the component imports, and the one that it defines
abbrev pub imported : Name
imported = base (0 ∷ 0 ∷ [])

abbrev pub made : Name
made = base (0 ∷ 1 ∷ [])

abbrev pub reference : Type_tree
reference = tree.resource_type imported (stamped (0 ∷ 0 ∷ []))

-- what is exported: over the two resources, the reference that stands for the import, the list, and the identities of the handle and of the function
abbrev pub exports_over : Name → Name → Type_tree → Type_tree → Name → Name → Entries
exports_over r d x l i j =
    (plain_name u, type_entry (tree.resource_type d (stamped (0 ∷ 4 ∷ []))))
    ∷ (plain_name v, tree.type_of (tree.resource_type r (stamped (0 ∷ 5 ∷ []))) x)
    ∷ (plain_name f, tree.func_type j false ((e, l) ∷ (t, tree.own_type i x) ∷ []) left_out) ∷ []

abbrev pub worked_component : Type_tree
worked_component = tree.component_type
    (base (0 ∷ [])) ((imported, 0 ∷ []) ∷ []) ((made, 0 ∷ []) ∷ [])
    ((plain_name t, type_entry reference) ∷ (plain_name e, tree.type_of (bytes (base (0 ∷ 2 ∷ []))) (bytes (base (0 ∷ 9 ∷ [])))) ∷ [])
    (exports_over imported made reference (bytes (base (0 ∷ 2 ∷ []))) (base (0 ∷ 6 ∷ [])) (base (0 ∷ 7 ∷ [])))

-- the arguments: a resource, and another list of bytes
abbrev pub handed : Name
handed = base (1 ∷ [])

abbrev pub handed_reference : Type_tree
handed_reference = tree.resource_type handed (stamped (1 ∷ []))

abbrev pub handed_list : Type_tree
handed_list = bytes (base (2 ∷ []))

abbrev pub worked_arguments : List (Text × Type_tree)
worked_arguments = (t, type_entry handed_reference) ∷ (e, type_entry handed_list) ∷ []

-- at the item of position 3
abbrev pub third : Place
third = 3 ∷ []

abbrev pub worked_instance : Type_tree
worked_instance = tree.instance_type (base third) [] (exports_over handed (at third made) handed_reference handed_list (at third (base (0 ∷ 6 ∷ []))) (at third (base (0 ∷ 7 ∷ []))))
