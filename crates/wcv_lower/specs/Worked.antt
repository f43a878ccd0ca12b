-- A worked root: an instance type that exports a resource and a function over it, and two imports of that type.
use Rattle.std.specs.Prelude.{ℕ, [], ◌∷◌, false, Option, None}
use Rattle.std.specs.Option.{option_and_then}
use Rattle.wcv_core.specs.Names.{Name, base, at, stamped}
use Rattle.wcv_core.specs.declared.features.WasmFeatures.{WasmFeatures}
use Rattle.wcv_syntax.specs.Model.{Text, simple, import_item, Type_form, defined_type, func_type, instance_type, type_decl, export_decl, no_decls, declare}
use Rattle.wcv_syntax.specs.declared.component_type.ComponentDefinedType.TheVariants as defined
use Rattle.wcv_syntax.specs.declared.component_type.ComponentTypeRef.TheVariants as ref
use Rattle.wcv_syntax.specs.declared.component_type.ComponentValType.TheVariants as val
use Rattle.wcv_syntax.specs.declared.component_type.TypeBounds.TheVariants as bounds
use Rattle.wcv_syntax.specs.declared.name.ComponentExternName.{ComponentExternName}
use Rattle.wcv_types.specs.Tree as tree
use Rattle.wcv_types.specs.Unfold.{left_out}
use Rattle.wcv_lower.specs.Context.{empty, concrete}
use Rattle.wcv_lower.specs.Declared.{read_type}
use Rattle.wcv_lower.specs.Entries.{extern_name}
use Rattle.wcv_lower.specs.Growth.{grow}
use Rattle.wcv_lower.specs.Names.{names_by_place}
use Rattle.wcv_lower.specs.Trees.{Type_tree, Entries, Tree_stack, tree_reader, tree_maker, type_entry}

-- `export r: sub-resource`, `type own 0`, `type func (x: 1)`, `export f: func 2`
abbrev pub written_type : ComponentExternName → ComponentExternName → Text → Type_form
written_type r f x = instance_type
    (declare (export_decl r (ref.Ty bounds.SubResource))
    (declare (type_decl (defined_type (simple (defined.Own 0))))
    (declare (type_decl (func_type (record { async = false; params = (x, val.Ty 1) ∷ []; result = None })))
    (declare (export_decl f (ref.Func 2)) no_decls))))

-- `import a: instance 0`, at the item of that position
abbrev pub imported_at : WasmFeatures → Tree_stack → ℕ → ComponentExternName → Option Tree_stack
imported_at fs s n a = grow fs (tree_maker names_by_place (n ∷ [])) s (import_item (record { name = a; ty = ref.Instance 0 }))

-- the type, and then both imports
abbrev pub imported_twice : WasmFeatures → ComponentExternName → ComponentExternName → Text → ComponentExternName → ComponentExternName → Option Tree_stack
imported_twice fs r f x a b =
    option_and_then (λ t. imported_at fs t 2 b) (option_and_then (λ s. imported_at fs s 1 a) (read_type fs (tree_maker names_by_place) (0 ∷ []) (record { top = empty tree_reader concrete; outer = []; groups = [] }) (written_type r f x)))

-- the resource of the declaration
abbrev pub own : Name
own = base (0 ∷ 0 ∷ [])

-- what is exported, over a resource, with the identities of the handle and of the function. The reference keeps its stamp
abbrev pub exports_over : ComponentExternName → ComponentExternName → Text → Name → Name → Name → Entries
exports_over r f x q i j =
    let t : Type_tree = tree.resource_type q (stamped (0 ∷ 0 ∷ [])) in
    (extern_name r, type_entry t) ∷ (extern_name f, tree.func_type j false ((x, tree.own_type i t) ∷ []) left_out) ∷ []

-- the type owns the resource
abbrev pub made_type : ComponentExternName → ComponentExternName → Text → Type_tree
made_type r f x = tree.instance_type (base (0 ∷ [])) (own ∷ []) (exports_over r f x own (base (0 ∷ 1 ∷ [])) (base (0 ∷ 2 ∷ [])))

-- the instance that the item of that position imports owns nothing: its resource is new, and what mentions that was made again
abbrev pub made_instance : ComponentExternName → ComponentExternName → Text → ℕ → Type_tree
made_instance r f x n = tree.instance_type (at (n ∷ []) (base (0 ∷ []))) [] (exports_over r f x (at (n ∷ []) own) (at (n ∷ []) (base (0 ∷ 1 ∷ []))) (at (n ∷ []) (base (0 ∷ 2 ∷ []))))
