-- A worked root: a function type, and a component that aliases it from the root and imports a function of it.
use Rattle.std.specs.Prelude.{[], ◌∷◌, false, Option, None}
use Rattle.std.specs.Option.{option_and_then}
use Rattle.wcv_core.specs.Names.{Place, base}
use Rattle.wcv_core.specs.declared.features.WasmFeatures.{WasmFeatures}
use Rattle.wcv_syntax.specs.Model.{func_type, Form, type_item, import_item, component_item, alias_item, Items, no_items, next_item}
use Rattle.wcv_syntax.specs.declared.component_type.ComponentTypeRef.TheVariants as ref
use Rattle.wcv_syntax.specs.declared.instance.ComponentAlias.TheVariants as alias
use Rattle.wcv_syntax.specs.declared.instance.ComponentOuterAliasKind.TheVariants as outer
use Rattle.wcv_syntax.specs.declared.name.ComponentExternName.{ComponentExternName}
use Rattle.wcv_types.specs.Tree as tree
use Rattle.wcv_types.specs.Unfold.{left_out}
use Rattle.wcv_lower.specs.Context.{empty, concrete}
use Rattle.wcv_lower.specs.Declared.{Makers, inside}
use Rattle.wcv_lower.specs.Entries.{extern_name}
use Rattle.wcv_lower.specs.Items.{read_item, read_items}
use Rattle.wcv_lower.specs.Names.{names_by_place}
use Rattle.wcv_lower.specs.Trees.{Type_tree, Tree_stack, tree_reader, tree_maker}

-- `type func ()`
abbrev pub written_func : Form
written_func = type_item (func_type (record { async = false; params = []; result = None }))

-- `alias outer type 1 0`, `import f: func 0`
abbrev pub inner_items : ComponentExternName → Items
inner_items f = next_item 3 (alias_item (alias.Outer outer.Ty 1 0)) (next_item 4 (import_item (record { name = f; ty = ref.Func 0 })) no_items)

-- the type, and the component with these items
abbrev pub root_items : ComponentExternName → Items
root_items f = next_item 1 written_func (next_item 2 (component_item (inner_items f) 5) no_items)

abbrev pub by_place : Makers tree_reader
by_place = tree_maker names_by_place

abbrev pub start : Tree_stack
start = record { top = empty tree_reader concrete; outer = []; groups = [] }

-- the root behind both
abbrev pub nested_root : WasmFeatures → ComponentExternName → Option Tree_stack
nested_root fs f = read_items fs by_place [] 0 start (root_items f)

-- the place of the component
abbrev pub second : Place
second = 1 ∷ []

-- both contexts, before the component ends
abbrev pub nested_inside : WasmFeatures → ComponentExternName → Option Tree_stack
nested_inside fs f = option_and_then (λ s. read_items fs by_place second 0 (inside concrete s) (inner_items f)) (read_item fs by_place (0 ∷ []) start written_func)

abbrev pub made_func : Type_tree
made_func = tree.func_type (base (0 ∷ [])) false [] left_out

-- the component defines nothing, and imports the function by that name
abbrev pub made_component : ComponentExternName → Type_tree
made_component f = tree.component_type (base second) [] [] ((extern_name f, made_func) ∷ []) []
