-- What core modules and core instances of a tree import and export, by ids of a table.
use Rattle.std.specs.Prelude.{List, []}
use Rattle.wcv_core.specs.CoreForm.{Group}
use Rattle.wcv_core.specs.declared.core_types.EntityType.{EntityType}
use Rattle.wcv_types.specs.Tree.{Text, core_import, Tree, Parts, none, part, head, parts}
pub use Rattle.wcv_types.specs.CoreParts.{item_at, before, core_exports_in, instance_exports_in, instance_exports}
use Rattle.wcv_types.specs.declared.core_shapes.ModuleType.{ModuleType}
use Rattle.wcv_closed.specs.ClosedItems.{ItemMatches}
use Rattle.wcv_closed.specs.ClosedValue.{closed_item}
use Rattle.wcv_closed.specs.CoreModules.{Module_items}

-- one item matches another, by their closed forms
abbrev pub ItemsMatch : List Group → EntityType → EntityType → Type 0
ItemsMatch gs a b = ItemMatches (closed_item gs a) (closed_item gs b)

-- ## Views

abbrev pub core_imports_in : {R I : Type 0} → Parts R I → List ((Text × Text) × EntityType)
core_imports_in none = []
core_imports_in (part (core_import m n) t ps) = before (m, n) (item_at (head t)) (core_imports_in ps)
core_imports_in (part r t ps) = core_imports_in ps

-- of a core module
abbrev pub module_items : {R I : Type 0} → Tree R I → Module_items EntityType
module_items t = record { imports = core_imports_in (parts t); exports = core_exports_in (parts t) }

-- of the shape of a node
abbrev pub items_of : ModuleType → Module_items EntityType
items_of s = record { imports = s.imports; exports = s.exports }
