-- A core instance exports what its module exports, or what it lists; a core module imports what its declarations do.
use Rattle.std.proofs.Common.{◌≡◌, ℕ, List, [], ◌∷◌, ◌∙◌, refl, ap}
use Rattle.std.proofs.lemmas.List.{append-nil}
use Rattle.wcv_core.specs.CoreForm.{Group}
use Rattle.wcv_core.specs.Names.{Name}
use Rattle.wcv_syntax.specs.ModuleTypes.{Core_import, Core_export, Module_type}
use Rattle.wcv_types.specs.Measure.{size}
use Rattle.wcv_types.specs.Tree.{none, core_imports, core_exports}
use Rattle.wcv_types.specs.Unfold.{capped}
use Rattle.wcv_matching.specs.ModuleItems.{core_imports_in, core_exports_in, instance_exports_in}
use Rattle.wcv_lower.specs.CoreInstances.{listed_size, module_instance}
use Rattle.wcv_lower.specs.Readers.{core_instance_node, core_exports_node, module_node}
use Rattle.wcv_lower.specs.Trees.{tree_reader, node_tree}

exports_seen : (es : List Core_export) → core_exports_in {R = Name} {I = Name} (core_exports es none) ≡ es
exports_seen [] = refl
exports_seen (e ∷ es) = ap (λ (xs : List Core_export). e ∷ xs) (exports_seen es)

behind_imports : (is : List Core_import) (es : List Core_export) → core_exports_in {R = Name} {I = Name} (core_imports is (core_exports es none)) ≡ es
behind_imports [] es = exports_seen es
behind_imports (i ∷ is) es = behind_imports is es

no_imports : (es : List Core_export) → core_imports_in {R = Name} {I = Name} (core_exports es none) ≡ []
no_imports [] = refl
no_imports (e ∷ es) = no_imports es

imports_seen : (is : List Core_import) (es : List Core_export) → core_imports_in {R = Name} {I = Name} (core_imports is (core_exports es none)) ≡ is
imports_seen [] es = no_imports es
imports_seen (i ∷ is) es = ap (λ (xs : List Core_import). i ∷ xs) (imports_seen is es)

listed_seen : (es : List Core_export) → instance_exports_in {R = Name} {I = Name} (core_exports es none) ≡ es
listed_seen [] = refl
listed_seen (e ∷ es) = ap (λ (xs : List Core_export). e ∷ xs) (listed_seen es)

pub exports_of_module : (i j : Name) (n : ℕ) (m : Module_type) → tree_reader.core_exports (node_tree i (core_instance_node n (node_tree j (module_node m)))) ≡ m.exports
exports_of_module i j n m = append-nil (core_exports_in {R = Name} {I = Name} (core_imports m.imports (core_exports m.exports none))) ∙ behind_imports m.imports m.exports

module_exports_in : (is : List Core_import) (es : List Core_export) → instance_exports_in {R = Name} {I = Name} (core_imports is (core_exports es none)) ≡ es
module_exports_in [] es = listed_seen es
module_exports_in (i ∷ is) es = module_exports_in is es

pub counted : (i j : Name) (gs : List Group) (m : Module_type) → size (node_tree i (module_instance tree_reader gs (node_tree j (module_node m)))) ≡ capped (listed_size gs m.exports)
counted i j gs m = ap (λ (es : List Core_export). capped (listed_size gs es)) (module_exports_in m.imports m.exports)

pub exports_listed : (i : Name) (n : ℕ) (es : List Core_export) → tree_reader.core_exports (node_tree i (core_exports_node n es)) ≡ es
exports_listed i n es = listed_seen es

pub imports_of_module : (i : Name) (m : Module_type) → tree_reader.core_imports (node_tree i (module_node m)) ≡ m.imports
imports_of_module i m = imports_seen m.imports m.exports
