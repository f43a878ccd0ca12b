-- The views of what a core module declares.
use Rattle.std.proofs.Common.{◌≡◌, List, [], ◌∷◌, ◌++◌, map, refl, ap}
use Rattle.std.proofs.lemmas.List.{map-append}
use Rattle.wcv_core.specs.CoreForm.{group_form}
use Rattle.wcv_core.specs.declared.core_types.RecGroup.{RecGroup}
use Rattle.wcv_syntax.specs.declared.core_section.Import.{Import}
use Rattle.wcv_syntax.specs.declared.core_section.ModuleDecl.TheVariants as code
use Rattle.wcv_syntax.specs.declared.core_section.TypeRef.{TypeRef}
use Rattle.wcv_syntax.specs.Model.{Text, module_type, module_import, module_export}
use Rattle.wcv_syntax.specs.View.{code_decl_view}

types : (gs : List RecGroup) → map code_decl_view (map code.Ty gs) ≡ map module_type (map group_form gs)
types [] = refl
types (g ∷ gs) = ap (λ ds. module_type (group_form g) ∷ ds) (types gs)

imports : (is : List Import) → map code_decl_view (map code.Import is) ≡ map module_import is
imports [] = refl
imports (i ∷ is) = ap (λ ds. module_import i ∷ ds) (imports is)

exports : (es : List (Text × TypeRef)) → map code_decl_view (map (λ e. code.Export e.0 e.1) es) ≡ map (λ e. module_export e.0 e.1) es
exports [] = refl
exports (e ∷ es) = ap (λ ds. module_export e.0 e.1 ∷ ds) (exports es)

pub views : (gs : List RecGroup) (is : List Import) (es : List (Text × TypeRef)) → map code_decl_view (map code.Ty gs ++ map code.Import is ++ map (λ e. code.Export e.0 e.1) es) ≡ map module_type (map group_form gs) ++ map module_import is ++ map (λ e. module_export e.0 e.1) es
views gs is es = simp (map-append, types, imports, exports)
