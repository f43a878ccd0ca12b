-- The declarations of a module, one by one.
use Rattle.std.specs.Prelude.{List, [], ◌∷◌, Some, ◌≡◌}
use Rattle.wcv_core.specs.CoreForm.{Group}
use Rattle.wcv_syntax.specs.Model.{Module_decl}
use Rattle.wcv_syntax.specs.ModuleTypes.{Module_type, Made, declared, decl_checks}
use Rattle.wcv_lower.specs.Checks.{IsFree}

-- one after another, each without a cause, they make of this table and this module those, in no other module
abbrev pub DeclaresEach : List Group → Module_type → List Module_decl → List Group → Module_type → Type 0
DeclaresEach gs m [] hs n = (gs ≡ hs) × (m ≡ n)
DeclaresEach gs m (d ∷ ds) hs n = IsFree (decl_checks [] gs m d) × ((s : Made) × (declared [] gs m d ≡ Some s) × DeclaresEach s.0 s.1 ds hs n)
