-- Names of imports and exports in a context.
use Rattle.std.specs.Prelude.{List, [], ◌∷◌, ◌++◌, map, Option, Some}
use Rattle.wcv_core.specs.declared.features.WasmFeatures.{WasmFeatures}
use Rattle.wcv_types.specs.Identity.{Identity, of_reference, identity_at}
use Rattle.wcv_types.specs.Tree.{Text, Extern_name, Sort, is_type, sort, head, created}
use Rattle.wcv_names.specs.Externs as externs
use Rattle.wcv_names.specs.ResourceNames.{Reference, Resource_names}
use Rattle.wcv_lower.specs.Checks.{Checks}
use Rattle.wcv_names.specs.Rules.{Entries}
use Rattle.wcv_types.specs.Unfold.{Type_tree}

abbrev pub reference_in : Option Identity → List Reference
reference_in (Some (of_reference r s)) = (r, s) ∷ []
reference_in o = []

-- the reference that an entry creates: a type gives it the entry's name
abbrev pub references_by : Sort → Type_tree → List Reference
references_by is_type t = reference_in (identity_at (head (created t)))
references_by s t = []

abbrev pub named_by : Extern_name × Type_tree → List (Reference × Text)
named_by e = map (λ r. (r, e.0.name)) (references_by (sort e.1) e.1)

-- the references that entries name, in order
abbrev pub named_references : Entries → List (Reference × Text)
named_references [] = []
named_references (e ∷ es) = named_by e ++ named_references es

-- the names of resources in a list of imports or of exports
abbrev pub resource_names : Entries → Resource_names
resource_names es = record { references = named_references es; names = map (λ p. p.1) (named_references es) }

-- a whole name that an entity may not have beside these entries, where resources have the names of entries, and where none has one
abbrev pub name_checks : WasmFeatures → Entries → Extern_name → Type_tree → Checks
name_checks fs es n t = externs.name_checks (resource_names es) fs es n t

abbrev pub bare_name_checks : WasmFeatures → Entries → Extern_name → Type_tree → Checks
bare_name_checks fs es n t = externs.name_checks (resource_names []) fs es n t
