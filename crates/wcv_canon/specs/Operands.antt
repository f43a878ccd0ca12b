-- What rows of canonical functions ask of their operands, beside what core types ask of options.
use Rattle.std.specs.Prelude.{[], List, ◌++◌, Option, Some, None}
use Rattle.wcv_core.specs.Checks.{all_checks}
use Rattle.wcv_core.specs.declared.features.WasmFeatures.{WasmFeatures}
use Rattle.wcv_syntax.specs.Model.{Canon_form}
use Rattle.wcv_syntax.specs.declared.canonical.CanonicalOption.{CanonicalOption}
use Rattle.wcv_types.specs.Arena.{Arena}
use Rattle.wcv_flat.specs.Rows as row
use Rattle.wcv_flat.specs.CodeRows.{ask_of}
use Rattle.wcv_flat.specs.Rows.{canon_row}
use Rattle.wcv_flat.specs.declared.canon_rows.Ask.{Ask}
use Rattle.wcv_lower.specs.Canons.{ask_found, ask_rules}
use Rattle.wcv_lower.specs.Checks.{Checks}
use Rattle.wcv_lower.specs.Context.{Stack}
use Rattle.wcv_lower.specs.Readers.{Reader}
use Rattle.wcv_spaces.specs.Contents.{Contents, stack_of}

-- what is asked of the operands, in the order of the row
abbrev pub operand_checks : {X : Reader} → WasmFeatures → Stack X → Canon_form → Checks
operand_checks fs s f = all_checks (ask_found s) (canon_row f).asks ++ all_checks (ask_rules fs s) (canon_row f).asks

-- ## One by one, over a state

-- what is asked once: no context further out is looked at
abbrev pub asked : Arena → Contents → row.Ask → Checks
asked a s q = ask_found (stack_of a s []) q ++ ask_rules s.features (stack_of a s []) q

-- all of a row
abbrev pub row_asked : Arena → Contents → Canon_form → Checks
row_asked a s f = all_checks (asked a s) (canon_row f).asks

-- what is asked, where something is, over the options that stand
abbrev pub asked_option : Arena → Contents → List CanonicalOption → Option Ask → Checks
asked_option a s os None = []
asked_option a s os (Some q) = asked a s (ask_of os q)
