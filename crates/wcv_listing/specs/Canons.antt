-- Canonical functions and their options.
use Rattle.std.specs.Prelude.{ℕ, Bool, List, [], ◌∷◌, map, if◌then◌else◌, Option, Some, None, is_some, option_map, option_and_then, codes}
use Rattle.serde_json.specs.Data.{Data}
use Rattle.serde_json.specs.Find.{as_null, as_str, get}
use Rattle.wcv_syntax.specs.CanonRows.{Operand, core_value_type, option_value_type, truth, option_list, Operands, no_operands, alone, keys, Value, Keyed, Given, Written, canon_rows}
use Rattle.wcv_syntax.specs.declared.canonical.CanonicalFunction.TheVariants as canon
use Rattle.wcv_syntax.specs.declared.canonical.CanonicalOption.{CanonicalOption}
use Rattle.wcv_syntax.specs.declared.canonical.CanonicalOption.TheVariants as option
use Rattle.wcv_syntax.specs.Model.{Text, Canon_form, stream_read, stream_write, future_read, future_write, builtin}
use Rattle.wcv_listing.specs.Core.{core_value_of}
use Rattle.wcv_listing.specs.Fields.{both, named, has_only, sole, index, array_of, text_or, mark, optional}
use Rattle.wcv_listing.specs.Values.{value_of}

-- ## Options

-- those that are a name alone
abbrev pub option_names : List (Text × CanonicalOption)
option_names = (codes "utf8", option.UTF8) ∷ (codes "utf16", option.UTF16) ∷ (codes "latin1-utf16", option.CompactUTF16) ∷ (codes "async", option.Async) ∷ (codes "gc", option.Gc) ∷ []

-- those with an index
abbrev pub option_keys : List (Text × (ℕ → CanonicalOption))
option_keys =
    (codes "memory", option.Memory)
    ∷ (codes "realloc", option.Realloc)
    ∷ (codes "post-return", option.PostReturn)
    ∷ (codes "callback", option.Callback)
    ∷ (codes "core-type", option.CoreType) ∷ []

-- {KEY: index}
abbrev pub indexed_option : Data → Option CanonicalOption
indexed_option d = option_and_then (λ p. both (λ make k. make k) (named option_keys p.0) (index p.1)) (sole d)

-- a name, or such an object
abbrev pub option_of : Data → Option CanonicalOption
option_of d = text_or (named option_names) (indexed_option d) (as_str d)

-- ## Operands

-- what stands for an operand, or under its key. A value type and a truth may be absent there
abbrev pub operand_of : (o : Operand) → Option Data → Option (Value o)
operand_of core_value_type d = option_and_then core_value_of d
operand_of option_value_type d = optional value_of d
operand_of truth d = mark d
operand_of option_list d = option_and_then (array_of option_of) d
operand_of o d = option_and_then index d

-- the canonical function of the operands under these keys
abbrev pub keyed : (ks : List (Text × Operand)) → Keyed ks → Data → Option Canon_form
keyed [] form d = Some form
keyed (k ∷ ks) form d = option_and_then (λ x. keyed ks (form x) d) (operand_of k.1 (get k.0 d))

-- the one of these operands
abbrev pub given : (os : Operands) → Given os → Data → Option Canon_form
given no_operands form d = if is_some (as_null d) then Some form else None
given (alone o) form d = option_map form (operand_of o (Some d))
given (keys ks) form d = if has_only (map (λ k. k.0) ks) d then keyed ks form d else None

-- ## Canonical functions

-- what stands under a name, by the row of that name
abbrev pub read_by : List (Text × Written) → Text → Data → Option Canon_form
read_by rows name d = option_and_then (λ row. given row.operands row.form d) (named rows name)

unfoldable pub canon_named : Text → Data → Option Canon_form
canon_named name d = read_by canon_rows name d

-- those that read or write, with a type and options
abbrev pub copying_forms : List (Text × (ℕ × List CanonicalOption → Canon_form))
copying_forms =
    (codes "stream.read", λ p. stream_read p.0 p.1)
    ∷ (codes "stream.write", λ p. stream_write p.0 p.1)
    ∷ (codes "future.read", λ p. future_read p.0 p.1)
    ∷ (codes "future.write", λ p. future_write p.0 p.1) ∷ []

-- those that cancel a read or a write, with a type and whether the call is async
abbrev pub copy_cancelling_forms : List (Text × (ℕ × Bool → Canon_form))
copy_cancelling_forms =
    (codes "stream.cancel-read", λ p. builtin (canon.StreamCancelRead p.0 p.1))
    ∷ (codes "stream.cancel-write", λ p. builtin (canon.StreamCancelWrite p.0 p.1))
    ∷ (codes "future.cancel-read", λ p. builtin (canon.FutureCancelRead p.0 p.1))
    ∷ (codes "future.cancel-write", λ p. builtin (canon.FutureCancelWrite p.0 p.1)) ∷ []

-- the body of `canon`: {NAME: operands}
abbrev pub canon_of : Data → Option Canon_form
canon_of d = option_and_then (λ p. canon_named p.0 p.1) (sole d)
