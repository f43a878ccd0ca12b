-- Canonical functions.
use Rattle.std.specs.Prelude.{ℕ, List, Bool, Option, codes}
use Rattle.serde_json.specs.Data.{Data, null, string, object, no_members, member}
use Rattle.wcv_core.specs.declared.core_types.ValType.{ValType}
use Rattle.wcv_syntax.specs.CanonRows.{canon_name, operands_of}
use Rattle.wcv_syntax.specs.Model.{Canon_form, lift, lower, task_return, stream_read, stream_write, future_read, future_write, error_context_new, error_context_message, builtin}
use Rattle.wcv_syntax.specs.declared.canonical.CanonicalFunction.{CanonicalFunction}
use Rattle.wcv_syntax.specs.declared.canonical.CanonicalOperands.{CanonicalOperands}
use Rattle.wcv_syntax.specs.declared.canonical.CanonicalOperands.TheVariants as shown
use Rattle.wcv_syntax.specs.declared.canonical.CanonicalOption.{CanonicalOption}
use Rattle.wcv_syntax.specs.declared.canonical.CanonicalOption.TheVariants as option
use Rattle.wcv_syntax.specs.declared.component_type.ComponentValType.{ComponentValType}
use Rattle.wcv_write.specs.Core.{core_value_data}
use Rattle.wcv_write.specs.Indices.{Indexing}
use Rattle.wcv_write.specs.Json.{count, list_data, under, with_mark, with_optional}
use Rattle.wcv_write.specs.Values.{value_data}
use Rattle.wcv_write.specs.declared.indices.Space.TheVariants as space

-- ## Options

-- a name, or {KEY: index}
unfoldable pub option_data : Indexing → CanonicalOption → Data
option_data ix option.UTF8 = string (codes "utf8")
option_data ix option.UTF16 = string (codes "utf16")
option_data ix option.CompactUTF16 = string (codes "latin1-utf16")
option_data ix (option.Memory k) = under (codes "memory") (ix space.CoreMemory k)
option_data ix (option.Realloc k) = under (codes "realloc") (ix space.CoreFunc k)
option_data ix (option.PostReturn k) = under (codes "post-return") (ix space.CoreFunc k)
option_data ix option.Async = string (codes "async")
option_data ix (option.Callback k) = under (codes "callback") (ix space.CoreFunc k)
option_data ix (option.CoreType k) = under (codes "core-type") (ix space.CoreType k)
option_data ix option.Gc = string (codes "gc")

abbrev pub options_data : Indexing → List CanonicalOption → Data
options_data ix = list_data (option_data ix)

-- ## Those with options

-- {"core": index, "options": [option, ..], "type": index}
abbrev pub lift_data : Indexing → ℕ → ℕ → List CanonicalOption → Data
lift_data ix f t os = object (member (codes "core") (ix space.CoreFunc f) (member (codes "options") (options_data ix os) (member (codes "type") (ix space.Ty t) no_members)))

-- {"func": index, "options": [option, ..]}
abbrev pub lower_data : Indexing → ℕ → List CanonicalOption → Data
lower_data ix f os = object (member (codes "func") (ix space.Func f) (member (codes "options") (options_data ix os) no_members))

-- {"options": [option, ..], "result": value type}, the last absent or there
abbrev pub return_data : Indexing → Option ComponentValType → List CanonicalOption → Data
return_data ix r os = object (member (codes "options") (options_data ix os) (with_optional (codes "result") (value_data ix) r no_members))

-- {"options": [option, ..], "type": index}
abbrev pub copying_data : Indexing → ℕ → List CanonicalOption → Data
copying_data ix t os = object (member (codes "options") (options_data ix os) (member (codes "type") (ix space.Ty t) no_members))

-- {"options": [option, ..]}
abbrev pub context_data : Indexing → List CanonicalOption → Data
context_data ix os = under (codes "options") (options_data ix os)

-- ## Those without

-- {"slot": number, "type": core value type}
abbrev pub slot_data : ValType → ℕ → Data
slot_data v n = object (member (codes "slot") (count n) (member (codes "type") (core_value_data v) no_members))

-- {"table": index, "type": index}
abbrev pub indirect_data : Indexing → ℕ → ℕ → Data
indirect_data ix t n = object (member (codes "table") (ix space.CoreTable n) (member (codes "type") (ix space.CoreType t) no_members))

-- {"async": Boolean}
abbrev pub async_data : Bool → Data
async_data b = object (with_mark (codes "async") b no_members)

-- {"async": Boolean, "type": index}
abbrev pub cancel_data : Indexing → ℕ → Bool → Data
cancel_data ix t b = object (with_mark (codes "async") b (member (codes "type") (ix space.Ty t) no_members))

-- an index as it is, others by their keys
abbrev pub operands_data : Indexing → CanonicalOperands → Data
operands_data ix shown.None = null
operands_data ix (shown.Type k) = ix space.Ty k
operands_data ix (shown.Memory k) = ix space.CoreMemory k
operands_data ix (shown.CoreType t) = under (codes "type") (ix space.CoreType t)
operands_data ix (shown.TypeAndTable t n) = indirect_data ix t n
operands_data ix (shown.TypeAndSlot v n) = slot_data v n
operands_data ix (shown.Async b) = async_data b
operands_data ix (shown.TypeAndAsync t b) = cancel_data ix t b

unfoldable pub builtin_data : Indexing → CanonicalFunction → Data
builtin_data ix f = under (canon_name f) (operands_data ix (operands_of f))

-- ## Canonical functions

-- {NAME: operands}
unfoldable pub canon_data : Indexing → Canon_form → Data
canon_data ix (lift f t os) = under (codes "lift") (lift_data ix f t os)
canon_data ix (lower f os) = under (codes "lower") (lower_data ix f os)
canon_data ix (task_return r os) = under (codes "task.return") (return_data ix r os)
canon_data ix (stream_read t os) = under (codes "stream.read") (copying_data ix t os)
canon_data ix (stream_write t os) = under (codes "stream.write") (copying_data ix t os)
canon_data ix (future_read t os) = under (codes "future.read") (copying_data ix t os)
canon_data ix (future_write t os) = under (codes "future.write") (copying_data ix t os)
canon_data ix (error_context_new os) = under (codes "error-context.new") (context_data ix os)
canon_data ix (error_context_message os) = under (codes "error-context.debug-message") (context_data ix os)
canon_data ix (builtin f) = builtin_data ix f
