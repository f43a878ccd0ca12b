-- What a function asks of the options with which it is lifted or lowered.
use Rattle.std.specs.Prelude.{ℕ, List, [], ◌∷◌, ◌++◌, codes, Bool, true, false, ◌&&◌, ◌||◌, Option, Some, None}
use Rattle.wcv_core.specs.Checks.{Checks, is_none}
use Rattle.wcv_core.specs.declared.error.ErrorKind.TheVariants as kind
use Rattle.wcv_types.specs.Abi.{pointer, any_contains}
use Rattle.wcv_types.specs.Tree.{Parts}
use Rattle.wcv_flat.specs.Signature.{params_in, result_in, params_flat, result_flat, exceeds, param_limit, result_limit}
use Rattle.wcv_flat.specs.declared.options.Abi.{Abi}
use Rattle.wcv_flat.specs.declared.options.Abi.TheVariants as abi
use Rattle.wcv_flat.specs.declared.options.CanonicalOptions.{CanonicalOptions}
use Rattle.wcv_flat.specs.declared.options.Concurrency.{Concurrency}
use Rattle.wcv_flat.specs.declared.options.Concurrency.TheVariants as c
use Rattle.wcv_flat.specs.declared.options.PtrSize.{PtrSize}
use Rattle.wcv_flat.specs.declared.options.PtrSize.TheVariants as ptr
use Rattle.wcv_flat.specs.declared.options.StringEncoding.{StringEncoding}
use Rattle.wcv_flat.specs.declared.options.StringEncoding.TheVariants as encoding

-- the word for an encoding
abbrev pub encoding_word : StringEncoding → List ℕ
encoding_word encoding.Utf8 = codes "utf8"
encoding_word encoding.Utf16 = codes "utf16"
encoding_word encoding.CompactUtf16 = codes "latin1-utf16"

abbrev pub is_async : Concurrency → Bool
is_async c.Sync = false
is_async (c.Async callback) = true

-- without a memory pointers are of 32 bits
abbrev pub memory_size : Option (ℕ × PtrSize) → PtrSize
memory_size None = ptr.Ptr32
memory_size (Some m) = m.1

abbrev pub pointer_size : CanonicalOptions → PtrSize
pointer_size o = memory_size o.memory

-- ## Options one by one

-- an option that is needed is left out
abbrev pub needs : {X : Type 0} → Bool → Option X → Checks
needs there o = (kind.Options, there && is_none o) ∷ []

abbrev pub is_some : {X : Type 0} → Option X → Bool
is_some None = false
is_some (Some x) = true

-- one stands that may not
abbrev pub bars : {X : Type 0} → Option X → Checks
bars o = (kind.Options, is_some o) ∷ []

abbrev pub callback_of : Concurrency → Option ℕ
callback_of c.Sync = None
callback_of (c.Async callback) = callback

abbrev pub sync_checks : CanonicalOptions → Checks
sync_checks o = (kind.Options, is_async o.concurrency) ∷ []

abbrev pub lower_checks : CanonicalOptions → Checks
lower_checks o = bars o.post_return ++ bars (callback_of o.concurrency)

abbrev pub realloc_checks : CanonicalOptions → Checks
realloc_checks o = needs true o.memory ++ needs true o.realloc

-- ## By the parts of the function

-- a parameter is read or written through memory
abbrev pub params_use_memory : {R I : Type 0} → PtrSize → Abi → Concurrency → Parts R I → Bool
params_use_memory s a k ps = exceeds (param_limit a k) (params_flat s ps) || any_contains pointer (params_in ps)

-- the result has a pointer
abbrev pub result_points : {R I : Type 0} → Parts R I → Bool
result_points ps = any_contains pointer (result_in ps)

-- the result is, or goes through memory itself
abbrev pub result_uses_memory : {R I : Type 0} → PtrSize → Abi → Concurrency → Parts R I → Bool
result_uses_memory s a k ps = exceeds (result_limit a k) (result_flat s ps) || result_points ps

-- where values come in that were not there, who gets them is asked for memory: for parameters where a function is
-- lifted, for the result where it is lowered. An async function that is lifted gives its result by another call.
-- From whether the parameters use memory, whether the result does, and whether it has a pointer
abbrev pub use_checks_by : CanonicalOptions → Abi → Concurrency → Bool → Bool → Bool → Checks
use_checks_by o abi.Lift c.Sync params result points = needs (params || result) o.memory ++ needs params o.realloc
use_checks_by o abi.Lift (c.Async callback) params result points = needs params o.memory ++ needs params o.realloc
use_checks_by o abi.Lower k params result points = needs (params || result) o.memory ++ needs points o.realloc

abbrev pub use_checks : CanonicalOptions → Abi → Bool → Bool → Bool → Checks
use_checks o a params result points = use_checks_by o a o.concurrency params result points

abbrev pub type_checks : {R I : Type 0} → CanonicalOptions → Abi → Parts R I → Checks
type_checks o a ps = use_checks o a (params_use_memory (pointer_size o) a o.concurrency ps) (result_uses_memory (pointer_size o) a o.concurrency ps) (result_points ps)
