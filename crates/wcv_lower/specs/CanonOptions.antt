-- The options of canonical functions: how a list of them is read, and why it is refused.
use Rattle.std.specs.Prelude.{ℕ, List, [], ◌∷◌, ◌++◌, map, Bool, true, false, not, ◌&&◌, cond, Option, Some, None, slice_get}
use Rattle.std.specs.List.{list_any}
use Rattle.std.specs.Option.{option_map, option_and_then, option_or, unwrap_or}
use Rattle.wcv_core.specs.Checks.{all_checks, lacks}
use Rattle.wcv_core.specs.CoreFeatures as core
use Rattle.wcv_core.specs.CoreForm.{Group}
use Rattle.wcv_core.specs.CoreWritten.{entry_checks}
use Rattle.wcv_core.specs.declared.core_types.EntityType.{EntityType}
use Rattle.wcv_core.specs.declared.core_types.EntityType.TheVariants as entity
use Rattle.wcv_core.specs.declared.core_types.MemoryType.{MemoryType}
use Rattle.wcv_core.specs.declared.core_types.ValType.{ValType}
use Rattle.wcv_core.specs.declared.core_types.ValType.TheVariants as val
use Rattle.wcv_core.specs.declared.error.ErrorKind.TheVariants as error
use Rattle.wcv_core.specs.declared.features.WasmFeatures.{WasmFeatures}
use Rattle.wcv_syntax.specs.declared.canonical.CanonicalOption.{CanonicalOption}
use Rattle.wcv_syntax.specs.declared.canonical.CanonicalOption.TheVariants as option
use Rattle.wcv_syntax.specs.declared.core_section.ExternalKind.{ExternalKind}
use Rattle.wcv_syntax.specs.declared.core_section.ExternalKind.TheVariants as kind
use Rattle.wcv_flat.specs.Flat.{pointer_type}
use Rattle.wcv_flat.specs.Options.{pointer_size}
use Rattle.wcv_flat.specs.Rows.{Option_name, memory_option, realloc_option, post_return_option, async_option, callback_option}
use Rattle.wcv_flat.specs.declared.options.CanonicalOptions.{CanonicalOptions}
use Rattle.wcv_flat.specs.declared.options.Concurrency.{Concurrency}
use Rattle.wcv_flat.specs.declared.options.Concurrency.TheVariants as concurrency
use Rattle.wcv_flat.specs.declared.options.PtrSize.{PtrSize}
use Rattle.wcv_flat.specs.declared.options.PtrSize.TheVariants as ptr
use Rattle.wcv_flat.specs.declared.options.StringEncoding.{StringEncoding}
use Rattle.wcv_flat.specs.declared.options.StringEncoding.TheVariants as encoding
pub use Rattle.wcv_lower.specs.Checks.{repeats}
use Rattle.wcv_lower.specs.Checks.{Checks, if_found, missing}
use Rattle.wcv_lower.specs.Context.{Context, Stack}
use Rattle.wcv_lower.specs.CoreInstances.{core_item_at, test_found}
use Rattle.wcv_lower.specs.CoreItems.{core_entries}
use Rattle.wcv_lower.specs.Readers.{Reader}
use Rattle.wcv_lower.specs.Types.{takes_and_gives}
use Rattle.wcv_core.specs.Features.{cm_async, cm64}

-- ## What stands in a list

-- an option of that name
abbrev pub has_name : Option_name → CanonicalOption → Bool
has_name memory_option (option.Memory i) = true
has_name realloc_option (option.Realloc i) = true
has_name post_return_option (option.PostReturn i) = true
has_name async_option option.Async = true
has_name callback_option (option.Callback i) = true
has_name n o = false

abbrev pub stands : Option_name → List CanonicalOption → Bool
stands n os = list_any (has_name n) os

-- the first option that gives something
abbrev pub first : {A : Type 0} → (CanonicalOption → Option A) → List CanonicalOption → Option A
first f [] = None
first f (o ∷ os) = option_or (f o) (first f os)

abbrev pub encoding_in : CanonicalOption → Option StringEncoding
encoding_in option.UTF8 = Some encoding.Utf8
encoding_in option.UTF16 = Some encoding.Utf16
encoding_in option.CompactUTF16 = Some encoding.CompactUtf16
encoding_in o = None

abbrev pub memory_in : CanonicalOption → Option ℕ
memory_in (option.Memory i) = Some i
memory_in o = None

abbrev pub realloc_in : CanonicalOption → Option ℕ
realloc_in (option.Realloc i) = Some i
realloc_in o = None

abbrev pub post_return_in : CanonicalOption → Option ℕ
post_return_in (option.PostReturn i) = Some i
post_return_in o = None

abbrev pub callback_in : CanonicalOption → Option ℕ
callback_in (option.Callback i) = Some i
callback_in o = None

-- ## What stands at an index

-- what the core item of that sort is
abbrev pub core_entity_at : {X : Reader} → Context X → ExternalKind → ℕ → Option EntityType
core_entity_at {X} c k i = option_and_then X.item (core_item_at c k i)

abbrev pub as_memory : EntityType → Option MemoryType
as_memory (entity.Memory m) = Some m
as_memory e = None

abbrev pub memory_type_at : {X : Reader} → Context X → ℕ → Option MemoryType
memory_type_at c i = option_and_then as_memory (core_entity_at c kind.Memory i)

abbrev pub has_64_bits : MemoryType → Bool
has_64_bits m = m.memory64

abbrev pub size_of : Bool → PtrSize
size_of b = cond b ptr.Ptr64 ptr.Ptr32

-- the size of pointers into the memory
abbrev pub memory_pointers : {X : Reader} → Context X → ℕ → PtrSize
memory_pointers c i = size_of (test_found has_64_bits (memory_type_at c i))

-- ## How a list is read

abbrev pub concurrency_of : List CanonicalOption → Concurrency
concurrency_of os = cond (stands async_option os) (concurrency.Async (first callback_in os)) concurrency.Sync

-- of each option the first; texts are in UTF-8 where nothing else is said
abbrev pub options_read : {X : Reader} → Context X → List CanonicalOption → CanonicalOptions
options_read c os = record {
  string_encoding = unwrap_or (first encoding_in os) encoding.Utf8;
  memory = option_map (λ i. (i, memory_pointers c i)) (first memory_in os);
  realloc = first realloc_in os;
  post_return = first post_return_in os;
  concurrency = concurrency_of os;
}

-- ## Why it is refused

-- what is looked up: there is a core item, or a core type, at the index
abbrev pub option_found : {X : Reader} → Context X → CanonicalOption → Checks
option_found c (option.Memory i) = missing (core_item_at c kind.Memory i)
option_found c (option.Realloc i) = missing (core_item_at c kind.Func i)
option_found c (option.PostReturn i) = missing (core_item_at c kind.Func i)
option_found c (option.Callback i) = missing (core_item_at c kind.Func i)
option_found c (option.CoreType i) = entry_checks (slice_get (core_entries c) i)
option_found c o = []

-- a memory is not shared, and pointers of 64 bits are a feature
abbrev pub memory_rules : WasmFeatures → MemoryType → Checks
memory_rules fs m = (error.Options, m.shared) ∷ core.needs fs cm64 m.memory64

-- the item is no core function that takes these and gives those
abbrev pub is_other_func : List Group → List ValType → List ValType → Option EntityType → Bool
is_other_func gs ps rs o = test_found (λ (e : EntityType). not (takes_and_gives gs ps rs e)) o

-- one that takes a block, its size, an alignment and a new size, and gives a block
abbrev pub is_no_realloc : List Group → ValType → Option EntityType → Bool
is_no_realloc gs p o = is_other_func gs (p ∷ p ∷ p ∷ p ∷ []) (p ∷ []) o

-- one that takes an event with its two numbers, and says how to go on
abbrev pub is_no_callback : List Group → Option EntityType → Bool
is_no_callback gs o = is_other_func gs (val.I32 ∷ val.I32 ∷ val.I32 ∷ []) (val.I32 ∷ []) o

-- what is asked of that which was looked up, where pointers are of this type
abbrev pub option_rules : {X : Reader} → WasmFeatures → Stack X → ValType → CanonicalOption → Checks
option_rules fs s p (option.Memory i) = if_found (memory_rules fs) (memory_type_at s.top i)
option_rules fs s p (option.Realloc i) = (error.Options, is_no_realloc s.groups p (core_entity_at s.top kind.Func i)) ∷ []
option_rules fs s p (option.Callback i) = (error.Options, is_no_callback s.groups (core_entity_at s.top kind.Func i)) ∷ []
option_rules fs s p option.Async = lacks fs cm_async
option_rules fs s p (option.CoreType i) = (error.Feature, true) ∷ []
option_rules fs s p option.Gc = (error.Feature, true) ∷ []
option_rules fs s p o = []

-- at most one option of each number stands in a list: encodings have one number
abbrev pub number_of : CanonicalOption → ℕ
number_of (option.Memory i) = 1
number_of (option.Realloc i) = 2
number_of (option.PostReturn i) = 3
number_of option.Async = 4
number_of (option.Callback i) = 5
number_of (option.CoreType i) = 6
number_of option.Gc = 7
number_of o = 0

-- an option stands without the other
abbrev pub stands_without : Option_name → Option_name → List CanonicalOption → Bool
stands_without m n os = stands m os && not (stands n os)

abbrev pub list_rules : List CanonicalOption → Checks
list_rules os =
    (error.Options, repeats (map number_of os))
    ∷ (error.Options, stands_without realloc_option memory_option os)
    ∷ (error.Options, stands_without callback_option async_option os)
    ∷ (error.Options, stands async_option os && stands post_return_option os) ∷ []

-- the type of pointers, by the first memory
abbrev pub pointer_of : {X : Reader} → Context X → List CanonicalOption → ValType
pointer_of c os = pointer_type (pointer_size (options_read c os))

abbrev pub options_found : {X : Reader} → Context X → List CanonicalOption → Checks
options_found c os = all_checks (option_found c) os

-- that of the first memory, which decides of pointers
abbrev pub memory_found : {X : Reader} → Context X → List CanonicalOption → Checks
memory_found c os = if_found (λ i. missing (core_item_at c kind.Memory i)) (first memory_in os)

abbrev pub options_rules : {X : Reader} → WasmFeatures → Stack X → List CanonicalOption → Checks
options_rules fs s os = all_checks (option_rules fs s (pointer_of s.top os)) os ++ list_rules os

-- all causes of a list
abbrev pub options_checks : {X : Reader} → WasmFeatures → Stack X → List CanonicalOption → Checks
options_checks fs s os = options_found s.top os ++ options_rules fs s os
