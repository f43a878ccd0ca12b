-- The options of canonical functions, as the code names and checks them.
use Rattle.std.specs.Prelude.{ℕ, [], ◌++◌, Option, None}
use Rattle.wcv_core.specs.declared.core_types.ValType.{ValType}
use Rattle.wcv_syntax.specs.declared.canonical.CanonicalOption.{CanonicalOption}
use Rattle.wcv_types.specs.Arena.{Arena}
use Rattle.wcv_flat.specs.Rows.{Option_name, memory_option, realloc_option, post_return_option, async_option, callback_option}
use Rattle.wcv_lower.specs.CanonOptions.{memory_in, realloc_in, post_return_in, callback_in, option_found, option_rules}
use Rattle.wcv_lower.specs.Checks.{Checks}
use Rattle.wcv_spaces.specs.Contents.{Contents, context_of, stack_of}

-- the index that an option has under a name
abbrev pub index_in : Option_name → CanonicalOption → Option ℕ
index_in memory_option = memory_in
index_in realloc_option = realloc_in
index_in post_return_option = post_return_in
index_in async_option = λ o. None
index_in callback_option = callback_in

-- what is looked up for an option and asked of it, where pointers are of this type: no context further out is looked at
abbrev pub option_asked : Arena → Contents → ValType → CanonicalOption → Checks
option_asked a s p o = option_found (context_of a s) o ++ option_rules s.features (stack_of a s []) p o
