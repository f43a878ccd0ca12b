-- What is asked where a core function is lifted, over what the code looked up.
use Rattle.std.specs.Prelude.{ℕ, List, [], ◌∷◌, Bool, not, ◌&&◌, Option, slice_get}
use Rattle.std.specs.Option.{option_and_then}
use Rattle.wcv_core.specs.Checks.{Checks, is_none}
use Rattle.wcv_core.specs.CoreFeatures.{needs}
use Rattle.wcv_core.specs.CoreForm.{Group}
use Rattle.wcv_core.specs.declared.core_types.CoreTypeId.{CoreTypeId}
use Rattle.wcv_core.specs.declared.core_types.EntityType.TheVariants as entity
use Rattle.wcv_core.specs.declared.error.ErrorKind.TheVariants as error
use Rattle.wcv_core.specs.declared.features.WasmFeatures.{WasmFeatures}
use Rattle.wcv_flat.specs.Options.{is_async, callback_of}
use Rattle.wcv_flat.specs.declared.options.Concurrency.{Concurrency}
use Rattle.wcv_lower.specs.Canons.{is_no_post_return}
use Rattle.wcv_lower.specs.CoreInstances.{test_found}
use Rattle.wcv_core.specs.Features.{cm_async_stackful}
use Rattle.wcv_spaces.specs.Contents.{SpaceLists}

-- `async` stands where a function type is not async, or without `callback` and its feature
abbrev pub async_checks : WasmFeatures → Concurrency → Bool → Checks
async_checks fs k b = (error.Options, is_async k && not b) ∷ needs fs cm_async_stackful (is_async k && is_none (callback_of k))

-- the core function at the index does not take what the other one gives, or gives something
abbrev pub post_checks : List Group → SpaceLists → CoreTypeId → Option ℕ → Checks
post_checks gs spaces t o = (error.Options, test_found (λ (p : CoreTypeId). is_no_post_return gs (entity.Func t) (entity.Func p)) (option_and_then (slice_get spaces.core_funcs) o)) ∷ []
