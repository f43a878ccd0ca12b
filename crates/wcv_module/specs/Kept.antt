-- What a module keeps beside its type.
use Rattle.wcv_core.specs.Limits.{max_size}
use Rattle.std.specs.Prelude.{◌≡◌, ◌⊎◌, ℕ, suc, ◌<◌, ◌≤◌, ◌^◌, ◌++◌, List, [], ◌∷◌, length, map, All}
use Rattle.wcv_core.specs.CoreForm.{Group}
use Rattle.wcv_core.specs.CoreGroups.{total}
use Rattle.wcv_core.specs.CoreSizes.{IsEntityWithin}
pub use Rattle.wcv_core.specs.CoreSizes.{IsEntityKnown}
use Rattle.wcv_core.specs.Label.{is_among}
use Rattle.wcv_core.specs.Refusal.{error_kind}
use Rattle.wcv_core.specs.declared.core_types.CoreTypeId.{CoreTypeId}
use Rattle.wcv_core.specs.declared.core_types.EntityType.{EntityType}
use Rattle.wcv_core.specs.declared.error.Error.{Error}
use Rattle.wcv_core.specs.declared.error.ErrorKind.TheVariants as kind
use Rattle.wcv_syntax.specs.Model.{Text}
use Rattle.wcv_types.specs.Standing.{entity_sizes}
use Rattle.wcv_syntax.specs.ModuleTypes.{Core_import, Core_export, Module_type, export_names}

-- the names of exports are those of the set, the types can be counted, and the size is within its limit
pub record IsKept (types : List CoreTypeId) (exports : List Core_export) (names : List Text) (size : ℕ) : Type 0 where
  pub few : length types < 2 ^ 32
  pub named : (t : Text) → is_among t names ≡ is_among t (export_names exports)
  pub small : size ≤ max_size

-- after a refusal module and table are as before; out of memory nothing is said of them
abbrev pub IsUndone : {M : Type 0} → Module_type → Module_type → List Group → List Group → Error M → Type 0
IsUndone m n gs hs e = ((n ≡ m) × (hs ≡ gs)) ⊎ (error_kind e ≡ kind.OutOfMemory)

-- what a module imports and exports
abbrev pub module_items : Module_type → List EntityType
module_items m = map (λ i. i.1) m.imports ++ map (λ e. e.1) m.exports

-- how deep its type is: 1 without entries, else 2
abbrev pub module_depth : List Core_import → List Core_export → ℕ
module_depth [] [] = 1
module_depth [] (e ∷ es) = 2
module_depth (i ∷ is) es = 2

-- what it names is of the table, and its size is 1 and those of its items
pub record IsCounted (gs : List Group) (m : Module_type) : Type 0 where
  pub within : All (IsEntityWithin (total gs)) (module_items m)
  pub size : m.size ≡ suc (entity_sizes gs (module_items m))
