-- Sound values of a world.
use Rattle.std.specs.Prelude.{List, ◌∷◌, Bool, true, false, Some, ◌≡◌}
use Rattle.wcv_core.specs.CoreForm.{Group}
use Rattle.wcv_core.specs.Names.{Name}
use Rattle.wcv_core.specs.declared.features.WasmFeatures.{WasmFeatures}
use Rattle.wcv_types.specs.Tree.{Sort, is_instance, is_component, sort}
use Rattle.wcv_lower.specs.Context.{Space, Core_space}
use Rattle.wcv_lower.specs.Trees.{Tree_stack}
use Rattle.wcv_world.specs.Growth.{Tokens}
use Rattle.wcv_world.specs.Machine.{context_over}
use Rattle.wcv_world.specs.Values.{Value, typed, an_instance, closure, Values, no_values, value, Levels, no_levels, level}
use Rattle.wcv_safety.specs.Agreeing.{AgreeAll}
use Rattle.wcv_safety.specs.Clean.{IsClean}
use Rattle.wcv_safety.specs.Places.{IsPlaceOf}

-- known by its type alone. An instance has its values, and a component can be instantiated
abbrev pub is_opaque : Sort → Bool
is_opaque is_instance = false
is_opaque is_component = false
is_opaque k = true

-- Each value inside is sound. A closure is the component at a place of a valid root, its lists agree with the contexts there, and its type
-- is the one that is recorded.
abbrev mutual
  pub Sound : WasmFeatures → List Group → Tokens → Value → Type 0
  Sound fs gs ts (typed t) = (is_opaque (sort t) ≡ true) × IsClean gs ts t
  Sound fs gs ts (an_instance i vs) = SoundEach fs gs ts vs
  Sound fs gs ts (closure r p is ls t) =
      SoundLevels fs gs ts ls × ((s : Tree_stack) × IsPlaceOf fs gs r p s is × ((g : Name → Name) × AgreeAll gs ts g (context_over ls) (s.top ∷ s.outer))) × (r.recorded p ≡ Some t)

  pub SoundEach : WasmFeatures → List Group → Tokens → Values → Type 0
  SoundEach fs gs ts no_values = Unit {0}
  SoundEach fs gs ts (value n v vs) = Sound fs gs ts v × SoundEach fs gs ts vs

  pub SoundLevels : WasmFeatures → List Group → Tokens → Levels → Type 0
  SoundLevels fs gs ts no_levels = Unit {0}
  SoundLevels fs gs ts (level f g ls) = ((k : Space) → SoundEach fs gs ts (f k)) × ((k : Core_space) → SoundEach fs gs ts (g k)) × SoundLevels fs gs ts ls
