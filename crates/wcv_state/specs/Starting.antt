-- Start items, over the ids of a state.
use Rattle.std.specs.Prelude.{ℕ, List, [], ◌∷◌, ◌++◌, map, length, Bool, false, not, eqb, option_to_list, Option, Some, None, slice_get, ◌≡◌}
use Rattle.std.specs.Option.{option_map}
use Rattle.wcv_core.specs.Limits.{max_instances}
use Rattle.wcv_core.specs.declared.error.ErrorKind.TheVariants as error
use Rattle.wcv_core.specs.declared.features.WasmFeatures.{WasmFeatures}
use Rattle.wcv_types.specs.Arena.{Arena}
use Rattle.wcv_types.specs.Tree.{Text}
use Rattle.wcv_types.specs.Unfold.{Type_tree, tree_at, trees, slot_tree, value_slot}
use Rattle.wcv_types.specs.declared.ids.ComponentFuncTypeId.{ComponentFuncTypeId}
use Rattle.wcv_types.specs.declared.ids.Part.TheVariants as part
use Rattle.wcv_types.specs.declared.shapes.ComponentValType.{ComponentValType}
use Rattle.wcv_names.specs.Shapes.{OptionStands}
use Rattle.wcv_lower.specs.Checks.{Checks, IsFree, if_found, full, missing}
use Rattle.wcv_lower.specs.Context.{in_values}
use Rattle.wcv_lower.specs.Start.{all_suit}
use Rattle.wcv_lower.specs.Trees.{tree_reader, params, result}
use Rattle.wcv_core.specs.Features.{cm_values}
use Rattle.wcv_lower.specs.Values.{lacks}
use Rattle.wcv_spaces.specs.Contents.{SpaceLists, id_tree, used_at}
use Rattle.wcv_spaces.specs.Values.{Values, uses_id_checks}

abbrev pub value_tree : List Type_tree → ComponentValType → Type_tree
value_tree ts t = slot_tree ts (value_slot t)

-- parameters by their names
abbrev pub Params : Type 0
Params = List (Text × ComponentValType)

abbrev pub param_types : List Type_tree → Params → List Type_tree
param_types ts ps = map (λ p. value_tree ts p.1) ps

-- the types of the values at these indices
abbrev pub argument_types : List Type_tree → Values → List ℕ → List (Option Type_tree)
argument_types ts vs args = map (λ k. option_map (id_tree ts in_values) (slice_get vs k)) args

-- ## Why it is refused

-- the feature is missing, or a start function is named
abbrev pub begin_checks : WasmFeatures → Bool → Checks
begin_checks fs started = lacks fs cm_values ++ (error.StartTwice, started) ∷ []

-- another number of arguments or of results
abbrev pub count_checks : ℕ → ℕ → ℕ → ℕ → Checks
count_checks args params n gives = (error.Signature, not (eqb args params)) ∷ (error.Signature, not (eqb n gives)) ∷ []

-- an argument is not of the type of its parameter
abbrev pub suit_checks : Arena → Values → List ℕ → List Type_tree → Checks
suit_checks a vs args ts = (error.Signature, not (all_suit tree_reader a.core (argument_types (trees a.nodes) vs args) ts)) ∷ []

-- an argument does not stand, is used a second time, or is of another type
abbrev pub argument_checks : Arena → Values → List ℕ → Params → Checks
argument_checks a vs args ps = uses_id_checks vs args ++ suit_checks a vs args (param_types (trees a.nodes) ps)

-- no room for what the function gives
abbrev pub room_checks : {X : Type 0} → Values → Option X → Checks
room_checks vs o = if_found (λ x. full max_instances (length vs)) o

-- of a function, by its tree
abbrev pub func_checks : Arena → Values → List ℕ → ℕ → Type_tree → Checks
func_checks a vs args n t = count_checks (length args) (length (params t)) n (length (option_to_list (result t))) ++ (suit_checks a vs args (params t) ++ room_checks vs (result t))

-- nothing stands where the function is said to, or so of it and of the arguments
abbrev pub start_id_checks : Arena → SpaceLists → ℕ → List ℕ → ℕ → Checks
start_id_checks a s f args n =
    missing (slice_get s.funcs f) ++ (uses_id_checks s.values args ++ if_found (λ (i : ComponentFuncTypeId). func_checks a s.values args n (tree_at a (part.Func i))) (slice_get s.funcs f))

-- ## What becomes of the state

-- what a function gives joins the values, not used yet
abbrev pub with_given : Option ComponentValType → Values → Values
with_given None vs = vs
with_given (Some t) vs = vs ++ (t, false) ∷ []

-- the arguments are used, and what the function at the index gives joins the values; there is no cause
pub record IsStarted (a : Arena) (s s' : SpaceLists) (f : ℕ) (args : List ℕ) (n : ℕ) : Type 0 where
  pub func : ComponentFuncTypeId
  pub at : slice_get s.funcs f ≡ Some func
  pub gives : Option ComponentValType
  pub result : result (tree_at a (part.Func func)) ≡ option_map (value_tree (trees a.nodes)) gives
  pub stands : OptionStands a gives
  pub becomes : s' ≡ record s { values = with_given gives (used_at args s.values) }
  pub free : IsFree (start_id_checks a s f args n)
