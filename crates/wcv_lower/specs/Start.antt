-- Start items, over any kind of entry: a function that takes values and may give one.
use Rattle.std.specs.Prelude.{ℕ, List, [], ◌∷◌, ◌++◌, map, Bool, true, false, not, ◌&&◌, cond, eqb, length, option_to_list, Option, Some, None}
use Rattle.std.specs.List.{list_all}
use Rattle.std.specs.Option.{option_map}
use Rattle.wcv_core.specs.Checks.{all_checks, lacks}
use Rattle.wcv_core.specs.CoreForm.{Group}
use Rattle.wcv_core.specs.Limits.{max_list}
use Rattle.wcv_core.specs.declared.error.ErrorKind.TheVariants as error
use Rattle.wcv_core.specs.declared.features.WasmFeatures.{WasmFeatures}
use Rattle.wcv_types.specs.Tree.{is_value}
use Rattle.wcv_lower.specs.Canons.{func_at}
use Rattle.wcv_lower.specs.Checks.{Checks, too_many, if_found, is_none, missing, no_room}
use Rattle.wcv_lower.specs.Context.{Context, Stack, in_values, counts}
use Rattle.wcv_lower.specs.Marks.{value_at, uses_each, use_checks}
use Rattle.wcv_lower.specs.Readers.{Reader}
use Rattle.wcv_lower.specs.Step.{Step, appends, marks_value, names_start}
use Rattle.wcv_core.specs.Features.{cm_values}

-- what the function gives joins the values, not used yet
abbrev pub result_joins : {X : Reader} → Option X.Entry → Step X
result_joins None = []
result_joins (Some x) = appends in_values x ∷ marks_value false ∷ []

abbrev pub start_joins : {X : Reader} → List ℕ → X.Entry → Step X
start_joins {X} args x = uses_each args ++ names_start ∷ result_joins (X.result x)

-- undefined where the function or an argument is not there
abbrev pub start_step : {X : Reader} → Context X → ℕ → List ℕ → Option (Step X)
start_step c f args = cond (list_all (λ k. not (is_none (value_at c k))) args) (option_map (start_joins args) (func_at c f)) None

-- ## Why it is refused

-- a value that is found is of the type of the parameter
abbrev pub suits : (X : Reader) → List Group → X.Entry → Option X.Entry → Bool
suits X gs p None = true
suits X gs p (Some v) = X.matches gs v p

-- the values suit the parameters, one by one, as far as both go
abbrev pub all_suit : (X : Reader) → List Group → List (Option X.Entry) → List X.Entry → Bool
all_suit X gs (v ∷ vs) (p ∷ ps) = suits X gs p v && all_suit X gs vs ps
all_suit X gs _ _ = true

-- another number of arguments or of results than the function has, or an argument of another type
abbrev pub signature_checks : {X : Reader} → List Group → Context X → List ℕ → ℕ → X.Entry → Checks
signature_checks {X} gs c args n x =
    (error.Signature, not (eqb (length args) (length (X.params x))))
    ∷ (error.Signature, not (eqb n (length (option_to_list (X.result x)))))
    ∷ (error.Signature, not (all_suit X gs (map (value_at c) args) (X.params x))) ∷ []

-- no room for what the function gives
abbrev pub result_room : {X : Reader} → Context X → X.Entry → Checks
result_room {X} c x = if_found (λ y. no_room (counts c) is_value) (X.result x)

abbrev pub func_suits : {X : Reader} → List Group → Context X → List ℕ → ℕ → X.Entry → Checks
func_suits gs c args n x = signature_checks gs c args n x ++ result_room c x

abbrev pub start_checks : {X : Reader} → WasmFeatures → Stack X → ℕ → List ℕ → ℕ → Checks
start_checks fs s f args n =
    lacks fs cm_values
    ++ ((error.StartTwice, s.top.started)
    ∷ (missing (func_at s.top f)
    ++ (all_checks (λ k. missing (value_at s.top k)) args
    ++ (use_checks s.top args ++ if_found (func_suits s.groups s.top args n) (func_at s.top f)))))

-- the limit that is left to the caller
abbrev pub start_left : List ℕ → Checks
start_left args = too_many max_list (length args)
