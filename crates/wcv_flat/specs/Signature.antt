-- The core type of a function, by the canonical ABI.
use Rattle.std.specs.Prelude.{ℕ, List, [], ◌∷◌, ◌++◌, length, Bool, cond, nat_lt, Some, None}
use Rattle.wcv_core.specs.CoreForm.{CompositeForm, func_form}
use Rattle.wcv_core.specs.declared.core_types.ValType.{ValType}
use Rattle.wcv_core.specs.declared.core_types.ValType.TheVariants as core
use Rattle.wcv_types.specs.Flat.{flat_all}
use Rattle.wcv_types.specs.Tree.{here, label, Parts, none, part}
use Rattle.wcv_flat.specs.Flat.{core_words, pointer_type}
use Rattle.wcv_flat.specs.declared.options.Abi.{Abi}
use Rattle.wcv_flat.specs.declared.options.Abi.TheVariants as abi
use Rattle.wcv_flat.specs.declared.options.Concurrency.{Concurrency}
use Rattle.wcv_flat.specs.declared.options.Concurrency.TheVariants as c
use Rattle.wcv_flat.specs.declared.options.PtrSize.{PtrSize}

-- ## The parts of a function

-- its parameters
abbrev pub params_in : {R I : Type 0} → Parts R I → Parts R I
params_in none = none
params_in (part (label l) t ps) = part (label l) t (params_in ps)
params_in (part r t ps) = params_in ps

-- its result
abbrev pub result_in : {R I : Type 0} → Parts R I → Parts R I
result_in none = none
result_in (part here t ps) = part here t (result_in ps)
result_in (part r t ps) = result_in ps

-- the flat types of its parameters, one behind another
abbrev pub params_flat : {R I : Type 0} → PtrSize → Parts R I → List ValType
params_flat s ps = flat_all (core_words s) (params_in ps)

abbrev pub result_flat : {R I : Type 0} → PtrSize → Parts R I → List ValType
result_flat s ps = flat_all (core_words s) (result_in ps)

-- ## How they are passed. X is the type of flat types

-- more than that many flat types go through memory
abbrev pub exceeds : {X : Type 0} → ℕ → List X → Bool
exceeds limit xs = nat_lt limit (length xs)

-- a pointer to where they lie stands for them then
abbrev pub spilled : {X : Type 0} → X → ℕ → List X → List X
spilled p limit xs = cond (exceeds limit xs) (p ∷ []) xs

-- how many flat types of parameters are passed one by one
abbrev pub param_limit : Abi → Concurrency → ℕ
param_limit abi.Lower (c.Async callback) = 4
param_limit a k = 16

-- how many of a result are
abbrev pub result_limit : Abi → Concurrency → ℕ
result_limit abi.Lower (c.Async callback) = 0
result_limit a k = 1

-- the caller of a lowered function says where the result is to lie that goes through memory
abbrev pub return_pointer : {X : Type 0} → X → Abi → Concurrency → List X → List X
return_pointer p abi.Lift k rs = []
return_pointer p abi.Lower k rs = cond (exceeds (result_limit abi.Lower k) rs) (p ∷ []) []

-- from the flat types of the parameters and of the result
abbrev pub core_params : {X : Type 0} → X → Abi → Concurrency → List X → List X → List X
core_params p a k ps rs = spilled p (param_limit a k) ps ++ return_pointer p a k rs

-- what an async function that is lifted says to the loop that calls it back, and what one that is lowered says of the call
abbrev pub core_results : {X : Type 0} → X → X → Abi → Concurrency → List X → List X
core_results i32 p abi.Lift c.Sync rs = spilled p 1 rs
core_results i32 p abi.Lower c.Sync rs = cond (exceeds 1 rs) [] rs
core_results i32 p abi.Lift (c.Async None) rs = []
core_results i32 p abi.Lift (c.Async (Some callback)) rs = i32 ∷ []
core_results i32 p abi.Lower (c.Async callback) rs = i32 ∷ []

-- the core type of a function with these parts, as it is lifted or lowered
abbrev pub core_type : {R I : Type 0} → PtrSize → Abi → Concurrency → Parts R I → CompositeForm
core_type s a k ps = func_form (core_params (pointer_type s) a k (params_flat s ps) (result_flat s ps)) (core_results core.I32 (pointer_type s) a k (result_flat s ps))
