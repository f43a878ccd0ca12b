-- Function types.
use Rattle.std.specs.Prelude.{ℕ, List, Bool, Result}
use Rattle.wcv_syntax.specs.Model.{Func_form}
use Rattle.wcv_bytes.specs.declared.fault.Fault.{Fault}
use Rattle.wcv_bytes.specs.Reading.{vec_at, of_two}
use Rattle.wcv_binary.specs.Values.{result_at, param_at}

-- parameters and a result, behind the byte that says whether the function is asynchronous
unfoldable pub func_at : Bool → List ℕ → Result (Func_form × List ℕ) Fault
func_at async bytes = of_two (vec_at param_at) result_at (λ params result. record { async = async; params = params; result = result }) bytes
