-- Types that nest in types, and the views of what is built of them.
use Rattle.std.proofs.Common.{◌≡◌, ℕ, suc, List, Err, ap}
use Rattle.wcv_bytes.specs.declared.fault.Why.TheVariants.{TooDeep}
use Rattle.wcv_bytes.specs.Reading.{fault}
use Rattle.wcv_binary.specs.Types.{type_over, type_within}
use Rattle.wcv_syntax.proofs.Views.{type_view-Defined, type_view-Func, type_view-Component, type_view-Instance, type_view-Resource, instance_of_core_type, instance_of_type, instance_of_alias, instance_of_export, component_of_import}

pub ruleset views = (type_view-Defined, type_view-Func, type_view-Component, type_view-Instance, type_view-Resource, instance_of_core_type, instance_of_type, instance_of_alias, instance_of_export, component_of_import)

pub none_within : (n : ℕ) (bytes : List ℕ) → n ≡ 0 → type_within n bytes ≡ Err (fault TooDeep bytes)
unfolding type_within
none_within n bytes e = ap (λ m. type_within m bytes) e

pub over_within : (n k : ℕ) (bytes : List ℕ) → n ≡ suc k → type_within n bytes ≡ type_over (type_within k) bytes
unfolding type_within
over_within n k bytes e = ap (λ m. type_within m bytes) e
