use Rattle.std.proofs.Common.{◌≡◌, drop, bytes_eq, is_some}
use Rattle.std.specs.List.{list_all}
use Rattle.std.specs.Map.{lookup}
use Rattle.wcv_values.proofs.names.all_named.Given as goal

-- what is left decides
abbrev pub invariant-loop-k : goal.invariant-loop-k
invariant-loop-k l = list_all (λ e. is_some (lookup (bytes_eq e.0) l.b)) l.a ≡ list_all (λ e. is_some (lookup (bytes_eq e.0) l.b)) (drop l.k l.a)
