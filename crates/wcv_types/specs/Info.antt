-- The size and the depth that a node keeps.
use Rattle.wcv_core.specs.Limits.{max_depth, max_size}
use Rattle.std.specs.Prelude.{suc, max, ◌+◌, ◌<◌, ◌≤◌, ◌⊎◌}
use Rattle.wcv_types.specs.declared.info.TypeInfo.{TypeInfo}

-- those of a type with one more part
abbrev pub combined : TypeInfo → TypeInfo → TypeInfo
combined whole more = record { size = whole.size + more.size; depth = max whole.depth (suc more.depth) }

-- both are allowed
pub record IsWithinLimits (info : TypeInfo) : Type 0 where
  pub size : info.size ≤ max_size
  pub depth : info.depth ≤ max_depth

-- one of them is too great
abbrev pub PassesLimit : TypeInfo → Type 0
PassesLimit info = (max_size < info.size) ⊎ (max_depth < info.depth)
