-- The bytes that a steady source tells.
use Rattle.std.specs.Prelude.{ℕ, List, drop}
use Rattle.wcv_main.specs.declared.steady.SteadySource.{SteadySource}

-- the bytes that are left
abbrev pub steady_left : SteadySource → List ℕ
steady_left s = drop s.at s.bytes.items
