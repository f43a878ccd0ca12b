-- What the bytes of a binary stand for.
use Rattle.std.specs.Prelude.{ℕ, List, length, Result, Ok}
use Rattle.wcv_syntax.specs.Model.{Entry}
use Rattle.wcv_bytes.specs.declared.fault.BinaryFault.{BinaryFault}
use Rattle.wcv_binary.specs.Components.{max_nesting, component_over, component_within}
use Rattle.wcv_bytes.specs.Sections.{◌>>=◌, max_kept}

-- The items of the component that the bytes are, each at its offset, and the offset of its end; or what stops reading
-- first, from left to right. Components and declared types stand at most so deep in one another.
unfoldable pub binary_within : ℕ → List ℕ → Result (List Entry × ℕ) BinaryFault
binary_within depth bytes = do
  x ← component_over depth (component_within depth) (length bytes) max_kept bytes
  Ok (x.0, length bytes)

-- what they stand for
abbrev pub binary_of : List ℕ → Result (List Entry × ℕ) BinaryFault
binary_of bytes = binary_within max_nesting bytes
