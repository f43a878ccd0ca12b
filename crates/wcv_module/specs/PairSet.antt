-- Pairs of texts in a set.
use Rattle.std.specs.Prelude.{List, map, String, string_bytes}
use Rattle.std.specs.declared.alloc.Global.{Global}
use Rattle.wcv_syntax.specs.Model.{Text}

abbrev pub Pair : Type 0
Pair = String Global × String Global

abbrev pub bytes_of : Pair → Text × Text
bytes_of p = (string_bytes p.0, string_bytes p.1)

abbrev pub pairs_of : List Pair → List (Text × Text)
pairs_of ps = map bytes_of ps
