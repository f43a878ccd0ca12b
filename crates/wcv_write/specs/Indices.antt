-- How an index is written.
use Rattle.std.specs.Prelude.{ℕ}
use Rattle.serde_json.specs.Data.{Data}
use Rattle.wcv_write.specs.Json.{count}
use Rattle.wcv_write.specs.declared.indices.Space.{Space}

-- what stands for an index of an index space
abbrev pub Indexing : Type 0
Indexing = Space → ℕ → Data

-- the index itself
abbrev pub numbers : Indexing
numbers space k = count k
