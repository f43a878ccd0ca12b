-- What the ends over memory hold.
use Rattle.std.specs.Prelude.{ℕ, ◌+◌, ◌-◌, ◌^◌, ◌==◌, List, drop, min, Bool}
use Rattle.std.specs.List.{list_any}
use Rattle.wcv_main.specs.declared.memory.MemorySource.{MemorySource}
use Rattle.wcv_main.specs.declared.memory.MemorySink.{MemorySink}

-- the bytes that are left
abbrev pub bytes_left : MemorySource → List ℕ
bytes_left s = drop s.at s.bytes.items

-- the numbers of the reads that fail
abbrev pub failing_reads : MemorySource → List ℕ
failing_reads s = s.failing.items

-- how many reads were tried
abbrev pub reads : MemorySource → ℕ
reads s = s.calls

-- how many reads failed
abbrev pub read_faults : MemorySource → ℕ
read_faults s = s.faults

-- the bytes that were taken
abbrev pub bytes_taken : MemorySink → List ℕ
bytes_taken s = s.taken.items

-- the numbers of the writes that fail
abbrev pub failing_writes : MemorySink → List ℕ
failing_writes s = s.failing.items

-- how many writes were tried
abbrev pub writes : MemorySink → ℕ
writes s = s.calls

-- how many writes failed
abbrev pub write_faults : MemorySink → ℕ
write_faults s = s.faults

-- the number of the call after so many, which stays at its greatest value
abbrev pub next_call : ℕ → ℕ
next_call calls = min (calls + 1) (2 ^ 64 - 1)

-- the call of this number is one of those that fail
abbrev pub is_failing : List ℕ → ℕ → Bool
is_failing failing call = list_any (λ k. k == call) failing
