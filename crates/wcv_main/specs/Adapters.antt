-- What the ends over std's readers and writers hold.
use Rattle.std.specs.Prelude.{ℕ}
use Rattle.wcv_main.specs.declared.adapter.ReadAdapter.{ReadAdapter}
use Rattle.wcv_main.specs.declared.adapter.WriteAdapter.{WriteAdapter}

-- the reader that is asked
abbrev pub reader_of : {R : Type 0} → ReadAdapter R → R
reader_of s = s.reader

-- how many reads failed
abbrev pub reader_faults : {R : Type 0} → ReadAdapter R → ℕ
reader_faults s = s.faults

-- the writer that is asked
abbrev pub writer_of : {W : Type 0} → WriteAdapter W → W
writer_of s = s.writer

-- how many writes failed
abbrev pub writer_faults : {W : Type 0} → WriteAdapter W → ℕ
writer_faults s = s.faults
