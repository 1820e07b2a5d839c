-- What contracts see of the sources and sinks over std's readers and writers.
use Rattle.std.specs.Prelude.{ℕ}
use Rattle.fp_ends.specs.declared.standard.StdSource.{StdSource}
use Rattle.fp_ends.specs.declared.standard.StdSink.{StdSink}

-- The reader that a source reads from.
abbrev pub reader_of : {R : Type 0} → StdSource R → R
reader_of s = s.input

-- How many of a source's reads have failed.
abbrev pub read_faults : {R : Type 0} → StdSource R → ℕ
read_faults s = s.faults

-- The writer that a sink writes to.
abbrev pub writer_of : {W : Type 0} → StdSink W → W
writer_of s = s.output

-- How many of a sink's writes have failed.
abbrev pub write_faults : {W : Type 0} → StdSink W → ℕ
write_faults s = s.faults
