use Rattle.std.proofs.Common.{◌≡◌, ◌+◌, drop}
use Rattle.fp_reader.specs.Input.{parts_from}
use Rattle.fp_reader.specs.Parts.{nothing_read}
use Rattle.fp_reader.proofs.reading.draft_of.Given as goal

abbrev pub invariant-loop-place : goal.invariant-loop-place
invariant-loop-place l = parts_from l.draft (l.place + 1) (drop l.place l.lines) ≡ parts_from nothing_read 1 l.lines
