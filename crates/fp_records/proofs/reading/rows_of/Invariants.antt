use Rattle.std.proofs.Common.{◌≡◌, ℕ, List, []}
use Rattle.csv.specs.Reading.{strip_bom}
use Rattle.fp_records.specs.Fields.{kept_records}
use Rattle.fp_records.proofs.ReaderFacts.{IsBetween, left_len}
use Rattle.fp_records.proofs.reading.rows_of.Given as goal

abbrev pub invariant-loop-rows : goal.invariant-loop-rows
invariant-loop-rows l = (read : List (List (List ℕ))) × IsBetween (strip_bom l.fn.bytes) read l.reader × (l.rows.ended ≡ kept_records read) × (l.rows.begun ≡ [])

abbrev pub decreases-loop-rows : goal.decreases-loop-rows
decreases-loop-rows l = left_len l.reader
