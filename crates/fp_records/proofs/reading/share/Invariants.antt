use Rattle.std.proofs.Common.{◌≡◌, take}
use Rattle.fp_records.proofs.reading.share.Given as goal

abbrev pub invariant-loop-at : goal.invariant-loop-at
invariant-loop-at l = l.records.items ≡ take l.at l.rows.value.ended
