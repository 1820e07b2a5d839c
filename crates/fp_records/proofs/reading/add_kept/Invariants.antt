use Rattle.std.proofs.Common.{◌≡◌, map, take}
use Rattle.csv.specs.Records.{fields_of}
use Rattle.fp_records.specs.Fields.{stripped}
use Rattle.fp_records.proofs.reading.add_kept.Given as goal

abbrev pub invariant-fields : goal.invariant-fields
invariant-fields l = (l.rows.ended ≡ l.fn.rows.ended) × (l.rows.begun ≡ map stripped (take l.at (fields_of l.row)))
