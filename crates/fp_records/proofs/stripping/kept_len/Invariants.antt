use Rattle.std.proofs.Common.{◌≡◌, ◌+◌, ◌-◌, take, map}
use Rattle.std.specs.List.{suffix_len}
use Rattle.csv.specs.Records.{fields_of}
use Rattle.fp_records.specs.Fields.{is_empty, stripped}
use Rattle.fp_records.proofs.stripping.kept_len.Given as goal

abbrev pub invariant-fields : goal.invariant-fields
invariant-fields l = suffix_len is_empty (map stripped (fields_of l.row)) ≡ l.k + suffix_len is_empty (take (l.len - l.k) (map stripped (fields_of l.row)))
