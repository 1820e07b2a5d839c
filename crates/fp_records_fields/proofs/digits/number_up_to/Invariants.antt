use Rattle.std.proofs.Common.{◌≡◌, ◌≤◌, drop}
use Rattle.std.specs.Str.Parse.{digits_value_after}
use Rattle.fp_records_fields.specs.Fields.{number}
use Rattle.fp_records_fields.proofs.digits.number_up_to.Given as goal

abbrev pub invariant-loop-digit : goal.invariant-loop-digit
invariant-loop-digit l = record {
  small : l.value ≤ l.high;
  value : digits_value_after 10 l.value (drop l.digit-index l.digits) ≡ number l.digits;
}
