use Rattle.std.proofs.Common.{◌≡◌, ◌∙◌, ◌<◌, ◌≤◌, ◌-◌, ◌+◌, length, true, false, arith, rules}
use Rattle.csv.specs.Records.{fields_of}
use Rattle.fp_records.specs.Fields.{is_empty, stripped}
use Rattle.fp_records.proofs.FieldFacts.{suffix_len-fails, suffix_len-passes}
use Rattle.fp_records.proofs.stripping.kept_len.Goals as goal

pub fields-preserved : goal.fields-preserved
fields-preserved c =
    let n = c.len-len.result - c.fields.k in
    let some : 0 < n = omega (arith, c.fields-test.true) in
    let within : n ≤ length (fields_of c.args.row.now) = omega (arith, c.len-len.ensures) in
    let empty : is_empty (stripped c.field_of.result.now) ≡ true = search rules in
    let longer = suffix_len-passes is_empty stripped (fields_of c.args.row.now) n c.field_of.result.now some within c.field_of.ensures empty in
    let next : c.len-len.result - (c.fields.k + 1) ≡ n - 1 = omega arith in
    rw next (c.fields.invariant ∙ omega (arith, longer))

pub returns-then-not-is_empty-clause-count : goal.returns-then-not-is_empty-clause-count
returns-then-not-is_empty-clause-count c =
    let n = c.len-len.result - c.fields.k in
    let some : 0 < n = omega (arith, c.fields-test.true) in
    let within : n ≤ length (fields_of c.args.row.now) = omega (arith, c.len-len.ensures) in
    let full : is_empty (stripped c.field_of.result.now) ≡ false = search rules in
    let stops = suffix_len-fails is_empty stripped (fields_of c.args.row.now) n c.field_of.result.now some within c.field_of.ensures full in
    omega (arith, c.fields.invariant, stops, c.len-len.ensures)
