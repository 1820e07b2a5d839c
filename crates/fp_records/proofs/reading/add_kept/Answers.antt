use Rattle.std.proofs.Common.{◌≡◌, ◌∙◌, ◌≤◌, ℕ, length, map, take, false, rules, refl, ap, arith}
use Rattle.std.proofs.lemmas.List.{length-map, take-map, length-take-le}
use Rattle.csv.specs.Records.{fields_of}
use Rattle.fp_records.specs.Fields.{is_empty, kept_fields, stripped}
use Rattle.fp_records.proofs.FieldFacts.{map-take-next}
use Rattle.fp_records.proofs.reading.add_kept.Goals as goal

pub fields-preserved : goal.fields-preserved
fields-preserved c =
    let next = map-take-next stripped (fields_of c.args.row.now) c.fields.at c.field_of.result.now c.field_of.ensures in
    let pushed = c.in_ok-push_field.ensures.ok in
    let inv = c.fields.invariant in
    (rw (pushed, inv.0) refl, rw (pushed, inv.1, next, ← c.strip.ensures) refl)

pub returns-in_ok-end_row-clause-ended : goal.returns-in_ok-end_row-clause-ended
returns-in_ok-end_row-clause-ended c =
    let fields = fields_of c.args.row.now in
    let count = c.kept_len-count.result in
    let within : count ≤ length fields = c.kept_len-count.ensures.bound in
    let at : c.fields.at ≡ count = omega (arith, c.fields-test.false, c.fields.auto) in
    let same : kept_fields fields ≡ map stripped (take count fields) = rw (length-map fields stripped, take-map, c.kept_len-count.ensures.count) refl in
    let some : is_empty (map stripped (take count fields)) ≡ false = rw (length-map (take count fields) stripped, length-take-le) (search rules) in
    let begun : c.fields.rows.begun ≡ map stripped (take count fields) = c.fields.invariant.1 ∙ ap (λ (n : ℕ). map stripped (take n fields)) at in
    rw (same, some, c.in_ok-end_row.ensures.ok, c.fields.invariant.0, begun) refl
