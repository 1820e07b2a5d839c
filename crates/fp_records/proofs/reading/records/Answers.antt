use Rattle.std.proofs.Common.{◌≡◌, length, ap, arith}
use Rattle.csv.specs.Reading.{default_config, records, strip_bom}
use Rattle.fp_records.proofs.RowFacts.{kept_records-some}
use Rattle.fp_records.proofs.reading.records.Goals as goal

pub share-requires : goal.share-requires
share-requires c = rw c.in_ok-rows.ensures.all (kept_records-some (records default_config (strip_bom c.args.bytes.now)))

pub returns-clause-few : goal.returns-clause-few
returns-clause-few c =
    let few = c.in_ok-rows.ensures.few in
    let same : length c.in_ok-records.records.items ≡ length c.in_ok-rows.rows.ended = ap length c.in_ok-records.ensures in
    let size = c.in_ok-records.records.ok.0 in
    omega arith
