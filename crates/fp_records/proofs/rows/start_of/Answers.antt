use Rattle.std.proofs.Common.{◌≡◌, ◌<◌, ◌+◌, ◌-◌, ◌∙◌, ap, sym, length, arith}
use Rattle.csv.specs.Records.{prev}
use Rattle.csv.proofs.RecordFacts.{prev-first, prev-next}
use Rattle.fp_records.proofs.rows.start_of.Goals as goal

pub returns-then-at-eq0 : goal.returns-then-at-eq0
returns-then-at-eq0 c = rw c.if-at-eq0.true (sym (prev-first c.args.ends.now))

pub returns-else-at-eq0 : goal.returns-else-at-eq0
returns-else-at-eq0 c =
    let one : (c.args.at - 1) + 1 ≡ c.args.at = omega (arith, c.if-at-eq0.false) in
    let within : (c.args.at - 1) + 1 < length c.args.ends.now = omega (arith, c.requires) in
    sym (prev-next 0 c.args.ends.now (c.args.at - 1) 0 within) ∙ ap (prev 0 c.args.ends.now) one
