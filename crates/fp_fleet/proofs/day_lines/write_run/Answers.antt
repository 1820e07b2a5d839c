use Rattle.std.proofs.Common.{[], ◌∷◌}
use Rattle.std.specs.Prelude.{codes, decimal}
use Rattle.fp_fleet.specs.DayRows.{arrive_text}
use Rattle.fp_fleet.specs.Rows.{depart_text, from_name, to_name}
use Rattle.fp_fleet.proofs.day_lines.write_run.Goals as goal
use Rattle.fp_records.proofs.LineTexts.{ended-line}

pub returns-clause-text : goal.returns-clause-text
returns-clause-text c =
    let p = c.args.instance.now in
    let lines = c.args.lines.now in
    let r = c.args.run.now in
    ended-line c.end.result c.args.line.now c.end.new.self (codes "run")
    (from_name p lines r.line ∷ to_name p lines r.line ∷ depart_text lines r.line ∷ arrive_text p lines r.line ∷ decimal r.load ∷ []) c.requires.begun
    (rw (
      c.in_ok-number-3.ensures.ok,
      c.in_ok-number-2.ensures.ok,
      c.from-2.ensures,
      c.arrival_time.ensures.moment,
      c.in_ok-number.ensures.ok,
      c.in_ok-write_to.ensures,
      c.in_ok-write_from.ensures,
      c.in_ok-word.ensures.ok,
      c.from.ensures,
    ) at c.end.ensures.ok)
