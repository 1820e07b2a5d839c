use Rattle.std.proofs.Common.{◌≡◌, ◌∙◌, ◌++◌, ℕ, List, map, ap, rules}
use Rattle.fp_records.specs.Text.{lines_of}
use Rattle.fp_yard.specs.Schedules.{line_at}
use Rattle.fp_yard_sheets.specs.Freight.{member_fields}
use Rattle.fp_yard_sheets.specs.Rows.{tail_of}
use Rattle.fp_yard_sheets.proofs.FreightRows.{out-text}
use Rattle.fp_yard_sheets.proofs.outgoing.write_out.Goals as goal

pub returns-in_ok-write_loads-clause-text : goal.returns-in_ok-write_loads-clause-text
returns-in_ok-write_loads-clause-text c =
    let p = c.args.instance.now in
    let lines = c.args.trucks.now in
    let leaves : tail_of p (line_at lines c.args.number) ≡ c.args.terminal = search rules in
    c.in_ok-write_loads.ensures.text
    ∙ ap (λ (text : List ℕ). text ++ lines_of (map (member_fields p) c.freight.result.now)) c.in_ok-write_departure.ensures.text
    ∙ out-text p lines c.args.yard.now.schedule c.args.terminal c.args.number c.freight.result.now c.args.line.now.text c.requires.over c.requires.exists c.freight.ensures.legs leaves
