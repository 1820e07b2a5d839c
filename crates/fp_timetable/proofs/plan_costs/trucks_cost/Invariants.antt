use Rattle.std.proofs.Common.{◌≡◌, take}
use Rattle.std.specs.Prelude.{sum_by}
use Rattle.fp_timetable.specs.Lines.{line_cost}
use Rattle.fp_timetable.proofs.plan_costs.trucks_cost.Given as goal

-- what the lines that were passed cost
abbrev pub invariant-loop-line : goal.invariant-loop-line
invariant-loop-line l = l.total ≡ sum_by (line_cost l.instance) (take l.line-index l.lines)
