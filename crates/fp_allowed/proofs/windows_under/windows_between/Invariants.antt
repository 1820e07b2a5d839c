use Rattle.fp_allowed.specs.Sweeps.{IsRowOf}
use Rattle.fp_allowed.proofs.windows_under.windows_between.Given as goal

-- the windows of the arcs before
abbrev pub invariant-loop-arc : goal.invariant-loop-arc
invariant-loop-arc l = IsRowOf l.asked l.earliest l.latest l.arc l.row.items
