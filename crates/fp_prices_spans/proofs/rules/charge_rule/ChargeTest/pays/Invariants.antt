use Rattle.std.proofs.Common.{take}
use Rattle.fp_flatnet.specs.Tables.{windows_in}
use Rattle.fp_timenodes.specs.Points.{points_at}
use Rattle.fp_prices_spans.specs.MomentRuns.{runs_of}
use Rattle.fp_prices_spans.proofs.ChargeParts.{AreTakenOff}
use Rattle.fp_prices_spans.proofs.rules.charge_rule.ChargeTest.pays.Given as goal

-- what is left of the charge is so by the least parts for the runs so far
abbrev pub invariant-loop-number : goal.invariant-loop-number
invariant-loop-number l = AreTakenOff l.instance (windows_in l.windows) l.span (take l.number (runs_of l.instance (λ terminal. points_at l.points terminal l.round) l.span)) l.left
