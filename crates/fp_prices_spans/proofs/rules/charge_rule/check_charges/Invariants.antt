use Rattle.std.proofs.Common.{take}
use Rattle.std.specs.Prelude.{All}
use Rattle.fp_flatnet.specs.Tables.{windows_in}
use Rattle.fp_prices_spans.specs.MomentRuns.{first_points}
use Rattle.fp_prices_spans.specs.SpanCharges.{ChargePays}
use Rattle.fp_prices_spans.proofs.rules.charge_rule.check_charges.Given as goal

-- the charges of the spans so far pay
abbrev pub invariant-loop-number : goal.invariant-loop-number
invariant-loop-number l = All (ChargePays l.instance (windows_in l.windows) (first_points l.points)) (take l.number l.spans)
