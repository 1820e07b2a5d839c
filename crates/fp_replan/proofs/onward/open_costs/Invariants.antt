use Rattle.std.proofs.Common.{◌≡◌, take}
use Rattle.fp_replan.specs.Starts.{open_costs}
use Rattle.fp_replan.proofs.onward.open_costs.Given as goal

abbrev pub invariant-loop-number : goal.invariant-loop-number
invariant-loop-number l = l.costs.items ≡ take l.number (open_costs l.instance l.gone)
