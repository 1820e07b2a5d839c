use Rattle.std.proofs.Common.{◌≡◌, take}
use Rattle.fp_flatnet.specs.ArcGraphs.{step_costs}
use Rattle.fp_flatnet.proofs.arc_graphs.arc_costs.Given as goal

abbrev pub invariant-loop-number : goal.invariant-loop-number
invariant-loop-number l = l.costs.items ≡ take l.number (step_costs l.instance)
