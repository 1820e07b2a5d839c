use Rattle.fp_session_branching.specs.Trucks.{AreBestTrucks}
use Rattle.fp_session_branching.proofs.truck_splits.best_trucks.Given as goal

-- each of the arcs so far that are kept divides, and at most so many are
abbrev pub invariant-loop-arc : goal.invariant-loop-arc
invariant-loop-arc l = AreBestTrucks l.leaf l.most l.ranked.items
