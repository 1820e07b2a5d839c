use Rattle.fp_fleet.specs.Sweeps.{AreServed}
use Rattle.fp_fleet.proofs.fewest_trucks.swept.Given as goal

-- the lines so far are served
abbrev pub invariant-loop-number : goal.invariant-loop-number
invariant-loop-number l =
    AreServed l.instance l.lines l.arrivals.items l.number l.sweep.begins.items l.sweep.turns.items l.sweep.idle.items l.sweep.heads.items
