use Rattle.std.proofs.Common.{◌≡◌, ◌++◌, drop}
use Rattle.fp_fleet.specs.Arrivals.{ranked_from}
use Rattle.fp_fleet.proofs.arrivals.ranked.Given as goal

-- the arrivals so far and those of the lines that are left are all
abbrev pub invariant-loop-number : goal.invariant-loop-number
invariant-loop-number l = l.arrivals.items ++ ranked_from l.instance l.number (drop l.number l.lines) ≡ ranked_from l.instance 0 l.lines
