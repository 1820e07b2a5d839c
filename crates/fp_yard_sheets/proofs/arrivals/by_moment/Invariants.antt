use Rattle.std.proofs.Common.{◌≡◌, ◌++◌, drop}
use Rattle.fp_yard_sheets.specs.Arrivals.{arrivals_from}
use Rattle.fp_yard_sheets.proofs.arrivals.by_moment.Given as goal

-- the arrivals so far and those of the lines that are left are all
abbrev pub invariant-loop-number : goal.invariant-loop-number
invariant-loop-number l = l.arrivals.items ++ arrivals_from l.instance l.number (drop l.number l.lines) ≡ arrivals_from l.instance 0 l.lines
