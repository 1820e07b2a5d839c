use Rattle.std.proofs.Common.{◌≤◌}
use Rattle.fp_flatnet.specs.Tables.{windows_in}
use Rattle.fp_repair.specs.Candidates.{IsCandidate}
use Rattle.fp_repair.proofs.improvement.cheapest_found.Given as goal

-- the best so far is a candidate that costs no more than the one in hand
abbrev pub invariant-loop-number : goal.invariant-loop-number
invariant-loop-number g l = record {
  candidate : IsCandidate l.instance (windows_in l.windows) l.best;
  cheaper : l.best.cost ≤ l.initial.best.cost;
}
