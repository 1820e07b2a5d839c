use Rattle.std.proofs.Common.{◌≤◌, length}
use Rattle.std.specs.Prelude.{All}
use Rattle.fp_session_branching.specs.Ways.{IsWayCandidate}
use Rattle.fp_session_branching.proofs.way_splits.way_candidates.Given as goal

-- each of the ways so far divides, and at most so many are
abbrev pub invariant-loop-way : goal.invariant-loop-way
invariant-loop-way l = All (IsWayCandidate l.leaf) l.list.items × (length l.list.items ≤ l.most)
