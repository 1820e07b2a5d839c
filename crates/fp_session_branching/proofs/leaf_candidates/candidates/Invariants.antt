use Rattle.std.proofs.Common.{◌≡◌, map, take}
use Rattle.fp_session_branching.specs.Best.{candidate_in}
use Rattle.fp_session_branching.proofs.leaf_candidates.candidates.Given as goal

abbrev pub invariant-loop-one : goal.invariant-loop-one
invariant-loop-one l = l.list.items ≡ map candidate_in (take l.one-index l.one-items)
