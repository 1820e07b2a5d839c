use Rattle.std.proofs.Common.{◌≡◌, map, take}
use Rattle.fp_session_branching.specs.Trucks.{trucks_in}
use Rattle.fp_session_branching.proofs.truck_splits.truck_candidates.Given as goal

-- the candidates of the ranked ones so far
abbrev pub invariant-loop-one : goal.invariant-loop-one
invariant-loop-one l = l.list.items ≡ map trucks_in (take l.one-index l.one-items)
