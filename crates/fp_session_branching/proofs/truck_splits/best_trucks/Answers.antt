use Rattle.std.proofs.Common.{subst}
use Rattle.std.specs.Prelude.{IfSome, Option}
use Rattle.fp_session_branching.specs.declared.truck_splits.TruckCandidate.{TruckCandidate}
use Rattle.fp_session_branching.specs.Trucks.{DividesBy}
use Rattle.fp_session_branching.proofs.BestTrucks.{best_trucks-put}
use Rattle.fp_session_branching.proofs.truck_splits.best_trucks.Goals as goal

pub loop-arc-preserved : goal.loop-arc-preserved
loop-arc-preserved c =
    let divides = subst (λ (o : Option TruckCandidate). IfSome o (DividesBy c.args.leaf.now)) c.in-Some.is c.candidate_on.ensures in
    let put = c.in_ok-put_in.ensures in
    best_trucks-put c.args.leaf.now c.args.most put.0 c.loop-arc.ranked.items c.put_in.new.ranked.items _ put.2 divides c.loop-arc.invariant
