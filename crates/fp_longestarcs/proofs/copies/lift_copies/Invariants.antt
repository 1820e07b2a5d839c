use Rattle.fp_longestarcs.specs.Vectors.{network_of}
use Rattle.fp_longestarcs.specs.Changes.{heads_to}
use Rattle.fp_longestarcs.proofs.VectorLists.{AreWritten}
use Rattle.fp_longestarcs.proofs.copies.lift_copies.Given as goal

abbrev pub invariant-loop-arc : goal.invariant-loop-arc
invariant-loop-arc l =
    AreWritten (heads_to l.instance (network_of l.tails l.points l.initial.heads) l.point.terminal l.point.at) l.initial.heads l.heads l.arc
