use Rattle.fp_longestarcs.specs.Vectors.{network_of}
use Rattle.fp_longestarcs.specs.Changes.{heads_with}
use Rattle.fp_longestarcs.proofs.VectorLists.{AreWritten}
use Rattle.fp_longestarcs.proofs.copies.insert_copies.Given as goal

abbrev pub invariant-loop-arc : goal.invariant-loop-arc
invariant-loop-arc l =
    AreWritten (heads_with l.instance (network_of l.tails l.points l.initial.heads) l.new.terminal l.new.at) l.initial.heads l.heads l.arc
