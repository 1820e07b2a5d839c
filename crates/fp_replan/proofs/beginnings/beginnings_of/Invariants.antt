use Rattle.std.proofs.Common.{take}
use Rattle.fp_base_lists.specs.Vectors.{lists_of}
use Rattle.fp_replan.specs.Beginnings.{AreBeginnings}
use Rattle.fp_replan.proofs.beginnings.beginnings_of.Given as goal

abbrev pub invariant-loop-leg : goal.invariant-loop-leg
invariant-loop-leg l = AreBeginnings (take l.leg-index l.kept) l.count (lists_of l.beginnings.items)
