use Rattle.fp_base_lists.specs.Vectors.{lists_of}
use Rattle.std.proofs.Common.{[]}
use Rattle.fp_replan.specs.Beginnings.{AreBeginnings}
use Rattle.fp_replan.proofs.beginnings.no_beginnings.Given as goal

abbrev pub invariant-loop : goal.invariant-loop
invariant-loop l = AreBeginnings [] l.counter (lists_of l.beginnings.items)
