use Rattle.std.proofs.Common.{take}
use Rattle.fp_base_lists.specs.Distinct.{AreDistinct}
use Rattle.fp_prices.proofs.graphs.nodes_met.are_distinct.Given as goal

abbrev pub invariant-loop-place : goal.invariant-loop-place
invariant-loop-place l = AreDistinct (take l.place l.places)
