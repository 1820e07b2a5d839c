use Rattle.std.proofs.Common.{◌≡◌, ◌-◌, ◌++◌, map}
use Rattle.std.specs.List.{range_with_len}
use Rattle.fp_prices.specs.Points.{next_edge}
use Rattle.fp_prices.proofs.graphs.point_graphs.hold_between.Given as goal

abbrev pub invariant-loop-node : goal.invariant-loop-node
invariant-loop-node l = l.edges.items ≡ l.initial.edges.items ++ map next_edge (range_with_len l.first (l.node - l.first))
