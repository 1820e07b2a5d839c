use Rattle.std.proofs.Common.{◌≡◌, ◌++◌}
use Rattle.fp_prices.specs.Points.{holding_below}
use Rattle.fp_prices.proofs.graphs.point_graphs.hold_at_all.Given as goal

abbrev pub invariant-loop-terminal : goal.invariant-loop-terminal
invariant-loop-terminal l = l.edges.items ≡ l.initial.edges.items ++ holding_below l.network l.terminal
