use Rattle.std.proofs.Common.{◌≡◌, ℕ, ◌<◌, get_or, length}
use Rattle.fp_prices.specs.Points.{first_node}
use Rattle.fp_prices.proofs.graphs.point_graphs.first_nodes_of.Given as goal

abbrev pub invariant-loop-terminal : goal.invariant-loop-terminal
invariant-loop-terminal l =
    (l.next ≡ first_node l.network l.terminal) × (length l.firsts.items ≡ l.terminal) ×
    ((t : ℕ) → t < l.terminal → get_or l.firsts.items t 0 ≡ first_node l.network t)
