use Rattle.std.proofs.Common.{◌≡◌, ◌++◌, drop, map}
use Rattle.fp_longestarcs.specs.Networks.{points_in}
use Rattle.fp_longestarcs.specs.Stops.{legs_of}
use Rattle.fp_prices.specs.LeastWalks.{nodes_met}
use Rattle.fp_prices.specs.TimedWalks.{node_of_place}
use Rattle.fp_prices.proofs.graphs.nodes_met.nodes_met.Given as goal

-- the nodes so far, and those that the rest of the walk meets
abbrev pub invariant-loop-class : goal.invariant-loop-class
invariant-loop-class l =
    map node_of_place l.nodes.items ++ nodes_met l.instance (points_in l.network) (node_of_place l.here) (legs_of (drop l.class-index l.walk))
    ≡ nodes_met l.instance (points_in l.network) (l.from, 0) (legs_of l.walk)
