use Rattle.std.proofs.Common.{◌≡◌, take}
use Rattle.fp_longestarcs.specs.Stops.{legs_of}
use Rattle.fp_prices.specs.LeastWalks.{classes_on}
use Rattle.fp_prices.proofs.graphs.class_walks.class_walk.Given as goal

-- the classes of the edges so far
abbrev pub invariant-loop-edge : goal.invariant-loop-edge
invariant-loop-edge l = legs_of l.stops.items ≡ classes_on l.network (take l.edge-index l.edges)
