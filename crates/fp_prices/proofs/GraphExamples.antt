-- The definitions of the graph of points at a network of three terminals on a line: A with the point 0, B with 0 and 4, C with 0,
-- 8 and 9. The arc from A to B takes 4, the one from B to C takes 5.
use Rattle.std.proofs.Common.{◌≡◌, ℕ, [], ◌∷◌, refl, arith}
use Rattle.fp_labels.specs.declared.graphs.Edge.{Edge}
use Rattle.fp_labels.specs.Walks.{Leads}
use Rattle.fp_model.specs.declared.parts.Arc.{Arc}
use Rattle.fp_model.specs.Problem.{Problem}
use Rattle.fp_longestarcs.specs.Networks.{TimedNetwork, point_count}
use Rattle.fp_prices.specs.Points.{edges_of, first_node, last_node, point_node}

-- the arc from a terminal to another
abbrev arc_between : ℕ → ℕ → ℕ → Arc
arc_between from to time = record { from = from; to = to; time = time; capacity = 10; truck = 100; freight = 0 }

abbrev line : Problem
line = record {
  terminals = (65 ∷ []) ∷ (66 ∷ []) ∷ (67 ∷ []) ∷ [];
  holds = 0 ∷ 0 ∷ 0 ∷ [];
  arcs = arc_between 0 1 4 ∷ arc_between 1 2 5 ∷ [];
  shipments = [];
  scale = 1000000;
}

abbrev network : TimedNetwork
network = record {
  tails = 0 ∷ 1 ∷ [];
  points = (0 ∷ []) ∷ (0 ∷ 4 ∷ []) ∷ (0 ∷ 8 ∷ 9 ∷ []) ∷ [];
  heads = (4 ∷ []) ∷ (0 ∷ 9 ∷ []) ∷ [];
}

abbrev edge : ℕ → ℕ → Edge
edge from to = record { from = from; to = to }

-- the six points are numbered by terminal and then by time
nodes : (point_count network ≡ 6) × (first_node network 2 ≡ 3) × (last_node network 2 ≡ 5) × (point_node network 1 4 ≡ 2)
nodes = (refl, refl, refl, refl)

-- the three classes: A to B at 0 enters B at 4, B to C at 0 enters C at 0 and at 4 it enters C at 9; then B and C are held
all_edges : edges_of line network ≡ edge 0 2 ∷ edge 1 3 ∷ edge 2 5 ∷ edge 1 2 ∷ edge 3 4 ∷ edge 4 5 ∷ []
all_edges = refl

-- a shipment from B waits for the second class, since the first one is barred
waits : Leads (edges_of line network) 1 (3 ∷ 2 ∷ []) 5
waits = (omega arith, refl, (omega arith, refl, refl))
