-- The points of a network as the nodes of a graph, by terminal and then by time, and the edges between them.
-- The source of the network: Boland, Hewitt, Marshall and Savelsbergh, "The Continuous-Time Service Network Design Problem",
-- Operations Research 65, 2017.
use Rattle.std.specs.Prelude.{ℕ, zero, suc, ◌+◌, ◌-◌, ◌<◌, ◌≡◌, true, List, [], ◌++◌, length, map, take, sum_by, slice_index}
use Rattle.std.specs.List.{range_with_len}
use Rattle.fp_labels.specs.declared.graphs.Edge.{Edge}
use Rattle.fp_labels.specs.Graphs.{Shape}
use Rattle.fp_model.specs.declared.parts.Leg.{Leg}
use Rattle.fp_model.specs.Problem.{Problem, arc_at}
use Rattle.fp_base_lists.specs.Ascending.{place_in}
use Rattle.fp_base_lists.specs.Membership.{list_has}
use Rattle.fp_longestarcs.specs.Classes.{head_of}
use Rattle.fp_longestarcs.specs.Networks.{TimedNetwork, IsClass, class_count, point_count, points_in}
use Rattle.fp_allowed.specs.Listing.{class_at}

-- the first node of a terminal: as many nodes as the terminals before it have points
abbrev pub first_node : TimedNetwork → ℕ → ℕ
first_node net terminal = sum_by (λ (qs : List ℕ). length qs) (take terminal net.points)

-- the first node of each terminal
pub record AreFirstNodes (net : TimedNetwork) (firsts : List ℕ) : Type 0 where
  pub count : length firsts ≡ length net.points
  pub each : (terminal : ℕ) → terminal < length net.points → slice_index firsts terminal ≡ first_node net terminal

-- the node of a point of a terminal
abbrev pub point_node : TimedNetwork → ℕ → ℕ → ℕ
point_node net terminal at = first_node net terminal + place_in (points_in net terminal) at

-- the node of a terminal's last point
abbrev pub last_node : TimedNetwork → ℕ → ℕ
last_node net terminal = first_node net terminal + (length (points_in net terminal) - 1)

-- the edge of a class by heads: from its point to its head
abbrev pub class_edge_by : Problem → TimedNetwork → (Leg → ℕ) → Leg → Edge
class_edge_by p net heads c = record {
  from = point_node net (arc_at p c.arc).from c.depart;
  to = point_node net (arc_at p c.arc).to (heads c);
}

-- the edges of the classes by heads, by their numbers
abbrev pub class_edges_by : Problem → TimedNetwork → (Leg → ℕ) → List Edge
class_edges_by p net heads = map (λ n. class_edge_by p net heads (class_at net n)) (range_with_len 0 (class_count net))

-- heads are points of the terminals that the classes enter
abbrev pub AreHeads : Problem → TimedNetwork → (Leg → ℕ) → Type 0
AreHeads p net heads = (c : Leg) → IsClass net c → list_has (points_in net (arc_at p c.arc).to) (heads c) ≡ true

-- the edge from a node to the next one
abbrev pub next_edge : ℕ → Edge
next_edge node = record { from = node; to = node + 1 }

-- the holding edges of a terminal: from each of its points to the next one
abbrev pub holding_at : TimedNetwork → ℕ → List Edge
holding_at net terminal = map next_edge (range_with_len (first_node net terminal) (length (points_in net terminal) - 1))

-- the holding edges of the terminals with numbers below n
abbrev pub holding_below : TimedNetwork → ℕ → List Edge
holding_below net zero = []
holding_below net (suc n) = holding_below net n ++ holding_at net n

-- all edges by heads: those of the classes, and then the holding edges
abbrev pub edges_by : Problem → TimedNetwork → (Leg → ℕ) → List Edge
edges_by p net heads = class_edges_by p net heads ++ holding_below net (length net.points)

-- the graph of the points by heads
abbrev pub shape_by : Problem → TimedNetwork → (Leg → ℕ) → Shape
shape_by p net heads = record { nodes = point_count net; edges = edges_by p net heads }

-- the same by the heads of the classes
abbrev pub class_edge : Problem → TimedNetwork → Leg → Edge
class_edge p net = class_edge_by p net (head_of p (points_in net))

abbrev pub class_edges : Problem → TimedNetwork → List Edge
class_edges p net = class_edges_by p net (head_of p (points_in net))

abbrev pub edges_of : Problem → TimedNetwork → List Edge
edges_of p net = edges_by p net (head_of p (points_in net))

abbrev pub shape_of : Problem → TimedNetwork → Shape
shape_of p net = shape_by p net (head_of p (points_in net))
