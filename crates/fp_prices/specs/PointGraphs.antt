-- What is kept of the graph of a network's points.
use Rattle.std.specs.Prelude.{ℕ, ◌≡◌, ◌≤◌, List, length, Option}
use Rattle.fp_labels.specs.Labels.{AreLabels, Distances}
use Rattle.fp_model.specs.declared.parts.Leg.{Leg}
use Rattle.fp_model.specs.Numbered.{shipment_at}
use Rattle.fp_model.specs.Problem.{Problem}
use Rattle.fp_timenodes.specs.declared.places.TheConstants.{MOST_POINTS}
use Rattle.fp_longestarcs.specs.Classes.{head_of}
use Rattle.fp_longestarcs.specs.Networks.{TimedNetwork, point_count, points_in}
use Rattle.fp_longestarcs.specs.Whole.{IsWholeNetwork}
use Rattle.fp_prices.specs.declared.graphs.point_graphs.PointGraph.{PointGraph}
use Rattle.fp_prices.specs.Points.{AreFirstNodes, edges_of, first_node, shape_by, shape_of}

-- the graph of the points of a whole network that has few points
pub record IsPointGraph (p : Problem) (net : TimedNetwork) (g : PointGraph) : Type 0 where
  pub whole : IsWholeNetwork p net
  pub few : point_count net ≤ MOST_POINTS
  pub shape : g.graph ≡ shape_of p net
  pub firsts : AreFirstNodes net g.firsts.items
  pub count : g.edges ≡ length (edges_of p net)

-- over the graph by heads, the least costs and walks from the first node of the origin of the shipment with the number k
abbrev pub AreOriginLabelsBy : Problem → TimedNetwork → (Leg → ℕ) → List (Option ℕ) → ℕ → Distances → Type 0
AreOriginLabelsBy p net heads costs k labels = AreLabels (shape_by p net heads) costs (first_node net (shipment_at p k).from) labels

-- those over the graph by the heads of the classes
abbrev pub AreOriginLabels : Problem → TimedNetwork → List (Option ℕ) → ℕ → Distances → Type 0
AreOriginLabels p net costs k labels = AreOriginLabelsBy p net (head_of p (points_in net)) costs k labels
