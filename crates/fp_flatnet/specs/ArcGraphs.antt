-- The arcs of the flat network as edges of graphs, with their steps as costs.
use Rattle.std.specs.Prelude.{ℕ, ◌+◌, ◌≡◌, List, length, map, Option, Some}
use Rattle.fp_labels.specs.declared.graphs.Edge.{Edge}
use Rattle.fp_labels.specs.Graphs.{Shape}
use Rattle.fp_flatnet.specs.declared.arc_graphs.ArcGraph.{ArcGraph}
use Rattle.fp_model.specs.declared.parts.Arc.{Arc}
use Rattle.fp_model.specs.Problem.{Problem, hold_at}

-- the edge of an arc, from its tail to its head
abbrev pub forward_edge : Arc → Edge
forward_edge a = record { from = a.from; to = a.to }

-- the edge of an arc turned round, from its head to its tail
abbrev pub backward_edge : Arc → Edge
backward_edge a = record { from = a.to; to = a.from }

-- the graph of the terminals and the arcs
abbrev pub forward_shape : Problem → Shape
forward_shape p = record { nodes = length p.terminals; edges = map forward_edge p.arcs }

-- the graph of the terminals and the arcs turned round
abbrev pub backward_shape : Problem → Shape
backward_shape p = record { nodes = length p.terminals; edges = map backward_edge p.arcs }

-- the step of an arc
abbrev pub arc_step : Problem → Arc → ℕ
arc_step p a = a.time + hold_at p a.to

-- the step of each arc, as the cost of its edge
abbrev pub step_costs : Problem → List (Option ℕ)
step_costs p = map (λ (a : Arc). Some (arc_step p a)) p.arcs

-- a graph of a shape with the steps of the problem's arcs as the costs of its edges
pub record IsArcGraph (p : Problem) (shape : Shape) (g : ArcGraph) : Type 0 where
  pub shape_is : g.graph ≡ shape
  pub costs_are : g.costs.items ≡ step_costs p
