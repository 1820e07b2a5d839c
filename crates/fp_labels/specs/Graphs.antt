-- A directed graph by its numbered nodes and edges.
use Rattle.std.specs.Prelude.{ℕ, ◌<◌, List, All, map, slice_index_or}
use Rattle.fp_labels.specs.declared.graphs.Edge.{Edge}

-- a graph: how many nodes it has, and its edges in the order of their numbers
pub record Shape : Type 0 where
  pub nodes : ℕ
  pub edges : List Edge

-- what stands for an edge past the end
abbrev pub no_edge : Edge
no_edge = record { from = 0; to = 0 }

-- the edge with a number
abbrev pub edge_at : List Edge → ℕ → Edge
edge_at edges number = slice_index_or edges number no_edge

-- both ends of each edge are nodes
abbrev pub HasEnds : ℕ → List Edge → Type 0
HasEnds nodes edges = All (λ (e : Edge). (e.from < nodes) × (e.to < nodes)) edges

-- an edge turned round
abbrev pub reversed_edge : Edge → Edge
reversed_edge edge = record { from = edge.to; to = edge.from }

-- the graph with each edge turned round
abbrev pub reversed_graph : Shape → Shape
reversed_graph graph = record { nodes = graph.nodes; edges = map reversed_edge graph.edges }
