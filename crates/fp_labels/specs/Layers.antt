-- A graph in two layers. Each node has a copy in the lower layer, under its own number, and one in the upper layer, past all of
-- these. So a walk from the lower layer to the upper one has an edge that leads up.
use Rattle.std.specs.Prelude.{ℕ, ◌≡◌, ◌<◌, ◌+◌, ◌==◌, Bool, false, cond, List, Option, None, Some, length}
use Rattle.fp_labels.specs.declared.graphs.Edge.{Edge}
use Rattle.fp_labels.specs.Graphs.{edge_at}
use Rattle.fp_labels.specs.TaggedWalks.{tag_of}

-- the copy of an edge in the lower layer of so many nodes: where the edge has the tag it leads up
abbrev pub lower_edge : ℕ → Bool → Edge → Edge
lower_edge nodes is_tagged edge = record { from = edge.from; to = cond is_tagged (nodes + edge.to) edge.to }

-- the copy of an edge in the upper layer
abbrev pub upper_edge : ℕ → Edge → Edge
upper_edge nodes edge = record { from = nodes + edge.from; to = nodes + edge.to }

-- whether what an edge has is the tag
abbrev pub is_tag : Option ℕ → ℕ → Bool
is_tag None tag = false
is_tag (Some own) tag = own == tag

-- the first so many of the edges' copies in the lower layer, where `tags` has the tags of the edges
pub record AreLowerEdges (nodes tag : ℕ) (edges : List Edge) (tags : List (Option ℕ)) (count : ℕ) (copies : List Edge) : Type 0 where
  pub len : length copies ≡ count
  pub each : (e : ℕ) → e < count → edge_at copies e ≡ lower_edge nodes (is_tag (tag_of tags e) tag) (edge_at edges e)

-- both copies of each edge, those of the lower layer first
pub record AreLayered (nodes tag : ℕ) (edges : List Edge) (tags : List (Option ℕ)) (layered : List Edge) : Type 0 where
  pub len : length layered ≡ length edges + length edges
  pub lower : (e : ℕ) → e < length edges → edge_at layered e ≡ lower_edge nodes (is_tag (tag_of tags e) tag) (edge_at edges e)
  pub upper : (e : ℕ) → e < length edges → edge_at layered (length edges + e) ≡ upper_edge nodes (edge_at edges e)
