-- Walks that have an edge, and the least cost of one.
use Rattle.std.specs.Prelude.{ℕ, ◌≡◌, ◌<◌, ◌≤◌, ◌+◌, List, length, Option, None, Some, Contains}
use Rattle.fp_labels.specs.declared.graphs.Edge.{Edge}
use Rattle.fp_labels.specs.Graphs.{edge_at}
use Rattle.fp_labels.specs.Walks.{IsOpen, IsWalk, Leads, cost_of, walk_cost}
use Rattle.fp_labels.specs.Labels.{Distances, cost_to}

-- the least cost of a walk from one node to another that has an edge: some such walk over open edges
-- costs it, and none costs less
pub record IsLeastThroughCost (edges : List Edge) (costs : List (Option ℕ)) (here there edge cost : ℕ) : Type 0 where
  pub walk : List ℕ
  pub goes : IsWalk edges costs here there walk cost
  pub through : Contains walk edge
  pub least : (other : List ℕ) → Leads edges here other there → IsOpen costs other → Contains other edge → cost ≤ walk_cost costs other

-- that least cost, or nothing where no walk over open edges has the edge
abbrev pub IsLeastThrough : List Edge → List (Option ℕ) → ℕ → ℕ → ℕ → Option ℕ → Type 0
IsLeastThrough edges costs here there edge None = (walk : List ℕ) → Leads edges here walk there → IsOpen costs walk → Contains walk edge → ⊥
IsLeastThrough edges costs here there edge (Some cost) = IsLeastThroughCost edges costs here there edge cost

-- the sum of three costs, and nothing where one is missing
abbrev pub sum_of_costs : Option ℕ → Option ℕ → Option ℕ → Option ℕ
sum_of_costs None own from_head = None
sum_of_costs (Some a) None from_head = None
sum_of_costs (Some a) (Some b) None = None
sum_of_costs (Some a) (Some b) (Some c) = Some (a + b + c)

-- the cost to the tail of an edge, its own cost, and the cost on from its head, in one
abbrev pub cost_through : List Edge → List (Option ℕ) → Distances → Distances → ℕ → Option ℕ
cost_through edges costs before after e =
    sum_of_costs (cost_to before (edge_at edges e).from) (cost_of costs e) (cost_to after (edge_at edges e).to)

-- so of the first so many edges
pub record AreCostsThrough (edges : List Edge) (costs : List (Option ℕ)) (before after : Distances) (count : ℕ) (through : List (Option ℕ)) : Type 0 where
  pub len : length through ≡ count
  pub each : (e : ℕ) → e < count → cost_of through e ≡ cost_through edges costs before after e
