-- Walks in a graph whose edges have costs, and the least cost of a walk. A walk is the list of its
-- edges' numbers.
use Rattle.std.specs.Prelude.{ℕ, ◌≡◌, ◌≢◌, ◌<◌, ◌≤◌, List, [], ◌∷◌, length, map, Option, None, Some, IsSome, unwrap_or, slice_index_or}
use Rattle.std.specs.List.{AllByRecursion, sum_by}
use Rattle.fp_labels.specs.declared.graphs.Edge.{Edge}
use Rattle.fp_labels.specs.Graphs.{edge_at}

-- the edges exist and lead from one node to another, each from where the last one ended
abbrev pub Leads : List Edge → ℕ → List ℕ → ℕ → Type 0
Leads edges here [] there = here ≡ there
Leads edges here (e ∷ walk) there =
    (e < length edges) × ((edge_at edges e).from ≡ here) × Leads edges (edge_at edges e).to walk there

-- the cost of an edge, and nothing where the edge is barred
abbrev pub cost_of : List (Option ℕ) → ℕ → Option ℕ
cost_of costs e = slice_index_or costs e None

-- no edge of a walk is barred
abbrev pub IsOpen : List (Option ℕ) → List ℕ → Type 0
IsOpen costs walk = AllByRecursion (λ e. IsSome (cost_of costs e)) walk

-- what a walk costs: the sum of its edges' costs
abbrev pub walk_cost : List (Option ℕ) → List ℕ → ℕ
walk_cost costs walk = sum_by (λ e. unwrap_or (cost_of costs e) 0) walk

-- the nodes that a walk meets: where it starts, and where each of its edges ends
abbrev pub nodes_on : List Edge → ℕ → List ℕ → List ℕ
nodes_on edges here walk = here ∷ map (λ e. (edge_at edges e).to) walk

-- a walk over open edges from one node to another at this cost
pub record IsWalk (edges : List Edge) (costs : List (Option ℕ)) (here there : ℕ) (walk : List ℕ) (cost : ℕ) : Type 0 where
  pub leads : Leads edges here walk there
  pub open_edges : IsOpen costs walk
  pub costs_so : walk_cost costs walk ≡ cost

-- the least cost of a walk from one node to another: some walk over open edges costs it, and none
-- costs less
pub record IsLeastCost (edges : List Edge) (costs : List (Option ℕ)) (here there cost : ℕ) : Type 0 where
  pub attained : (walk : List ℕ) × IsWalk edges costs here there walk cost
  pub least : (walk : List ℕ) → Leads edges here walk there → IsOpen costs walk → cost ≤ walk_cost costs walk

-- the distance from one node to another: the least cost, or nothing where each walk has a barred
-- edge
abbrev pub IsDistance : List Edge → List (Option ℕ) → ℕ → ℕ → Option ℕ → Type 0
IsDistance edges costs here there None = (walk : List ℕ) → Leads edges here walk there → IsOpen costs walk → ⊥
IsDistance edges costs here there (Some cost) = IsLeastCost edges costs here there cost
