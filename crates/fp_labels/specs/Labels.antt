-- The least costs and walks from one node to all.
use Rattle.std.specs.Prelude.{ℕ, ◌≡◌, ◌<◌, ◌≤◌, ◌^◌, ◌-◌, ◌*◌, zero, suc, List, [], ◌∷◌, ◌++◌, length, map, Option, None, Some, IfSome, All, slice_index_or}
use Rattle.std.specs.Option.{option_and_then, option_map}
use Rattle.std.specs.List.{range_with_len}
use Rattle.fp_labels.specs.declared.graphs.Edge.{Edge}
use Rattle.fp_labels.specs.declared.walks.Label.{Label}
use Rattle.fp_labels.specs.declared.walks.Step.{Step}
use Rattle.fp_labels.specs.Graphs.{Shape}
use Rattle.fp_labels.specs.Walks.{IsDistance, IsWalk, nodes_on}
use Rattle.fp_base_lists.specs.Distinct.{AreDistinct}

-- for each node the least cost from the start, where there is a walk, and a walk of that cost
pub record Distances : Type 0 where
  pub costs : List (Option ℕ)
  pub walks : List (List ℕ)

-- the least cost to a node
abbrev pub cost_to : Distances → ℕ → Option ℕ
cost_to labels node = slice_index_or labels.costs node None

-- the walk to a node
abbrev pub walk_to : Distances → ℕ → List ℕ
walk_to labels node = slice_index_or labels.walks node []

-- a walk over open edges of this cost that repeats no node
pub record IsSimpleWalk (edges : List Edge) (costs : List (Option ℕ)) (here there : ℕ) (walk : List ℕ) (cost : ℕ) : Type 0 where
  pub goes : IsWalk edges costs here there walk cost
  pub apart : AreDistinct (nodes_on edges here walk)

-- each node has its distance from the start, and where there is a walk a walk of that cost that
-- repeats no node
pub record AreLabels (graph : Shape) (costs : List (Option ℕ)) (start : ℕ) (labels : Distances) : Type 0 where
  pub costs_len : length labels.costs ≡ graph.nodes
  pub walks_len : length labels.walks ≡ graph.nodes
  pub exact : (node : ℕ) → node < graph.nodes → IsDistance graph.edges costs start node (cost_to labels node)
  pub walked : (node : ℕ) → node < graph.nodes → IfSome (cost_to labels node) (IsSimpleWalk graph.edges costs start node (walk_to labels node))

-- the greatest sum of costs that can arise
abbrev pub greatest_cost : ℕ
greatest_cost = 2 ^ 127 - 1

-- a cost leaves room for a walk over all nodes
abbrev pub IsSmallFor : ℕ → Option ℕ → Type 0
IsSmallFor nodes cost = IfSome cost (λ c. nodes * c ≤ greatest_cost)

-- the label of a node, where it is reached
abbrev pub label_at : List (Option Label) → ℕ → Option Label
label_at labels node = slice_index_or labels node None

-- the last step of the walk to a node
abbrev pub step_to : List (Option Label) → ℕ → Option Step
step_to labels node = option_and_then (λ (l : Label). l.step) (label_at labels node)

-- the walk to a node, read back from its last step over at most so many steps
abbrev pub traced : List (Option Label) → ℕ → ℕ → List ℕ
traced labels zero node = []
traced labels (suc fuel) node =
    elim (step_to labels node) as (λ o. List ℕ) [ None ↦ [] | Some s ↦ traced labels fuel s.from ++ (s.edge ∷ []) ]

-- what labels say
abbrev pub distances_of : List (Option Label) → Distances
distances_of labels = record {
  costs = map (λ o. option_map (λ (l : Label). l.cost) o) labels;
  walks = map (λ node. traced labels (length labels) node) (range_with_len 0 (length labels));
}

-- a label's cost is small and its last step leaves a node
abbrev pub IsSound : ℕ → Option Label → Type 0
IsSound nodes o = IfSome o (λ (l : Label). (l.cost ≤ greatest_cost) × IfSome l.step (λ (s : Step). s.from < nodes))

-- each label is so
abbrev pub AreSound : List (Option Label) → Type 0
AreSound labels = All (IsSound (length labels)) labels
