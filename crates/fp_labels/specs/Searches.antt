-- What holds while a search settles nodes.
use Rattle.std.specs.Prelude.{ℕ, ◌≡◌, ◌≢◌, ◌<◌, ◌≤◌, ◌+◌, ◌*◌, Bool, true, false, ◌⊎◌, List, [], ◌∷◌, length, Option, None, Some, All, Contains, count_by, slice_index_or, slice_set, replicate, IsPermutation}
use Rattle.std.specs.Ordering.{nat_cmp, ordering_then}
use Rattle.std.specs.BinaryHeap.{IsHeap, KeepsHeap}
use Rattle.std.specs.List.{AllByRecursion}
use Rattle.std.specs.declared.cmp.Ordering.{Ordering}
use Rattle.std.specs.declared.cmp.Reverse.{Reverse}
use Rattle.fp_labels.specs.declared.graphs.Edge.{Edge}
use Rattle.fp_labels.specs.declared.walks.Label.{Label}
use Rattle.fp_labels.specs.declared.walks.Step.{Step}
use Rattle.fp_labels.specs.Graphs.{Shape, edge_at}
use Rattle.fp_labels.specs.Walks.{nodes_on, cost_of}
use Rattle.fp_labels.specs.Labels.{label_at, step_to, traced, greatest_cost, IsSimpleWalk, AreLabels, AreSound, distances_of}

-- an entry of the queue: a cost, and the node that is reached at it
abbrev pub Entry : Type 0
Entry = Reverse (ℕ × ℕ)

-- the order of the queue, in which the least cost is the greatest
abbrev pub entry_cmp : Entry → Entry → Ordering
entry_cmp x y = ordering_then (nat_cmp y.0.0 x.0.0) (nat_cmp y.0.1 x.0.1)

-- whether a node is settled
abbrev pub is_settled : List Bool → ℕ → Bool
is_settled settled node = slice_index_or settled node false

-- how many nodes are settled
abbrev pub settled_count : List Bool → ℕ
settled_count settled = count_by (λ (b : Bool). b) settled

-- a node has a label of at most this cost
abbrev pub IsWithin : List (Option Label) → ℕ → ℕ → Type 0
IsWithin labels node cost = (l : Label) × (label_at labels node ≡ Some l) × (l.cost ≤ cost)

-- each node that has a label is settled
abbrev pub AreSettled : List (Option Label) → List Bool → Type 0
AreSettled labels settled = (node : ℕ) (l : Label) → label_at labels node ≡ Some l → is_settled settled node ≡ true

-- no label of a settled node is above this cost
abbrev pub AreBehind : List (Option Label) → List Bool → ℕ → Type 0
AreBehind labels settled cost = (node : ℕ) (l : Label) → label_at labels node ≡ Some l → is_settled settled node ≡ true → l.cost ≤ cost

-- the queue has an entry for each label of a node that isn't settled, and no entry is below the
-- label of its node or of a settled one
pub record IsQueue (labels : List (Option Label)) (settled : List Bool) (queue : List Entry) : Type 0 where
  pub ordered : IsHeap entry_cmp queue
  pub reached : All (λ (e : Entry). IsWithin labels e.0.1 e.0.0) queue
  pub waiting : (node : ℕ) (l : Label) → label_at labels node ≡ Some l → is_settled settled node ≡ false →
      Contains queue (record { 0 = (l.cost, node) })
  pub behind : All (λ (e : Entry). AreBehind labels settled e.0.0) queue

-- a node is settled next: it wasn't settled, and its label is the least of those that weren't
pub record SettlesNext (labels : List (Option Label)) (old new : List Bool) (queue : List Entry) (cost node : ℕ) : Type 0 where
  pub label : (l : Label) × (label_at labels node ≡ Some l) × (l.cost ≡ cost)
  pub fresh : is_settled old node ≡ false
  pub marked : new ≡ slice_set old node true
  pub behind : AreBehind labels new cost
  pub queued : IsQueue labels new queue

-- a way to a node is taken where it is cheaper than the node's label, and then it is the label
abbrev pub Improves : List (Option Label) → List Entry → List (Option Label) → List Entry → ℕ → ℕ → Step → Type 0
Improves old_labels old_queue labels queue node cost step =
    (IsWithin old_labels node cost × (labels ≡ old_labels) × (queue ≡ old_queue))
    ⊎ ((IsWithin old_labels node cost → ⊥)
    × (labels ≡ slice_set old_labels node (Some (record { cost = cost; step = Some step })))
    × IsPermutation (record { 0 = (cost, node) } ∷ old_queue) queue × KeepsHeap entry_cmp old_queue queue)

-- the walk to a node that its steps tell: at most so many edges, no node twice, and each node
-- before its end is settled
pub record IsTraced (edges : List Edge) (costs : List (Option ℕ)) (start : ℕ) (labels : List (Option Label)) (settled : List Bool) (count node cost : ℕ) (walk : List ℕ) : Type 0 where
  pub simple : IsSimpleWalk edges costs start node walk cost
  pub inside : AllByRecursion (λ m. (m ≡ node) ⊎ (is_settled settled m ≡ true)) (nodes_on edges start walk)
  pub short : length walk ≤ count
  pub told : (fuel : ℕ) → length walk ≤ fuel → traced labels fuel node ≡ walk

-- each label is the cost of such a walk, and small; each settled node has a label
pub record AreWalked (graph : Shape) (costs : List (Option ℕ)) (start : ℕ) (labels : List (Option Label)) (settled : List Bool) (count : ℕ) : Type 0 where
  pub labels_len : length labels ≡ graph.nodes
  pub settled_len : length settled ≡ graph.nodes
  pub started : IsWithin labels start 0
  pub reached : (node : ℕ) → is_settled settled node ≡ true → (l : Label) × (label_at labels node ≡ Some l)
  pub steps : (node : ℕ) (s : Step) → step_to labels node ≡ Some s → is_settled settled s.from ≡ true
  pub walks : (node : ℕ) (l : Label) → label_at labels node ≡ Some l →
      (walk : List ℕ) × IsTraced graph.edges costs start labels settled count node l.cost walk
  pub small : (node : ℕ) (l : Label) → label_at labels node ≡ Some l → graph.nodes * l.cost ≤ count * greatest_cost

-- an edge, if it is open, leads to a label of at most the label of its tail and its cost
abbrev pub IsRelaxed : List Edge → List (Option ℕ) → List (Option Label) → ℕ → Type 0
IsRelaxed edges costs labels e =
    (cost : ℕ) (l : Label) → cost_of costs e ≡ Some cost → label_at labels (edge_at edges e).from ≡ Some l →
    IsWithin labels (edge_at edges e).to (l.cost + cost)

-- each edge that leaves a settled node is relaxed or still to do
abbrev pub AreRelaxed : List Edge → List (Option ℕ) → List (Option Label) → List Bool → (ℕ → Type 0) → Type 0
AreRelaxed edges costs labels settled IsToDo =
    (e : ℕ) → e < length edges → is_settled settled (edge_at edges e).from ≡ true → IsRelaxed edges costs labels e ⊎ IsToDo e

-- a search between two steps, with some edges that leave a settled node still to do
pub record IsSearch (graph : Shape) (costs : List (Option ℕ)) (start : ℕ) (labels : List (Option Label)) (settled : List Bool) (queue : List Entry) (IsToDo : ℕ → Type 0) : Type 0 where
  pub walked : AreWalked graph costs start labels settled (settled_count settled)
  pub relaxed : AreRelaxed graph.edges costs labels settled IsToDo
  pub queued : IsQueue labels settled queue

-- the node that was settled last, at this cost; how many were settled before it
pub record IsLast (graph : Shape) (costs : List (Option ℕ)) (start : ℕ) (labels : List (Option Label)) (settled : List Bool) (node cost : ℕ) : Type 0 where
  pub before : ℕ
  pub counted : settled_count settled ≡ before + 1
  pub label : (l : Label) × (label_at labels node ≡ Some l) × (l.cost ≡ cost)
  pub settled_now : is_settled settled node ≡ true
  pub behind : AreBehind labels settled cost
  pub walk : (walk : List ℕ) × IsTraced graph.edges costs start labels settled before node cost walk
  pub small : graph.nodes * cost ≤ before * greatest_cost

-- the edges that leave the node that was settled last are all relaxed, and else the search is as it
-- was
abbrev pub Relaxes : Shape → List (Option ℕ) → ℕ → ℕ → List (Option Label) → List Bool → List Entry → List (Option Label) → List Entry → Type 0
Relaxes graph costs node cost old_labels settled old_queue labels queue =
    (start : ℕ) → IsSearch graph costs start old_labels settled old_queue (λ e. (edge_at graph.edges e).from ≡ node) →
    IsLast graph costs start old_labels settled node cost → IsSearch graph costs start labels settled queue (λ _. ⊥)

-- the label of the start
abbrev pub start_label : Label
start_label = record { cost = 0; step = None }

-- only the start has a label, no node is settled, and the queue has the start's entry alone
pub record IsFresh (nodes start : ℕ) (labels : List (Option Label)) (settled : List Bool) (queue : List Entry) : Type 0 where
  pub labels_len : length labels ≡ nodes
  pub started : label_at labels start ≡ Some start_label
  pub unreached : (node : ℕ) → node ≢ start → label_at labels node ≡ None
  pub unsettled : settled ≡ replicate nodes false
  pub ordered : IsHeap entry_cmp queue
  pub alone : IsPermutation (record { 0 = (0, start) } ∷ []) queue

-- the labels of a search that is done
pub record AreFound (graph : Shape) (costs : List (Option ℕ)) (start : ℕ) (labels : List (Option Label)) : Type 0 where
  pub exact : AreLabels graph costs start (distances_of labels)
  pub sound : AreSound labels
