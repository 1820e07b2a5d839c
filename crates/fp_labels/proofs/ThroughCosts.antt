-- The sum for an edge of the least cost to its tail, its own cost and the least cost on from its head: what it is, and how great.
use Rattle.std.proofs.Common.{◌≡◌, ℕ, ◌+◌, ◌*◌, ◌/◌, ◌<◌, ◌≤◌, List, length, map, refl, sym, subst, arith}
use Rattle.std.specs.Prelude.{All, IfSome, Option, None, Some}
use Rattle.std.proofs.Math.Nat.{div-add-mod'}
use Rattle.std.proofs.lemmas.Nat.{le-div}
use Rattle.std.proofs.lemmas.Option.{IfSome_then}
use Rattle.std.proofs.lemmas.List.Elements.{All-from_get_or, All-weaker}
use Rattle.fp_labels.specs.Graphs.{HasEnds, Shape, edge_at, no_edge, reversed_edge, reversed_graph}
use Rattle.fp_labels.specs.Walks.{cost_of}
use Rattle.fp_labels.specs.Labels.{AreLabels, Distances, IsSmallFor, cost_to, greatest_cost}
use Rattle.fp_labels.specs.ThroughWalks.{AreCostsThrough, IsLeastThrough, cost_through, sum_of_costs}
use Rattle.fp_labels.proofs.ReversedWalks.{distance-back, reversed-edges, reversed-ends}
use Rattle.fp_labels.proofs.SmallWalks.{label-smaller}
use Rattle.fp_labels.proofs.SplitWalks.{through-exact}

-- costs that are small for so many nodes are at most an equal part
most-each : (nodes all : ℕ) (costs : List (Option ℕ)) → 0 < nodes → All (λ o. IfSome o (λ (n : ℕ). nodes * n ≤ all)) costs → All (λ o. IfSome o (λ (n : ℕ). n ≤ all / nodes)) costs
most-each nodes all costs some =
    All-weaker (λ o. IfSome o (λ (n : ℕ). nodes * n ≤ all)) (λ o. IfSome o (λ (n : ℕ). n ≤ all / nodes))
    (λ o small. IfSome_then o small (λ n below. le-div n all nodes some (omega (arith, below)))) costs

most-all : (nodes all : ℕ) → nodes * (all / nodes) ≤ all
most-all nodes all = omega (arith, div-add-mod' all nodes)

-- the sum of three costs, of which two leave one such cost to spare
sum-small : (nodes most : ℕ) (to_tail own from_head : Option ℕ) → IfSome to_tail (λ n. n + most ≤ nodes * most) → IfSome own (λ n. n ≤ most) → IfSome from_head (λ n. n + most ≤ nodes * most) →
    IfSome (sum_of_costs to_tail own from_head) (λ n. n ≤ 2 * nodes * most)
sum-small nodes most None own from_head near here far = tt
sum-small nodes most (Some a) None from_head near here far = tt
sum-small nodes most (Some a) (Some b) None near here far = tt
sum-small nodes most (Some a) (Some b) (Some c) near here far = omega (arith, near, here, far)

module _ (graph : Shape) (costs : List (Option ℕ)) (start end : ℕ) (before after : Distances) (ends : HasEnds graph.nodes graph.edges) (costs_len : length costs ≡ length graph.edges)
    (start_inside : start < graph.nodes) (end_inside : end < graph.nodes) (are_before : AreLabels graph costs start before) (are_after : AreLabels (reversed_graph graph) costs end after) where
  sum-exact : (e : ℕ) → e < length graph.edges → IsLeastThrough graph.edges costs start end e (cost_through graph.edges costs before after e)
  sum-exact e below =
      through-exact graph.edges costs end e start below (cost_to before (edge_at graph.edges e).from) (cost_of costs e) (cost_to after (edge_at graph.edges e).to) refl
      (are_before.exact (edge_at graph.edges e).from (ends e no_edge below).0)
      (distance-back graph.edges (map reversed_edge graph.edges) costs (reversed-edges graph.edges) (edge_at graph.edges e).to end (cost_to after (edge_at graph.edges e).to)
      (are_after.exact (edge_at graph.edges e).to (ends e no_edge below).1))

  sum-most : (most : ℕ) → All (λ o. IfSome o (λ (n : ℕ). n ≤ most)) costs → (e : ℕ) → e < length graph.edges →
      IfSome (cost_through graph.edges costs before after e) (λ n. n ≤ 2 * graph.nodes * most)
  sum-most most all e below =
      sum-small graph.nodes most (cost_to before (edge_at graph.edges e).from) (cost_of costs e) (cost_to after (edge_at graph.edges e).to)
      (label-smaller graph costs start before (edge_at graph.edges e).from most ends start_inside (ends e no_edge below).0 are_before all)
      (all e None (omega (arith, costs_len, below)))
      (label-smaller (reversed_graph graph) costs end after (edge_at graph.edges e).to most (reversed-ends graph.nodes graph.edges ends) end_inside (ends e no_edge below).1 are_after all)

  -- each sum is small
  pub sums-small : All (IsSmallFor (2 * graph.nodes)) costs → (e : ℕ) → e < length graph.edges → IfSome (cost_through graph.edges costs before after e) (λ n. n ≤ greatest_cost)
  sums-small small e below =
      let most : ℕ = greatest_cost / (2 * graph.nodes) in
      let all : All (λ o. IfSome o (λ (n : ℕ). n ≤ most)) costs = most-each (2 * graph.nodes) greatest_cost costs (omega (arith, start_inside)) small in
      IfSome_then (cost_through graph.edges costs before after e) (sum-most most all e below) (λ n le. omega (arith, le, most-all (2 * graph.nodes) greatest_cost))

  -- and is the least cost of a walk that has the edge
  pub sums-exact : (through : List (Option ℕ)) → AreCostsThrough graph.edges costs before after (length graph.edges) through →
      (e : ℕ) → e < length graph.edges → IsLeastThrough graph.edges costs start end e (cost_of through e)
  sums-exact through are e below = subst (λ (o : Option ℕ). IsLeastThrough graph.edges costs start end e o) (sym (are.each e below)) (sum-exact e below)

  pub sums-most : (through : List (Option ℕ)) → AreCostsThrough graph.edges costs before after (length graph.edges) through →
      (most : ℕ) → All (λ o. IfSome o (λ (n : ℕ). n ≤ most)) costs → All (λ o. IfSome o (λ (n : ℕ). n ≤ 2 * graph.nodes * most)) through
  sums-most through are most all =
      All-from_get_or (λ o. IfSome o (λ (n : ℕ). n ≤ 2 * graph.nodes * most)) through None
      (λ e inside.
      let below : e < length graph.edges = omega (arith, inside, are.len) in
      subst (λ (o : Option ℕ). IfSome o (λ (n : ℕ). n ≤ 2 * graph.nodes * most)) (sym (are.each e below)) (sum-most most all e below))
