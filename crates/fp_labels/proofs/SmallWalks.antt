-- A walk that repeats no node is cheap: it has fewer edges than there are nodes.
use Rattle.std.proofs.Common.{ℕ, ◌+◌, ◌*◌, ◌<◌, ◌≤◌, List, [], ◌∷◌, length, get_or, ⊎_elim, sym, subst, arith}
use Rattle.std.specs.Prelude.{All, Option, Some, None, IfSome, unwrap_or}
use Rattle.std.specs.List.{AllByRecursion}
use Rattle.std.proofs.Math.Nat.{mul-le-mul_right}
use Rattle.std.proofs.lemmas.Bool.{cases_lt}
use Rattle.std.proofs.lemmas.Option.{IfSome_then}
use Rattle.std.proofs.lemmas.List.{get_or_past, length-map}
use Rattle.std.proofs.lemmas.List.Sums.{sum_by-le}
use Rattle.fp_base_lists.proofs.DistinctSums.{length-distinct-le}
use Rattle.fp_labels.specs.declared.graphs.Edge.{Edge}
use Rattle.fp_labels.specs.Graphs.{HasEnds, Shape, edge_at, no_edge}
use Rattle.fp_labels.specs.Labels.{AreLabels, Distances, IsSimpleWalk, cost_to, walk_to}
use Rattle.fp_labels.specs.Walks.{Leads, cost_of, nodes_on, walk_cost}

-- the nodes on a walk are nodes
nodes-below : (edges : List Edge) (nodes here there : ℕ) (walk : List ℕ) → HasEnds nodes edges → here < nodes → Leads edges here walk there → AllByRecursion (λ i. i < nodes) (nodes_on edges here walk)
nodes-below edges nodes here there [] ends inside leads = (inside, tt)
nodes-below edges nodes here there (e ∷ walk) ends inside leads =
    (inside, nodes-below edges nodes (edge_at edges e).to there walk ends (ends e no_edge leads.0).1 leads.2)

-- a walk that repeats no node costs less than the number of nodes times the greatest cost of an edge, by one such cost
pub simple-smaller : (edges : List Edge) (costs : List (Option ℕ)) (nodes here there : ℕ) (walk : List ℕ) (cost most : ℕ) → HasEnds nodes edges → here < nodes →
    IsSimpleWalk edges costs here there walk cost → All (λ o. IfSome o (λ (n : ℕ). n ≤ most)) costs → cost + most ≤ nodes * most
simple-smaller edges costs nodes here there walk cost most ends inside simple all =
    let few : length (nodes_on edges here walk) ≤ nodes = length-distinct-le nodes (nodes_on edges here walk) (nodes-below edges nodes here there walk ends inside simple.goes.leads) simple.apart in
    let short : length walk + 1 ≤ nodes = omega (arith, few, length-map walk (λ (e : ℕ). (edge_at edges e).to)) in
    let each : walk_cost costs walk ≤ length walk * most = sum_by-le (λ (e : ℕ). unwrap_or (cost_of costs e) 0) most walk (λ k d h. each-small (get_or walk k d)) in
    omega (arith, each, mul-le-mul_right most short, simple.goes.costs_so)
  where
    small : (o : Option ℕ) → IfSome o (λ (n : ℕ). n ≤ most) → unwrap_or o 0 ≤ most
    small None h = omega arith
    small (Some n) h = h

    each-small : (e : ℕ) → unwrap_or (cost_of costs e) 0 ≤ most
    each-small e =
        ⊎_elim
        (λ (there : e < length costs). small (cost_of costs e) (all e None there))
        (λ (past : length costs ≤ e). subst (λ (o : Option ℕ). unwrap_or o 0 ≤ most) (sym (get_or_past costs e None past)) (omega arith))
        (cases_lt e (length costs))

-- so it costs at most that
pub simple-small : (edges : List Edge) (costs : List (Option ℕ)) (nodes here there : ℕ) (walk : List ℕ) (cost most : ℕ) → HasEnds nodes edges → here < nodes →
    IsSimpleWalk edges costs here there walk cost → All (λ o. IfSome o (λ (n : ℕ). n ≤ most)) costs → cost ≤ nodes * most
simple-small edges costs nodes here there walk cost most ends inside simple all =
    omega (arith, simple-smaller edges costs nodes here there walk cost most ends inside simple all)

-- and so each label
pub label-smaller : (graph : Shape) (costs : List (Option ℕ)) (start : ℕ) (labels : Distances) (node most : ℕ) → HasEnds graph.nodes graph.edges → start < graph.nodes → node < graph.nodes →
    AreLabels graph costs start labels → All (λ o. IfSome o (λ (n : ℕ). n ≤ most)) costs → IfSome (cost_to labels node) (λ n. n + most ≤ graph.nodes * most)
label-smaller graph costs start labels node most ends begins inside are all =
    IfSome_then (cost_to labels node) (are.walked node inside)
    (λ cost simple. simple-smaller graph.edges costs graph.nodes start node (walk_to labels node) cost most ends begins simple all)

pub label-small : (graph : Shape) (costs : List (Option ℕ)) (start : ℕ) (labels : Distances) (node most : ℕ) → HasEnds graph.nodes graph.edges → start < graph.nodes → node < graph.nodes →
    AreLabels graph costs start labels → All (λ o. IfSome o (λ (n : ℕ). n ≤ most)) costs → IfSome (cost_to labels node) (λ n. n ≤ graph.nodes * most)
label-small graph costs start labels node most ends begins inside are all =
    IfSome_then (cost_to labels node) (label-smaller graph costs start labels node most ends begins inside are all) (λ cost below. omega (arith, below))
