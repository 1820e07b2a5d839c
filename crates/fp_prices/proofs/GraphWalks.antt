-- Walks in the graph of a network's points, and waiting at a terminal.
use Rattle.std.proofs.Common.{◌≡◌, ℕ, zero, suc, ◌+◌, ◌<◌, Bool, List, [], ◌∷◌, ◌++◌, length, ap, sym, ◌∙◌, subst, refl, arith}
use Rattle.std.specs.Prelude.{Option, Some, IsSome, unwrap_or}
use Rattle.std.proofs.lemmas.List.Sums.{sum_by-cons}
use Rattle.fp_labels.specs.declared.graphs.Edge.{Edge}
use Rattle.fp_labels.specs.Graphs.{edge_at}
use Rattle.fp_labels.specs.Walks.{IsWalk, cost_of, walk_cost}
use Rattle.fp_model.specs.declared.parts.Leg.{Leg}
use Rattle.fp_model.specs.Problem.{Problem, IsValid}
use Rattle.fp_longestarcs.specs.Networks.{TimedNetwork, class_count, points_in}
use Rattle.fp_longestarcs.specs.Whole.{IsWholeNetwork}
use Rattle.fp_prices.specs.ClassCosts.{AllowsClasses, HoldsClassCosts, IsFree}
use Rattle.fp_prices.specs.LeastWalks.{classes_on}
use Rattle.fp_prices.specs.Points.{edges_by, edges_of, first_node}
use Rattle.fp_prices.proofs.PointEdges.{holding-edge, length-edges, length-edges_by}
use Rattle.fp_prices.proofs.WalkEdges.{classes_on-holding}

-- costs of all edges of the graph of a whole network, for a shipment of a size
pub record AreCosts (p : Problem) (net : TimedNetwork) (allowed : Leg → Bool) (price : Leg → ℕ) (size : ℕ) (costs : List (Option ℕ)) : Type 0 where
  pub valid : IsValid p
  pub whole : IsWholeNetwork p net
  pub count : length costs ≡ length (edges_of p net)
  pub free : IsFree (class_count net) costs
  pub classes : AllowsClasses net allowed
  pub holds : HoldsClassCosts p net allowed price size costs

-- so there are as many costs as edges by any heads
pub costs-count : (p : Problem) (net : TimedNetwork) (heads : Leg → ℕ) (allowed : Leg → Bool) (price : Leg → ℕ) (size : ℕ) (costs : List (Option ℕ)) → AreCosts p net allowed price size costs →
    length costs ≡ length (edges_by p net heads)
costs-count p net heads allowed price size costs are = are.count ∙ length-edges p net ∙ sym (length-edges_by p net heads)

-- some walk over open edges leads from one node to another at this cost, with these classes on it
abbrev pub Goes : TimedNetwork → List Edge → List (Option ℕ) → (here there cost : ℕ) → List Leg → Type 0
Goes net edges costs here there cost classes = (walk : List ℕ) × IsWalk edges costs here there walk cost × (classes_on net walk ≡ classes)

-- a walk with one more edge before it, which has some classes: that of the edge, or none
pub goes-first : (net : TimedNetwork) (edges : List Edge) (costs : List (Option ℕ)) (here there e more cost : ℕ) (front classes : List Leg) → e < length edges → (edge_at edges e).from ≡ here → cost_of costs e ≡ Some more →
    ((walk : List ℕ) → classes_on net (e ∷ walk) ≡ front ++ classes_on net walk) → Goes net edges costs (edge_at edges e).to there cost classes → Goes net edges costs here there (more + cost) (front ++ classes)
goes-first net edges costs here there e more cost front classes exists leaves costs_so on (walk, goes, has) = (
  e ∷ walk,
  record {
    leads = (exists, leaves, goes.leads);
    open_edges = (subst (λ (o : Option ℕ). IsSome o) (sym costs_so) refl, goes.open_edges);
    costs_so =
        sum_by-cons (λ n. unwrap_or (cost_of costs n) 0) e walk ∙
        ap (λ (n : ℕ). n + walk_cost costs walk) (ap (λ (o : Option ℕ). unwrap_or o 0) costs_so) ∙
        ap (λ (n : ℕ). more + n) goes.costs_so;
  },
  on walk ∙ ap (λ (l : List Leg). front ++ l) has,
)

-- waiting at a terminal from one of its points to a later one is free
pub goes-later : (p : Problem) (net : TimedNetwork) (heads : Leg → ℕ) (costs : List (Option ℕ)) (t n i there cost : ℕ) (classes : List Leg) → length costs ≡ length (edges_by p net heads) → IsFree (class_count net) costs →
    t < length net.points → i + n < length (points_in net t) → Goes net (edges_by p net heads) costs (first_node net t + (i + n)) there cost classes →
    Goes net (edges_by p net heads) costs (first_node net t + i) there cost classes
goes-later p net heads costs t zero i there cost classes count free exists within goes =
    let e : first_node net t + (i + 0) ≡ first_node net t + i = omega arith in
    subst (λ (node : ℕ). Goes net (edges_by p net heads) costs node there cost classes) e goes
goes-later p net heads costs t (suc n) i there cost classes count free exists within goes =
    let holding = holding-edge p net heads t i exists (omega (arith, within)) in
    let later : i + suc n ≡ i + 1 + n = omega arith in
    let rest : Goes net (edges_by p net heads) costs (first_node net t + (i + 1)) there cost classes =
    goes-later p net heads costs t n (i + 1) there cost classes count free exists (omega (arith, within)) (subst (λ (m : ℕ). Goes net (edges_by p net heads) costs (first_node net t + m) there cost classes) later goes) in
    let next : first_node net t + (i + 1) ≡ (edge_at (edges_by p net heads) holding.0).to =
    (let e : first_node net t + (i + 1) ≡ first_node net t + i + 1 = omega arith in e) ∙ ap (λ (e : Edge). e.to) (sym holding.3) in
    let nothing : 0 + cost ≡ cost = omega arith in
    subst (λ (n : ℕ). Goes net (edges_by p net heads) costs (first_node net t + i) there n classes) nothing
    (goes-first net (edges_by p net heads) costs (first_node net t + i) there holding.0 0 cost [] classes holding.2 (ap (λ (e : Edge). e.from) holding.3)
    (free holding.0 holding.1 (omega (arith, count, holding.2))) (λ walk. classes_on-holding net holding.0 walk holding.1)
    (subst (λ (node : ℕ). Goes net (edges_by p net heads) costs node there cost classes) next rest))
