-- The distance in the graph of the points by heads, from the origin's first point to the destination's last, is the least cost over
-- the allowed walks of a shipment by them.
use Rattle.std.proofs.Common.{◌≡◌, ℕ, ◌+◌, ◌<◌, ◌≤◌, Bool, List, length, sym, subst, arith}
use Rattle.std.specs.Prelude.{Option, Some, None}
use Rattle.fp_base_lists.specs.Distinct.{AreDistinct}
use Rattle.fp_labels.specs.Labels.{IsSimpleWalk}
use Rattle.fp_labels.specs.Walks.{IsDistance, IsWalk, nodes_on, Leads as LeadsOver, walk_cost as edges_cost}
use Rattle.fp_model.specs.declared.parts.Leg.{Leg}
use Rattle.fp_model.specs.declared.parts.Shipment.{Shipment}
use Rattle.fp_model.specs.Problem.{Problem}
use Rattle.fp_longestarcs.specs.Classes.{head_of}
use Rattle.fp_longestarcs.specs.Networks.{TimedNetwork, points_in}
use Rattle.fp_longestarcs.proofs.NewPoints.{points-of}
use Rattle.fp_allowed.specs.Walks.{FollowsHeads, IsWalkBy}
use Rattle.fp_prices.specs.ClassCosts.{IsLeastBy}
use Rattle.fp_prices.specs.LeastWalks.{IsLeastWalk, classes_on, nodes_met}
use Rattle.fp_prices.specs.Leaves.{walk_cost}
use Rattle.fp_prices.specs.Points.{AreHeads, edges_by, edges_of, first_node, last_node}
use Rattle.fp_prices.proofs.GraphTimed.{IsTimedFrom, timed-walk}
use Rattle.fp_prices.proofs.GraphWalks.{AreCosts, Goes}
use Rattle.fp_prices.proofs.Nodes.{first-point}
use Rattle.fp_prices.proofs.NodesMet.{distinct-met}
use Rattle.fp_prices.proofs.PointEdges.{are-heads}
use Rattle.fp_prices.proofs.TimedInGraph.{goes-timed}

-- each allowed walk of a shipment by heads goes from the origin's first node to the destination's last
pub shipment-goes : (p : Problem) (net : TimedNetwork) (heads : Leg → ℕ) (allowed : Leg → Bool) (price : Leg → ℕ) (costs : List (Option ℕ)) (s : Shipment) → AreCosts p net allowed price s.size costs →
    AreHeads p net heads → s.from < length net.points → (walk : List Leg) → IsWalkBy p heads allowed s walk →
    Goes net (edges_by p net heads) costs (first_node net s.from) (last_node net s.to) (walk_cost p price s.size walk) walk
shipment-goes p net heads allowed price costs s are are_heads from walk timed =
    let begins = first-point (points_in net s.from) (points-of net s.from are.whole.valid from) in
    let node : first_node net s.from + 0 ≡ first_node net s.from = omega arith in
    subst (λ (n : ℕ). Goes net (edges_by p net heads) costs n (last_node net s.to) (walk_cost p price s.size walk) walk) node
    (goes-timed p net heads allowed price s.size costs are are_heads s.to walk s.from 0 from begins.1 timed.leads timed.allowed_all
    (subst (λ (n : ℕ). FollowsHeads heads n walk) (sym begins.2) timed.follows))

-- and the classes of each open walk between these nodes are an allowed walk by them
pub shipment-timed : (p : Problem) (net : TimedNetwork) (heads : Leg → ℕ) (allowed : Leg → Bool) (price : Leg → ℕ) (costs : List (Option ℕ)) (s : Shipment) → AreCosts p net allowed price s.size costs →
    AreHeads p net heads → s.from < length net.points → s.to < length net.points → (walk : List ℕ) (cost : ℕ) → IsWalk (edges_by p net heads) costs (first_node net s.from) (last_node net s.to) walk cost →
    IsTimedFrom p heads allowed price s.size s.from 0 s.to cost (classes_on net walk)
shipment-timed p net heads allowed price costs s are are_heads from to walk cost goes =
    let begins = first-point (points_in net s.from) (points-of net s.from are.whole.valid from) in
    let node : first_node net s.from ≡ first_node net s.from + 0 = omega arith in
    let timed = timed-walk p net heads allowed price s.size costs are are_heads s.to to walk s.from 0 from begins.1
    (subst (λ (n : ℕ). LeadsOver (edges_by p net heads) n walk (last_node net s.to)) node goes.leads) goes.open_edges in
    subst (λ (n : ℕ). IsTimedFrom p heads allowed price s.size s.from 0 s.to n (classes_on net walk)) goes.costs_so
    (subst (λ (n : ℕ). IsTimedFrom p heads allowed price s.size s.from n s.to (edges_cost costs walk) (classes_on net walk)) begins.2 timed)

-- so the distance in the graph by heads is the least cost of the walks by them
pub least-over : (p : Problem) (net : TimedNetwork) (heads : Leg → ℕ) (allowed : Leg → Bool) (price : Leg → ℕ) (costs : List (Option ℕ)) (s : Shipment) → AreCosts p net allowed price s.size costs →
    AreHeads p net heads → s.from < length net.points → s.to < length net.points → (o : Option ℕ) → IsDistance (edges_by p net heads) costs (first_node net s.from) (last_node net s.to) o →
    IsLeastBy p heads allowed s price o
least-over p net heads allowed price costs s are are_heads from to None none = λ walk timed.
    let goes = shipment-goes p net heads allowed price costs s are are_heads from walk timed in
    none goes.0 goes.1.leads goes.1.open_edges
least-over p net heads allowed price costs s are are_heads from to (Some n) least =
    let timed = shipment-timed p net heads allowed price costs s are are_heads from to least.attained.0 n least.attained.1 in
    record {
      walk = classes_on net least.attained.0;
      timed = record { leads = timed.leads; allowed_all = timed.allowed_all; follows = timed.follows };
      cost = timed.costs_so;
      least = λ other is.
          let goes = shipment-goes p net heads allowed price costs s are are_heads from other is in
          subst (λ (m : ℕ). n ≤ m) goes.1.costs_so (least.least goes.0 goes.1.leads goes.1.open_edges);
    }

-- the classes of a walk in the graph that repeats no node and whose cost is the distance are a walk of least cost that repeats no timed node
pub least-walk : (p : Problem) (net : TimedNetwork) (allowed : Leg → Bool) (price : Leg → ℕ) (costs : List (Option ℕ)) (s : Shipment) → AreCosts p net allowed price s.size costs → s.from < length net.points → s.to < length net.points →
    (n : ℕ) (walk : List ℕ) → IsDistance (edges_of p net) costs (first_node net s.from) (last_node net s.to) (Some n) → IsSimpleWalk (edges_of p net) costs (first_node net s.from) (last_node net s.to) walk n →
    IsLeastWalk p (points_in net) allowed s price (classes_on net walk)
least-walk p net allowed price costs s are from to n walk least simple =
    let timed = shipment-timed p net (head_of p (points_in net)) allowed price costs s are (are-heads p net are.valid are.whole) from to walk n simple.goes in
    let begins = first-point (points_in net s.from) (points-of net s.from are.whole.valid from) in
    let node : first_node net s.from ≡ first_node net s.from + 0 = omega arith in
    record {
      timed = record { leads = timed.leads; allowed_all = timed.allowed_all; follows = timed.follows };
      least = λ other is.
          let goes = shipment-goes p net (head_of p (points_in net)) allowed price costs s are (are-heads p net are.valid are.whole) from other is in
          subst (λ (m : ℕ). m ≤ walk_cost p price s.size other) (sym timed.costs_so) (subst (λ (m : ℕ). n ≤ m) goes.1.costs_so (least.least goes.0 goes.1.leads goes.1.open_edges));
      apart = subst (λ (q : ℕ). AreDistinct (nodes_met p (points_in net) (s.from, q) (classes_on net walk))) begins.2
          (distinct-met p net are.valid are.whole (last_node net s.to) walk s.from 0 from begins.1 (subst (λ (m : ℕ). LeadsOver (edges_of p net) m walk (last_node net s.to)) node simple.goes.leads)
          (subst (λ (m : ℕ). AreDistinct (nodes_on (edges_of p net) m walk)) node simple.apart));
    }
