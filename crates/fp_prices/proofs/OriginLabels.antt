-- What the labels from a shipment's origin over the graph by heads tell of the last point of its destination: the least cost of its
-- allowed walks by them, a walk of that cost, and that the cost is small.
use Rattle.std.proofs.Common.{◌≡◌, ℕ, ◌-◌, ◌*◌, ◌<◌, ◌≤◌, Bool, List, length, get_or, sym, ap, ◌∙◌, subst, arith}
use Rattle.std.specs.Prelude.{All, Option, Some, None, IfSome}
use Rattle.std.proofs.lemmas.List.{get_or_read}
use Rattle.fp_labels.specs.Labels.{Distances, IsSimpleWalk, cost_to, walk_to}
use Rattle.fp_labels.specs.Walks.{IsDistance}
use Rattle.fp_labels.proofs.SmallWalks.{simple-small}
use Rattle.fp_model.specs.declared.parts.Leg.{Leg}
use Rattle.fp_model.specs.declared.parts.Shipment.{Shipment}
use Rattle.fp_model.specs.Numbered.{no_shipment, shipment_at}
use Rattle.fp_model.specs.Problem.{IsShipment, IsValid, Problem}
use Rattle.fp_longestarcs.specs.Classes.{head_of}
use Rattle.fp_longestarcs.specs.Networks.{TimedNetwork, point_count, points_in}
use Rattle.fp_longestarcs.specs.Whole.{IsWholeNetwork}
use Rattle.fp_longestarcs.proofs.NewPoints.{points-of}
use Rattle.fp_allowed.specs.Walks.{IsTimedWalk}
use Rattle.fp_prices.specs.ClassCosts.{IsLeastBy, IsLeastOver}
use Rattle.fp_prices.specs.LeastWalks.{IsLeastWalk, classes_on}
use Rattle.fp_prices.specs.PointGraphs.{AreOriginLabels, AreOriginLabelsBy}
use Rattle.fp_prices.specs.Points.{AreFirstNodes, AreHeads, edges_by, edges_of, first_node, last_node}
use Rattle.fp_prices.proofs.GraphWalks.{AreCosts}
use Rattle.fp_prices.proofs.LeastOver.{least-over, least-walk}
use Rattle.fp_prices.proofs.Nodes.{first-point, node-within}
use Rattle.fp_prices.proofs.PointEdges.{are-heads, has-ends}

-- the ends of a shipment are terminals, and its walks begin and end at nodes
pub record AreEnds (net : TimedNetwork) (s : Shipment) : Type 0 where
  pub from : s.from < length net.points
  pub to : s.to < length net.points
  pub first : first_node net s.from < point_count net
  pub last : last_node net s.to < point_count net

pub are-ends : (p : Problem) (net : TimedNetwork) (k : ℕ) → IsValid p → IsWholeNetwork p net → k < length p.shipments → AreEnds net (shipment_at p k)
are-ends p net k valid whole exists =
    let s : Shipment = shipment_at p k in
    let is : IsShipment (length p.terminals) s = valid.parts.shipments k no_shipment exists in
    let from : s.from < length net.points = omega (arith, is.from, whole.arcs.terminals) in
    let to : s.to < length net.points = omega (arith, is.to, whole.arcs.terminals) in
    let some = first-point (points_in net s.from) (points-of net s.from whole.valid from) in
    let more = first-point (points_in net s.to) (points-of net s.to whole.valid to) in
    record {
      from = from;
      to = to;
      first = omega (arith, node-within net s.from 0 from some.1);
      last = node-within net s.to (length (points_in net s.to) - 1) to (omega (arith, more.1));
    }

-- what is read for a terminal among the first nodes of all terminals
pub first-read : (net : TimedNetwork) (firsts : List ℕ) (terminal start : ℕ) → AreFirstNodes net firsts → terminal < length net.points → start ≡ get_or firsts terminal start → start ≡ first_node net terminal
first-read net firsts terminal start are exists is = get_or_read firsts terminal start (omega (arith, exists, are.count)) is 0 ∙ are.each terminal exists

module _ (p : Problem) (net : TimedNetwork) (heads : Leg → ℕ) (k : ℕ) (costs : List (Option ℕ)) (labels : Distances) (valid : IsValid p) (whole : IsWholeNetwork p net) (are_heads : AreHeads p net heads)
    (exists : k < length p.shipments) (are : AreOriginLabelsBy p net heads costs k labels) (end : ℕ) (is_end : end ≡ last_node net (shipment_at p k).to) where
  abbrev own : Shipment
  own = shipment_at p k

  ends : AreEnds net own
  ends = are-ends p net k valid whole exists

  distance : IsDistance (edges_by p net heads) costs (first_node net own.from) (last_node net own.to) (cost_to labels end)
  distance = subst (λ (n : ℕ). IsDistance (edges_by p net heads) costs (first_node net own.from) (last_node net own.to) (cost_to labels n)) (sym is_end) (are.exact (last_node net own.to) ends.last)

  walked : (n : ℕ) → cost_to labels end ≡ Some n → IsSimpleWalk (edges_by p net heads) costs (first_node net own.from) (last_node net own.to) (walk_to labels end) n
  walked n some =
      subst (λ (m : ℕ). IsSimpleWalk (edges_by p net heads) costs (first_node net own.from) (last_node net own.to) (walk_to labels m) n) (sym is_end)
      (subst (λ (o : Option ℕ). IfSome o (IsSimpleWalk (edges_by p net heads) costs (first_node net own.from) (last_node net own.to) (walk_to labels (last_node net own.to)))) (ap (cost_to labels) (sym is_end) ∙ some)
      (are.walked (last_node net own.to) ends.last))

  -- the label of the last point is the least cost of the allowed walks by the heads
  pub cost-least_by : (allowed : Leg → Bool) (price : Leg → ℕ) → AreCosts p net allowed price own.size costs → (o : Option ℕ) → o ≡ cost_to labels end → IsLeastBy p heads allowed own price o
  cost-least_by allowed price are_costs o is =
      subst (IsLeastBy p heads allowed own price) (sym is) (least-over p net heads allowed price costs own are_costs are_heads ends.from ends.to (cost_to labels end) distance)

  -- it is small where all costs are
  pub cost-small_by : (most : ℕ) → All (λ o. IfSome o (λ (n : ℕ). n ≤ most)) costs → (o : Option ℕ) → o ≡ cost_to labels end → IfSome o (λ n. n ≤ point_count net * most)
  cost-small_by most all None is = tt
  cost-small_by most all (Some n) is =
      simple-small (edges_by p net heads) costs (point_count net) (first_node net own.from) (last_node net own.to) (walk_to labels end) n most (has-ends p net heads valid whole are_heads) ends.first (walked n (sym is)) all

-- over the graph by the heads of the classes
module _ (p : Problem) (net : TimedNetwork) (k : ℕ) (costs : List (Option ℕ)) (labels : Distances) (valid : IsValid p) (whole : IsWholeNetwork p net) (exists : k < length p.shipments) (are : AreOriginLabels p net costs k labels)
    (end : ℕ) (is_end : end ≡ last_node net (shipment_at p k).to) where
  abbrev s : Shipment
  s = shipment_at p k

  abbrev heads_of : Leg → ℕ
  heads_of = head_of p (points_in net)

  module _ (allowed : Leg → Bool) (price : Leg → ℕ) (are_costs : AreCosts p net allowed price s.size costs) where
    -- the label is the least cost of the allowed timed walks
    pub cost-least : (o : Option ℕ) → o ≡ cost_to labels end → IsLeastOver p (points_in net) allowed s price o
    cost-least = cost-least_by p net heads_of k costs labels valid whole (are-heads p net valid whole) exists are end is_end allowed price are_costs

    -- without a label there is none
    pub walk-none : (o : Option ℕ) → o ≡ cost_to labels end → o ≡ None → (walk : List Leg) → IsTimedWalk p (points_in net) allowed s walk → ⊥
    walk-none o is none = subst (IsLeastOver p (points_in net) allowed s price) none (cost-least o is)

    -- the classes of the walk to the last point are a walk of least cost that repeats no timed node
    pub walk-least : (o : Option ℕ) (n : ℕ) (edges : List ℕ) → o ≡ cost_to labels end → o ≡ Some n → edges ≡ walk_to labels end → IsLeastWalk p (points_in net) allowed s price (classes_on net edges)
    walk-least o n edges is some are_edges =
        let heads_are : AreHeads p net heads_of = are-heads p net valid whole in
        let both : AreEnds net s = are-ends p net k valid whole exists in
        let label : cost_to labels end ≡ Some n = sym is ∙ some in
        subst (λ (l : List ℕ). IsLeastWalk p (points_in net) allowed s price (classes_on net l)) (sym are_edges)
        (least-walk p net allowed price costs s are_costs both.from both.to n (walk_to labels end)
        (subst (IsDistance (edges_of p net) costs (first_node net s.from) (last_node net s.to)) label (distance p net heads_of k costs labels valid whole heads_are exists are end is_end))
        (walked p net heads_of k costs labels valid whole heads_are exists are end is_end n label))

  -- and it is small where all costs are
  pub cost-small : (most : ℕ) → All (λ o. IfSome o (λ (n : ℕ). n ≤ most)) costs → (o : Option ℕ) → o ≡ cost_to labels end → IfSome o (λ n. n ≤ point_count net * most)
  cost-small = cost-small_by p net heads_of k costs labels valid whole (are-heads p net valid whole) exists are end is_end
