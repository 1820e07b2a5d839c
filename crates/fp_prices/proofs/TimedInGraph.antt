-- Each allowed walk by heads goes in the graph of the points by them, with waiting between its classes, at the same cost.
use Rattle.std.proofs.Common.{◌≡◌, ℕ, ◌+◌, ◌-◌, ◌*◌, ◌<◌, ◌≤◌, true, Bool, List, [], ◌∷◌, length, get_or, ⊎_elim, ap, sym, ◌∙◌, subst, refl, arith}
use Rattle.std.specs.Prelude.{Option, Some, None}
use Rattle.std.specs.List.{AllByRecursion}
use Rattle.std.proofs.lemmas.Bool.{cases_lt, cond-true}
use Rattle.std.proofs.lemmas.List.Sums.{sum_by-cons}
use Rattle.fp_labels.specs.declared.graphs.Edge.{Edge}
use Rattle.fp_labels.specs.Graphs.{edge_at}
use Rattle.fp_labels.specs.Walks.{cost_of}
use Rattle.fp_model.specs.declared.parts.Leg.{Leg}
use Rattle.fp_model.specs.Problem.{Problem, arc_at}
use Rattle.fp_model.specs.Routes.{Leads, arcs_of}
use Rattle.fp_longestarcs.specs.Ascending.{ArePoints}
use Rattle.fp_base_lists.specs.Ascending.{place_in}
use Rattle.fp_longestarcs.specs.Networks.{TimedNetwork, IsClass, class_number, points_in}
use Rattle.fp_longestarcs.proofs.ClassNumbers.{number-within}
use Rattle.fp_longestarcs.proofs.NewPoints.{points-of}
use Rattle.fp_allowed.specs.Walks.{FollowsHeads}
use Rattle.fp_prices.specs.Leaves.{walk_cost}
use Rattle.fp_prices.specs.Points.{AreHeads, class_edge_by, edges_by, first_node, last_node}
use Rattle.fp_prices.proofs.GraphWalks.{AreCosts, Goes, costs-count, goes-first, goes-later}
use Rattle.fp_prices.proofs.PointEdges.{Joins, class-joins, edge-of-class, length-edges_by}
use Rattle.fp_prices.proofs.WalkEdges.{classes_on-class}

-- an earlier one of ascending points has the earlier place
place-le : (qs : List ℕ) (i j : ℕ) → ArePoints qs → i < length qs → get_or qs i 0 ≤ get_or qs j 0 → i ≤ j
place-le qs i j are within le =
    ⊎_elim (λ (less : j < i). absurd (omega (arith, are.ascending j i 0 less within, le))) (λ (more : i ≤ j). more) (cases_lt j i)

-- what an allowed class and then a walk from its head cost
pub price-first : (p : Problem) (price : Leg → ℕ) (size : ℕ) (c : Leg) (walk : List Leg) →
    walk_cost p price size (c ∷ walk) ≡ (price c + p.scale * (arc_at p c.arc).freight * size) + walk_cost p price size walk
price-first p price size c walk = sum_by-cons (λ (e : Leg). price e + p.scale * (arc_at p e.arc).freight * size) c walk

pub goes-timed : (p : Problem) (net : TimedNetwork) (heads : Leg → ℕ) (allowed : Leg → Bool) (price : Leg → ℕ) (size : ℕ) (costs : List (Option ℕ)) → AreCosts p net allowed price size costs → AreHeads p net heads →
    (there : ℕ) (walk : List Leg) (here place : ℕ) → here < length net.points → place < length (points_in net here) → Leads p here (arcs_of walk) there →
    AllByRecursion (λ c. allowed c ≡ true) walk → FollowsHeads heads (get_or (points_in net here) place 0) walk →
    Goes net (edges_by p net heads) costs (first_node net here + place) (last_node net there) (walk_cost p price size walk) walk
goes-timed p net heads allowed price size costs are are_heads there [] here place exists within leads all follows =
    let last : place + (length (points_in net here) - 1 - place) ≡ length (points_in net here) - 1 = omega arith in
    let stays : Goes net (edges_by p net heads) costs (last_node net here) (last_node net here) 0 [] = ([], record { leads = refl; open_edges = tt; costs_so = refl }, refl) in
    goes-later p net heads costs here (length (points_in net here) - 1 - place) place (last_node net there) 0 [] (costs-count p net heads allowed price size costs are) are.free exists (omega arith)
    (subst (λ (t : ℕ). Goes net (edges_by p net heads) costs (first_node net here + (place + (length (points_in net here) - 1 - place))) (last_node net t) 0 []) leads
    (subst (λ (n : ℕ). Goes net (edges_by p net heads) costs (first_node net here + n) (last_node net here) 0 []) (sym last) stays))
goes-timed p net heads allowed price size costs are are_heads there (c ∷ walk) here place exists within leads all follows =
    let is : IsClass net c = are.classes c all.0 in
    let joins : Joins p net heads c = class-joins p net heads c are.valid are.whole are_heads is in
    let e : ℕ = class_number net c in
    let to : ℕ = (arc_at p c.arc).to in
    let edge : edge_at (edges_by p net heads) e ≡ class_edge_by p net heads c = edge-of-class p net heads c are.whole.valid is in
    let there_first : ℕ = first_node net to + place_in (points_in net to) (heads c) in
    let rest : Goes net (edges_by p net heads) costs there_first (last_node net there) (walk_cost p price size walk) walk =
    goes-timed p net heads allowed price size costs are are_heads there walk to (place_in (points_in net to) (heads c)) joins.head joins.enters leads.2 all.1
    (subst (λ (n : ℕ). FollowsHeads heads n walk) (sym joins.arrives) follows.1) in
    let more : ℕ = price c + p.scale * (arc_at p c.arc).freight * size in
    let open_edge : cost_of costs e ≡ Some more = are.holds c is ∙ cond-true (allowed c) (Some more) None all.0 in
    let leaves : ℕ = place_in (points_in net here) c.depart in
    let here_at : (leaves < length (points_in net here)) × (get_or (points_in net here) leaves 0 ≡ c.depart) =
    subst (λ (t : ℕ). (place_in (points_in net t) c.depart < length (points_in net t)) × (get_or (points_in net t) (place_in (points_in net t) c.depart) 0 ≡ c.depart)) leads.1 (joins.leaves, joins.departs) in
    let from : (edge_at (edges_by p net heads) e).from ≡ first_node net here + leaves =
    ap (λ (g : Edge). g.from) edge ∙ ap (λ (t : ℕ). first_node net t + place_in (points_in net t) c.depart) leads.1 in
    let goes : Goes net (edges_by p net heads) costs (first_node net here + leaves) (last_node net there) (more + walk_cost p price size walk) (c ∷ walk) =
    goes-first net (edges_by p net heads) costs (first_node net here + leaves) (last_node net there) e more (walk_cost p price size walk) (c ∷ []) walk
    (omega (arith, number-within net c are.whole.valid is, length-edges_by p net heads)) from open_edge
    (λ edges. classes_on-class net c e edges are.whole.valid is refl)
    (subst (λ (n : ℕ). Goes net (edges_by p net heads) costs n (last_node net there) (walk_cost p price size walk) walk) (ap (λ (g : Edge). g.to) (sym edge)) rest) in
    let later : place ≤ leaves = place-le (points_in net here) place leaves (points-of net here are.whole.valid exists) within (omega (arith, follows.0, here_at.1)) in
    let wait : place + (leaves - place) ≡ leaves = omega arith in
    subst (λ (n : ℕ). Goes net (edges_by p net heads) costs (first_node net here + place) (last_node net there) n (c ∷ walk)) (sym (price-first p price size c walk))
    (goes-later p net heads costs here (leaves - place) place (last_node net there) (more + walk_cost p price size walk) (c ∷ walk) (costs-count p net heads allowed price size costs are) are.free exists (omega (arith, here_at.0, wait))
    (subst (λ (n : ℕ). Goes net (edges_by p net heads) costs (first_node net here + n) (last_node net there) (more + walk_cost p price size walk) (c ∷ walk)) (sym wait) goes))
