-- Each walk in the graph of the points by heads, from a point to the last one of a terminal, is an allowed walk by them at the same
-- cost once the waiting is left out.
use Rattle.std.proofs.Common.{◌≡◌, ℕ, ◌+◌, ◌-◌, ◌*◌, ◌<◌, ◌≤◌, true, false, Bool, List, [], ◌∷◌, length, get_or, ⊎_elim, ap, sym, ◌∙◌, subst, refl, arith}
use Rattle.std.specs.Prelude.{Option, Some, None, IsSome, unwrap_or, if◌then◌else◌}
use Rattle.std.specs.List.{AllByRecursion}
use Rattle.std.proofs.lemmas.Bool.{cases_Bool, cond-true, cond-false, false≢true}
use Rattle.std.proofs.lemmas.List.Sums.{sum_by-cons}
use Rattle.fp_labels.specs.declared.graphs.Edge.{Edge}
use Rattle.fp_labels.specs.Graphs.{edge_at}
use Rattle.fp_labels.specs.Walks.{IsOpen, cost_of, Leads as LeadsOver, walk_cost as edges_cost}
use Rattle.fp_model.specs.declared.parts.Leg.{Leg}
use Rattle.fp_model.specs.Problem.{Problem, arc_at}
use Rattle.fp_model.specs.Routes.{Leads, arcs_of}
use Rattle.fp_base_lists.specs.Ascending.{place_in}
use Rattle.fp_longestarcs.specs.Networks.{TimedNetwork, IsClass, class_count, class_number, points_in}
use Rattle.fp_longestarcs.proofs.NewPoints.{points-of}
use Rattle.fp_allowed.specs.Walks.{FollowsHeads}
use Rattle.fp_allowed.proofs.Heads.{FollowsHeads-earlier}
use Rattle.fp_prices.specs.LeastWalks.{classes_on}
use Rattle.fp_prices.specs.Leaves.{walk_cost}
use Rattle.fp_prices.specs.Points.{AreHeads, class_edge_by, edges_by, first_node, last_node}
use Rattle.fp_prices.proofs.GraphWalks.{AreCosts, costs-count}
use Rattle.fp_prices.proofs.Nodes.{first-point, node-unique}
use Rattle.fp_prices.proofs.PointEdges.{IsHolding, Joins, class-joins, edge-cases, edge-of-class}
use Rattle.fp_prices.proofs.TimedInGraph.{price-first}
use Rattle.fp_prices.proofs.WalkEdges.{classes_on-class, classes_on-holding}

-- a walk of classes is an allowed walk by heads from a terminal and a time on that costs so much
pub record IsTimedFrom (p : Problem) (heads : Leg → ℕ) (allowed : Leg → Bool) (price : Leg → ℕ) (size here ready there cost : ℕ) (walk : List Leg) : Type 0 where
  pub leads : Leads p here (arcs_of walk) there
  pub allowed_all : AllByRecursion (λ c. allowed c ≡ true) walk
  pub follows : FollowsHeads heads ready walk
  pub costs_so : walk_cost p price size walk ≡ cost

-- an open edge of a class is of an allowed one, at its cost
open-allowed : (b : Bool) (n : ℕ) (o : Option ℕ) → o ≡ (if b then Some n else None) → IsSome o → (b ≡ true) × (unwrap_or o 0 ≡ n)
open-allowed b n o is some =
    ⊎_elim
    (λ (yes : b ≡ true). (yes, ap (λ (v : Option ℕ). unwrap_or v 0) (is ∙ cond-true b (Some n) None yes)))
    (λ (no : b ≡ false). absurd (false≢true (subst (λ (v : Option ℕ). IsSome v) (is ∙ cond-false b (Some n) None no) some)))
    (cases_Bool b)

pub timed-walk : (p : Problem) (net : TimedNetwork) (heads : Leg → ℕ) (allowed : Leg → Bool) (price : Leg → ℕ) (size : ℕ) (costs : List (Option ℕ)) → AreCosts p net allowed price size costs → AreHeads p net heads →
    (there : ℕ) → there < length net.points → (walk : List ℕ) (here place : ℕ) → here < length net.points → place < length (points_in net here) →
    LeadsOver (edges_by p net heads) (first_node net here + place) walk (last_node net there) → IsOpen costs walk →
    IsTimedFrom p heads allowed price size here (get_or (points_in net here) place 0) there (edges_cost costs walk) (classes_on net walk)
timed-walk p net heads allowed price size costs are are_heads there ends [] here place exists within leads all =
    let last = first-point (points_in net there) (points-of net there are.whole.valid ends) in
    let same = node-unique net here there place (length (points_in net there) - 1) exists ends within (omega (arith, last.1)) leads in
    record { leads = same.0; allowed_all = tt; follows = tt; costs_so = refl }
timed-walk p net heads allowed price size costs are are_heads there ends (e ∷ walk) here place exists within leads all =
    ⊎_elim
    (class (λ next enters is_there inside goes. timed-walk p net heads allowed price size costs are are_heads there ends walk next enters is_there inside goes all.1))
    (holding (λ next enters is_there inside goes. timed-walk p net heads allowed price size costs are are_heads there ends walk next enters is_there inside goes all.1))
    (edge-cases p net heads e are.whole.valid leads.0)
  where
    Timed : (from ready cost : ℕ) → List Leg → Type 0
    Timed from ready cost = IsTimedFrom p heads allowed price size from ready there cost

    Rest : Type 0
    Rest =
        (next enters : ℕ) → next < length net.points → enters < length (points_in net next) →
        LeadsOver (edges_by p net heads) (first_node net next + enters) walk (last_node net there) → Timed next (get_or (points_in net next) enters 0) (edges_cost costs walk) (classes_on net walk)

    ready : ℕ
    ready = get_or (points_in net here) place 0

    first : edges_cost costs (e ∷ walk) ≡ unwrap_or (cost_of costs e) 0 + edges_cost costs walk
    first = sum_by-cons (λ n. unwrap_or (cost_of costs n) 0) e walk

    class : Rest → ((c : Leg) × IsClass net c × (class_number net c ≡ e)) → Timed here ready (edges_cost costs (e ∷ walk)) (classes_on net (e ∷ walk))
    class again (c, is, number) =
        let joins : Joins p net heads c = class-joins p net heads c are.valid are.whole are_heads is in
        let from : ℕ = (arc_at p c.arc).from in
        let to : ℕ = (arc_at p c.arc).to in
        let leaves : ℕ = place_in (points_in net from) c.depart in
        let enters : ℕ = place_in (points_in net to) (heads c) in
        let more : ℕ = price c + p.scale * (arc_at p c.arc).freight * size in
        let edge : edge_at (edges_by p net heads) e ≡ class_edge_by p net heads c = ap (edge_at (edges_by p net heads)) (sym number) ∙ edge-of-class p net heads c are.whole.valid is in
        let same = node-unique net from here leaves place joins.tail exists joins.leaves within (ap (λ (g : Edge). g.from) (sym edge) ∙ leads.1) in
        let is_open = open-allowed (allowed c) more (cost_of costs e) (ap (cost_of costs) (sym number) ∙ are.holds c is) all.0 in
        let departs : ready ≡ c.depart =
        ap (λ (n : ℕ). get_or (points_in net here) n 0) (sym same.1) ∙ ap (λ (t : ℕ). get_or (points_in net t) leaves 0) (sym same.0) ∙ joins.departs in
        let rest = again to enters joins.head joins.enters (subst (λ (n : ℕ). LeadsOver (edges_by p net heads) n walk (last_node net there)) (ap (λ (g : Edge). g.to) edge) leads.2) in
        subst (Timed here ready (edges_cost costs (e ∷ walk))) (sym (classes_on-class net c e walk are.whole.valid is number))
        (record {
          leads = (joins.exists, same.0, rest.leads);
          allowed_all = (is_open.0, rest.allowed_all);
          follows = (omega (arith, departs), subst (λ (n : ℕ). FollowsHeads heads n (classes_on net walk)) joins.arrives rest.follows);
          costs_so = omega (arith, price-first p price size c (classes_on net walk), rest.costs_so, is_open.1, first);
        })

    holding : Rest → ((class_count net ≤ e) × IsHolding net (edge_at (edges_by p net heads) e)) → Timed here ready (edges_cost costs (e ∷ walk)) (classes_on net (e ∷ walk))
    holding again (late, is) =
        let same = node-unique net is.terminal here is.place place is.exists exists (omega (arith, is.within)) within (ap (λ (g : Edge). g.from) (sym is.is) ∙ leads.1) in
        let later : place + 1 < length (points_in net here) = subst (λ (n : ℕ). n + 1 < length (points_in net here)) same.1 (subst (λ (t : ℕ). is.place + 1 < length (points_in net t)) same.0 is.within) in
        let next : (edge_at (edges_by p net heads) e).to ≡ first_node net here + (place + 1) =
        ap (λ (g : Edge). g.to) is.is ∙ (let n : first_node net is.terminal + is.place + 1 ≡ first_node net here + (place + 1) = omega (arith, same.1, ap (λ (t : ℕ). first_node net t) same.0) in n) in
        let rest = again here (place + 1) exists later (subst (λ (n : ℕ). LeadsOver (edges_by p net heads) n walk (last_node net there)) next leads.2) in
        let before : ready ≤ get_or (points_in net here) (place + 1) 0 =
        omega (arith, (points-of net here are.whole.valid exists).ascending place (place + 1) 0 (omega arith) later) in
        let free : unwrap_or (cost_of costs e) 0 ≡ 0 = ap (λ (o : Option ℕ). unwrap_or o 0) (are.free e late (omega (arith, costs-count p net heads allowed price size costs are, leads.0))) in
        subst (Timed here ready (edges_cost costs (e ∷ walk))) (sym (classes_on-holding net e walk late))
        (record {
          leads = rest.leads;
          allowed_all = rest.allowed_all;
          follows = FollowsHeads-earlier heads heads (λ c. omega arith) ready (get_or (points_in net here) (place + 1) 0) (classes_on net walk) before rest.follows;
          costs_so = omega (arith, rest.costs_so, free, first);
        })
