-- The timed nodes that the classes of a walk in the graph of points meet are among those of the walk, so a walk that repeats no
-- node repeats no timed node.
use Rattle.std.proofs.Common.{◌≡◌, ◌≢◌, ℕ, ◌+◌, ◌<◌, ◌≤◌, ◌⊎◌, inl, inr, true, false, List, [], ◌∷◌, length, get_or, ⊎_elim, ap, sym, ◌∙◌, subst, arith}
use Rattle.std.specs.Prelude.{nat_eq}
use Rattle.std.specs.List.{AllByRecursion}
use Rattle.std.proofs.lemmas.Bool.{and_from, and_parts, cases_Bool, cond-true, cond-false, eq-eqb, eqb-true}
use Rattle.fp_labels.specs.declared.graphs.Edge.{Edge}
use Rattle.fp_labels.specs.Graphs.{edge_at}
use Rattle.fp_labels.specs.Walks.{nodes_on, Leads as LeadsOver}
use Rattle.fp_base_lists.specs.Distinct.{AreDistinct}
use Rattle.fp_base_lists.proofs.Distinct.{AreDistinct-cons, AreDistinct-head, AreDistinct-nil, AreDistinct-tail}
use Rattle.fp_base_lists.proofs.Elements.{AllByRecursion-weaker}
use Rattle.fp_model.specs.declared.parts.Leg.{Leg}
use Rattle.fp_model.specs.Problem.{IsValid, Problem, arc_at}
use Rattle.fp_base_lists.specs.Ascending.{place_in}
use Rattle.fp_longestarcs.specs.Classes.{head_of}
use Rattle.fp_longestarcs.specs.Networks.{TimedNetwork, IsClass, class_count, class_number, points_in}
use Rattle.fp_longestarcs.specs.Whole.{IsWholeNetwork}
use Rattle.fp_longestarcs.proofs.NewPoints.{points-of}
use Rattle.fp_base_lists.proofs.Places.{place_in-get_or}
use Rattle.fp_prices.specs.LeastWalks.{classes_on, node_entered, node_left, nodes_met, same_node}
use Rattle.fp_prices.specs.Points.{class_edge, edges_of, first_node, point_node}
use Rattle.fp_prices.proofs.Nodes.{node-unique}
use Rattle.fp_prices.proofs.PointEdges.{IsHolding, Joins, are-heads, class-joins, edge-cases, edge-of-class}
use Rattle.fp_prices.proofs.WalkEdges.{classes_on-class, classes_on-holding}

-- a timed node
abbrev Node : Type 0
Node = ℕ × ℕ

abbrev node_of : ℕ → ℕ → Node
node_of t q = (t, q)

module _ (p : Problem) (points : ℕ → List ℕ) where
  -- a walk from a node where it leaves at once
  met-at : (here : Node) (c : Leg) (walk : List Leg) → same_node here (node_left p c) ≡ true → nodes_met p points here (c ∷ walk) ≡ here ∷ nodes_met p points (node_entered p points c) walk
  met-at here c walk same = cond-true (same_node here (node_left p c)) _ _ same

  -- and from one where it waits
  met-later : (here : Node) (c : Leg) (walk : List Leg) → same_node here (node_left p c) ≡ false →
      nodes_met p points here (c ∷ walk) ≡ here ∷ (node_left p c ∷ nodes_met p points (node_entered p points c) walk)
  met-later here c walk other = cond-false (same_node here (node_left p c)) _ _ other

  -- nodes that are told to be the same are
  same-node : (m n : Node) → same_node m n ≡ true → m ≡ n
  same-node m n same =
      let parts = and_parts _ _ same in
      ap (λ (t : ℕ). node_of t m.1) (eqb-true m.0 n.0 parts.0) ∙ ap (λ (q : ℕ). node_of n.0 q) (eqb-true m.1 n.1 parts.1)

  -- what holds of the nodes met from a later point holds of those met from an earlier one, if it holds there
  all-before : (Q : Node → Type 0) (first next : Node) (walk : List Leg) → Q first → AllByRecursion Q (nodes_met p points next walk) → AllByRecursion Q (nodes_met p points first walk)
  all-before Q first next [] here all = (here, tt)
  all-before Q first next (c ∷ walk) here all =
      ⊎_elim
      (λ (same : same_node next (node_left p c) ≡ true).
      let given = subst (AllByRecursion Q) (met-at next c walk same) all in
      from (subst Q (same-node next (node_left p c) same) given.0) given.1)
      (λ (other : same_node next (node_left p c) ≡ false).
      let given = subst (AllByRecursion Q) (met-later next c walk other) all in
      from given.1.0 given.1.1)
      (cases_Bool (same_node next (node_left p c)))
    where
      from : Q (node_left p c) → AllByRecursion Q (nodes_met p points (node_entered p points c) walk) → AllByRecursion Q (nodes_met p points first (c ∷ walk))
      from left rest =
          ⊎_elim
          (λ (same : same_node first (node_left p c) ≡ true). subst (AllByRecursion Q) (sym (met-at first c walk same)) (here, rest))
          (λ (other : same_node first (node_left p c) ≡ false). subst (AllByRecursion Q) (sym (met-later first c walk other)) (here, (left, rest)))
          (cases_Bool (same_node first (node_left p c)))

  -- nodes met from a later point are distinct, so those met from an earlier one that is none of them are
  distinct-before : (first next : Node) (walk : List Leg) → AllByRecursion (λ n. n ≢ first) (nodes_met p points next walk) → AreDistinct (nodes_met p points next walk) → AreDistinct (nodes_met p points first walk)
  distinct-before first next [] others distinct = AreDistinct-cons first [] tt AreDistinct-nil
  distinct-before first next (c ∷ walk) others distinct =
      ⊎_elim
      (λ (same : same_node next (node_left p c) ≡ true).
      let is : next ≡ node_left p c = same-node next (node_left p c) same in
      let given = subst (AllByRecursion (λ n. n ≢ first)) (met-at next c walk same) others in
      let apart = subst AreDistinct (met-at next c walk same) distinct in
      from (subst (λ (n : Node). n ≢ first) is given.0) given.1
      (subst (λ (n : Node). AllByRecursion (λ m. m ≢ n) (nodes_met p points (node_entered p points c) walk)) is (AreDistinct-head next (nodes_met p points (node_entered p points c) walk) apart))
      (AreDistinct-tail next (nodes_met p points (node_entered p points c) walk) apart))
      (λ (other : same_node next (node_left p c) ≡ false).
      let given = subst (AllByRecursion (λ n. n ≢ first)) (met-later next c walk other) others in
      let apart = AreDistinct-tail next (node_left p c ∷ nodes_met p points (node_entered p points c) walk) (subst AreDistinct (met-later next c walk other) distinct) in
      from given.1.0 given.1.1 (AreDistinct-head (node_left p c) (nodes_met p points (node_entered p points c) walk) apart)
      (AreDistinct-tail (node_left p c) (nodes_met p points (node_entered p points c) walk) apart))
      (cases_Bool (same_node next (node_left p c)))
    where
      from : node_left p c ≢ first → AllByRecursion (λ n. n ≢ first) (nodes_met p points (node_entered p points c) walk) → AllByRecursion (λ n. n ≢ node_left p c) (nodes_met p points (node_entered p points c) walk) →
          AreDistinct (nodes_met p points (node_entered p points c) walk) → AreDistinct (nodes_met p points first (c ∷ walk))
      from left rest own apart =
          ⊎_elim
          (λ (same : same_node first (node_left p c) ≡ true). subst AreDistinct (sym (met-at first c walk same)) (AreDistinct-cons first (nodes_met p points (node_entered p points c) walk) rest apart))
          (λ (other : same_node first (node_left p c) ≡ false).
          subst AreDistinct (sym (met-later first c walk other))
          (AreDistinct-cons first (node_left p c ∷ nodes_met p points (node_entered p points c) walk) (left, rest) (AreDistinct-cons (node_left p c) (nodes_met p points (node_entered p points c) walk) own apart)))
          (cases_Bool (same_node first (node_left p c)))

module _ (p : Problem) (net : TimedNetwork) (valid : IsValid p) (whole : IsWholeNetwork p net) where
  -- the node of a timed node
  abbrev number_of : Node → ℕ
  number_of n = point_node net n.0 n.1

  -- the timed node of a terminal's point
  abbrev point_at : ℕ → ℕ → Node
  point_at t place = (t, get_or (points_in net t) place 0)

  number-at : (t place : ℕ) → t < length net.points → place < length (points_in net t) → number_of (point_at t place) ≡ first_node net t + place
  number-at t place exists within = ap (λ (n : ℕ). first_node net t + n) (place_in-get_or (points_in net t) place 0 (points-of net t whole.valid exists).ascending within)

  -- an edge of a walk from a point is of a class that leaves there, or leads to the next point
  record IsClassEdge (here place e : ℕ) : Type 0 where
    class : Leg
    numbered : class_number net class ≡ e
    is : IsClass net class
    left : same_node (point_at here place) (node_left p class) ≡ true
    next : ℕ
    enters : ℕ
    exists : next < length net.points
    within : enters < length (points_in net next)
    entered : node_entered p (points_in net) class ≡ point_at next enters
    to : (edge_at (edges_of p net) e).to ≡ first_node net next + enters

  record IsHoldingEdge (here place e : ℕ) : Type 0 where
    late : class_count net ≤ e
    within : place + 1 < length (points_in net here)
    to : (edge_at (edges_of p net) e).to ≡ first_node net here + (place + 1)

  edge-view : (here place e : ℕ) → here < length net.points → place < length (points_in net here) → e < length (edges_of p net) → (edge_at (edges_of p net) e).from ≡ first_node net here + place →
      IsClassEdge here place e ⊎ IsHoldingEdge here place e
  edge-view here place e exists within edge from = ⊎_elim class holding (edge-cases p net (head_of p (points_in net)) e whole.valid edge)
    where
      class : ((c : Leg) × IsClass net c × (class_number net c ≡ e)) → IsClassEdge here place e ⊎ IsHoldingEdge here place e
      class (c, is, number) =
          let joins : Joins p net (head_of p (points_in net)) c = class-joins p net (head_of p (points_in net)) c valid whole (are-heads p net valid whole) is in
          let tail : ℕ = (arc_at p c.arc).from in
          let head : ℕ = (arc_at p c.arc).to in
          let leaves : ℕ = place_in (points_in net tail) c.depart in
          let shape : edge_at (edges_of p net) e ≡ class_edge p net c = ap (edge_at (edges_of p net)) (sym number) ∙ edge-of-class p net (head_of p (points_in net)) c whole.valid is in
          let same = node-unique net tail here leaves place joins.tail exists joins.leaves within (ap (λ (g : Edge). g.from) (sym shape) ∙ from) in
          let departs : get_or (points_in net here) place 0 ≡ c.depart =
          ap (λ (n : ℕ). get_or (points_in net here) n 0) (sym same.1) ∙ ap (λ (t : ℕ). get_or (points_in net t) leaves 0) (sym same.0) ∙ joins.departs in
          inl (record {
            class = c;
            numbered = number;
            is = is;
            left = and_from (nat_eq here tail) (nat_eq (get_or (points_in net here) place 0) c.depart) (eq-eqb here tail (sym same.0)) (eq-eqb (get_or (points_in net here) place 0) c.depart departs);
            next = head;
            enters = place_in (points_in net head) (head_of p (points_in net) c);
            exists = joins.head;
            within = joins.enters;
            entered = ap (node_of head) (sym joins.arrives);
            to = ap (λ (g : Edge). g.to) shape;
          })

      holding : ((class_count net ≤ e) × IsHolding net (edge_at (edges_of p net) e)) → IsClassEdge here place e ⊎ IsHoldingEdge here place e
      holding (late, is) =
          let same = node-unique net is.terminal here is.place place is.exists exists (omega (arith, is.within)) within (ap (λ (g : Edge). g.from) (sym is.is) ∙ from) in
          inr (record {
            late = late;
            within = subst (λ (n : ℕ). n + 1 < length (points_in net here)) same.1 (subst (λ (t : ℕ). is.place + 1 < length (points_in net t)) same.0 is.within);
            to = ap (λ (g : Edge). g.to) is.is ∙ (let n : first_node net is.terminal + is.place + 1 ≡ first_node net here + (place + 1) = omega (arith, same.1, ap (λ (t : ℕ). first_node net t) same.0) in n);
          })

  -- the nodes met from a point by a walk's classes
  abbrev met_from : ℕ → ℕ → List ℕ → List Node
  met_from here place walk = nodes_met p (points_in net) (point_at here place) (classes_on net walk)

  -- those over a class's edge
  met-class : (here place e : ℕ) (walk : List ℕ) (edge : IsClassEdge here place e) → met_from here place (e ∷ walk) ≡ point_at here place ∷ met_from edge.next edge.enters walk
  met-class here place e walk edge =
      ap (nodes_met p (points_in net) (point_at here place)) (classes_on-class net edge.class e walk whole.valid edge.is edge.numbered) ∙
      met-at p (points_in net) (point_at here place) edge.class (classes_on net walk) edge.left ∙
      ap (λ (n : Node). point_at here place ∷ nodes_met p (points_in net) n (classes_on net walk)) edge.entered

  -- what holds of the nodes of a walk holds of the nodes that its classes meet
  all-met : (P : ℕ → Type 0) (there : ℕ) (walk : List ℕ) (here place : ℕ) → here < length net.points → place < length (points_in net here) →
      LeadsOver (edges_of p net) (first_node net here + place) walk there → AllByRecursion P (nodes_on (edges_of p net) (first_node net here + place) walk) →
      AllByRecursion (λ n. P (number_of n)) (met_from here place walk)
  all-met P there [] here place exists within leads all = (subst P (sym (number-at here place exists within)) all.0, tt)
  all-met P there (e ∷ walk) here place exists within leads all =
      let first : P (number_of (point_at here place)) = subst P (sym (number-at here place exists within)) all.0 in
      ⊎_elim
      (λ (edge : IsClassEdge here place e).
      subst (AllByRecursion (λ n. P (number_of n))) (sym (met-class here place e walk edge)) (
        first,
        all-met P there walk edge.next edge.enters edge.exists edge.within (subst (λ (n : ℕ). LeadsOver (edges_of p net) n walk there) edge.to leads.2)
            (subst (λ (n : ℕ). AllByRecursion P (nodes_on (edges_of p net) n walk)) edge.to all.1),
      ))
      (λ (edge : IsHoldingEdge here place e).
      subst (λ (legs : List Leg). AllByRecursion (λ n. P (number_of n)) (nodes_met p (points_in net) (point_at here place) legs)) (sym (classes_on-holding net e walk edge.late))
      (all-before p (points_in net) (λ n. P (number_of n)) (point_at here place) (point_at here (place + 1)) (classes_on net walk) first
      (all-met P there walk here (place + 1) exists edge.within (subst (λ (n : ℕ). LeadsOver (edges_of p net) n walk there) edge.to leads.2)
      (subst (λ (n : ℕ). AllByRecursion P (nodes_on (edges_of p net) n walk)) edge.to all.1))))
      (edge-view here place e exists within leads.0 leads.1)

  -- a walk that repeats no node meets no timed node twice
  pub distinct-met : (there : ℕ) (walk : List ℕ) (here place : ℕ) → here < length net.points → place < length (points_in net here) →
      LeadsOver (edges_of p net) (first_node net here + place) walk there → AreDistinct (nodes_on (edges_of p net) (first_node net here + place) walk) →
      AreDistinct (nodes_met p (points_in net) (here, get_or (points_in net here) place 0) (classes_on net walk))
  distinct-met there [] here place exists within leads apart = AreDistinct-cons (point_at here place) [] tt AreDistinct-nil
  distinct-met there (e ∷ walk) here place exists within leads apart =
      let node : ℕ = first_node net here + place in
      let later : List ℕ = nodes_on (edges_of p net) (edge_at (edges_of p net) e).to walk in
      let own : AllByRecursion (λ n. n ≢ node) later = AreDistinct-head node later apart in
      let rest : AreDistinct later = AreDistinct-tail node later apart in
      ⊎_elim
      (λ (edge : IsClassEdge here place e).
      let onward = subst (λ (n : ℕ). LeadsOver (edges_of p net) n walk there) edge.to leads.2 in
      subst AreDistinct (sym (met-class here place e walk edge))
      (AreDistinct-cons (point_at here place) (met_from edge.next edge.enters walk)
      (others (met_from edge.next edge.enters walk)
      (all-met IsOther there walk edge.next edge.enters edge.exists edge.within onward (subst (λ (n : ℕ). AllByRecursion IsOther (nodes_on (edges_of p net) n walk)) edge.to own)))
      (distinct-met there walk edge.next edge.enters edge.exists edge.within onward (subst (λ (n : ℕ). AreDistinct (nodes_on (edges_of p net) n walk)) edge.to rest))))
      (λ (edge : IsHoldingEdge here place e).
      let onward = subst (λ (n : ℕ). LeadsOver (edges_of p net) n walk there) edge.to leads.2 in
      subst (λ (legs : List Leg). AreDistinct (nodes_met p (points_in net) (point_at here place) legs)) (sym (classes_on-holding net e walk edge.late))
      (distinct-before p (points_in net) (point_at here place) (point_at here (place + 1)) (classes_on net walk)
      (others (met_from here (place + 1) walk)
      (all-met IsOther there walk here (place + 1) exists edge.within onward (subst (λ (n : ℕ). AllByRecursion IsOther (nodes_on (edges_of p net) n walk)) edge.to own)))
      (distinct-met there walk here (place + 1) exists edge.within onward (subst (λ (n : ℕ). AreDistinct (nodes_on (edges_of p net) n walk)) edge.to rest))))
      (edge-view here place e exists within leads.0 leads.1)
    where
      IsOther : ℕ → Type 0
      IsOther n = n ≢ first_node net here + place

      others : (nodes : List Node) → AllByRecursion (λ n. IsOther (number_of n)) nodes → AllByRecursion (λ n. n ≢ point_at here place) nodes
      others nodes all = AllByRecursion-weaker (λ (n : Node). IsOther (number_of n)) (λ n. n ≢ point_at here place) (λ n other same. other (ap number_of same ∙ number-at here place exists within)) nodes all
