-- A walk in the graph of a network's points has the edge with a class's number exactly where its classes have the class, so the least cost of a
-- walk that has this edge is that of the allowed walks that have the class.
use Rattle.std.proofs.Common.{◌≡◌, ℕ, suc, ◌<◌, ◌≤◌, Bool, List, [], ◌∷◌, length, ⊎_elim, sym, ap, ◌∙◌, subst, arith}
use Rattle.std.specs.Prelude.{Contains, MatchOption, Option, None, Some, nat_lt}
use Rattle.std.proofs.lemmas.Bool.{cases_lt, cond-false, cond-true, le-ltb, lt-ltb}
use Rattle.fp_base_lists.proofs.Membership.{Contains-cons_cases, Contains-first}
use Rattle.fp_labels.specs.ThroughWalks.{IsLeastThrough}
use Rattle.fp_model.specs.declared.parts.Leg.{Leg}
use Rattle.fp_model.specs.declared.parts.Shipment.{Shipment}
use Rattle.fp_model.specs.Problem.{Problem}
use Rattle.fp_longestarcs.specs.Networks.{IsNetwork, TimedNetwork, class_count, class_number}
use Rattle.fp_allowed.specs.Listing.{class_at}
use Rattle.fp_prices.specs.LeastWalks.{classes_on}
use Rattle.fp_prices.specs.Points.{AreHeads, edges_by, first_node, last_node}
use Rattle.fp_prices.proofs.GraphWalks.{AreCosts}
use Rattle.fp_prices.proofs.LeastOver.{shipment-goes, shipment-timed}
use Rattle.fp_prices.proofs.NumberedClasses.{number-class}
use Rattle.fp_prices_spans.specs.SpanBars.{HasNoWalkThrough, IsLeastCostThrough}

-- a list contains what its rest contains
Contains-rest : {X : Type 0} (y : X) (ys : List X) (x : X) → Contains ys x → Contains (y ∷ ys) x
Contains-rest y ys x (k, lt, is) = (suc k, omega (arith, lt), is)

module _ (net : TimedNetwork) (valid : IsNetwork net) (n : ℕ) (class : n < class_count net) where
  -- the classes of a walk with an edge before it
  with-class : (e : ℕ) (walk : List ℕ) → e < class_count net → classes_on net (e ∷ walk) ≡ class_at net e ∷ classes_on net walk
  with-class e walk h = cond-true (nat_lt e (class_count net)) (class_at net e ∷ classes_on net walk) (classes_on net walk) (lt-ltb e (class_count net) h)

  with-holding : (e : ℕ) (walk : List ℕ) → class_count net ≤ e → classes_on net (e ∷ walk) ≡ classes_on net walk
  with-holding e walk h = cond-false (nat_lt e (class_count net)) (class_at net e ∷ classes_on net walk) (classes_on net walk) (le-ltb e (class_count net) h)

  -- a walk that has the edge has the class
  has-class : (walk : List ℕ) → Contains walk n → Contains (classes_on net walk) (class_at net n)
  has-class [] has = absurd (omega (arith, has.1))
  has-class (e ∷ walk) has =
      ⊎_elim
      (λ (here : e ≡ n).
      subst (λ (l : List Leg). Contains l (class_at net n)) (sym (with-class e walk (omega (arith, here, class))))
      (subst (λ (c : Leg). Contains (c ∷ classes_on net walk) (class_at net n)) (sym (ap (class_at net) here)) (Contains-first (class_at net n) (classes_on net walk))))
      (λ (later : Contains walk n).
      ⊎_elim
      (λ (h : e < class_count net).
      subst (λ (l : List Leg). Contains l (class_at net n)) (sym (with-class e walk h)) (Contains-rest (class_at net e) (classes_on net walk) (class_at net n) (has-class walk later)))
      (λ (h : class_count net ≤ e). subst (λ (l : List Leg). Contains l (class_at net n)) (sym (with-holding e walk h)) (has-class walk later))
      (cases_lt e (class_count net)))
      (Contains-cons_cases e walk n has)

  -- and one that has the class has the edge
  has-edge : (walk : List ℕ) → Contains (classes_on net walk) (class_at net n) → Contains walk n
  has-edge [] has = absurd (omega (arith, has.1))
  has-edge (e ∷ walk) has =
      ⊎_elim
      (λ (h : e < class_count net).
      ⊎_elim
      (λ (here : class_at net e ≡ class_at net n).
      let same : e ≡ n = sym (number-class net e valid h).1 ∙ ap (class_number net) here ∙ (number-class net n valid class).1 in
      subst (λ (m : ℕ). Contains (m ∷ walk) n) (sym same) (Contains-first n walk))
      (λ (later : Contains (classes_on net walk) (class_at net n)). Contains-rest e walk n (has-edge walk later))
      (Contains-cons_cases (class_at net e) (classes_on net walk) (class_at net n) (subst (λ (l : List Leg). Contains l (class_at net n)) (with-class e walk h) has)))
      (λ (h : class_count net ≤ e). Contains-rest e walk n (has-edge walk (subst (λ (l : List Leg). Contains l (class_at net n)) (with-holding e walk h) has)))
      (cases_lt e (class_count net))

-- the least cost of a walk through the edge with a class's number in the graph by heads is that of the allowed walks that have the class
pub least-through : (p : Problem) (net : TimedNetwork) (heads : Leg → ℕ) (allowed : Leg → Bool) (price : Leg → ℕ) (costs : List (Option ℕ)) (s : Shipment) → AreCosts p net allowed price s.size costs →
    AreHeads p net heads → s.from < length net.points → s.to < length net.points → (n : ℕ) → n < class_count net → (o : Option ℕ) →
    IsLeastThrough (edges_by p net heads) costs (first_node net s.from) (last_node net s.to) n o →
    MatchOption o (HasNoWalkThrough p heads allowed s (class_at net n)) (IsLeastCostThrough p heads allowed s price (class_at net n))
least-through p net heads allowed price costs s are are_heads from to n class None none = λ walk is has.
    let goes = shipment-goes p net heads allowed price costs s are are_heads from walk is in
    none goes.0 goes.1.leads goes.1.open_edges (has-edge net are.whole.valid n class goes.0 (subst (λ (l : List Leg). Contains l (class_at net n)) (sym goes.2) has))
least-through p net heads allowed price costs s are are_heads from to n class (Some cost) least =
    let timed = shipment-timed p net heads allowed price costs s are are_heads from to least.walk cost least.goes in
    record {
      walk = classes_on net least.walk;
      is = record { leads = timed.leads; allowed_all = timed.allowed_all; follows = timed.follows };
      has = has-class net are.whole.valid n class least.walk least.through;
      cost = timed.costs_so;
      least = λ other is has.
          let goes = shipment-goes p net heads allowed price costs s are are_heads from other is in
          subst (λ (m : ℕ). cost ≤ m) goes.1.costs_so
          (least.least goes.0 goes.1.leads goes.1.open_edges (has-edge net are.whole.valid n class goes.0 (subst (λ (l : List Leg). Contains l (class_at net n)) (sym goes.2) has)));
    }
