-- A list of classes that a shipment can go by one after the other is an allowed timed walk, and each allowed timed walk is one.
use Rattle.std.proofs.Common.{◌≡◌, ℕ, ◌+◌, ◌-◌, ◌*◌, ◌<◌, ◌≤◌, true, false, Bool, List, [], ◌∷◌, length, ⊎_elim, ap, sym, ◌∙◌, subst, refl, arith}
use Rattle.std.specs.Prelude.{◌&&◌, ◌↔◌, Option, Some, None, nat_eq, nat_le, nat_lt, if◌then◌else◌}
use Rattle.std.specs.List.{AllByRecursion}
use Rattle.std.specs.Option.{option_and_then}
use Rattle.std.proofs.lemmas.Bool.{and_from, and_parts, cases_Bool, cond-true, cond-false, eq-eqb, eqb-true, false≢true, le-leb, leb-true, lt-ltb, ltb-true}
use Rattle.std.proofs.lemmas.List.Sums.{sum_by-cons}
use Rattle.std.proofs.lemmas.Option.{cond_some, none-some}
use Rattle.fp_base_lists.specs.Membership.{list_has}
use Rattle.fp_labels.specs.Walks.{cost_of}
use Rattle.fp_model.specs.declared.parts.Leg.{Leg}
use Rattle.fp_model.specs.declared.parts.Shipment.{Shipment}
use Rattle.fp_model.specs.Problem.{Problem, arc_at}
use Rattle.fp_model.specs.Routes.{Leads, arcs_of}
use Rattle.fp_longestarcs.specs.Classes.{head_of}
use Rattle.fp_longestarcs.specs.Networks.{IsClass, TimedNetwork, class_number, points_in, tail_in}
use Rattle.fp_longestarcs.specs.Whole.{IsWholeNetwork}
use Rattle.fp_allowed.specs.Walks.{IsTimedWalk}
use Rattle.fp_prices.specs.declared.graphs.timed_walks.Progress.{Progress}
use Rattle.fp_prices.specs.ClassCosts.{AllowsClasses, HoldsClassCosts}
use Rattle.fp_prices.specs.Leaves.{walk_cost}
use Rattle.fp_prices.specs.TimedWalks.{after_class, can_take, open_cost, taken}
use Rattle.fp_prices.proofs.GraphTimed.{IsTimedFrom}
use Rattle.fp_prices.proofs.PricedClasses.{class-exists}
use Rattle.fp_base_lists.proofs.Truth.{option-cases}

-- what is told of how far it comes, and false where it comes no further
abbrev goes_by : (Progress → Bool) → Option Progress → Bool
goes_by test None = false
goes_by test (Some next) = test next

-- whether a shipment can go by all these classes to a terminal, at exactly the cost that is left
abbrev pub goes_on : Problem → TimedNetwork → List (Option ℕ) → ℕ → List Leg → Progress → Bool
goes_on p net costs there [] progress = nat_eq progress.terminal there && nat_eq progress.rest 0
goes_on p net costs there (c ∷ walk) progress = goes_by (goes_on p net costs there walk) (after_class p net costs progress c)

-- a shipment at its origin, with a cost
abbrev pub at_origin : Shipment → ℕ → Progress
at_origin s cost = record { terminal = s.from; ready = 0; rest = cost }

module _ (p : Problem) (net : TimedNetwork) (costs : List (Option ℕ)) (there : ℕ) where
  pub goes-none : (c : Leg) (walk : List Leg) (progress : Progress) → after_class p net costs progress c ≡ None → goes_on p net costs there (c ∷ walk) progress ≡ false
  goes-none c walk progress is = ap (goes_by (goes_on p net costs there walk)) is

  pub goes-some : (c : Leg) (walk : List Leg) (progress next : Progress) → after_class p net costs progress c ≡ Some next → goes_on p net costs there (c ∷ walk) progress ≡ goes_on p net costs there walk next
  goes-some c walk progress next is = ap (goes_by (goes_on p net costs there walk)) is

  -- an open class is one of the network, with its cost
  open-class : (c : Leg) (cost : ℕ) → open_cost net costs c ≡ Some cost → IsClass net c × (cost_of costs (class_number net c) ≡ Some cost)
  open-class c cost is =
      ⊎_elim
      (λ (yes : is_class ≡ true).
      let parts = and_parts (nat_lt c.arc (length net.tails)) (list_has (points_in net (tail_in net c.arc)) c.depart) yes in
      ((within parts.0, parts.1), sym (cond-true is_class (cost_of costs (class_number net c)) None yes) ∙ is))
      (λ (no : is_class ≡ false). absurd (none-some cost (sym (cond-false is_class (cost_of costs (class_number net c)) None no) ∙ is)))
      (cases_Bool is_class)
    where
      is_class : Bool
      is_class = nat_lt c.arc (length net.tails) && list_has (points_in net (tail_in net c.arc)) c.depart

      within : nat_lt c.arc (length net.tails) ≡ true → c.arc < length net.tails
      within h = ltb-true c.arc (length net.tails) h

  class-open : (c : Leg) → IsClass net c → open_cost net costs c ≡ cost_of costs (class_number net c)
  class-open c is = cond-true _ (cost_of costs (class_number net c)) None (and_from _ _ (lt-ltb c.arc (length net.tails) is.0) is.1)

  -- what is known of a class that it takes
  record Takes (progress : Progress) (c : Leg) (next : Progress) : Type 0 where
    cost : ℕ
    open_so : open_cost net costs c ≡ Some cost
    leaves : (arc_at p c.arc).from ≡ progress.terminal
    ready : progress.ready ≤ c.depart
    enough : cost ≤ progress.rest
    next_is : next ≡ taken p net progress c cost

  takes : (progress : Progress) (c : Leg) (next : Progress) → after_class p net costs progress c ≡ Some next → Takes progress c next
  takes progress c next is = from (open_cost net costs c) refl is
    where
      from : (o : Option ℕ) → open_cost net costs c ≡ o → option_and_then (λ cost. if can_take p progress c cost then Some (taken p net progress c cost) else None) o ≡ Some next → Takes progress c next
      from None open_so h = absurd (none-some next h)
      from (Some cost) open_so h =
          let told = cond_some (can_take p progress c cost) (taken p net progress c cost) next h in
          let first = and_parts (nat_eq (arc_at p c.arc).from progress.terminal) (nat_le progress.ready c.depart && nat_le cost progress.rest) told.0 in
          let second = and_parts (nat_le progress.ready c.depart) (nat_le cost progress.rest) first.1 in
          record {
            cost = cost;
            open_so = open_so;
            leaves = eqb-true (arc_at p c.arc).from progress.terminal first.0;
            ready = leb-true progress.ready c.depart second.0;
            enough = leb-true cost progress.rest second.1;
            next_is = sym told.1;
          }

  -- a class that leaves where the shipment stands, in time and within what is left, is taken
  takes-so : (progress : Progress) (c : Leg) (cost : ℕ) → open_cost net costs c ≡ Some cost → (arc_at p c.arc).from ≡ progress.terminal → progress.ready ≤ c.depart → cost ≤ progress.rest →
      after_class p net costs progress c ≡ Some (taken p net progress c cost)
  takes-so progress c cost open_so leaves ready enough =
      ap (option_and_then (λ n. if can_take p progress c n then Some (taken p net progress c n) else None)) open_so
      ∙ cond-true (can_take p progress c cost) (Some (taken p net progress c cost)) None
      (and_from _ _ (eq-eqb (arc_at p c.arc).from progress.terminal leaves) (and_from _ _ (le-leb progress.ready c.depart ready) (le-leb cost progress.rest enough)))

  -- the classes that it goes by are the network's
  pub goes-classes : (walk : List Leg) (progress : Progress) → goes_on p net costs there walk progress ≡ true → AllByRecursion (IsClass net) walk
  goes-classes [] progress all = tt
  goes-classes (c ∷ walk) progress all =
      ⊎_elim
      (λ (none : after_class p net costs progress c ≡ None). absurd (false≢true (sym (goes-none c walk progress none) ∙ all)))
      (λ (some : (next : Progress) × (after_class p net costs progress c ≡ Some next)).
      let by = takes progress c some.0 some.1 in
      ((open-class c by.cost by.open_so).0, goes-classes walk some.0 (sym (goes-some c walk progress some.0 some.1) ∙ all)))
      (option-cases (after_class p net costs progress c))

  module _ (allowed : Leg → Bool) (price : Leg → ℕ) (size : ℕ) (whole : IsWholeNetwork p net) (classes : AllowsClasses net allowed) (holds : HoldsClassCosts p net allowed price size costs) where
    abbrev cost_by : Leg → ℕ
    cost_by c = price c + p.scale * (arc_at p c.arc).freight * size

    allowed-open : (c : Leg) → allowed c ≡ true → open_cost net costs c ≡ Some (cost_by c)
    allowed-open c is = class-open c (classes c is) ∙ holds c (classes c is) ∙ cond-true (allowed c) (Some (cost_by c)) None is

    open-allowed : (c : Leg) (cost : ℕ) → open_cost net costs c ≡ Some cost → (allowed c ≡ true) × (cost_by c ≡ cost)
    open-allowed c cost is =
        let told = open-class c cost is in
        cond_some (allowed c) (cost_by c) cost (sym (holds c told.0) ∙ told.1)

    -- to go by them all is to go by an allowed timed walk at this cost
    pub goes-timed : (walk : List Leg) (progress : Progress) → goes_on p net costs there walk progress ≡ true →
        IsTimedFrom p (head_of p (points_in net)) allowed price size progress.terminal progress.ready there progress.rest walk
    goes-timed [] progress all =
        let parts = and_parts (nat_eq progress.terminal there) (nat_eq progress.rest 0) all in
        record { leads = eqb-true progress.terminal there parts.0; allowed_all = tt; follows = tt; costs_so = sym (eqb-true progress.rest 0 parts.1) }
    goes-timed (c ∷ walk) progress all =
        ⊎_elim
        (λ (none : after_class p net costs progress c ≡ None). absurd (false≢true (sym (goes-none c walk progress none) ∙ all)))
        (λ (some : (next : Progress) × (after_class p net costs progress c ≡ Some next)).
        let by = takes progress c some.0 some.1 in
        let is = open-allowed c by.cost by.open_so in
        let rest : IsTimedFrom p (head_of p (points_in net)) allowed price size (arc_at p c.arc).to (head_of p (points_in net) c) there (progress.rest - by.cost) walk =
        subst (λ (next : Progress). IsTimedFrom p (head_of p (points_in net)) allowed price size next.terminal next.ready there next.rest walk) by.next_is
        (goes-timed walk some.0 (sym (goes-some c walk progress some.0 some.1) ∙ all)) in
        record {
          leads = (class-exists p net c whole (classes c is.0), by.leaves, rest.leads);
          allowed_all = (is.0, rest.allowed_all);
          follows = (by.ready, rest.follows);
          costs_so = sum_by-cons cost_by c walk ∙ (let e : cost_by c + walk_cost p price size walk ≡ progress.rest = omega (arith, is.1, rest.costs_so, by.enough) in e);
        })
        (option-cases (after_class p net costs progress c))

    pub timed-goes : (walk : List Leg) (progress : Progress) → IsTimedFrom p (head_of p (points_in net)) allowed price size progress.terminal progress.ready there progress.rest walk → goes_on p net costs there walk progress ≡ true
    timed-goes [] progress timed = and_from _ _ (eq-eqb progress.terminal there timed.leads) (eq-eqb progress.rest 0 (sym timed.costs_so))
    timed-goes (c ∷ walk) progress timed =
        let cost : cost_by c + walk_cost p price size walk ≡ progress.rest = sym (sum_by-cons cost_by c walk) ∙ timed.costs_so in
        let after = takes-so progress c (cost_by c) (allowed-open c timed.allowed_all.0) timed.leads.1 timed.follows.0 (omega (arith, cost)) in
        goes-some c walk progress (taken p net progress c (cost_by c)) after
        ∙ timed-goes walk (taken p net progress c (cost_by c)) (record { leads = timed.leads.2; allowed_all = timed.allowed_all.1; follows = timed.follows.1; costs_so = omega (arith, cost) })

    -- so it is from the origin on
    pub goes-walk : (s : Shipment) → s.to ≡ there → s.size ≡ size → (walk : List Leg) (cost : ℕ) (b : Bool) → b ≡ goes_on p net costs there walk (at_origin s cost) →
        (b ≡ true) ↔ (IsTimedWalk p (points_in net) allowed s walk × (walk_cost p price size walk ≡ cost))
    goes-walk s to same walk cost b is = (
      λ told.
          let timed = goes-timed walk (at_origin s cost) (sym is ∙ told) in
          (record { leads = subst (λ (t : ℕ). Leads p s.from (arcs_of walk) t) (sym to) timed.leads; allowed_all = timed.allowed_all; follows = timed.follows }, timed.costs_so),
      λ both.
          is ∙ timed-goes walk (at_origin s cost)
          (record { leads = subst (λ (t : ℕ). Leads p s.from (arcs_of walk) t) to both.0.leads; allowed_all = both.0.allowed_all; follows = both.0.follows; costs_so = both.1 }),
    )
