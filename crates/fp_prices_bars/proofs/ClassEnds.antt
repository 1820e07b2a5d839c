-- Where the moments of a point end, and which departures a run of one class bars.
use Rattle.std.proofs.Common.{◌≡◌, ℕ, ◌<◌, ◌≤◌, true, ◌&&◌, List, length, get_or, ⊎_elim, sym, ap, ◌∙◌, subst, arith}
use Rattle.std.specs.Prelude.{nat_eq, nat_le, nat_lt, not}
use Rattle.std.proofs.lemmas.Bool.{and_from, and_parts, cases_lt, eq-eqb, eqb-true, le-leb, leb-true, lt-ltb, ltb-true}
use Rattle.fp_base_lists.specs.Ascending.{IsCut}
use Rattle.fp_base_lists.specs.Membership.{list_has}
use Rattle.fp_base_lists.proofs.Membership.{StandsAt, StandsAt-from_list_has, list_has-get_or}
use Rattle.fp_base_lists.proofs.Truth.{Bool-from_both}
use Rattle.fp_model.specs.declared.parts.Leg.{Leg}
use Rattle.fp_model.specs.Problem.{Problem, arc_at}
use Rattle.fp_timenodes.specs.Floor.{floor_point}
use Rattle.fp_timenodes.proofs.Floors.{IsFloorPoint-floor_point, floor_is}
use Rattle.fp_longestarcs.specs.Ascending.{ArePoints}
use Rattle.fp_longestarcs.specs.Classes.{class_of}
use Rattle.fp_longestarcs.specs.Networks.{IsClass, TimedNetwork, class_number, points_in}
use Rattle.fp_longestarcs.specs.Whole.{IsWholeNetwork}
use Rattle.fp_longestarcs.proofs.ClassNumbers.{class-of-arc, class-unique, tail-points}
use Rattle.fp_longestarcs.proofs.HeadLists.{arc-count, tail-of}
use Rattle.fp_tree.specs.declared.sides.Side.TheVariants.{Outside}
use Rattle.fp_allowed.specs.Allowed.{exit_of, meets}
use Rattle.fp_prices_bars.specs.BarRuns.{EndsClass}

module _ (qs : List ℕ) (are : ArePoints qs) (point cut : ℕ) (there : list_has qs point ≡ true) (is : IsCut qs point cut) where
  -- a point that isn't after a moment is at most this one, if the moment is before the end
  until-point : (end moment q : ℕ) → (cut < length qs → end ≡ get_or qs cut 0) → moment < end → list_has qs q ≡ true → q ≤ moment → q ≤ point
  until-point end moment q next before has early =
      let w : StandsAt qs q = StandsAt-from_list_has qs q has in
      ⊎_elim
      (λ (below : w.place < cut). omega (arith, is.until w.place 0 below, w.is 0))
      (λ (from : cut ≤ w.place).
      let inside : cut < length qs = omega (arith, from, w.within) in
      ⊎_elim
      (λ (more : cut < w.place). absurd (omega (arith, are.ascending cut w.place 0 more w.within, w.is 0, next inside, before, early)))
      (λ (last : w.place ≤ cut).
      let e : w.place ≡ cut = omega (arith, last, from) in
      absurd (omega (arith, ap (λ (i : ℕ). get_or qs i 0) e, w.is 0, next inside, before, early)))
      (cases_lt cut w.place))
      (cases_lt w.place cut)

  -- the moments end at the next point, or with time
  ends : (end : ℕ) → point < end → end ≤ 100001 → (cut < length qs → end ≡ get_or qs cut 0) → ((moment : ℕ) → moment ≤ 100000 → floor_point qs 1 moment ≡ point → moment < end) → EndsClass qs point end
  ends end later in_time next before = record {
    later = later;
    in_time = omega (arith, in_time);
    exact = λ moment small. (
      λ same. (omega (arith, same, (IsFloorPoint-floor_point qs moment are.zero).1), before moment (omega (arith, small)) same),
      λ within. floor_is qs 1 moment point there (omega (arith, within.0)) (λ q has le. until-point end moment q next within.1 has (omega (arith, le))),
    );
  }

  pub ends-at_next : (end : ℕ) → cut < length qs → end ≡ get_or qs cut 0 → EndsClass qs point end
  ends-at_next end inside next =
      ends end (omega (arith, next, is.after cut 0 (omega arith) inside)) (omega (arith, next, are.in_time cut 0 inside)) (λ _. next)
      (λ moment small same.
      ⊎_elim
      (λ (before : moment < end). before)
      (λ (late : end ≤ moment).
      let has : list_has qs end ≡ true = subst (λ (n : ℕ). list_has qs n ≡ true) (sym next) (list_has-get_or qs cut 0 inside) in
      absurd (omega (arith, (IsFloorPoint-floor_point qs moment are.zero).2 end has late, same, next, is.after cut 0 (omega arith) inside)))
      (cases_lt moment end))

  pub ends-with_time : length qs ≤ cut → EndsClass qs point 100001
  ends-with_time past =
      let w : StandsAt qs point = StandsAt-from_list_has qs point there in
      ends 100001 (omega (arith, are.in_time w.place 0 w.within, w.is 0)) (omega arith) (λ inside. absurd (omega (arith, inside, past))) (λ moment small same. omega (arith, small))

module _ (p : Problem) (net : TimedNetwork) (whole : IsWholeNetwork p net) where
  -- the class of a moment is one of the network
  pub moment-class : (l : Leg) → l.arc < length p.arcs → IsClass net (class_of p (points_in net) 1 l)
  moment-class l exists =
      let inside : l.arc < length net.tails = omega (arith, exists, arc-count p net whole.arcs) in
      let are : ArePoints (points_in net (arc_at p l.arc).from) =
      subst (λ (t : ℕ). ArePoints (points_in net t)) (tail-of p net l.arc whole.arcs exists) (tail-points net l.arc whole.valid inside) in
      class-of-arc p net l.arc (floor_point (points_in net (arc_at p l.arc).from) 1 l.depart) whole.arcs exists (IsFloorPoint-floor_point (points_in net (arc_at p l.arc).from) l.depart are.zero).0

  module _ (arc point end : ℕ) (is : IsClass net (record { arc = arc; depart = point })) (ends : EndsClass (points_in net (arc_at p arc).from) point end) (l : Leg) (exists : l.arc < length p.arcs) (small : l.depart ≤ 100000) where
    abbrev class : Leg
    class = record { arc = arc; depart = point }

    -- a departure by the arc from the point on and before the end is one of the class
    of-class : l.arc ≡ arc → point ≤ l.depart → l.depart < end → class_number net (class_of p (points_in net) 1 l) ≡ class_number net class
    of-class same from before =
        let floor : floor_point (points_in net (arc_at p arc).from) 1 l.depart ≡ point = (ends.exact l.depart (omega (arith, small))).1 (from, before) in
        let leg : ℕ → ℕ → Leg = λ a q. record { arc = a; depart = q } in
        ap (class_number net) (ap (λ (a : ℕ). leg a (floor_point (points_in net (arc_at p a).from) 1 l.depart)) same ∙ ap (λ (q : ℕ). leg arc q) floor)

    -- and one of the class is such a departure
    of-run : class_number net (class_of p (points_in net) 1 l) ≡ class_number net class → (l.arc ≡ arc) × (point ≤ l.depart) × (l.depart < end)
    of-run number =
        let same : class_of p (points_in net) 1 l ≡ class = class-unique net (class_of p (points_in net) 1 l) class whole.valid (moment-class l exists) is number in
        let by : l.arc ≡ arc = ap (λ (c : Leg). c.arc) same in
        let floor : floor_point (points_in net (arc_at p arc).from) 1 l.depart ≡ point =
        ap (λ (a : ℕ). floor_point (points_in net (arc_at p a).from) 1 l.depart) (sym by) ∙ ap (λ (c : Leg). c.depart) same in
        let run = (ends.exact l.depart (omega (arith, small))).0 floor in
        (by, run.0, run.1)

    -- so the run of a class bars exactly the departures of the class
    pub run-bars : (k shipment n : ℕ) → class_number net class ≡ n →
        meets k (exit_of p l) (Outside shipment arc point end) ≡ not (nat_eq k shipment && nat_eq (class_number net (class_of p (points_in net) 1 l)) n)
    run-bars k shipment n number =
        ap not
        (Bool-from_both (nat_eq k shipment && nat_eq l.arc arc && nat_le point l.depart && nat_lt l.depart end) (nat_eq k shipment && nat_eq (class_number net (class_of p (points_in net) 1 l)) n)
        (λ run.
        let all = and_parts (nat_eq k shipment && nat_eq l.arc arc && nat_le point l.depart) (nat_lt l.depart end) run in
        let two = and_parts (nat_eq k shipment && nat_eq l.arc arc) (nat_le point l.depart) all.0 in
        let one = and_parts (nat_eq k shipment) (nat_eq l.arc arc) two.0 in
        and_from (nat_eq k shipment) (nat_eq (class_number net (class_of p (points_in net) 1 l)) n) one.0
        (eq-eqb (class_number net (class_of p (points_in net) 1 l)) n (of-class (eqb-true l.arc arc one.1) (leb-true point l.depart two.1) (ltb-true l.depart end all.1) ∙ number)))
        (λ both.
        let parts = and_parts (nat_eq k shipment) (nat_eq (class_number net (class_of p (points_in net) 1 l)) n) both in
        let run = of-run (eqb-true (class_number net (class_of p (points_in net) 1 l)) n parts.1 ∙ sym number) in
        and_from (nat_eq k shipment && nat_eq l.arc arc && nat_le point l.depart) (nat_lt l.depart end)
        (and_from (nat_eq k shipment && nat_eq l.arc arc) (nat_le point l.depart) (and_from (nat_eq k shipment) (nat_eq l.arc arc) parts.0 (eq-eqb l.arc arc run.0)) (le-leb point l.depart run.1))
        (lt-ltb l.depart end run.2)))
