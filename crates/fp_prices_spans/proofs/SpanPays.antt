-- What shipments pay by a span is within its money for the trucks of the departures at whose classes it counts, and its charge. The
-- departures are counted group by group: in each run of the span's moments only shipments leave that can leave in it. A span by which some pay is charged, so only such spans need
-- keep the set rule.
use Rattle.std.proofs.Common.{◌≡◌, ℕ, ◌+◌, ◌*◌, ◌/◌, ◌<◌, ◌≤◌, Bool, true, false, cond, List, [], ◌∷◌, length, Option, ⊎_elim, refl, sym, ap, ◌∙◌, subst, arith}
use Rattle.std.specs.Prelude.{sum_by, ◌&&◌, not, if◌then◌else◌}
use Rattle.std.specs.List.{AllByRecursion, AllZip, list_any}
use Rattle.std.proofs.Math.Nat.{mul-le-mul_left}
use Rattle.std.proofs.lemmas.Bool.{and_parts, cond-false, false_from_ne_true, false≢true, not-true, or_cases}
use Rattle.std.proofs.lemmas.List.Elements.{All-get_or}
use Rattle.std.proofs.lemmas.List.Sums.{sum_by-cons}
use Rattle.fp_base_lists.proofs.Elements.{AllByRecursion-weaker}
use Rattle.fp_base_lists.proofs.Sums.{sum_by-both, sum_by-same, sum_by-same_each}
use Rattle.fp_model.specs.declared.parts.Leg.{Leg}
use Rattle.fp_model.specs.Costs.{all_legs, distinct, has_leg, trucks}
use Rattle.fp_model.specs.Problem.{IsArc, IsValid, Problem, arc_at, no_arc}
use Rattle.fp_model.proofs.Distinct.{distinct_sum}
use Rattle.fp_flatnet.specs.declared.window_tables.Window.{Window}
use Rattle.fp_flatnet.specs.Windows.{PlanLiesWithinWhole}
use Rattle.fp_longestarcs.specs.Classes.{class_of}
use Rattle.fp_prices.specs.Prices.{weight_in}
use Rattle.fp_prices.proofs.TakenByClasses.{paid}
use Rattle.fp_prices_spans.specs.declared.rules.moment_runs.MomentRun.{MomentRun}
use Rattle.fp_prices_spans.specs.MomentRuns.{AreAmong, can_leave, group_weights, lies_in, runs_of}
use Rattle.fp_prices_spans.specs.Spans.{ClassSpan}
use Rattle.fp_prices_spans.specs.SpanPrices.{holds}
use Rattle.fp_prices_spans.specs.SpanRules.{KeepWithin, KeepsSetRule, trucks_for}
use Rattle.fp_prices_spans.specs.SpanLeaves.{ChargedKeepSetRule, IsCharged, IsChargeOf}
use Rattle.fp_prices_spans.proofs.CountedParts.{counts}
use Rattle.fp_prices_spans.proofs.DepartureTrucks.{AreBy, ArePlanRoutes, one-each, tested_trucks, trucks-hold}
use Rattle.fp_prices_spans.proofs.GroupUsers.{LieIn, users-leave}
use Rattle.fp_prices_spans.proofs.MoneySums.{holds-true}
use Rattle.fp_prices_spans.proofs.PaidSums.{paid-both, paid-same, paid-zero}
use Rattle.fp_prices_spans.proofs.PassingUsers.{HasUser, first-user, paid-users, users_by, users_by-apart}
use Rattle.fp_prices_spans.proofs.SpanMoments.{departure-covered}
use Rattle.fp_prices_spans.proofs.WeightSets.{set-fits, weight-of_passing}

-- what shipments pay by a span for the departures that pass a test
abbrev pub pays_for : ClassSpan → (Leg → Bool) → Leg → ℕ → ℕ
pays_for span test l k = if test l then weight_in span.weights k else 0

-- a number is taken by those that pass another test, and by those that don't
two_parts : (a b : Bool) (n : ℕ) → cond a n 0 ≡ cond (a && b) n 0 + cond (a && not b) n 0
two_parts true true n = omega arith
two_parts true false n = omega arith
two_parts false b n = refl

module _ (p : Problem) (allowed : ℕ → Leg → Bool) (windows : ℕ → ℕ → Option Window) (d : ℕ) (routes : List (List Leg)) (are : ArePlanRoutes p allowed routes)
    (within : PlanLiesWithinWhole windows d routes) (span : ClassSpan) where
  -- the money for the trucks of the departures that pass a test
  abbrev pub money_for : (Leg → Bool) → ℕ
  money_for test = span.money * distinct_sum (tested_trucks p routes test) (all_legs routes)

  -- those of departures in one run
  run-pays : (run : MomentRun) (part : ℕ) (test : Leg → Bool) → KeepWithin p span.arc span.money (group_weights windows span run) part → LieIn run span.arc d test →
      paid (pays_for span test) 0 routes ≤ money_for test + part
  run-pays run part test rule lie =
      let group = group_weights windows span run in
      let set : List ℕ = users_by test 0 routes in
      let by : AreBy span.arc test = λ l passes. (lie l passes).0 in
      let pays : paid (pays_for span test) 0 routes ≡ sum_by (weight_in span.weights) set = paid-users test (weight_in span.weights) 0 routes (one-each p allowed routes are span.arc test by) in
      let leave : AllByRecursion (λ k. weight_in span.weights k ≡ weight_in group k) set =
      AllByRecursion-weaker (λ k. can_leave windows run span.arc k ≡ true) (λ k. weight_in span.weights k ≡ weight_in group k)
      (λ k can. sym (weight-of_passing (can_leave windows run span.arc) span.weights k can)) set (users-leave windows run span.arc d test 0 routes lie within) in
      let same : sum_by (weight_in span.weights) set ≡ sum_by (weight_in group) set = sum_by-same_each (weight_in span.weights) (weight_in group) set leave in
      let fits : sum_by (weight_in group) set ≤ span.money * trucks_for p span.arc set + part = set-fits p span.arc span.money group part set rule (users_by-apart test 0 routes) in
      omega (arith, pays, same, fits, mul-le-mul_left span.money (trucks-hold p allowed routes are span.arc test by))

  -- those of departures each of which lies in one of some runs
  runs-pay : (runs : List MomentRun) (parts : List ℕ) (test : Leg → Bool) → AllZip (λ run part. KeepWithin p span.arc span.money (group_weights windows span run) part) runs parts → AreBy span.arc test →
      ((l : Leg) → test l ≡ true → list_any (λ run. lies_in run (l.depart / d)) runs ≡ true) → paid (pays_for span test) 0 routes ≤ money_for test + sum_by (λ (n : ℕ). n) parts
  runs-pay [] parts test keep by cover =
      let none : paid (pays_for span test) 0 routes ≡ paid (λ (l : Leg) (k : ℕ). 0) 0 routes =
      paid-same (pays_for span test) (λ l k. 0) (λ l k. cond-false (test l) (weight_in span.weights k) 0 (false_from_ne_true (test l) (λ h. false≢true (cover l h)))) 0 routes in
      omega (arith, none, paid-zero 0 routes)
  runs-pay (run ∷ runs) [] test keep by cover = absurd keep
  runs-pay (run ∷ runs) (part ∷ parts) test keep by cover =
      let lies : Leg → Bool = λ l. lies_in run (l.depart / d) in
      let here : Leg → Bool = λ l. test l && lies l in
      let later : Leg → Bool = λ l. test l && not (lies l) in
      let all : List Leg = all_legs routes in
      let pay_parts : paid (pays_for span test) 0 routes ≡ paid (pays_for span here) 0 routes + paid (pays_for span later) 0 routes =
      paid-same (pays_for span test) (λ l k. pays_for span here l k + pays_for span later l k) (λ l k. two_parts (test l) (lies l) (weight_in span.weights k)) 0 routes
      ∙ paid-both (pays_for span here) (pays_for span later) 0 routes in
      let truck_parts : distinct_sum (tested_trucks p routes test) all ≡ distinct_sum (tested_trucks p routes here) all + distinct_sum (tested_trucks p routes later) all =
      sum_by-same (tested_trucks p routes test) (λ l. tested_trucks p routes here l + tested_trucks p routes later l) (λ l. two_parts (test l) (lies l) (trucks p routes l)) (distinct all)
      ∙ sum_by-both (tested_trucks p routes here) (tested_trucks p routes later) (distinct all) in
      let first : paid (pays_for span here) 0 routes ≤ money_for here + part =
      run-pays run part here keep.0 (λ l h. let both = and_parts (test l) (lies l) h in (by l both.0, both.1)) in
      let rest : paid (pays_for span later) 0 routes ≤ money_for later + sum_by (λ (n : ℕ). n) parts =
      runs-pay runs parts later keep.1 (λ l h. by l (and_parts (test l) (not (lies l)) h).0)
      (λ l h.
      let both = and_parts (test l) (not (lies l)) h in
      ⊎_elim
      (λ (first : lies l ≡ true). absurd (false≢true (sym (not-true (lies l) both.1) ∙ first)))
      (λ (other : list_any (λ run. lies_in run (l.depart / d)) runs ≡ true). other)
      (or_cases (lies l) (list_any (λ run. lies_in run (l.depart / d)) runs) (cover l both.0))) in
      omega (arith, pay_parts, ap (λ (n : ℕ). span.money * n) truck_parts, first, rest, sum_by-cons (λ (n : ℕ). n) part parts)

-- whether a span counts at the class of a departure
abbrev pub counts_at : Problem → (ℕ → List ℕ) → (d : ℕ) → List (List Leg) → ClassSpan → Leg → Bool
counts_at p points d chains span l = counts chains span (class_of p points d l)

-- it does at departures by its arc alone
counts-by : (p : Problem) (points : ℕ → List ℕ) (d : ℕ) (chains : List (List Leg)) (span : ClassSpan) → AreBy span.arc (counts_at p points d chains span)
counts-by p points d chains span l h =
    let class : Leg = class_of p points d l in sym (holds-true span class (and_parts (not (has_leg class (all_legs chains))) (holds span class) h).1).arc

-- where some shipment has such a departure, the span is charged
charged : (p : Problem) (points : ℕ → List ℕ) (d : ℕ) (allowed : ℕ → Leg → Bool) (chains : List (List Leg)) (span : ClassSpan) →
    HasUser (counts_at p points d chains span) (λ k l. allowed k (class_of p points d l)) (length p.shipments) → IsCharged p allowed chains span
charged p points d allowed chains span has =
    let class : Leg = class_of p points d has.class in
    let parts = and_parts (not (has_leg class (all_legs chains))) (holds span class) has.passes in
    record {
      class = class;
      shipment = has.shipment;
      exists = has.below;
      allowed_for_it = has.allows;
      held = parts.1;
      not_free = not-true (has_leg class (all_legs chains)) parts.0;
    }

module _ (p : Problem) (windows : ℕ → ℕ → Option Window) (first points : ℕ → List ℕ) (d : ℕ) (allowed : ℕ → Leg → Bool) (chains routes : List (List Leg)) (valid : IsValid p) (positive : 0 < d) (among : AreAmong p first points)
    (exist : (k : ℕ) (c : Leg) → allowed k c ≡ true → c.arc < length p.arcs)
    (are : ArePlanRoutes p (λ k l. allowed k (class_of p points d l)) routes) (within : PlanLiesWithinWhole windows d routes) where
  abbrev of_class : ℕ → Leg → Bool
  of_class k l = allowed k (class_of p points d l)

  -- what all shipments pay by a span: where some pay, it is charged
  span-pays : (span : ClassSpan) (n : ℕ) → (IsCharged p allowed chains span → KeepsSetRule p windows first span) → IsChargeOf p allowed chains span n →
      paid (pays_for span (counts_at p points d chains span)) 0 routes ≤ span.money * distinct_sum (tested_trucks p routes (counts_at p points d chains span)) (all_legs routes) + n
  span-pays span n keeps charge =
      let test : Leg → Bool = counts_at p points d chains span in
      let by : AreBy span.arc test = counts-by p points d chains span in
      ⊎_elim
      (λ (none : users_by test 0 routes ≡ []).
      let pays : paid (pays_for span test) 0 routes ≡ sum_by (weight_in span.weights) (users_by test 0 routes) =
      paid-users test (weight_in span.weights) 0 routes (one-each p of_class routes are span.arc test by) in
      omega (arith, pays, ap (sum_by (weight_in span.weights)) none))
      (λ (some : HasUser test of_class (length p.shipments)).
      let is_charged : IsCharged p allowed chains span = charged p points d allowed chains span some in
      let rule : KeepsSetRule p windows first span = keeps is_charged in
      let whole : n ≡ span.charge =
      ⊎_elim
      (λ (yes : IsCharged p allowed chains span × (n ≡ span.charge)). yes.1)
      (λ (no : (IsCharged p allowed chains span → ⊥) × (n ≡ 0)). absurd (no.0 is_charged))
      charge in
      let arc : span.arc < length p.arcs = subst (λ (a : ℕ). a < length p.arcs) (by some.class some.passes) (exist some.shipment (class_of p points d some.class) some.allows) in
      let tail : (arc_at p span.arc).from < length p.terminals = (All-get_or (IsArc (length p.terminals)) p.arcs span.arc no_arc arc valid.parts.arcs).from in
      omega (
        arith,
        whole,
        rule.enough,
        runs-pay p of_class windows d routes are within span (runs_of p first span) rule.parts test rule.keep by
            (λ l h.
            let class : Leg = class_of p points d l in
            departure-covered p first points d span l positive (λ q. among (arc_at p span.arc).from q tail) (and_parts (not (has_leg class (all_legs chains))) (holds span class) h).1),
      ))
      (first-user test of_class (length p.shipments) 0 routes (omega (arith, are.long)) are.allows)

  -- what they pay by all spans
  pub spans-pay : (spans : List ClassSpan) (charges : List ℕ) → ChargedKeepSetRule p windows first allowed chains spans → AllZip (IsChargeOf p allowed chains) spans charges →
      sum_by (λ span. paid (pays_for span (counts_at p points d chains span)) 0 routes) spans
      ≤ sum_by (λ span. span.money * distinct_sum (tested_trucks p routes (counts_at p points d chains span)) (all_legs routes)) spans + sum_by (λ (n : ℕ). n) charges
  spans-pay [] charges rule is = omega arith
  spans-pay (span ∷ spans) [] rule is = absurd is
  spans-pay (span ∷ spans) (n ∷ charges) rule is =
      let pays : ClassSpan → ℕ = λ s. paid (pays_for s (counts_at p points d chains s)) 0 routes in
      let most : ClassSpan → ℕ = λ s. s.money * distinct_sum (tested_trucks p routes (counts_at p points d chains s)) (all_legs routes) in
      let here : pays span ≤ most span + n = span-pays span n rule.0 is.0 in
      let rest : sum_by pays spans ≤ sum_by most spans + sum_by (λ (m : ℕ). m) charges = spans-pay spans charges rule.1 is.1 in
      omega (arith, here, rest, sum_by-cons pays span spans, sum_by-cons most span spans, sum_by-cons (λ (m : ℕ). m) n charges)
