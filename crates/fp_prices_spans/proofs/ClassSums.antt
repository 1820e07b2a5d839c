-- The bases and all that shipments pay by classes and spans are at most what may be paid for the trucks of the departures, and the
-- charges.
use Rattle.std.proofs.Common.{◌≡◌, ℕ, ◌+◌, ◌*◌, ◌<◌, ◌≤◌, Bool, true, false, List, Option, length, map, ⊎_elim, refl, sym, ap, ◌∙◌, arith}
use Rattle.std.specs.Prelude.{sum_by, if◌then◌else◌}
use Rattle.std.specs.List.{AllZip}
use Rattle.std.proofs.Math.Nat.{mul-le-mul_left, mul-le-mul_right}
use Rattle.std.proofs.lemmas.Bool.{cases_Bool, cond-false, cond-true}
use Rattle.std.proofs.lemmas.List.Sums.{sum_by-le-sum_by}
use Rattle.fp_base_lists.proofs.Sums.{sum_by-both, sum_by-const, sum_by-same, sum_by-scaled, sum_by-scaled_right, sum_by-swap}
use Rattle.fp_model.specs.declared.parts.Leg.{Leg}
use Rattle.fp_model.specs.Costs.{all_legs, departures_cost, distinct, has_leg, trucks}
use Rattle.fp_model.specs.Problem.{IsValid, Problem, arc_at}
use Rattle.fp_model.proofs.Bounds.{departure_of, departure-outside}
use Rattle.fp_model.proofs.Distinct.{distinct_sum, distinct_sum-le}
use Rattle.fp_flatnet.specs.declared.window_tables.Window.{Window}
use Rattle.fp_flatnet.specs.Windows.{PlanLiesWithinWhole}
use Rattle.fp_longestarcs.specs.Classes.{class_of}
use Rattle.fp_prices.specs.declared.leaf_prices.Kind.{Kind}
use Rattle.fp_prices.specs.Leaves.{leaf_price}
use Rattle.fp_prices.specs.Prices.{AllKeepRule, weight_in}
use Rattle.fp_prices.specs.Shares.{ClassShare}
use Rattle.fp_prices.proofs.ClassPrices.{AreWalks, class-fits}
use Rattle.fp_prices.proofs.ForcedClasses.{base-le}
use Rattle.fp_prices.proofs.PlanBounds.{size_at}
use Rattle.fp_prices.proofs.TakenByClasses.{NoneTwiceInAny, paid, paid-le, users}
use Rattle.fp_prices_spans.specs.MomentRuns.{AreAmong}
use Rattle.fp_prices_spans.specs.Spans.{ClassSpan}
use Rattle.fp_prices_spans.specs.SpanLeaves.{ChargedKeepSetRule, IsChargeOf}
use Rattle.fp_prices_spans.specs.SpanPrices.{is_held, leaf_span_price, money_at, most_paid}
use Rattle.fp_prices_spans.proofs.ClassTrucks.{class_trucks, class_trucks-hold, classes-ge, classes-le}
use Rattle.fp_prices_spans.proofs.DepartureTrucks.{ArePlanRoutes, tested_trucks}
use Rattle.fp_prices_spans.proofs.CountedParts.{counted, counted-free, counted-held, counts, price-parts, single-le, single_price}
use Rattle.fp_prices_spans.proofs.MoneySums.{held-none}
use Rattle.fp_prices_spans.proofs.PaidSums.{paid-both, paid-map, paid-same, paid-sum_by}
use Rattle.fp_prices_spans.proofs.SpanPays.{counts_at, pays_for, spans-pay}

-- the money of the spans that count at a class
abbrev counted_money : List (List Leg) → List ClassSpan → Leg → ℕ
counted_money chains spans c = counted chains (λ (span : ClassSpan). span.money) spans c

-- in each class, the base, what its users pay by single classes, and the money for its trucks and for more are together at most what
-- may be paid for so many trucks
class-within : (p : Problem) (shares : List (List ClassShare)) (spans : List ClassSpan) (allowed : ℕ → Leg → Bool) (kind : Kind) (chains walks : List (List Leg)) (c : Leg) (n limit : ℕ) → AllKeepRule p shares →
    AreWalks p allowed (size_at p) chains walks → trucks p walks c ≤ n → most_paid p spans chains c ≤ limit →
    p.scale * departure_of p p.shipments chains c + sum_by (λ k. single_price p shares spans allowed kind chains k (size_at p k) c) (users 0 walks c) + counted_money chains spans c * n ≤ limit * n
class-within p shares spans allowed kind chains walks c n limit keep are more within =
    let set : List ℕ = users 0 walks c in
    let truck : ℕ = p.scale * (arc_at p c.arc).truck in
    let single : ℕ → ℕ = λ k. single_price p shares spans allowed kind chains k (size_at p k) c in
    let by_shares : p.scale * departure_of p p.shipments chains c + sum_by (λ k. leaf_price p shares allowed kind chains k (size_at p k) c) set ≤ p.scale * departure_of p p.shipments walks c =
    class-fits p shares allowed kind (size_at p) chains walks c keep are in
    let less : sum_by single set ≤ sum_by (λ k. leaf_price p shares allowed kind chains k (size_at p k) c) set =
    sum_by-le-sum_by single (λ k. leaf_price p shares allowed kind chains k (size_at p k) c) set (λ k. single-le p shares spans allowed kind chains k (size_at p k) c) in
    let cost : p.scale * departure_of p p.shipments walks c ≡ truck * trucks p walks c = omega arith in
    let without : counted_money chains spans c ≡ 0 → truck ≤ limit →
    p.scale * departure_of p p.shipments chains c + sum_by single set + counted_money chains spans c * n ≤ limit * n =
    λ none fits. omega (
      arith,
      by_shares,
      less,
      cost,
      ap (λ (m : ℕ). m * n) none,
      mul-le-mul_right (trucks p walks c) fits,
      mul-le-mul_left limit more,
    ) in
    ⊎_elim
    (λ (free : has_leg c (all_legs chains) ≡ true).
    without (counted-free chains (λ (span : ClassSpan). span.money) spans c free)
    (omega (arith, within, cond-true (has_leg c (all_legs chains)) truck (if is_held spans c then money_at spans c else truck) free)))
    (λ (not_free : has_leg c (all_legs chains) ≡ false).
    let all : counted_money chains spans c ≡ money_at spans c = counted-held chains (λ (span : ClassSpan). span.money) spans c not_free in
    let most : most_paid p spans chains c ≡ (if is_held spans c then money_at spans c else truck) =
    cond-false (has_leg c (all_legs chains)) truck (if is_held spans c then money_at spans c else truck) not_free in
    ⊎_elim
    (λ (held : is_held spans c ≡ true).
    let nothing : sum_by single set ≡ sum_by (λ (k : ℕ). 0) set =
    sum_by-same single (λ (k : ℕ). 0) (λ k. cond-true (is_held spans c) 0 (leaf_price p shares allowed kind chains k (size_at p k) c) held) set in
    let no_base : p.scale * departure_of p p.shipments chains c ≡ p.scale * 0 = ap (λ (m : ℕ). p.scale * m) (departure-outside p p.shipments chains c not_free) in
    let fits : money_at spans c ≤ limit = omega (arith, within, most, cond-true (is_held spans c) (money_at spans c) truck held) in
    omega (arith, nothing, sum_by-const {X = ℕ} 0 set, no_base, mul-le-mul_right n fits, ap (λ (m : ℕ). m * n) all))
    (λ (none : is_held spans c ≡ false).
    without (all ∙ held-none (λ (span : ClassSpan). span.money) spans c none) (omega (arith, within, most, cond-false (is_held spans c) (money_at spans c) truck none)))
    (cases_Bool (is_held spans c)))
    (cases_Bool (has_leg c (all_legs chains)))

-- the money of all spans for the trucks of the departures at whose classes they count
money-by_departures : (p : Problem) (points : ℕ → List ℕ) (d : ℕ) (chains routes : List (List Leg)) (spans : List ClassSpan) (legs : List Leg) →
    sum_by (λ (span : ClassSpan). span.money * sum_by (tested_trucks p routes (counts_at p points d chains span)) legs) spans
    ≡ sum_by (λ l. counted_money chains spans (class_of p points d l) * trucks p routes l) legs
money-by_departures p points d chains routes spans legs =
    let tested : ClassSpan → Leg → ℕ = λ span. tested_trucks p routes (counts_at p points d chains span) in
    let part : ClassSpan → Leg → ℕ = λ span l. span.money * tested span l in
    let out : sum_by (λ (span : ClassSpan). span.money * sum_by (tested span) legs) spans ≡ sum_by (λ span. sum_by (part span) legs) spans =
    sum_by-same (λ (span : ClassSpan). span.money * sum_by (tested span) legs) (λ span. sum_by (part span) legs)
    (λ span. sym (sum_by-scaled span.money (tested span) legs)) spans in
    let each : (l : Leg) → sum_by (λ span. part span l) spans ≡ counted_money chains spans (class_of p points d l) * trucks p routes l =
    λ l.
    sum_by-same (λ span. part span l) (λ span. (if counts_at p points d chains span l then span.money else 0) * trucks p routes l)
    (λ span. moved (counts_at p points d chains span l) span.money (trucks p routes l)) spans
    ∙ sum_by-scaled_right (λ (span : ClassSpan). if counts_at p points d chains span l then span.money else 0) (trucks p routes l) spans in
    out ∙ sym (sum_by-swap part spans legs)
    ∙ sum_by-same (λ l. sum_by (λ span. part span l) spans) (λ l. counted_money chains spans (class_of p points d l) * trucks p routes l) each legs
  where
    moved : (b : Bool) (m n : ℕ) → m * (if b then n else 0) ≡ (if b then m else 0) * n
    moved true m n = refl
    moved false m n = omega arith

-- the bases and all that shipments pay for their classes are at most what may be paid for the trucks of the departures, each by its
-- class, and the charges
pub bases-and-span_prices : (p : Problem) (windows : ℕ → ℕ → Option Window) (first points : ℕ → List ℕ) (d : ℕ) (shares : List (List ClassShare)) (spans : List ClassSpan) (allowed : ℕ → Leg → Bool) (kind : Kind)
    (chains routes : List (List Leg)) (charges : List ℕ) (limit : Leg → ℕ) → IsValid p → 0 < d → AreAmong p first points → ((k : ℕ) (c : Leg) → allowed k c ≡ true → c.arc < length p.arcs) → AllKeepRule p shares → ChargedKeepSetRule p windows first allowed chains spans → ((c : Leg) → most_paid p spans chains c ≤ limit c) →
    AreWalks p allowed (size_at p) chains (map (map (class_of p points d)) routes) → NoneTwiceInAny (map (map (class_of p points d)) routes) →
    ArePlanRoutes p (λ k l. allowed k (class_of p points d l)) routes → PlanLiesWithinWhole windows d routes → AllZip (IsChargeOf p allowed chains) spans charges →
    p.scale * departures_cost p chains (all_legs chains) + paid (λ c k. leaf_span_price p shares spans allowed kind chains k (size_at p k) c) 0 (map (map (class_of p points d)) routes)
    ≤ distinct_sum (λ l. limit (class_of p points d l) * trucks p routes l) (all_legs routes) + sum_by (λ (n : ℕ). n) charges
bases-and-span_prices p windows first points d shares spans allowed kind chains routes charges limit valid positive among exist keep sets within_limits are once plan within are_charges =
    let of : Leg → Leg = class_of p points d in
    let walks : List (List Leg) = map (map of) routes in
    let all : List Leg = all_legs walks in
    let legs : List Leg = all_legs routes in
    let single : Leg → ℕ → ℕ = λ c k. single_price p shares spans allowed kind chains k (size_at p k) c in
    let by_spans : Leg → ℕ → ℕ = λ c k. counted chains (λ span. weight_in span.weights k) spans c in
    let by_span : ClassSpan → Leg → ℕ → ℕ = λ span c k. if counts chains span c then weight_in span.weights k else 0 in
    let held : Leg → ℕ = class_trucks p of routes in
    let base : Leg → ℕ = λ c. p.scale * departure_of p p.shipments chains c in
    let taken : Leg → ℕ = λ c. sum_by (single c) (users 0 walks c) in
    let money : Leg → ℕ = λ c. counted_money chains spans c * held c in
    let whole : Leg → ℕ = λ c. limit c * held c in
    let parts : paid (λ c k. leaf_span_price p shares spans allowed kind chains k (size_at p k) c) 0 walks ≡ paid single 0 walks + paid by_spans 0 walks =
    paid-same (λ c k. leaf_span_price p shares spans allowed kind chains k (size_at p k) c) (λ c k. single c k + by_spans c k) (λ c k. price-parts p shares spans allowed kind chains k (size_at p k) c) 0 walks
    ∙ paid-both single by_spans 0 walks in
    let each_span : paid by_spans 0 walks ≡ sum_by (λ span. paid (pays_for span (counts_at p points d chains span)) 0 routes) spans =
    paid-sum_by by_span spans 0 walks
    ∙ sum_by-same (λ span. paid (by_span span) 0 walks) (λ span. paid (pays_for span (counts_at p points d chains span)) 0 routes) (λ span. paid-map (by_span span) of 0 routes) spans in
    let pay_spans : paid by_spans 0 walks ≤ distinct_sum money all + sum_by (λ (n : ℕ). n) charges =
    omega (
      arith,
      each_span,
      spans-pay p windows first points d allowed chains routes valid positive among exist plan within spans charges sets are_charges,
      money-by_departures p points d chains routes spans (distinct legs),
      classes-ge p of routes (λ l. refl) (counted_money chains spans),
    ) in
    let pay_single : paid single 0 walks ≤ distinct_sum taken all = paid-le single all 0 walks once (λ k h. h) in
    let within_walks : distinct_sum base (all_legs chains) ≤ distinct_sum base all =
    distinct_sum-le (all_legs chains) all base (λ c out.
    let none : departure_of p p.shipments walks c ≡ 0 = departure-outside p p.shipments walks c out in
    let no_base : departure_of p p.shipments chains c ≡ 0 = omega (arith, base-le p p.shipments chains walks c are.among, none) in
    let scaled : p.scale * departure_of p p.shipments chains c ≡ p.scale * 0 = ap (λ (n : ℕ). p.scale * n) no_base in
    omega (arith, scaled)) in
    let three : sum_by (λ c. base c + taken c + money c) (distinct all) ≡ distinct_sum base all + distinct_sum taken all + distinct_sum money all =
    omega (arith, sum_by-both (λ c. base c + taken c) money (distinct all), sum_by-both base taken (distinct all)) in
    let each : sum_by (λ c. base c + taken c + money c) (distinct all) ≤ distinct_sum whole all =
    sum_by-le-sum_by (λ c. base c + taken c + money c) whole (distinct all)
    (λ c. class-within p shares spans allowed kind chains walks c (held c) (limit c) keep are (class_trucks-hold p of routes (λ l. refl) (λ k l. allowed k (of l)) plan c) (within_limits c)) in
    omega (
      arith,
      parts,
      pay_spans,
      pay_single,
      within_walks,
      three,
      each,
      classes-le p of routes (λ l. refl) limit,
      sum_by-scaled p.scale (departure_of p p.shipments chains) (distinct (all_legs chains)),
    )
