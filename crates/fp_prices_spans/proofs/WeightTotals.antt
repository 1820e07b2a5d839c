-- What shipments pay by spans is at most what the weights of the spans come together to.
use Rattle.std.proofs.Common.{◌≡◌, ℕ, zero, suc, ◌+◌, ◌<◌, ◌≤◌, ◌≢◌, true, false, List, [], ◌∷◌, length, get_or, take, ⊎_elim, arith}
use Rattle.std.specs.Prelude.{sum_by, nat_eq, nat_lt, if◌then◌else◌}
use Rattle.std.proofs.lemmas.Bool.{cases_Bool, cases_lt, cond-false, cond-true, eqb-true, le-ltb, lt-ltb}
use Rattle.std.proofs.lemmas.Bool.Decides.{eqb_tells}
use Rattle.std.proofs.lemmas.List.Sums.{sum_by-cons, sum_by-le-sum_by, sum_by_more_le_part}
use Rattle.fp_model.specs.declared.parts.Leg.{Leg}
use Rattle.fp_prices.specs.declared.tables.Weight.{Weight}
use Rattle.fp_prices.specs.Prices.{weight_in}
use Rattle.fp_prices_spans.specs.SpanCosts.{own_weights}
use Rattle.fp_prices_spans.specs.Spans.{ClassSpan}
use Rattle.fp_prices_spans.specs.SpanLists.{no_span, weight_total}
use Rattle.fp_prices_spans.specs.SpanPrices.{holds, span_price}

-- the weight of a shipment is one of the weights
weight_in-le : (weights : List Weight) (k : ℕ) → weight_in weights k ≤ sum_by (λ (w : Weight). w.w) weights
weight_in-le [] k = omega arith
weight_in-le (w ∷ weights) k =
    let whole = sum_by-cons (λ (v : Weight). v.w) w weights in
    ⊎_elim
    (λ (yes : nat_eq w.shipment k ≡ true). omega (arith, whole, cond-true (nat_eq w.shipment k) w.w (weight_in weights k) yes))
    (λ (no : nat_eq w.shipment k ≡ false). omega (arith, whole, cond-false (nat_eq w.shipment k) w.w (weight_in weights k) no, weight_in-le weights k))
    (cases_Bool (nat_eq w.shipment k))

-- so is what it pays by a span, whether that holds or not
pays-le : (k : ℕ) (c : Leg) (span : ClassSpan) → (if holds span c then weight_in span.weights k else 0) ≤ sum_by (λ (w : Weight). w.w) span.weights
pays-le k c span =
    ⊎_elim
    (λ (yes : holds span c ≡ true). omega (arith, cond-true (holds span c) (weight_in span.weights k) 0 yes, weight_in-le span.weights k))
    (λ (no : holds span c ≡ false). omega (arith, cond-false (holds span c) (weight_in span.weights k) 0 no))
    (cases_Bool (holds span c))

-- what a shipment pays by all spans is at most its weights in them
pub price-le_own : (spans : List ClassSpan) (k : ℕ) (c : Leg) → span_price spans k c ≤ own_weights spans k
price-le_own spans k c =
    sum_by-le-sum_by (λ (span : ClassSpan). if holds span c then weight_in span.weights k else 0) (λ (span : ClassSpan). weight_in span.weights k) spans (λ span. own-le span)
  where
    own-le : (span : ClassSpan) → (if holds span c then weight_in span.weights k else 0) ≤ weight_in span.weights k
    own-le span =
        ⊎_elim
        (λ (yes : holds span c ≡ true). omega (arith, cond-true (holds span c) (weight_in span.weights k) 0 yes))
        (λ (no : holds span c ≡ false). omega (arith, cond-false (holds span c) (weight_in span.weights k) 0 no))
        (cases_Bool (holds span c))

-- the weights of the first shipments
abbrev pub weights_below : List ClassSpan → ℕ → ℕ
weights_below spans zero = 0
weights_below spans (suc n) = weights_below spans n + own_weights spans n

-- those in one list
abbrev in_list_below : List Weight → ℕ → ℕ
in_list_below weights zero = 0
in_list_below weights (suc n) = in_list_below weights n + weight_in weights n

-- one weight more is one of the first shipments at most
in_list-more : (w : Weight) (weights : List Weight) (n : ℕ) → in_list_below (w ∷ weights) n ≤ (if nat_lt w.shipment n then w.w else 0) + in_list_below weights n
in_list-more w weights zero = omega arith
in_list-more w weights (suc n) =
    let own : ℕ = if nat_eq w.shipment n then w.w else weight_in weights n in
    let before : in_list_below (w ∷ weights) n ≤ (if nat_lt w.shipment n then w.w else 0) + in_list_below weights n = in_list-more w weights n in
    ⊎_elim
    (λ (less : w.shipment < n).
    let other : nat_eq w.shipment n ≡ false = ⊎_elim (λ (h : (nat_eq w.shipment n ≡ true) × (w.shipment ≡ n)). absurd (omega (arith, less, h.1))) (λ (h : (nat_eq w.shipment n ≡ false) × (w.shipment ≢ n)). h.0) (eqb_tells w.shipment n) in
    omega (
      arith,
      before,
      cond-true (nat_lt w.shipment n) w.w 0 (lt-ltb w.shipment n less),
      cond-true (nat_lt w.shipment (suc n)) w.w 0 (lt-ltb w.shipment (suc n) (omega (arith, less))),
      cond-false (nat_eq w.shipment n) w.w (weight_in weights n) other,
    ))
    (λ (more : n ≤ w.shipment).
    ⊎_elim
    (λ (is : nat_eq w.shipment n ≡ true).
    omega (
      arith,
      before,
      cond-false (nat_lt w.shipment n) w.w 0 (le-ltb w.shipment n more),
      cond-true (nat_lt w.shipment (suc n)) w.w 0 (lt-ltb w.shipment (suc n) (omega (arith, eqb-true w.shipment n is))),
      cond-true (nat_eq w.shipment n) w.w (weight_in weights n) is,
    ))
    (λ (no : nat_eq w.shipment n ≡ false).
    omega (
      arith,
      before,
      cond-false (nat_lt w.shipment n) w.w 0 (le-ltb w.shipment n more),
      cond-false (nat_eq w.shipment n) w.w (weight_in weights n) no,
    ))
    (cases_Bool (nat_eq w.shipment n)))
    (cases_lt w.shipment n)

-- so the first shipments have no more in a list than the list
in_list-le : (weights : List Weight) (n : ℕ) → in_list_below weights n ≤ sum_by (λ (w : Weight). w.w) weights
in_list-le [] zero = omega arith
in_list-le [] (suc n) = omega (arith, in_list-le [] n)
in_list-le (w ∷ weights) n =
    ⊎_elim
    (λ (yes : nat_lt w.shipment n ≡ true). omega (arith, in_list-more w weights n, cond-true (nat_lt w.shipment n) w.w 0 yes, in_list-le weights n, sum_by-cons (λ (v : Weight). v.w) w weights))
    (λ (no : nat_lt w.shipment n ≡ false). omega (arith, in_list-more w weights n, cond-false (nat_lt w.shipment n) w.w 0 no, in_list-le weights n, sum_by-cons (λ (v : Weight). v.w) w weights))
    (cases_Bool (nat_lt w.shipment n))

-- one span more
below-more : (span : ClassSpan) (spans : List ClassSpan) (n : ℕ) → weights_below (span ∷ spans) n ≡ in_list_below span.weights n + weights_below spans n
below-more span spans zero = omega arith
below-more span spans (suc n) = omega (arith, below-more span spans n, sum_by-cons (λ (s : ClassSpan). weight_in s.weights n) span spans)

-- so the weights of the first shipments come together to no more than all weights
pub below-le : (spans : List ClassSpan) (n : ℕ) → weights_below spans n ≤ weight_total spans
below-le [] zero = omega arith
below-le [] (suc n) = omega (arith, below-le [] n)
below-le (span ∷ spans) n =
    omega (arith, below-more span spans n, in_list-le span.weights n, below-le spans n, sum_by-cons (λ (s : ClassSpan). sum_by (λ (w : Weight). w.w) s.weights) span spans)

-- and those of one shipment too
pub own-le : (spans : List ClassSpan) (k : ℕ) → own_weights spans k ≤ weight_total spans
own-le spans k = omega (arith, below-le spans (suc k))

-- what it pays by all spans
pub price-le : (spans : List ClassSpan) (k : ℕ) (c : Leg) → span_price spans k c ≤ weight_total spans
price-le spans k c = sum_by-le-sum_by (λ (span : ClassSpan). if holds span c then weight_in span.weights k else 0) (λ (span : ClassSpan). sum_by (λ (w : Weight). w.w) span.weights) spans (pays-le k c)

-- and what it pays by the first spans, with its weight in the next one
pub more-le : (spans : List ClassSpan) (i k : ℕ) (c : Leg) → i < length spans → span_price (take i spans) k c + weight_in (get_or spans i no_span).weights k ≤ weight_total spans
more-le spans i k c inside =
    let all : sum_by (λ (span : ClassSpan). if holds span c then weight_in span.weights k else 0) (take i spans) + sum_by (λ (w : Weight). w.w) (get_or spans i no_span).weights ≤ weight_total spans =
    sum_by_more_le_part (λ (span : ClassSpan). if holds span c then weight_in span.weights k else 0) (λ (span : ClassSpan). sum_by (λ (w : Weight). w.w) span.weights) spans i no_span inside (pays-le k c) in
    omega (arith, all, weight_in-le (get_or spans i no_span).weights k)
