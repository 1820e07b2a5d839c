-- What shipments pay at a leaf under prices by spans, in two parts: by single classes, and by the spans that count.
use Rattle.std.proofs.Common.{◌≡◌, ℕ, ◌+◌, ◌≤◌, Bool, true, false, cond, List, ⊎_elim, refl, ap, ◌∙◌, arith}
use Rattle.std.specs.Prelude.{sum_by, ◌&&◌, not, if◌then◌else◌}
use Rattle.std.proofs.lemmas.Bool.{cases_Bool, cond-true, cond-false}
use Rattle.fp_base_lists.proofs.Sums.{sum_by-const, sum_by-same}
use Rattle.fp_model.specs.declared.parts.Leg.{Leg}
use Rattle.fp_model.specs.Costs.{all_legs, has_leg}
use Rattle.fp_model.specs.Problem.{Problem}
use Rattle.fp_prices.specs.declared.leaf_prices.Kind.{Kind}
use Rattle.fp_prices.specs.Leaves.{leaf_price}
use Rattle.fp_prices.specs.Prices.{truck_price, weight_in}
use Rattle.fp_prices.specs.Shares.{ClassShare}
use Rattle.fp_prices_spans.specs.Spans.{ClassSpan}
use Rattle.fp_prices_spans.specs.SpanPrices.{holds, is_held, leaf_span_price, span_price}
use Rattle.fp_prices_spans.proofs.MoneySums.{held-none}

-- whether a span counts at a class: it holds for it, and no chain has the class
abbrev pub counts : List (List Leg) → ClassSpan → Leg → Bool
counts chains span c = not (has_leg c (all_legs chains)) && holds span c

-- the sum over the spans that count at a class
abbrev pub counted : List (List Leg) → (ClassSpan → ℕ) → List ClassSpan → Leg → ℕ
counted chains f spans c = sum_by (λ span. if counts chains span c then f span else 0) spans

-- what a shipment pays for a class by single classes
abbrev pub single_price : Problem → List (List ClassShare) → List ClassSpan → (ℕ → Leg → Bool) → Kind → List (List Leg) → (k size : ℕ) → Leg → ℕ
single_price p shares spans allowed kind chains k size c = if is_held spans c then 0 else leaf_price p shares allowed kind chains k size c

-- at a class of the chains no span counts
pub counted-free : (chains : List (List Leg)) (f : ClassSpan → ℕ) (spans : List ClassSpan) (c : Leg) → has_leg c (all_legs chains) ≡ true → counted chains f spans c ≡ 0
counted-free chains f spans c free =
    sum_by-same (λ span. if counts chains span c then f span else 0) (λ (span : ClassSpan). 0) (λ span. ap (λ (b : Bool). cond (not b && holds span c) (f span) 0) free) spans
    ∙ (let e : sum_by (λ (span : ClassSpan). 0) spans ≡ 0 = omega (arith, sum_by-const {X = ClassSpan} 0 spans) in e)

-- at any other class those count that hold
pub counted-held : (chains : List (List Leg)) (f : ClassSpan → ℕ) (spans : List ClassSpan) (c : Leg) → has_leg c (all_legs chains) ≡ false →
    counted chains f spans c ≡ sum_by (λ span. if holds span c then f span else 0) spans
counted-held chains f spans c not_free =
    sum_by-same (λ span. if counts chains span c then f span else 0) (λ span. if holds span c then f span else 0) (λ span. ap (λ (b : Bool). cond (not b && holds span c) (f span) 0) not_free) spans

-- the price at a leaf is in these two parts
pub price-parts : (p : Problem) (shares : List (List ClassShare)) (spans : List ClassSpan) (allowed : ℕ → Leg → Bool) (kind : Kind) (chains : List (List Leg)) (k size : ℕ) (c : Leg) →
    leaf_span_price p shares spans allowed kind chains k size c ≡ single_price p shares spans allowed kind chains k size c + counted chains (λ span. weight_in span.weights k) spans c
price-parts p shares spans allowed kind chains k size c =
    let free : Bool = has_leg c (all_legs chains) in
    let held : Bool = is_held spans c in
    let truck : ℕ = truck_price p shares allowed kind c k size in
    let weight : ClassSpan → ℕ = λ span. weight_in span.weights k in
    ⊎_elim
    (λ (yes : free ≡ true).
    let single : single_price p shares spans allowed kind chains k size c ≡ 0 = zero_or_zero held (leaf_price p shares allowed kind chains k size c) (cond-true free 0 truck yes) in
    omega (arith, cond-true free 0 (cond held (span_price spans k c) truck) yes, single, counted-free chains weight spans c yes))
    (λ (no : free ≡ false).
    let all : leaf_span_price p shares spans allowed kind chains k size c ≡ cond held (span_price spans k c) truck = cond-false free 0 (cond held (span_price spans k c) truck) no in
    let sum : counted chains weight spans c ≡ span_price spans k c = counted-held chains weight spans c no in
    ⊎_elim
    (λ (some : held ≡ true).
    omega (arith, all, sum, cond-true held (span_price spans k c) truck some, cond-true held 0 (leaf_price p shares allowed kind chains k size c) some))
    (λ (none : held ≡ false).
    omega (
      arith,
      all,
      sum,
      cond-false held (span_price spans k c) truck none,
      cond-false held 0 (leaf_price p shares allowed kind chains k size c) none,
      cond-false free 0 truck no,
      held-none weight spans c none,
    ))
    (cases_Bool held))
    (cases_Bool free)
  where
    zero_or_zero : (b : Bool) (n : ℕ) → n ≡ 0 → cond b 0 n ≡ 0
    zero_or_zero true n e = refl
    zero_or_zero false n e = e

-- the single prices are no more than the prices by shares
pub single-le : (p : Problem) (shares : List (List ClassShare)) (spans : List ClassSpan) (allowed : ℕ → Leg → Bool) (kind : Kind) (chains : List (List Leg)) (k size : ℕ) (c : Leg) →
    single_price p shares spans allowed kind chains k size c ≤ leaf_price p shares allowed kind chains k size c
single-le p shares spans allowed kind chains k size c = less (is_held spans c) (leaf_price p shares allowed kind chains k size c)
  where
    less : (b : Bool) (n : ℕ) → cond b 0 n ≤ n
    less true n = omega arith
    less false n = omega arith
