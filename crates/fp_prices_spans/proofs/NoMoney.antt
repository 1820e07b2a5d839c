-- The money of spans that don't hold for a class.
use Rattle.std.proofs.Common.{◌≡◌, ℕ, ◌<◌, List, length, get_or, ◌∙◌, arith}
use Rattle.std.specs.Prelude.{false, sum_by, if◌then◌else◌}
use Rattle.std.proofs.lemmas.Bool.{cond-false}
use Rattle.fp_base_lists.proofs.Elements.{AllByRecursion-from_get_or}
use Rattle.fp_base_lists.proofs.Sums.{sum_by-const, sum_by-same_each}
use Rattle.fp_model.specs.declared.parts.Leg.{Leg}
use Rattle.fp_prices_spans.specs.Spans.{ClassSpan}
use Rattle.fp_prices_spans.specs.SpanPrices.{holds, money_at}
use Rattle.fp_prices_spans.specs.SpanLists.{no_span}

-- spans that don't hold for a class have no money there
pub money-none : (spans : List ClassSpan) (c : Leg) → ((k : ℕ) → k < length spans → holds (get_or spans k no_span) c ≡ false) → money_at spans c ≡ 0
money-none spans c others =
    sum_by-same_each (λ (s : ClassSpan). if holds s c then s.money else 0) (λ (s : ClassSpan). 0) spans
    (AllByRecursion-from_get_or (λ (s : ClassSpan). (if holds s c then s.money else 0) ≡ 0) spans no_span
    (λ k lt. cond-false (holds (get_or spans k no_span) c) (get_or spans k no_span).money 0 (others k lt)))
    ∙ (let none : sum_by (λ (s : ClassSpan). 0) spans ≡ 0 = omega (arith, sum_by-const {X = ClassSpan} 0 spans) in none)
