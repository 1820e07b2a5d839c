-- The order of spans.
use Rattle.std.proofs.Common.{◌≡◌, ◌<◌, ⊎_elim, inl, inr, ◌∙◌, arith}
use Rattle.fp_base_lists.specs.Order.{Precedes}
use Rattle.fp_base_lists.proofs.Order.{Precedes-trans}
use Rattle.fp_prices_spans.specs.Spans.{ClassSpan}
use Rattle.fp_prices_spans.specs.SpanLists.{StandsBefore}

-- it goes from span to span
pub StandsBefore-trans : (s t u : ClassSpan) → StandsBefore s t → StandsBefore t u → StandsBefore s u
StandsBefore-trans s t u first second =
    ⊎_elim
    (λ (less : s.arc < t.arc).
    ⊎_elim
    (λ (on : t.arc < u.arc). inl (omega (arith, less, on)))
    (λ (same : (t.arc ≡ u.arc) × Precedes t.point t.until u.point u.until). inl (omega (arith, less, same.0)))
    second)
    (λ (same : (s.arc ≡ t.arc) × Precedes s.point s.until t.point t.until).
    ⊎_elim
    (λ (on : t.arc < u.arc). inl (omega (arith, same.0, on)))
    (λ (again : (t.arc ≡ u.arc) × Precedes t.point t.until u.point u.until).
    inr (same.0 ∙ again.0, Precedes-trans s.point s.until t.point t.until u.point u.until same.1 again.1))
    second)
    first
