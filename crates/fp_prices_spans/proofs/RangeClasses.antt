-- The numbers of the classes for which a span holds are a range.
use Rattle.std.proofs.Common.{◌≡◌, ℕ, ◌+◌, ◌-◌, ◌<◌, ◌≤◌, List, length, get_or, ◌⊎◌, ⊎_elim, sym, ap, ◌∙◌, subst, arith}
use Rattle.std.proofs.lemmas.Bool.{cases_order}
use Rattle.fp_base_lists.specs.Ascending.{IsPlaceIn, place_in}
use Rattle.fp_base_lists.proofs.Truth.{Bool-from_both}
use Rattle.fp_model.specs.declared.parts.Leg.{Leg}
use Rattle.fp_longestarcs.specs.Networks.{IsClass, IsNetwork, TimedNetwork, class_count, class_number, first_class, points_in, tail_in}
use Rattle.fp_model.specs.Problem.{Problem, arc_at}
use Rattle.fp_longestarcs.specs.Whole.{IsWholeNetwork}
use Rattle.fp_longestarcs.proofs.ClassNumbers.{class-place, few-classes, first-mono, first-more, number-below}
use Rattle.fp_longestarcs.proofs.HeadLists.{arc-count, tail-of}
use Rattle.fp_allowed.specs.Listing.{class_at}
use Rattle.fp_allowed.proofs.ListedClasses.{class_range}
use Rattle.fp_prices.proofs.NumberedClasses.{number-class}
use Rattle.fp_prices_spans.specs.Spans.{ClassSpan}
use Rattle.fp_prices_spans.specs.SpanPrices.{holds}
use Rattle.fp_prices_spans.proofs.Between.{between, between-from, between-true}
use Rattle.fp_prices_spans.proofs.MoneySums.{IsHeldBy, holds-from, holds-true}

-- the classes of later arcs come later
later : (net : TimedNetwork) (a b : ℕ) → a < b → b < length net.tails → first_class net (a + 1) ≤ first_class net b
later net a b less h =
    let e : a + 1 + (b - (a + 1)) ≡ b = omega arith in
    subst (λ (n : ℕ). first_class net (a + 1) ≤ first_class net n) e (first-mono net (b - (a + 1)) (a + 1) (omega arith))

module _ (net : TimedNetwork) (valid : IsNetwork net) (span : ClassSpan) (exists : span.arc < length net.tails) (from until end : ℕ)
    (from_is : IsPlaceIn (points_in net (tail_in net span.arc)) span.point from) (until_is : IsPlaceIn (points_in net (tail_in net span.arc)) span.until until)
    (least : until ≤ end) (most : (k : ℕ) → from ≤ k → k < end → k < until) (short : end ≤ length (points_in net (tail_in net span.arc))) where
  abbrev first : ℕ
  first = first_class net span.arc

  -- where a class of the span's arc stands among those of the arc
  abbrev place : Leg → ℕ
  place c = place_in (points_in net (tail_in net c.arc)) c.depart

  at-place : (c : Leg) → IsClass net c → c.arc ≡ span.arc → (class_number net c ≡ first + place c) × (place c < length (points_in net (tail_in net span.arc))) × (get_or (points_in net (tail_in net span.arc)) (place c) 0 ≡ c.depart)
  at-place c is same =
      let there = class-place net c valid is in
      let begin : first_class net c.arc ≡ first = ap (λ (a : ℕ). first_class net a) same in
      let long : length (points_in net (tail_in net c.arc)) ≡ length (points_in net (tail_in net span.arc)) = ap (λ (a : ℕ). length (points_in net (tail_in net a))) same in
      (omega (arith, begin), omega (arith, there.0, long), ap (λ (a : ℕ). get_or (points_in net (tail_in net a)) (place c) 0) (sym same) ∙ there.1)

  -- the span holds for a class whose number is in the range
  held-in : (c : Leg) → IsClass net c → first + from ≤ class_number net c → class_number net c < first + end → IsHeldBy span c
  held-in c is low high =
      ⊎_elim
      (λ (same : c.arc ≡ span.arc).
      let at = at-place c is same in
      let above : from ≤ place c = omega (arith, low, at.0) in
      let below : place c < until = most (place c) above (omega (arith, high, at.0)) in
      record {
        arc = sym same;
        from = omega (arith, from_is.above (place c) 0 above at.1, at.2);
        before = omega (arith, until_is.below (place c) 0 below, at.2);
      })
      (λ (apart : (c.arc < span.arc) ⊎ (span.arc < c.arc)).
      ⊎_elim
      (λ (less : c.arc < span.arc). absurd (omega (arith, low, number-below net c valid is, later net c.arc span.arc less exists)))
      (λ (more : span.arc < c.arc). absurd (omega (arith, high, short, first-more net span.arc exists, later net span.arc c.arc more is.0)))
      apart)
      (cases_order c.arc span.arc)

  -- and the number of a class for which it holds is in the range
  number-in : (c : Leg) → IsClass net c → IsHeldBy span c → (first + from ≤ class_number net c) × (class_number net c < first + end)
  number-in c is held =
      let at = at-place c is (sym held.arc) in
      let above : from ≤ place c = ⊎_elim (λ (e : place c ≡ from). omega (arith, e)) (λ (apart : (place c < from) ⊎ (from < place c)).
      ⊎_elim (λ (less : place c < from). absurd (omega (arith, from_is.below (place c) 0 less, at.2, held.from))) (λ (more : from < place c). omega (arith, more)) apart) (cases_order (place c) from) in
      let below : place c < until = ⊎_elim (λ (e : place c ≡ until). absurd (omega (arith, until_is.above (place c) 0 (omega (arith, e)) at.1, at.2, held.before))) (λ (apart : (place c < until) ⊎ (until < place c)).
      ⊎_elim (λ (less : place c < until). less) (λ (more : until < place c). absurd (omega (arith, until_is.above (place c) 0 (omega (arith, more)) at.1, at.2, held.before))) apart) (cases_order (place c) until) in
      (omega (arith, above, at.0), omega (arith, below, least, at.0))

  pub range-told : (n : ℕ) → n < class_count net → between (first + from) (first + end) n ≡ holds span (class_at net n)
  range-told n within =
      let number = number-class net n valid within in
      let c : Leg = class_at net n in
      Bool-from_both (between (first + from) (first + end) n) (holds span c)
      (λ h. let parts = between-true (first + from) (first + end) n h in holds-from span c (held-in c number.0 (omega (arith, parts.0, number.1)) (omega (arith, parts.1, number.1))))
      (λ h. let parts = number-in c number.0 (holds-true span c h) in between-from (first + from) (first + end) n (omega (arith, parts.0, number.1)) (omega (arith, parts.1, number.1)))

-- what is read of an arc's classes: the number of its first one, and as many as its tail has points
pub record AreClassesOf (net : TimedNetwork) (arc first : ℕ) (qs : List ℕ) : Type 0 where
  pub begin : first ≡ first_class net arc
  pub points : qs ≡ points_in net (tail_in net arc)
  pub within : first + length qs ≤ class_count net
  pub few : class_count net ≤ 100001000

pub classes-of : (p : Problem) (net : TimedNetwork) (arc first : ℕ) (qs : List ℕ) → IsWholeNetwork p net → arc < length p.arcs → first ≡ class_number net (record { arc = arc; depart = 0 }) →
    qs ≡ points_in net (arc_at p arc).from → AreClassesOf net arc first qs
classes-of p net arc first qs whole exists first_is points_is =
    let tail : tail_in net arc ≡ (arc_at p arc).from = tail-of p net arc whole.arcs exists in
    let inside : arc < length net.tails = omega (arith, exists, arc-count p net whole.arcs) in
    let range = class_range net arc (arc_at p arc).from first (length qs) whole.valid inside (sym tail) first_is (ap (λ (l : List ℕ). length l) points_is) in
    record {
      begin = range.0;
      points = points_is ∙ ap (λ (t : ℕ). points_in net t) (sym tail);
      within = range.1;
      few = few-classes net whole.valid;
    }
