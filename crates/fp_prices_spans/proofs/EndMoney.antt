-- The money of the ends of spans, as ends come and go.
use Rattle.std.proofs.Common.{◌≡◌, ℕ, ◌+◌, ◌<◌, ◌≤◌, Bool, false, List, [], ◌∷◌, ◌++◌, ⊎_elim, refl, sym, ap, ◌∙◌, arith}
use Rattle.std.specs.Prelude.{All, IsPermutation, nat_le, nat_lt, ◌&&◌, if◌then◌else◌}
use Rattle.std.specs.BinaryHeap.{IsHeap}
use Rattle.std.proofs.lemmas.Bool.{cases_lt, cond-false, cond-true, eq-eqb, le-leb, lt-ltb, le-ltb}
use Rattle.std.proofs.lemmas.List.Elements.{All-head, All-tail}
use Rattle.std.proofs.lemmas.List.Sorted.{sum_by_popped, sum_by_pushed}
use Rattle.std.proofs.lemmas.List.Sums.{sum_by-cons, sum_by_push}
use Rattle.fp_model.specs.declared.parts.Leg.{Leg}
use Rattle.fp_prices_spans.specs.HeldMoney.{AreLeft, End, TellMoney, end_cmp, held_money, money_after, money_of}
use Rattle.fp_prices_spans.specs.Spans.{ClassSpan}
use Rattle.fp_prices_spans.specs.SpanPrices.{holds, money_at}

-- what an end has after a moment
abbrev pub own_after : ℕ → End → ℕ
own_after m e = if nat_lt m e.0.0 then e.0.1 else 0

-- an end that isn't after a moment goes
pub popped : (old ends : List End) (until money moment total : ℕ) → until ≤ moment → IsPermutation old (record { 0 = (until, money) } ∷ ends) → IsHeap end_cmp ends → total ≡ money_of old →
    (money ≤ total) × (total ≡ money_of ends + money) × ((m : ℕ) → moment ≤ m → money_after ends m ≡ money_after old m)
popped old ends until money moment total le perm heap is =
    let e : End = record { 0 = (until, money) } in
    let all = sum_by_popped (λ (x : End). x.0.1) e old ends perm in (
      omega (arith, all, is),
      omega (arith, all, is),
      λ m from.
          let past : nat_lt m until ≡ false = le-ltb m until (omega (arith, le, from)) in
          omega (arith, sum_by_popped (own_after m) e old ends perm, cond-false (nat_lt m until) money 0 past),
    )

-- where all ends lie after a moment, their money is that after it
pub money-later : (ends : List End) (moment : ℕ) → All (λ (e : End). moment < e.0.0) ends → money_after ends moment ≡ money_of ends
money-later [] moment later = refl
money-later (e ∷ ends) moment later =
    omega (
      arith,
      sum_by-cons (own_after moment) e ends,
      sum_by-cons (λ (x : End). x.0.1) e ends,
      cond-true (nat_lt moment e.0.0) e.0.1 0 (lt-ltb moment e.0.0 (All-head (λ (x : End). moment < x.0.0) e ends later)),
      money-later ends moment (All-tail (λ (x : End). moment < x.0.0) e ends later),
    )

-- what a span has at a class of its arc from its point on is what its end has after that
own-money : (span : ClassSpan) (m : ℕ) → span.point ≤ m →
    own_after m (record { 0 = (span.until, held_money span) }) ≡ (if holds span (record { arc = span.arc; depart = m }) then span.money else 0)
own-money span m le =
    let here : holds span (record { arc = span.arc; depart = m }) ≡ nat_lt m span.until =
    ap (λ (b : Bool). b && (nat_le span.point m && nat_lt m span.until)) (eq-eqb span.arc span.arc refl) ∙ ap (λ (b : Bool). b && nat_lt m span.until) (le-leb span.point m le) in
    ⊎_elim
    (λ (before : m < span.until).
    let lt = lt-ltb m span.until before in
    let some : held_money span ≡ span.money = cond-true (nat_lt span.point span.until) span.money 0 (lt-ltb span.point span.until (omega (arith, before, le))) in
    cond-true (nat_lt m span.until) (held_money span) 0 lt ∙ some ∙ sym (cond-true (holds span (record { arc = span.arc; depart = m })) span.money 0 (here ∙ lt)))
    (λ (past : span.until ≤ m).
    let ge = le-ltb m span.until past in
    cond-false (nat_lt m span.until) (held_money span) 0 ge ∙ sym (cond-false (holds span (record { arc = span.arc; depart = m })) span.money 0 (here ∙ ge)))
    (cases_lt m span.until)

-- one more span, after those were let go that end at its point or before
module _ (spans : List ClassSpan) (span : ClassSpan) (old left : List End) (before total : ℕ) (told : TellMoney spans span.arc span.point old before) (are : AreLeft span.point old left total) where
  abbrev class_at : ℕ → Leg
  class_at m = record { arc = span.arc; depart = m }

  own_at : ℕ → ClassSpan → ℕ
  own_at m s = if holds s (class_at m) then s.money else 0

  -- at its point they have so much
  pub taken-money : money_at (spans ++ span ∷ []) (class_at span.point) ≡ total + held_money span
  taken-money =
      let point : ℕ = span.point in
      let own : own_after point (record { 0 = (span.until, held_money span) }) ≡ (if holds span (class_at point) then span.money else 0) = own-money span point (omega arith) in
      let first : own_after point (record { 0 = (span.until, held_money span) }) ≡ held_money span =
      ⊎_elim
      (λ (lt : point < span.until). cond-true (nat_lt point span.until) (held_money span) 0 (lt-ltb point span.until lt))
      (λ (ge : span.until ≤ point).
      cond-false (nat_lt point span.until) (held_money span) 0 (le-ltb point span.until ge) ∙ sym (cond-false (nat_lt point span.until) span.money 0 (le-ltb point span.until ge)))
      (cases_lt point span.until) in
      omega (
        arith,
        sum_by_push (λ (s : ClassSpan). if holds s (class_at point) then s.money else 0) spans span,
        own,
        first,
        told.tells point (omega arith),
        are.same point (omega arith),
        money-later left point are.later,
        are.counted.total_is,
      )

  -- and with its end the ends tell the money of all
  pub taken-tells : (ends : List End) (sum : ℕ) → IsPermutation (record { 0 = (span.until, held_money span) } ∷ left) ends → IsHeap end_cmp ends → sum ≡ total + held_money span →
      TellMoney (spans ++ span ∷ []) span.arc span.point ends sum
  taken-tells ends sum perm heap is =
      let e : End = record { 0 = (span.until, held_money span) } in
      record {
        counted = record { ordered = heap; total_is = omega (arith, is, sum_by_pushed (λ (x : End). x.0.1) e left ends perm, are.counted.total_is) };
        tells = λ m from. omega (
          arith,
          sum_by_push (λ (s : ClassSpan). if holds s (class_at m) then s.money else 0) spans span,
          own-money span m from,
          told.tells m from,
          are.same m from,
          sum_by_pushed (own_after m) e left ends perm,
        );
      }
