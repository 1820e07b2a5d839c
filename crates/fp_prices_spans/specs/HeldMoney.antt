-- The money of the spans of an arc that hold at a moment, as it is counted while the moment moves on.
use Rattle.std.specs.Prelude.{ℕ, ◌≡◌, ◌<◌, ◌≤◌, ◌⊎◌, List, All, nat_lt, sum_by, take, if◌then◌else◌}
use Rattle.std.specs.BinaryHeap.{IsHeap}
use Rattle.std.specs.Ordering.{nat_cmp, ordering_then}
use Rattle.std.specs.declared.cmp.Ordering.{Ordering}
use Rattle.std.specs.declared.cmp.Reverse.{Reverse}
use Rattle.fp_model.specs.Problem.{Problem}
use Rattle.fp_prices_spans.specs.Spans.{ClassSpan}
use Rattle.fp_prices_spans.specs.SpanPrices.{money_at}
use Rattle.fp_prices_spans.specs.SpanRules.{KeepsMoneyRule}
use Rattle.fp_prices_spans.specs.SpanLists.{span_at}

-- where a span ends, and its money
abbrev pub End : Type 0
End = Reverse (ℕ × ℕ)

-- the order of ends, in which the first is the greatest
abbrev pub end_cmp : End → End → Ordering
end_cmp x y = ordering_then (nat_cmp y.0.0 x.0.0) (nat_cmp y.0.1 x.0.1)

-- the money of ends together
abbrev pub money_of : List End → ℕ
money_of ends = sum_by (λ (e : End). e.0.1) ends

-- the money of those that lie after a moment
abbrev pub money_after : List End → ℕ → ℕ
money_after ends m = sum_by (λ (e : End). if nat_lt m e.0.0 then e.0.1 else 0) ends

-- ends with the first on top, and their money together
pub record AreEnds (ends : List End) (total : ℕ) : Type 0 where
  pub ordered : IsHeap end_cmp ends
  pub total_is : total ≡ money_of ends

-- of the ends those that lie after a moment
pub record AreLeft (moment : ℕ) (old ends : List End) (total : ℕ) : Type 0 where
  pub counted : AreEnds ends total
  pub later : All (λ (e : End). moment < e.0.0) ends
  pub same : (m : ℕ) → moment ≤ m → money_after ends m ≡ money_after old m

-- at each class of an arc from a point on, the ends tell the money of the spans that hold for it
pub record TellMoney (spans : List ClassSpan) (arc from : ℕ) (ends : List End) (total : ℕ) : Type 0 where
  pub counted : AreEnds ends total
  pub tells : (m : ℕ) → from ≤ m → money_after ends m ≡ money_at spans (record { arc = arc; depart = m })

-- the money of a span that holds for some class, and of one that holds for none nothing
abbrev pub held_money : ClassSpan → ℕ
held_money span = if nat_lt span.point span.until then span.money else 0

-- two spans begin at one class
pub record BeginTogether (s t : ClassSpan) : Type 0 where
  pub arc : s.arc ≡ t.arc
  pub point : s.point ≡ t.point

-- of the spans that begin together with the one at a number, the first; so far it was that of another number
abbrev pub IsFirstBeside : List ClassSpan → (first number : ℕ) → ℕ → Type 0
IsFirstBeside spans first number new =
    (BeginTogether (span_at spans first) (span_at spans number) × (new ≡ first)) ⊎ ((BeginTogether (span_at spans first) (span_at spans number) → ⊥) × (new ≡ number))

-- so many spans were gone through: those before one of them keep the money rule, the others begin together with it, they have no more
-- money there than they may, and the ends tell the money from there on
pub record AreSwept (p : Problem) (spans : List ClassSpan) (count first : ℕ) (ends : List End) (total : ℕ) : Type 0 where
  pub inside : first ≤ count
  pub settled : All (KeepsMoneyRule p spans) (take first spans)
  pub together : (k : ℕ) → first ≤ k → k < count → BeginTogether (span_at spans first) (span_at spans k)
  pub within : KeepsMoneyRule p (take count spans) (span_at spans first)
  pub held : TellMoney (take count spans) (span_at spans first).arc (span_at spans first).point ends total
