-- What is asked of a list of spans, and the first rule that it breaks.
use Rattle.std.specs.Prelude.{ℕ, ◌<◌, ◌≤◌, ◌-◌, ◌^◌, ◌≡◌, ◌⊎◌, List, [], ◌∷◌, length, sum_by, take, All, AllPairs, slice_index_or}
use Rattle.std.specs.List.{AllByRecursion}
use Rattle.fp_base_lists.specs.Order.{Precedes}
use Rattle.fp_model.specs.Problem.{Problem}
use Rattle.fp_prices.specs.declared.tables.Weight.{Weight}
use Rattle.fp_prices_spans.specs.declared.rules.span_faults.SpanFault.{SpanFault}
use Rattle.fp_prices_spans.specs.declared.rules.span_faults.SpanFault.TheVariants.{Order, Weights, Money}
use Rattle.fp_prices_spans.specs.declared.spans.TheConstants.{MOST_SPAN_WEIGHT}
use Rattle.fp_prices_spans.specs.Spans.{ClassSpan}
use Rattle.fp_prices_spans.specs.SpanRules.{KeepsMoneyRule, WeightsAscend}

-- one span stands before another: by arc, then by point, then by where it ends
abbrev pub StandsBefore : ClassSpan → ClassSpan → Type 0
StandsBefore s t = (s.arc < t.arc) ⊎ ((s.arc ≡ t.arc) × Precedes s.point s.until t.point t.until)

-- moments ascend strictly, from one through some to another
abbrev pub AscendBetween : (from : ℕ) → List ℕ → (until : ℕ) → Type 0
AscendBetween from [] until = from < until
AscendBetween from (m ∷ moments) until = (from < m) × AscendBetween m moments until

-- the moments of a span ascend strictly: its point, those at which further groups begin, and the one where it ends
abbrev pub MomentsAscend : ClassSpan → Type 0
MomentsAscend span = AscendBetween span.point span.groups span.until

-- spans in order: they ascend strictly, and in each span the weights and the moments ascend strictly
pub record AreSpansInOrder (spans : List ClassSpan) : Type 0 where
  pub ascend : AllPairs StandsBefore spans
  pub weights : All (λ (span : ClassSpan). WeightsAscend span.weights) spans
  pub moments : All MomentsAscend spans

-- the weights of all spans together
abbrev pub weight_total : List ClassSpan → ℕ
weight_total spans = sum_by (λ (span : ClassSpan). sum_by (λ (w : Weight). w.w) span.weights) spans

-- spans in order whose weights are light, and all of which keep the money rule
pub record IsSpanList (p : Problem) (spans : List ClassSpan) : Type 0 where
  pub ordered : AreSpansInOrder spans
  pub light : weight_total spans < MOST_SPAN_WEIGHT
  pub money : AllByRecursion (KeepsMoneyRule p spans) spans

-- the spans are of arcs that exist, and fewer than can be counted in 32 bits
pub record AreCountableSpans (p : Problem) (spans : List ClassSpan) : Type 0 where
  pub few : length spans < 2 ^ 32 - 1
  pub arcs : All (λ (span : ClassSpan). span.arc < length p.arcs) spans

-- a span is of an arc, and its weights are of shipments, that exist
pub record IsSpanOf (p : Problem) (span : ClassSpan) : Type 0 where
  pub arc : span.arc < length p.arcs
  pub shipments : All (λ (w : Weight). w.shipment < length p.shipments) span.weights

-- spans by which leaves can be priced: in order, of arcs and shipments that exist, and light
pub record AreSpans (p : Problem) (spans : List ClassSpan) : Type 0 where
  pub ordered : AreSpansInOrder spans
  pub exist : All (IsSpanOf p) spans
  pub light : weight_total spans < MOST_SPAN_WEIGHT

-- stands for the span of a number that no span has
abbrev pub no_span : ClassSpan
no_span = record { arc = 0; point = 0; until = 0; money = 0; charge = 0; weights = []; groups = [] }

-- the span with a number, counted from 0
abbrev pub span_at : List ClassSpan → ℕ → ClassSpan
span_at spans n = slice_index_or spans n no_span

-- the span with the number breaks the money rule, and all before it keep it
pub record IsFirstOver (p : Problem) (spans : List ClassSpan) (n : ℕ) : Type 0 where
  pub exists : n < length spans
  pub over : KeepsMoneyRule p spans (span_at spans n) → ⊥
  pub before : All (KeepsMoneyRule p spans) (take n spans)

-- the first rule that spans break: they aren't in order, or are and weigh too much, or are and don't and a span is the first that
-- breaks the money rule
abbrev pub IsSpanFault : Problem → List ClassSpan → SpanFault → Type 0
IsSpanFault p spans Order = AreSpansInOrder spans → ⊥
IsSpanFault p spans Weights = AreSpansInOrder spans × (MOST_SPAN_WEIGHT ≤ weight_total spans)
IsSpanFault p spans (Money n) = AreSpansInOrder spans × (weight_total spans < MOST_SPAN_WEIGHT) × IsFirstOver p spans n
