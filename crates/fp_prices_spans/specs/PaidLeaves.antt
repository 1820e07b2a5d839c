-- Spans whose charges pay at one leaf, by windows and points that may be the leaf's own.
use Rattle.std.specs.Prelude.{ℕ, List, Bool, Option, All}
use Rattle.std.specs.List.{AllByRecursion}
use Rattle.fp_model.specs.declared.parts.Leg.{Leg}
use Rattle.fp_model.specs.Problem.{IsValid, Problem}
use Rattle.fp_flatnet.specs.declared.window_tables.Window.{Window}
use Rattle.fp_prices_spans.specs.Spans.{ClassSpan}
use Rattle.fp_prices_spans.specs.SpanCharges.{ChargePays}
use Rattle.fp_prices_spans.specs.SpanLeaves.{ChargedKeepSetRule, IsCharged}
use Rattle.fp_prices_spans.specs.SpanLists.{AreSpansInOrder, IsSpanOf}

-- the charge of each span that is charged at a leaf pays for its weights, by windows and points
abbrev pub ChargedPay : Problem → (windows : ℕ → ℕ → Option Window) → (points : ℕ → List ℕ) → (allowed : ℕ → Leg → Bool) → (chains : List (List Leg)) → List ClassSpan → Type 0
ChargedPay p windows points allowed chains spans = AllByRecursion (λ span. IsCharged p allowed chains span → ChargePays p windows points span) spans

-- of spans in order, those that are charged keep the set rule where their charges pay, whatever their money
abbrev pub ChargedPayKeepSetRule : Type 0
ChargedPayKeepSetRule =
    (p : Problem) (windows : ℕ → ℕ → Option Window) (points : ℕ → List ℕ) (allowed : ℕ → Leg → Bool) (chains : List (List Leg)) (spans : List ClassSpan) → IsValid p → All (IsSpanOf p) spans → AreSpansInOrder spans →
    ChargedPay p windows points allowed chains spans → ChargedKeepSetRule p windows points allowed chains spans
