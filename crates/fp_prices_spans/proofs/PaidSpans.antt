-- Spans that break a rule, or of which one's charge doesn't pay, aren't paid.
use Rattle.std.proofs.Common.{◌≡◌, true, List, arith}
use Rattle.std.specs.Prelude.{MatchOption, None, Option, Some, is_some}
use Rattle.std.proofs.lemmas.Bool.{false≢true}
use Rattle.fp_base_lists.proofs.Elements.{AllByRecursion-get_or}
use Rattle.fp_model.specs.Problem.{Problem}
use Rattle.fp_prices_spans.specs.declared.rules.span_faults.SpanFault.{SpanFault}
use Rattle.fp_prices_spans.specs.declared.rules.span_faults.SpanFault.TheVariants.{Order, Weights, Money}
use Rattle.fp_prices_spans.specs.Spans.{ClassSpan}
use Rattle.fp_prices_spans.specs.SpanLists.{IsSpanFault, IsSpanList, no_span}
use Rattle.fp_prices_spans.specs.SpanRules.{KeepsMoneyRule}

-- a rule that is broken isn't kept
pub fault-refutes : (p : Problem) (spans : List ClassSpan) (fault : SpanFault) → IsSpanFault p spans fault → IsSpanList p spans → ⊥
fault-refutes p spans Order broken list = broken list.ordered
fault-refutes p spans Weights broken list = absurd (omega (arith, broken.1, list.light))
fault-refutes p spans (Money n) broken list =
    broken.2.over (AllByRecursion-get_or (KeepsMoneyRule p spans) spans n no_span list.money broken.2.exists)

-- so a test that found a fault tells that the spans aren't as they have to be
pub failed-refutes : (p : Problem) (spans : List ClassSpan) (r : Option SpanFault) → is_some r ≡ true → MatchOption r (IsSpanList p spans) (IsSpanFault p spans) → IsSpanList p spans → ⊥
failed-refutes p spans None failed fault list = false≢true failed
failed-refutes p spans (Some e) failed fault list = fault-refutes p spans e fault list
