-- Spans whose numbers are in range.
use Rattle.std.proofs.Common.{◌<◌, length}
use Rattle.std.proofs.lemmas.List.Elements.{All-weaker}
use Rattle.fp_model.specs.Problem.{Problem}
use Rattle.fp_prices.specs.declared.tables.Weight.{Weight}
use Rattle.fp_prices_spans.specs.Spans.{ClassSpan}
use Rattle.fp_prices_spans.specs.SpanLists.{IsSpanOf}
use Rattle.fp_certificate_lines.specs.Ranges.{IsSpanInRange, IsWeightInRange}

-- a span in range is of an arc and of shipments that exist
pub IsSpanInRange-of : (p : Problem) (s : ClassSpan) → IsSpanInRange p s → IsSpanOf p s
IsSpanInRange-of p s r = record {
  arc = r.arc;
  shipments = All-weaker (IsWeightInRange p) (λ (w : Weight). w.shipment < length p.shipments) (λ w h. h.shipment) s.weights r.weights;
}
