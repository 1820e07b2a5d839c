-- What is in range names terminals, arcs and shipments that exist.
use Rattle.std.proofs.Common.{List}
use Rattle.std.specs.Prelude.{All}
use Rattle.std.proofs.lemmas.List.Elements.{All-weaker}
use Rattle.fp_model.specs.Problem.{Problem}
use Rattle.fp_prices.specs.Shares.{ClassShare}
use Rattle.fp_prices_spans.specs.Spans.{ClassSpan}
use Rattle.fp_timetable.specs.Lines.{LegExists, TruckExists}
use Rattle.fp_tree.specs.declared.sides.Split.{Split}
use Rattle.fp_tree.specs.declared.sides.Split.TheVariants.{ByArc, ByTime, ByTrucks, ByWay}
use Rattle.fp_certificate_lines.specs.declared.certificates.Answer.{Answer}
use Rattle.fp_certificate_lines.specs.declared.certificates.Answer.TheVariants.{Direct, Optimal, Unfinished, Infeasible}
use Rattle.fp_certificate_lines.specs.declared.certificates.Node.{Node}
use Rattle.fp_certificate_lines.specs.declared.certificates.Node.TheVariants.{Branch, Leaf, Narrow}
use Rattle.fp_certificate_lines.specs.Ranges.{AnswerExists, GiftExists, IsGiftInRange, IsAnswerInRange, IsInRange, IsLegInRange, IsNamed, IsNodeInRange, IsPointInRange, IsShareInRange, IsSpanInRange, IsSplitInRange, IsTruckInRange, IsWeightInRange, NodeExists, PointExists, ShareExists, SpanExists, SplitExists, WeightExists}
use Rattle.fp_certificate_lines.specs.Statements.{Statement}

answer-exists : (p : Problem) (a : Answer) → IsAnswerInRange p a → AnswerExists p a
answer-exists p (Direct cost) r = tt
answer-exists p (Optimal cost) r = tt
answer-exists p (Unfinished cost bound spent) r = tt
answer-exists p (Infeasible shipment time) r = r.0

share-exists : (p : Problem) (s : ClassShare) → IsShareInRange p s → ShareExists p s
share-exists p s r = record { arc = r.arc; weights = All-weaker (IsWeightInRange p) (WeightExists p) (λ w h. h.shipment) s.weights r.weights }

span-exists : (p : Problem) (s : ClassSpan) → IsSpanInRange p s → SpanExists p s
span-exists p s r = record { arc = r.arc; weights = All-weaker (IsWeightInRange p) (WeightExists p) (λ w h. h.shipment) s.weights r.weights }

split-exists : (p : Problem) (s : Split) → IsSplitInRange p s → SplitExists p s
split-exists p (ByArc shipment arc) r = r
split-exists p (ByTime shipment terminal at) r = (r.0, r.1)
split-exists p (ByTrucks arc point until most) r = r.arc
split-exists p (ByWay shipment arc) r = r

node-exists : (p : Problem) (tables : List (List ClassShare)) (n : Node) → IsNodeInRange p tables n → NodeExists p n
node-exists p tables (Branch split) r = split-exists p split r
node-exists p tables (Leaf valuation) r = tt
node-exists p tables (Narrow narrowing) r = tt

-- a certificate in range can be written
pub in-range-named : (p : Problem) (c : Statement) → IsInRange p c → IsNamed p c
in-range-named p c r = record {
  answer = answer-exists p c.answer r.answer;
  legs = All-weaker (IsLegInRange p) (LegExists p) (λ l h. h.exists) c.legs r.legs;
  trucks = All-weaker (IsTruckInRange p) (TruckExists p) (λ t h. h.exists) c.trucks r.trucks;
  points = All-weaker (IsPointInRange p) (PointExists p) (λ x h. h.terminal) c.points r.points;
  tables = All-weaker (All (IsShareInRange p)) (All (ShareExists p)) (λ t h. All-weaker (IsShareInRange p) (ShareExists p) (share-exists p) t h) c.tables r.tables;
  spans = All-weaker (All (IsSpanInRange p)) (All (SpanExists p)) (λ t h. All-weaker (IsSpanInRange p) (SpanExists p) (span-exists p) t h) c.spans r.spans;
  gifts = All-weaker (All (IsGiftInRange p)) (All (GiftExists p)) (λ t h. All-weaker (IsGiftInRange p) (GiftExists p) (λ g r. r.arc) t h) c.gifts r.gifts;
  tree = All-weaker (IsNodeInRange p c.tables) (NodeExists p) (node-exists p c.tables) c.tree r.tree;
}
