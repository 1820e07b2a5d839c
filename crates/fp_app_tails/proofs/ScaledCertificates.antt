-- A certificate that can be checked for an instance can be so at each scale of it.
use Rattle.std.proofs.Common.{ℕ, List}
use Rattle.std.specs.Prelude.{All}
use Rattle.std.proofs.lemmas.List.Elements.{All-weaker}
use Rattle.std.proofs.lemmas.Option.{IfSome_then}
use Rattle.fp_model.specs.Problem.{Problem}
use Rattle.fp_timenodes.specs.declared.places.AddedPoint.{AddedPoint}
use Rattle.fp_prices.specs.declared.tables.Weight.{Weight}
use Rattle.fp_prices.specs.Shares.{ClassShare}
use Rattle.fp_prices.specs.Tables.{AreCountable}
use Rattle.fp_prices_spans.specs.Spans.{ClassSpan}
use Rattle.fp_prices_gifts.specs.declared.gifts.Gift.{Gift}
use Rattle.fp_timetable.specs.declared.lines.LegLine.{LegLine}
use Rattle.fp_timetable.specs.declared.lines.TruckLine.{TruckLine}
use Rattle.fp_tree.specs.declared.sides.Split.TheVariants.{ByArc, ByTime, ByTrucks, ByWay}
use Rattle.fp_certificate_lines.specs.declared.certificates.Answer.{Answer}
use Rattle.fp_certificate_lines.specs.declared.certificates.Answer.TheVariants.{Direct, Infeasible, Optimal, Unfinished}
use Rattle.fp_certificate_lines.specs.declared.certificates.Node.{Node}
use Rattle.fp_certificate_lines.specs.declared.certificates.Node.TheVariants.{Branch, Leaf, Narrow}
use Rattle.fp_certificate_lines.specs.Ranges.{IsAnswerInRange, IsGiftInRange, IsInRange, IsLegInRange, IsNodeInRange, IsPointInRange, IsScaleInRange, IsShareInRange, IsSpanInRange, IsTruckInRange, IsTruckSplitInRange, IsWeightInRange}
use Rattle.fp_certificate_lines.specs.Statements.{Statement}
use Rattle.fp_app_tails.specs.Verdicts.{CanBeTested}

module _ (p : Problem) (scale : ℕ) where
  abbrev rescaled : Problem
  rescaled = record p { scale = scale }

  answer-in_range : (a : Answer) → IsAnswerInRange p a → IsAnswerInRange rescaled a
  answer-in_range (Direct cost) is = is
  answer-in_range (Optimal cost) is = is
  answer-in_range (Unfinished cost bound spent) is = is
  answer-in_range (Infeasible shipment time) is = is

  scale-in_range : (n : ℕ) → IsScaleInRange p n → IsScaleInRange rescaled n
  scale-in_range n is = record { least = is.least; most = is.most; fits = is.fits }

  leg-in_range : (l : LegLine) → IsLegInRange p l → IsLegInRange rescaled l
  leg-in_range l is = record { exists = is.exists; depart = is.depart; arrive = is.arrive }

  truck-in_range : (t : TruckLine) → IsTruckInRange p t → IsTruckInRange rescaled t
  truck-in_range t is = record { exists = is.exists; depart = is.depart; trucks = is.trucks; load = is.load }

  point-in_range : (q : AddedPoint) → IsPointInRange p q → IsPointInRange rescaled q
  point-in_range q is = record { terminal = is.terminal; time = is.time; round = is.round }

  weight-in_range : (w : Weight) → IsWeightInRange p w → IsWeightInRange rescaled w
  weight-in_range w is = record { shipment = is.shipment; small = is.small }

  weights-in_range : (weights : List Weight) → All (IsWeightInRange p) weights → All (IsWeightInRange rescaled) weights
  weights-in_range weights are = All-weaker (IsWeightInRange p) (IsWeightInRange rescaled) weight-in_range weights are

  share-in_range : (s : ClassShare) → IsShareInRange p s → IsShareInRange rescaled s
  share-in_range s is = record { arc = is.arc; point = is.point; price = is.price; weights = weights-in_range s.weights is.weights }

  span-in_range : (s : ClassSpan) → IsSpanInRange p s → IsSpanInRange rescaled s
  span-in_range s is = record {
    arc = is.arc;
    point = is.point;
    some = is.some;
    until = is.until;
    money = is.money;
    charge = is.charge;
    weights = weights-in_range s.weights is.weights;
    groups = is.groups;
  }

  gift-in_range : (g : Gift) → IsGiftInRange p g → IsGiftInRange rescaled g
  gift-in_range g is = record { arc = is.arc; point = is.point; some = is.some; until = is.until; amount = is.amount }

  split-in_range : (arc point until most : ℕ) → IsTruckSplitInRange p arc point until most → IsTruckSplitInRange rescaled arc point until most
  split-in_range arc point until most is = record { arc = is.arc; point = is.point; some = is.some; until = is.until; most = is.most }

  node-in_range : (tables : List (List ClassShare)) (n : Node) → IsNodeInRange p tables n → IsNodeInRange rescaled tables n
  node-in_range tables (Branch (ByArc shipment arc)) is = is
  node-in_range tables (Branch (ByTime shipment terminal time)) is = is
  node-in_range tables (Branch (ByTrucks arc point until most)) is = split-in_range arc point until most is
  node-in_range tables (Branch (ByWay shipment arc)) is = is
  node-in_range tables (Leaf valuation) is = is
  node-in_range tables (Narrow narrowing) is = is

  all-in_range : (c : Statement) → IsInRange p c → IsInRange rescaled c
  all-in_range c is = record {
    answer = answer-in_range c.answer is.answer;
    scale = IfSome_then c.scale is.scale scale-in_range;
    unit = is.unit;
    legs = All-weaker (IsLegInRange p) (IsLegInRange rescaled) leg-in_range c.legs is.legs;
    trucks = All-weaker (IsTruckInRange p) (IsTruckInRange rescaled) truck-in_range c.trucks is.trucks;
    points = All-weaker (IsPointInRange p) (IsPointInRange rescaled) point-in_range c.points is.points;
    tables = All-weaker (λ (t : List ClassShare). All (IsShareInRange p) t) (λ (t : List ClassShare). All (IsShareInRange rescaled) t)
        (λ t are. All-weaker (IsShareInRange p) (IsShareInRange rescaled) share-in_range t are) c.tables is.tables;
    spans = All-weaker (λ (t : List ClassSpan). All (IsSpanInRange p) t) (λ (t : List ClassSpan). All (IsSpanInRange rescaled) t)
        (λ t are. All-weaker (IsSpanInRange p) (IsSpanInRange rescaled) span-in_range t are) c.spans is.spans;
    beside = is.beside;
    gifts = All-weaker (λ (t : List Gift). All (IsGiftInRange p) t) (λ (t : List Gift). All (IsGiftInRange rescaled) t)
        (λ t are. All-weaker (IsGiftInRange p) (IsGiftInRange rescaled) gift-in_range t are) c.gifts is.gifts;
    given = is.given;
    timed = is.timed;
    tree = All-weaker (IsNodeInRange p c.tables) (IsNodeInRange rescaled c.tables) (node-in_range c.tables) c.tree is.tree;
  }

  countable : (tables : List (List ClassShare)) → AreCountable p tables → AreCountable rescaled tables
  countable tables are = record { few_tables = are.few_tables; few_shares = are.few_shares; arcs = are.arcs }

  pub CanBeTested-scaled : (c : Statement) → CanBeTested p c → CanBeTested rescaled c
  CanBeTested-scaled c can = (all-in_range c can.0, countable c.tables can.1, can.2)
