-- Certificates whose numbers are in range, and whose terminals, arcs, shipments and tables exist.
use Rattle.std.specs.Prelude.{ℕ, ◌+◌, ◌-◌, ◌<◌, ◌≤◌, ◌≡◌, ◌^◌, List, length, All, IfSome}
use Rattle.fp_model.specs.declared.limits.TheConstants.{GREATEST_SCALE, LAST_ROUND, LATEST, LONGEST_FASTEST}
use Rattle.fp_model.specs.declared.parts.Shipment.{Shipment}
use Rattle.fp_model.specs.Names.{IsName}
use Rattle.fp_model.specs.Problem.{Problem, weight_at}
use Rattle.fp_prices.specs.declared.tables.Weight.{Weight}
use Rattle.fp_prices.specs.Shares.{ClassShare}
use Rattle.fp_prices.specs.Tables.{HasKind}
use Rattle.fp_prices_gifts.specs.declared.gifts.Gift.{Gift}
use Rattle.fp_prices_spans.specs.Spans.{ClassSpan}
use Rattle.fp_timenodes.specs.declared.places.AddedPoint.{AddedPoint}
use Rattle.fp_timetable.specs.declared.lines.LegLine.{LegLine}
use Rattle.fp_timetable.specs.declared.lines.TruckLine.{TruckLine}
use Rattle.fp_timetable.specs.Lines.{LegExists, TruckExists}
use Rattle.fp_tree.specs.declared.layout.TheConstants.{MOST_SPLITS}
use Rattle.fp_tree.specs.declared.sides.Split.{Split}
use Rattle.fp_tree.specs.declared.sides.Split.TheVariants.{ByArc, ByTime, ByTrucks, ByWay}
use Rattle.fp_certificate_lines.specs.declared.certificates.Answer.{Answer}
use Rattle.fp_certificate_lines.specs.declared.certificates.Answer.TheVariants.{Direct, Optimal, Unfinished, Infeasible}
use Rattle.fp_certificate_lines.specs.declared.certificates.Narrowing.{Narrowing}
use Rattle.fp_certificate_lines.specs.declared.certificates.Node.{Node}
use Rattle.fp_certificate_lines.specs.declared.certificates.Node.TheVariants.{Branch, Leaf, Narrow}
use Rattle.fp_certificate_lines.specs.declared.certificates.Valuation.{Valuation}
use Rattle.fp_certificate_lines.specs.Statements.{Statement}

-- the largest number that a field may have where no other limit is named
abbrev pub largest_figure : ℕ
largest_figure = 2 ^ 127 - 1

-- the largest number of trucks by which a split divides
abbrev pub largest_count : ℕ
largest_count = 2 ^ 32 - 1

-- costs and bounds are no larger than a field may be, a shipment exists, and a fastest time is at
-- most 10,000,000
abbrev pub IsAnswerInRange : Problem → Answer → Type 0
IsAnswerInRange p (Direct cost) = cost ≤ largest_figure
IsAnswerInRange p (Optimal cost) = cost ≤ largest_figure
IsAnswerInRange p (Unfinished cost bound spent) = (cost ≤ largest_figure) × (bound ≤ largest_figure)
IsAnswerInRange p (Infeasible shipment time) = (shipment < length p.shipments) × IfSome time (λ t. t ≤ LONGEST_FASTEST)

-- a scale is 1 to 1,000,000,000 and fits the instance
pub record IsScaleInRange (p : Problem) (scale : ℕ) : Type 0 where
  pub least : 1 ≤ scale
  pub most : scale ≤ GREATEST_SCALE
  pub fits : weight_at scale p.arcs p.shipments < 2 ^ 127

-- a unit is at least 1 and no larger than a field may be
pub record IsUnitInRange (unit : ℕ) : Type 0 where
  pub least : 1 ≤ unit
  pub most : unit ≤ largest_figure

-- a leg's shipment and arc exist, and its times are at most 100,000
pub record IsLegInRange (p : Problem) (l : LegLine) : Type 0 where
  pub exists : LegExists p l
  pub depart : l.depart ≤ LATEST
  pub arrive : l.arrive ≤ LATEST

-- a truck line's arc exists, its time is at most 100,000, and its numbers are no larger than a
-- field may be
pub record IsTruckInRange (p : Problem) (t : TruckLine) : Type 0 where
  pub exists : TruckExists p t
  pub depart : t.depart ≤ LATEST
  pub trucks : t.trucks ≤ largest_figure
  pub load : t.load ≤ largest_figure

-- a point's terminal exists, its time is at most 100,000, and its round is 1 to 4,000
pub record IsPointInRange (p : Problem) (point : AddedPoint) : Type 0 where
  pub terminal : point.terminal < length p.terminals
  pub time : point.at ≤ LATEST
  pub round : (1 ≤ point.round) × (point.round ≤ LAST_ROUND)

-- a weight's shipment exists, and it is no larger than a field may be
pub record IsWeightInRange (p : Problem) (weight : Weight) : Type 0 where
  pub shipment : weight.shipment < length p.shipments
  pub small : weight.w ≤ largest_figure

-- a share's arc exists, its point is at most 100,000, its price is no larger than a field may be,
-- and its weights are in range
pub record IsShareInRange (p : Problem) (share : ClassShare) : Type 0 where
  pub arc : share.arc < length p.arcs
  pub point : share.point ≤ LATEST
  pub price : share.v ≤ largest_figure
  pub weights : All (IsWeightInRange p) share.weights

-- a moment at which a group begins is at most 100,000
abbrev pub IsGroupInRange : ℕ → Type 0
IsGroupInRange moment = moment ≤ LATEST

-- a span's arc exists, its point is at most 100,000 and before its end, which is at most 100,001, its
-- money and its charge are no larger than a field may be, and its weights and its groups are in range
pub record IsSpanInRange (p : Problem) (span : ClassSpan) : Type 0 where
  pub arc : span.arc < length p.arcs
  pub point : span.point ≤ LATEST
  pub some : span.point < span.until
  pub until : span.until ≤ LATEST + 1
  pub money : span.money ≤ largest_figure
  pub charge : span.charge ≤ largest_figure
  pub weights : All (IsWeightInRange p) span.weights
  pub groups : All IsGroupInRange span.groups

-- a gift's arc exists, its point is at most 100,000 and before its end, which is at most 100,001, and its
-- amount is no larger than a field may be
pub record IsGiftInRange (p : Problem) (gift : Gift) : Type 0 where
  pub arc : gift.arc < length p.arcs
  pub point : gift.point ≤ LATEST
  pub some : gift.point < gift.until
  pub until : gift.until ≤ LATEST + 1
  pub amount : gift.amount ≤ largest_figure

-- a split by trucks: its arc exists, its point is at most 100,000 and before its end, which is at most
-- 100,001, and its number is at most 4,294,967,295
pub record IsTruckSplitInRange (p : Problem) (by first past count : ℕ) : Type 0 where
  pub arc : by < length p.arcs
  pub point : first ≤ LATEST
  pub some : first < past
  pub until : past ≤ LATEST + 1
  pub most : count ≤ largest_count

-- a split's shipment, arc and terminal exist, and its time is at most 100,000; and those of a split by
-- trucks are as above
abbrev pub IsSplitInRange : Problem → Split → Type 0
IsSplitInRange p (ByArc shipment arc) = (shipment < length p.shipments) × (arc < length p.arcs)
IsSplitInRange p (ByTime shipment terminal at) = (shipment < length p.shipments) × (terminal < length p.terminals) × (at ≤ LATEST)
IsSplitInRange p (ByTrucks arc point until most) = IsTruckSplitInRange p arc point until most
IsSplitInRange p (ByWay shipment arc) = (shipment < length p.shipments) × (arc < length p.arcs)

-- a leaf's table exists, where it is priced by one, its round is at most 4,000, and it is valued under
-- at most 100,000 sides, where that isn't under all
pub record IsLeafInRange (tables : List (List ClassShare)) (v : Valuation) : Type 0 where
  pub kind : HasKind tables v.price.kind
  pub round : v.price.round ≤ LAST_ROUND
  pub sides : IfSome v.sides (λ count. count ≤ MOST_SPLITS)

-- a narrowing's table exists, where it is by one, its round is at most 4,000, and the worth that it names is no larger
-- than a field may be
pub record IsNarrowingInRange (tables : List (List ClassShare)) (n : Narrowing) : Type 0 where
  pub kind : HasKind tables n.price.kind
  pub round : n.price.round ≤ LAST_ROUND
  pub worth : IfSome n.worth (λ money. money ≤ largest_figure)

-- a node, or a narrowing, is in range beside these tables
abbrev pub IsNodeInRange : Problem → List (List ClassShare) → Node → Type 0
IsNodeInRange p tables (Branch split) = IsSplitInRange p split
IsNodeInRange p tables (Leaf valuation) = IsLeafInRange tables valuation
IsNodeInRange p tables (Narrow narrowing) = IsNarrowingInRange tables narrowing

-- all numbers are in range, all terminals, arcs, shipments and tables exist, and for each table there
-- is a list of spans, one of gifts, and whether it is by moments
pub record IsInRange (p : Problem) (c : Statement) : Type 0 where
  pub answer : IsAnswerInRange p c.answer
  pub scale : IfSome c.scale (IsScaleInRange p)
  pub unit : IfSome c.unit IsUnitInRange
  pub legs : All (IsLegInRange p) c.legs
  pub trucks : All (IsTruckInRange p) c.trucks
  pub points : All (IsPointInRange p) c.points
  pub tables : All (All (IsShareInRange p)) c.tables
  pub spans : All (All (IsSpanInRange p)) c.spans
  pub beside : length c.spans ≡ length c.tables
  pub gifts : All (All (IsGiftInRange p)) c.gifts
  pub given : length c.gifts ≡ length c.tables
  pub timed : length c.moments ≡ length c.tables
  pub tree : All (IsNodeInRange p c.tables) c.tree

-- the names of the shipments are names, as they are in each instance
abbrev pub HaveNames : Problem → Type 0
HaveNames p = All (λ (s : Shipment). IsName s.name) p.shipments

-- the shipment of an answer exists
abbrev pub AnswerExists : Problem → Answer → Type 0
AnswerExists p (Infeasible shipment time) = shipment < length p.shipments
AnswerExists p _ = Unit {0}

-- the terminal of a point exists
abbrev pub PointExists : Problem → AddedPoint → Type 0
PointExists p point = point.terminal < length p.terminals

-- the shipment of a weight exists
abbrev pub WeightExists : Problem → Weight → Type 0
WeightExists p weight = weight.shipment < length p.shipments

-- the arc of a share and the shipments of its weights exist
pub record ShareExists (p : Problem) (share : ClassShare) : Type 0 where
  pub arc : share.arc < length p.arcs
  pub weights : All (WeightExists p) share.weights

-- the arc of a span and the shipments of its weights exist
pub record SpanExists (p : Problem) (span : ClassSpan) : Type 0 where
  pub arc : span.arc < length p.arcs
  pub weights : All (WeightExists p) span.weights

-- the arc of a gift exists
abbrev pub GiftExists : Problem → Gift → Type 0
GiftExists p gift = gift.arc < length p.arcs

-- the shipment, the arc and the terminal of a split exist
abbrev pub SplitExists : Problem → Split → Type 0
SplitExists p (ByArc shipment arc) = (shipment < length p.shipments) × (arc < length p.arcs)
SplitExists p (ByTime shipment terminal at) = (shipment < length p.shipments) × (terminal < length p.terminals)
SplitExists p (ByTrucks arc point until most) = arc < length p.arcs
SplitExists p (ByWay shipment arc) = (shipment < length p.shipments) × (arc < length p.arcs)

-- the same of a node
abbrev pub NodeExists : Problem → Node → Type 0
NodeExists p (Branch split) = SplitExists p split
NodeExists p (Leaf valuation) = Unit {0}
NodeExists p (Narrow narrowing) = Unit {0}

-- all terminals, arcs and shipments that a certificate's lines name exist
pub record IsNamed (p : Problem) (c : Statement) : Type 0 where
  pub answer : AnswerExists p c.answer
  pub legs : All (LegExists p) c.legs
  pub trucks : All (TruckExists p) c.trucks
  pub points : All (PointExists p) c.points
  pub tables : All (All (ShareExists p)) c.tables
  pub spans : All (All (SpanExists p)) c.spans
  pub gifts : All (All (GiftExists p)) c.gifts
  pub tree : All (NodeExists p) c.tree
