-- The fields of a certificate's lines, in order. A field is a list of bytes; numbers are decimal
-- without leading zeros.
use Rattle.std.specs.Prelude.{ℕ, ◌+◌, Bool, List, [], ◌∷◌, ◌++◌, map, if◌then◌else◌, Option, Some, None, codes, decimal, slice_index_or}
use Rattle.std.specs.List.{flat_map}
use Rattle.fp_records.specs.Text.{Lines, with_field}
use Rattle.fp_model.specs.Numbered.{shipment_at}
use Rattle.fp_model.specs.Problem.{Problem, arc_at}
use Rattle.fp_prices.specs.declared.leaf_prices.Kind.{Kind}
use Rattle.fp_prices.specs.declared.leaf_prices.Kind.TheVariants.{Linear, Even, Table}
use Rattle.fp_prices.specs.declared.leaf_prices.LeafPrice.{LeafPrice}
use Rattle.fp_prices.specs.declared.tables.Weight.{Weight}
use Rattle.fp_prices.specs.Shares.{ClassShare}
use Rattle.fp_prices_gifts.specs.declared.gifts.Gift.{Gift}
use Rattle.fp_prices_gifts.specs.GiftKinds.{gifts_of_table}
use Rattle.fp_prices_spans.specs.SpanKinds.{spans_of_table}
use Rattle.fp_prices_spans.specs.Spans.{ClassSpan}
use Rattle.fp_timenodes.specs.declared.places.AddedPoint.{AddedPoint}
use Rattle.fp_timetable.specs.declared.lines.LegLine.{LegLine}
use Rattle.fp_timetable.specs.declared.lines.TruckLine.{TruckLine}
use Rattle.fp_tree.specs.declared.sides.Split.{Split}
use Rattle.fp_tree.specs.declared.sides.Split.TheVariants.{ByArc, ByTime, ByTrucks, ByWay}
use Rattle.fp_certificate_lines.specs.declared.certificates.Answer.{Answer}
use Rattle.fp_certificate_lines.specs.declared.certificates.Answer.TheVariants.{Direct, Optimal, Unfinished, Infeasible}
use Rattle.fp_certificate_lines.specs.declared.certificates.Narrowing.{Narrowing}
use Rattle.fp_certificate_lines.specs.declared.certificates.Node.{Node}
use Rattle.fp_certificate_lines.specs.declared.certificates.Node.TheVariants.{Branch, Leaf, Narrow}
use Rattle.fp_certificate_lines.specs.declared.certificates.Spent.{Spent}
use Rattle.fp_certificate_lines.specs.declared.certificates.Spent.TheVariants.{Rounds, Branches, Time}
use Rattle.fp_certificate_lines.specs.declared.certificates.Valuation.{Valuation}
use Rattle.fp_certificate_lines.specs.Moments.{moments_of_table}
use Rattle.fp_certificate_lines.specs.Statements.{Statement}

-- the name of the terminal with a number
abbrev pub terminal_name : Problem → ℕ → List ℕ
terminal_name p terminal = slice_index_or p.terminals terminal []

-- the name of the shipment with a number
abbrev pub shipment_name : Problem → ℕ → List ℕ
shipment_name p shipment = (shipment_at p shipment).name

-- the name of the terminal that an arc leaves
abbrev pub tail_name : Problem → ℕ → List ℕ
tail_name p arc = terminal_name p (arc_at p arc).from

-- the name of the terminal that an arc enters
abbrev pub head_name : Problem → ℕ → List ℕ
head_name p arc = terminal_name p (arc_at p arc).to

-- a line that has been begun, and the names of the two ends of an arc
abbrev pub with_ends : Lines → Problem → ℕ → Lines
with_ends line p arc = with_field (with_field line (tail_name p arc)) (head_name p arc)

-- what was spent
abbrev pub spent_text : Spent → List ℕ
spent_text Rounds = codes "rounds"
spent_text Branches = codes "branches"
spent_text Time = codes "time"

-- a fastest time, or `none`
abbrev pub time_text : Option ℕ → List ℕ
time_text None = codes "none"
time_text (Some time) = decimal time

-- `answer,direct,COST`
abbrev pub direct_fields : ℕ → List (List ℕ)
direct_fields cost = codes "answer" ∷ codes "direct" ∷ decimal cost ∷ []

-- `answer,optimal,COST`
abbrev pub optimal_fields : ℕ → List (List ℕ)
optimal_fields cost = codes "answer" ∷ codes "optimal" ∷ decimal cost ∷ []

-- `answer,unfinished,COST,BOUND,SPENT`
abbrev pub unfinished_fields : (cost bound : ℕ) → Spent → List (List ℕ)
unfinished_fields cost bound spent = codes "answer" ∷ codes "unfinished" ∷ decimal cost ∷ decimal bound ∷ spent_text spent ∷ []

-- `answer,infeasible,SHIPMENT,TIME`
abbrev pub infeasible_fields : List ℕ → Option ℕ → List (List ℕ)
infeasible_fields name time = codes "answer" ∷ codes "infeasible" ∷ name ∷ time_text time ∷ []

-- the line of an answer
abbrev pub answer_fields : Problem → Answer → List (List ℕ)
answer_fields p (Direct cost) = direct_fields cost
answer_fields p (Optimal cost) = optimal_fields cost
answer_fields p (Unfinished cost bound spent) = unfinished_fields cost bound spent
answer_fields p (Infeasible shipment time) = infeasible_fields (shipment_name p shipment) time

-- `scale,N`
abbrev pub scale_fields : ℕ → List (List ℕ)
scale_fields scale = codes "scale" ∷ decimal scale ∷ []

-- the line of a scale, where there is one
abbrev pub scale_rows : Option ℕ → List (List (List ℕ))
scale_rows None = []
scale_rows (Some scale) = scale_fields scale ∷ []

-- `unit,Q`
abbrev pub unit_fields : ℕ → List (List ℕ)
unit_fields unit = codes "unit" ∷ decimal unit ∷ []

-- the line of a unit, where there is one
abbrev pub unit_rows : Option ℕ → List (List (List ℕ))
unit_rows None = []
unit_rows (Some unit) = unit_fields unit ∷ []

-- `leg,SHIPMENT,FROM,TO,DEPART,ARRIVE`
abbrev pub leg_fields : Problem → LegLine → List (List ℕ)
leg_fields p l =
    codes "leg" ∷ shipment_name p l.shipment ∷ tail_name p l.arc ∷ head_name p l.arc ∷ decimal l.depart ∷ decimal l.arrive ∷ []

-- `truck,FROM,TO,DEPART,TRUCKS,LOAD`
abbrev pub truck_fields : Problem → TruckLine → List (List ℕ)
truck_fields p t =
    codes "truck" ∷ tail_name p t.arc ∷ head_name p t.arc ∷ decimal t.depart ∷ decimal t.trucks ∷ decimal t.load ∷ []

-- `point,TERMINAL,TIME,ROUND`
abbrev pub point_fields : Problem → AddedPoint → List (List ℕ)
point_fields p point = codes "point" ∷ terminal_name p point.terminal ∷ decimal point.at ∷ decimal point.round ∷ []

-- that leaves are priced by moments by a table, where they are
abbrev pub moments_fields : Bool → List (List ℕ)
moments_fields by_moments = if by_moments then codes "moments" ∷ [] else []

-- a line that has been begun, and this
abbrev pub with_moments : Lines → Bool → Lines
with_moments line by_moments = if by_moments then with_field line (codes "moments") else line

-- `table,ID` or `table,ID,moments`
abbrev pub table_fields : ℕ → Bool → List (List ℕ)
table_fields id by_moments = codes "table" ∷ decimal id ∷ moments_fields by_moments

-- `share,FROM,TO,POINT,V`
abbrev pub share_fields : Problem → ClassShare → List (List ℕ)
share_fields p s = codes "share" ∷ tail_name p s.arc ∷ head_name p s.arc ∷ decimal s.point ∷ decimal s.v ∷ []

-- `weight,SHIPMENT,W`
abbrev pub weight_fields : Problem → Weight → List (List ℕ)
weight_fields p w = codes "weight" ∷ shipment_name p w.shipment ∷ decimal w.w ∷ []

-- the line of a share, followed by its weights
abbrev pub share_rows : Problem → ClassShare → List (List (List ℕ))
share_rows p s = share_fields p s ∷ map (weight_fields p) s.weights

-- `span,FROM,TO,POINT,UNTIL,MONEY,CHARGE`
abbrev pub span_fields : Problem → ClassSpan → List (List ℕ)
span_fields p s =
    codes "span" ∷ tail_name p s.arc ∷ head_name p s.arc ∷ decimal s.point ∷ decimal s.until ∷ decimal s.money ∷ decimal s.charge ∷ []

-- `group,MOMENT`
abbrev pub group_fields : ℕ → List (List ℕ)
group_fields moment = codes "group" ∷ decimal moment ∷ []

-- the line of a span, followed by its weights and then by the moments at which further groups begin
abbrev pub span_rows : Problem → ClassSpan → List (List (List ℕ))
span_rows p s = span_fields p s ∷ (map (weight_fields p) s.weights ++ map group_fields s.groups)

-- whether a gift is given because at least so many trucks leave, or because at most so many do
abbrev pub side_text : Bool → List ℕ
side_text least = if least then codes "least" else codes "most"

-- `gift,FROM,TO,POINT,UNTIL,SIDE,AMOUNT`
abbrev pub gift_fields : Problem → Gift → List (List ℕ)
gift_fields p g =
    codes "gift" ∷ tail_name p g.arc ∷ head_name p g.arc ∷ decimal g.point ∷ decimal g.until ∷ side_text g.least ∷ decimal g.amount ∷ []

-- the lines of the spans and of the gifts beside a table
abbrev pub beside_rows : Problem → List ClassSpan → List Gift → List (List (List ℕ))
beside_rows p spans gifts = flat_map (span_rows p) spans ++ map (gift_fields p) gifts

-- the line of a table with a number, followed by its shares, by the spans beside it and by the gifts beside it
abbrev pub table_rows : Problem → ℕ → Bool → List ClassShare → List ClassSpan → List Gift → List (List (List ℕ))
table_rows p id by_moments table spans gifts = table_fields id by_moments ∷ (flat_map (share_rows p) table ++ beside_rows p spans gifts)

-- the lines of tables that are numbered from a number on, beside which these spans and gifts are, some of them by moments
abbrev pub tables_rows : Problem → List (List ClassSpan) → List (List Gift) → List Bool → ℕ → List (List ClassShare) → List (List (List ℕ))
tables_rows p spans gifts moments id [] = []
tables_rows p spans gifts moments id (table ∷ tables) =
    table_rows p id (moments_of_table moments id) table (spans_of_table spans id) (gifts_of_table gifts id) ++ tables_rows p spans gifts moments (id + 1) tables

-- `split,arc,SHIPMENT,FROM,TO`, `split,time,SHIPMENT,TERMINAL,AT`, `split,trucks,FROM,TO,POINT,UNTIL,N` or
-- `split,way,SHIPMENT,FROM,TO`
abbrev pub split_fields : Problem → Split → List (List ℕ)
split_fields p (ByArc shipment arc) = codes "split" ∷ codes "arc" ∷ shipment_name p shipment ∷ tail_name p arc ∷ head_name p arc ∷ []
split_fields p (ByTime shipment terminal at) =
    codes "split" ∷ codes "time" ∷ shipment_name p shipment ∷ terminal_name p terminal ∷ decimal at ∷ []
split_fields p (ByTrucks arc point until most) =
    codes "split" ∷ codes "trucks" ∷ tail_name p arc ∷ head_name p arc ∷ decimal point ∷ decimal until ∷ decimal most ∷ []
split_fields p (ByWay shipment arc) = codes "split" ∷ codes "way" ∷ shipment_name p shipment ∷ tail_name p arc ∷ head_name p arc ∷ []

-- the kind of prices: `linear`, `even` or the number of a table
abbrev pub kind_text : Kind → List ℕ
kind_text Linear = codes "linear"
kind_text Even = codes "even"
kind_text (Table id) = decimal id

-- whether forced classes are paid whole
abbrev pub mode_text : Bool → List ℕ
mode_text forced = if forced then codes "forced" else codes "plain"

-- the number at the end of a line, where there is one
abbrev pub last_number_fields : Option ℕ → List (List ℕ)
last_number_fields None = []
last_number_fields (Some n) = decimal n ∷ []

-- a line that has been begun, and this
abbrev pub with_last_number : Lines → Option ℕ → Lines
with_last_number line None = line
with_last_number line (Some n) = with_field line (decimal n)

-- a word, a price, and a number where there is one
abbrev pub priced_fields : List ℕ → LeafPrice → Option ℕ → List (List ℕ)
priced_fields word price last = word ∷ kind_text price.kind ∷ decimal price.round ∷ mode_text price.forced ∷ last_number_fields last

-- `leaf,KIND,ROUND,MODE`, and where a leaf isn't valued under all of its sides under how many it is
abbrev pub leaf_fields : Valuation → List (List ℕ)
leaf_fields v = priced_fields (codes "leaf") v.price v.sides

-- `narrow,KIND,ROUND,MODE`, and from which worth on a narrowing bars classes, where it names one
abbrev pub narrowing_fields : Narrowing → List (List ℕ)
narrowing_fields n = priced_fields (codes "narrow") n.price n.worth

-- the line of a node, or of a narrowing
abbrev pub node_fields : Problem → Node → List (List ℕ)
node_fields p (Branch split) = split_fields p split
node_fields p (Leaf valuation) = leaf_fields valuation
node_fields p (Narrow narrowing) = narrowing_fields narrowing

-- `end`
abbrev pub end_fields : List (List ℕ)
end_fields = codes "end" ∷ []

-- the lines of a certificate
abbrev pub rows_of : Problem → Statement → List (List (List ℕ))
rows_of p c =
    answer_fields p c.answer
    ∷ (scale_rows c.scale
    ++ (unit_rows c.unit
    ++ (map (leg_fields p) c.legs
    ++ (map (truck_fields p) c.trucks
    ++ (map (point_fields p) c.points
    ++ (tables_rows p c.spans c.gifts c.moments 1 c.tables
    ++ (map (node_fields p) c.tree
    ++ (end_fields ∷ []))))))))
