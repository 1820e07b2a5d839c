-- Each written line has no fault where it can stand, and gives what it was written for.
use Rattle.std.proofs.Common.{◌≡◌, ℕ, ◌+◌, ◌^◌, ◌<◌, Bool, true, false, List, [], length, refl, arith}
use Rattle.std.specs.Prelude.{None, ◌||◌, codes, is_some}
use Rattle.std.specs.Str.{bytes_eq}
use Rattle.std.proofs.lemmas.Bool.{eq-eqb, lt-ltb}
use Rattle.fp_model.specs.declared.limits.TheConstants.{GREATEST_SCALE, LAST_ROUND, LATEST}
use Rattle.fp_model.specs.Problem.{IsValid, Problem, weight_at}
use Rattle.fp_prices.specs.declared.tables.Weight.{Weight}
use Rattle.fp_prices.specs.Shares.{ClassShare}
use Rattle.fp_prices_gifts.specs.declared.gifts.Gift.{Gift}
use Rattle.fp_prices_spans.specs.Spans.{ClassSpan}
use Rattle.fp_records.specs.Fields.{is_empty}
use Rattle.fp_timenodes.specs.declared.places.AddedPoint.{AddedPoint}
use Rattle.fp_timetable.specs.declared.lines.LegLine.{LegLine}
use Rattle.fp_timetable.specs.declared.lines.TruckLine.{TruckLine}
use Rattle.fp_tree.specs.declared.layout.TheConstants.{MOST_SPLITS}
use Rattle.fp_tree.specs.declared.sides.Split.{Split}
use Rattle.fp_tree.specs.declared.sides.Split.TheVariants as split
use Rattle.fp_certificate_lines.specs.declared.certificates.Narrowing.{Narrowing}
use Rattle.fp_certificate_lines.specs.declared.certificates.Node.{Node}
use Rattle.fp_certificate_lines.specs.declared.certificates.Node.TheVariants as node
use Rattle.fp_certificate_lines.specs.declared.certificates.Valuation.{Valuation}
use Rattle.fp_certificate.specs.declared.drafts.Draft.{Draft}
use Rattle.fp_certificate.specs.declared.lines.sections.Section.TheVariants as section
use Rattle.fp_certificate.specs.Answers.{with_scale, with_unit}
use Rattle.fp_certificate.specs.Gifts.{with_gift}
use Rattle.fp_certificate.specs.Sections.{has_ended, is_misplaced}
use Rattle.fp_certificate.specs.Points.{with_point}
use Rattle.fp_certificate_lines.specs.Ranges.{IsGiftInRange, IsGroupInRange, IsLeafInRange, IsLegInRange, IsNarrowingInRange, IsNodeInRange, IsPointInRange, IsScaleInRange, IsShareInRange, IsSpanInRange, IsSplitInRange, IsTruckInRange, IsUnitInRange, IsWeightInRange, largest_count, largest_figure}
use Rattle.fp_certificate.specs.Reading.{line_code, with_line}
use Rattle.fp_certificate_lines.specs.Rows.{end_fields, gift_fields, group_fields, leaf_fields, leg_fields, narrowing_fields, node_fields, point_fields, scale_fields, share_fields, side_text, span_fields, split_fields, table_fields, truck_fields, unit_fields, weight_fields}
use Rattle.fp_certificate.specs.Tables.{and_last_share_weight, and_last_span_weight, has_gift, has_group, has_span, lacks_share, with_group, with_lists, with_share, with_span, with_table}
use Rattle.fp_certificate.specs.Timetables.{with_leg, with_truck}
use Rattle.fp_certificate.specs.Trees.{with_end, with_node}
use Rattle.fp_certificate.proofs.NamesBack.{arc-back, shipment-back, terminal-back}
use Rattle.fp_certificate.proofs.NumbersBack.{large-back, number-back, time-back, within-back}
use Rattle.fp_certificate.proofs.PricesBack.{price-back}

-- a line has no fault and takes one draft to another
pub record IsStep (p : Problem) (before : Draft) (fields : List (List ℕ)) (after : Draft) : Type 0 where
  pub clean : line_code p before fields ≡ None
  pub gives : with_line p before fields ≡ after

pub leg-step : (p : Problem) (before : Draft) (l : LegLine) → IsValid p → IsLegInRange p l → has_ended before ≡ false → is_misplaced before section.Legs ≡ false
    → IsStep p before (leg_fields p l) (with_leg before l)
leg-step p before l v r open_still placed =
    let shipment = shipment-back p l.shipment v r.exists.0 in
    let arc = arc-back p l.arc v r.exists.1 in
    let depart = time-back l.depart r.depart in
    let arrive = time-back l.arrive r.arrive in
    record {
      clean = rw (open_still, placed, depart.is, arrive.is, shipment, arc, within-back 0 LATEST l.depart (omega arith) r.depart depart, within-back 0 LATEST l.arrive (omega arith) r.arrive arrive) refl;
      gives = rw (shipment, arc, depart.value, arrive.value) refl;
    }

pub truck-step : (p : Problem) (before : Draft) (t : TruckLine) → IsValid p → IsTruckInRange p t → has_ended before ≡ false → is_misplaced before section.Trucks ≡ false
    → IsStep p before (truck_fields p t) (with_truck before t)
truck-step p before t v r open_still placed =
    let arc = arc-back p t.arc v r.exists in
    let depart = time-back t.depart r.depart in
    let trucks = large-back t.trucks r.trucks in
    let load = large-back t.load r.load in
    record {
      clean =
          rw (
            open_still,
            placed,
            depart.is,
            trucks.is,
            load.is,
            arc,
            within-back 0 LATEST t.depart (omega arith) r.depart depart,
            within-back 0 largest_figure t.trucks (omega arith) r.trucks trucks,
            within-back 0 largest_figure t.load (omega arith) r.load load,
          ) refl;
      gives = rw (arc, depart.value, trucks.value, load.value) refl;
    }

pub point-step : (p : Problem) (before : Draft) (point : AddedPoint) → IsValid p → IsPointInRange p point → has_ended before ≡ false
    → is_misplaced before section.Points ≡ false → IsStep p before (point_fields p point) (with_point before point)
point-step p before point v r open_still placed =
    let terminal = terminal-back p point.terminal v r.terminal in
    let at = time-back point.at r.time in
    let round = time-back point.round (omega (arith, r.round)) in
    record {
      clean =
          rw (
            open_still,
            placed,
            at.is,
            round.is,
            terminal,
            within-back 0 LATEST point.at (omega arith) r.time at,
            within-back 1 LAST_ROUND point.round r.round.0 r.round.1 round,
          ) refl;
      gives = rw (terminal, at.value, round.value) refl;
    }

-- a scale, where there is none yet
pub scale-step : (p : Problem) (before : Draft) (n : ℕ) → IsScaleInRange p n → has_ended before ≡ false → is_misplaced before section.Scale ≡ false
    → is_some before.certificate.scale ≡ false → IsStep p before (scale_fields n) (with_scale before n)
scale-step p before n r open_still placed none =
    let back = number-back n (omega (arith, r.most)) in
    record {
      clean = rw (open_still, placed, none, back.is, within-back 1 GREATEST_SCALE n r.least r.most back, back.value, lt-ltb (weight_at n p.arcs p.shipments) (2 ^ 127) r.fits) refl;
      gives = rw back.value refl;
    }

-- a unit, where there is none yet
pub unit-step : (p : Problem) (before : Draft) (n : ℕ) → IsUnitInRange n → has_ended before ≡ false → is_misplaced before section.Unit ≡ false
    → is_some before.certificate.unit ≡ false → IsStep p before (unit_fields n) (with_unit before n)
unit-step p before n r open_still placed none =
    let back = large-back n r.most in
    record {
      clean = rw (open_still, placed, none, back.is, within-back 1 largest_figure n r.least r.most back) refl;
      gives = rw back.value refl;
    }

-- a table with the next number, by moments or not
pub table-step : (p : Problem) (before : Draft) (id : ℕ) (by_moments : Bool) → id ≡ length before.certificate.tables + 1 → id < 10 ^ 64 → has_ended before ≡ false
    → is_misplaced before section.Tables ≡ false → IsStep p before (table_fields id by_moments) (with_table before by_moments)
table-step p before id true next small open_still placed =
    let back = number-back id small in
    record {
      clean = rw (open_still, placed, back.is, back.value, eq-eqb id (length before.certificate.tables + 1) next) refl;
      gives = refl;
    }
table-step p before id false next small open_still placed =
    let back = number-back id small in
    record {
      clean = rw (open_still, placed, back.is, back.value, eq-eqb id (length before.certificate.tables + 1) next) refl;
      gives = refl;
    }

-- a share, without its weights, in a table that has no span and no gift yet
pub share-step : (p : Problem) (before : Draft) (s : ClassShare) → IsValid p → IsShareInRange p s → has_ended before ≡ false
    → is_misplaced before section.Tables ≡ false → is_empty before.certificate.tables ≡ false → has_span before.certificate.spans ≡ false → has_gift before.certificate.gifts ≡ false
    → IsStep p before (share_fields p s) (with_share before (record s { weights = [] }))
share-step p before s v r open_still placed some bare ungiven =
    let arc = arc-back p s.arc v r.arc in
    let point = time-back s.point r.point in
    let v-back = large-back s.v r.price in
    record {
      clean =
          rw (
            open_still,
            placed,
            some,
            bare,
            ungiven,
            point.is,
            v-back.is,
            arc,
            within-back 0 LATEST s.point (omega arith) r.point point,
            within-back 0 largest_figure s.v (omega arith) r.price v-back,
          ) refl;
      gives = rw (arc, point.value, v-back.value) refl;
    }

-- a span, without its weights and groups, in a table that has no gift yet
pub span-step : (p : Problem) (before : Draft) (s : ClassSpan) → IsValid p → IsSpanInRange p s → has_ended before ≡ false
    → is_misplaced before section.Tables ≡ false → is_empty before.certificate.spans ≡ false → has_gift before.certificate.gifts ≡ false
    → IsStep p before (span_fields p s) (with_span before (record s { weights = []; groups = [] }))
span-step p before s v r open_still placed some ungiven =
    let arc = arc-back p s.arc v r.arc in
    let point = time-back s.point r.point in
    let until = number-back s.until (omega (arith, r.until)) in
    let money = large-back s.money r.money in
    let charge = large-back s.charge r.charge in
    record {
      clean =
          rw (
            open_still,
            placed,
            some,
            ungiven,
            point.is,
            until.is,
            money.is,
            charge.is,
            arc,
            within-back 0 LATEST s.point (omega arith) r.point point,
            point.value,
            within-back (s.point + 1) (LATEST + 1) s.until (omega (arith, r.some)) r.until until,
            within-back 0 largest_figure s.money (omega arith) r.money money,
            within-back 0 largest_figure s.charge (omega arith) r.charge charge,
          ) refl;
      gives = rw (arc, point.value, until.value, money.value, charge.value) refl;
    }

-- a weight in the last share of a table that has no span and no gift
pub weight-step : (p : Problem) (before : Draft) (w : Weight) → IsValid p → IsWeightInRange p w → has_ended before ≡ false
    → is_misplaced before section.Tables ≡ false → lacks_share before.certificate.tables ≡ false → has_span before.certificate.spans ≡ false → has_gift before.certificate.gifts ≡ false
    → IsStep p before (weight_fields p w) (with_lists before (and_last_share_weight w before.certificate.tables) before.certificate.spans)
weight-step p before w v r open_still placed some bare ungiven =
    let shipment = shipment-back p w.shipment v r.shipment in
    let back = large-back w.w r.small in
    record {
      clean = rw (open_still, placed, ungiven, bare, some, back.is, shipment, within-back 0 largest_figure w.w (omega arith) r.small back) refl;
      gives = rw (bare, shipment, back.value) refl;
    }

-- a weight in the last span of a table, which has no group yet, where the table has no gift
pub span-weight-step : (p : Problem) (before : Draft) (w : Weight) → IsValid p → IsWeightInRange p w → has_ended before ≡ false
    → is_misplaced before section.Tables ≡ false → has_span before.certificate.spans ≡ true → has_group before.certificate.spans ≡ false → has_gift before.certificate.gifts ≡ false
    → IsStep p before (weight_fields p w) (with_lists before before.certificate.tables (and_last_span_weight w before.certificate.spans))
span-weight-step p before w v r open_still placed some weighing ungiven =
    let shipment = shipment-back p w.shipment v r.shipment in
    let back = large-back w.w r.small in
    record {
      clean = rw (open_still, placed, ungiven, some, weighing, back.is, shipment, within-back 0 largest_figure w.w (omega arith) r.small back) refl;
      gives = rw (some, shipment, back.value) refl;
    }

-- a group of the last span of a table that has no gift
pub group-step : (p : Problem) (before : Draft) (m : ℕ) → IsGroupInRange m → has_ended before ≡ false
    → is_misplaced before section.Tables ≡ false → has_span before.certificate.spans ≡ true → has_gift before.certificate.gifts ≡ false
    → IsStep p before (group_fields m) (with_group before m)
group-step p before m r open_still placed some ungiven =
    let back = time-back m r in
    record {
      clean = rw (open_still, placed, some, ungiven, back.is, within-back 0 LATEST m (omega arith) r back) refl;
      gives = rw back.value refl;
    }

-- the side of a gift is a word, and the word tells it
side-is : (least : Bool) → (bytes_eq (side_text least) (codes "least") || bytes_eq (side_text least) (codes "most")) ≡ true
side-is true = refl
side-is false = refl

side-same : (least : Bool) → bytes_eq (side_text least) (codes "least") ≡ least
side-same true = refl
side-same false = refl

-- a gift
pub gift-step : (p : Problem) (before : Draft) (g : Gift) → IsValid p → IsGiftInRange p g → has_ended before ≡ false
    → is_misplaced before section.Tables ≡ false → is_empty before.certificate.gifts ≡ false → IsStep p before (gift_fields p g) (with_gift before g)
gift-step p before g v r open_still placed some =
    let arc = arc-back p g.arc v r.arc in
    let point = time-back g.point r.point in
    let until = number-back g.until (omega (arith, r.until)) in
    let amount = large-back g.amount r.amount in
    record {
      clean =
          rw (
            open_still,
            placed,
            some,
            point.is,
            until.is,
            side-is g.least,
            amount.is,
            arc,
            within-back 0 LATEST g.point (omega arith) r.point point,
            point.value,
            within-back (g.point + 1) (LATEST + 1) g.until (omega (arith, r.some)) r.until until,
            within-back 0 largest_figure g.amount (omega arith) r.amount amount,
          ) refl;
      gives = rw (arc, point.value, until.value, side-same g.least, amount.value) refl;
    }

-- a split
split-step : (p : Problem) (before : Draft) (s : Split) → IsValid p → IsSplitInRange p s → has_ended before ≡ false → is_misplaced before section.Tree ≡ false
    → IsStep p before (split_fields p s) (with_node before (node.Branch s))
split-step p before (split.ByArc shipment arc) v r open_still placed =
    let shipment-is = shipment-back p shipment v r.0 in
    let arc-is = arc-back p arc v r.1 in
    record { clean = rw (open_still, placed, shipment-is, arc-is) refl; gives = rw (shipment-is, arc-is) refl }
split-step p before (split.ByTime shipment terminal at) v r open_still placed =
    let shipment-is = shipment-back p shipment v r.0 in
    let terminal-is = terminal-back p terminal v r.1 in
    let back = time-back at r.2 in
    record {
      clean = rw (open_still, placed, back.is, shipment-is, terminal-is, within-back 0 LATEST at (omega arith) r.2 back) refl;
      gives = rw (shipment-is, terminal-is, back.value) refl;
    }
split-step p before (split.ByTrucks arc point until most) v r open_still placed =
    let arc-is = arc-back p arc v r.arc in
    let first = time-back point r.point in
    let past = number-back until (omega (arith, r.until)) in
    let count = number-back most (omega (arith, r.most)) in
    record {
      clean =
          rw (
            open_still,
            placed,
            first.is,
            past.is,
            count.is,
            arc-is,
            within-back 0 LATEST point (omega arith) r.point first,
            first.value,
            within-back (point + 1) (LATEST + 1) until (omega (arith, r.some)) r.until past,
            within-back 0 largest_count most (omega arith) r.most count,
          ) refl;
      gives = rw (arc-is, first.value, past.value, count.value) refl;
    }
split-step p before (split.ByWay shipment arc) v r open_still placed =
    let shipment-is = shipment-back p shipment v r.0 in
    let arc-is = arc-back p arc v r.1 in
    record { clean = rw (open_still, placed, shipment-is, arc-is) refl; gives = rw (shipment-is, arc-is) refl }

-- the line of a leaf, and that of a narrowing
leaf-step : (p : Problem) (before : Draft) (v : Valuation) → length before.certificate.tables < 10 ^ 64 → IsLeafInRange before.certificate.tables v
    → has_ended before ≡ false → is_misplaced before section.Tree ≡ false → IsStep p before (leaf_fields v) (with_node before (node.Leaf v))
leaf-step p before v few r open_still placed =
    let back = price-back before MOST_SPLITS (codes "leaf") v.price v.sides (omega arith) few r.kind r.round r.sides placed in
    record { clean = rw open_still back.clean; gives = rw (back.same_price, back.same_last) refl }

narrowing-step : (p : Problem) (before : Draft) (n : Narrowing) → length before.certificate.tables < 10 ^ 64 → IsNarrowingInRange before.certificate.tables n
    → has_ended before ≡ false → is_misplaced before section.Tree ≡ false → IsStep p before (narrowing_fields n) (with_node before (node.Narrow n))
narrowing-step p before n few r open_still placed =
    let back = price-back before largest_figure (codes "narrow") n.price n.worth (omega arith) few r.kind r.round r.worth placed in
    record { clean = rw open_still back.clean; gives = rw (back.same_price, back.same_last) refl }

-- a node, or a narrowing
pub node-step : (p : Problem) (before : Draft) (n : Node) → IsValid p → length before.certificate.tables < 10 ^ 64 → IsNodeInRange p before.certificate.tables n
    → has_ended before ≡ false → is_misplaced before section.Tree ≡ false → IsStep p before (node_fields p n) (with_node before n)
node-step p before (node.Branch s) v few r open_still placed = split-step p before s v r open_still placed
node-step p before (node.Leaf valuation) v few r open_still placed = leaf-step p before valuation few r open_still placed
node-step p before (node.Narrow narrowing) v few r open_still placed = narrowing-step p before narrowing few r open_still placed

-- the end
pub end-step : (p : Problem) (before : Draft) → has_ended before ≡ false → is_misplaced before section.End ≡ false → IsStep p before end_fields (with_end before)
end-step p before open_still placed = record { clean = rw (open_still, placed) refl; gives = refl }
