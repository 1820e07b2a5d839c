-- What is read is in range.
use Rattle.std.proofs.Common.{◌≡◌, ℕ, ◌+◌, ◌^◌, ◌-◌, ◌<◌, List, [], ◌∷◌, ◌++◌, length, refl, subst, arith, lit≤}
use Rattle.std.specs.Prelude.{Option, Some, None, Ok, All, ◌&&◌, ◌||◌, not, ◌==◌}
use Rattle.std.proofs.lemmas.Bool.{and_parts, not-false, or_parts}
use Rattle.std.proofs.lemmas.List.{length_push}
use Rattle.std.proofs.lemmas.List.Elements.{All-nil, All-push, All-weaker}
use Rattle.fp_model.specs.declared.limits.TheConstants.{LAST_ROUND}
use Rattle.fp_model.specs.Problem.{Problem}
use Rattle.fp_prices.specs.Shares.{ClassShare}
use Rattle.fp_prices_spans.specs.Spans.{ClassSpan}
use Rattle.fp_prices.specs.Tables.{AreCountable}
use Rattle.fp_records_fields.specs.Findings.{first_code}
use Rattle.fp_records_fields.specs.Fields.{has_number, is_between, number_at}
use Rattle.fp_records_fields.proofs.Numerals.{is_between-limits}
use Rattle.fp_records_fields.proofs.FaultTables.{IsClear-from_none}
use Rattle.fp_tree.specs.declared.layout.TheConstants.{MOST_SPLITS}
use Rattle.fp_certificate.specs.declared.drafts.Draft.{Draft}
use Rattle.fp_certificate.specs.declared.lines.sections.Section.TheVariants as section
use Rattle.fp_certificate.specs.declared.lines.kinds.LineKind.{LineKind}
use Rattle.fp_certificate.specs.declared.lines.kinds.LineKind.TheVariants.{Direct, Optimal, Unfinished, Infeasible, Scale, Leg, Truck, Point, Table, Share, Span, ByArc, ByTime, ByTrucks, ByWay, Leaf, Narrow, End}
use Rattle.fp_certificate.specs.declared.lines.kinds.LineKind.TheVariants as kind
use Rattle.fp_certificate.specs.Answers.{has_bad_scale, has_time, has_time_in_range, has_unfinished_digits, is_figure}
use Rattle.fp_certificate.specs.Gifts.{and_gift, gift_in, has_gift_digits}
use Rattle.fp_certificate.specs.Sections.{has_ended, is_misplaced}
use Rattle.fp_certificate.specs.Kinds.{kind_of}
use Rattle.fp_records_fields.specs.NamedParts.{lacks_arc, lacks_shipment, lacks_terminal}
use Rattle.fp_certificate.specs.Points.{point_in}
use Rattle.fp_certificate_lines.specs.Ranges.{IsGiftInRange, IsGroupInRange, IsInRange, IsLegInRange, IsNodeInRange, IsPointInRange, IsShareInRange, IsSpanInRange, IsTruckInRange, IsWeightInRange, largest_count, largest_figure}
use Rattle.fp_certificate.specs.Reading.{certificate_from, faults_of, kind_code, line_code, nothing_read, with_kind, with_kind_of, with_line}
use Rattle.fp_certificate_lines.specs.Statements.{Statement}
use Rattle.fp_certificate.specs.Tables.{and_share, and_span, moments_in, share_in, span_in, weight_in}
use Rattle.fp_certificate.specs.Timetables.{ends_in_range, is_time, leg_in, truck_in}
use Rattle.fp_certificate.specs.Trees.{by_trucks_in, leaf_in, narrowing_in}
use Rattle.fp_certificate.proofs.LineRanges.{in-time, small}
use Rattle.fp_certificate.proofs.LinesOn.{at-end, first_fault-ok}
use Rattle.fp_certificate.proofs.PriceRanges.{price-read}
use Rattle.fp_certificate.proofs.TableCounts.{AreCounted, counted-more, line-fewer}
use Rattle.fp_records_fields.proofs.NamedParts.{arc_in-lt, shipment_in-lt, terminal_in-lt}
use Rattle.fp_certificate.proofs.RangedFields.{IsInRange-with_lists, IsInRange-with_node, end-range, group-ranged, scale-range, time-range, weight-ranged, with-answer, with-last-gifts, with-last-spans, with-last-table, with-scales}

-- a line of a kind without a fault gives what is in range
kind-ranged : (p : Problem) (before : Draft) (kind : LineKind) (fields : List (List ℕ)) → first_code (faults_of p before kind fields) ≡ None
    → IsInRange p before.certificate → IsInRange p (with_kind p before kind fields).certificate
kind-ranged p before Direct fields h r =
    let count = IsClear-from_none 22 (not (length fields == 3)) h in
    let digits = IsClear-from_none 23 (not (has_number fields 2)) count.later in
    let order = IsClear-from_none 24 (is_misplaced before section.Answer) digits.later in
    let range = IsClear-from_none 28 (not (is_figure fields 2)) order.later in
    with-answer p before.certificate _ (small fields 2 (not-false (is_figure fields 2) range.here)) r
kind-ranged p before Optimal fields h r =
    let count = IsClear-from_none 22 (not (length fields == 3)) h in
    let digits = IsClear-from_none 23 (not (has_number fields 2)) count.later in
    let order = IsClear-from_none 24 (is_misplaced before section.Answer) digits.later in
    let range = IsClear-from_none 28 (not (is_figure fields 2)) order.later in
    with-answer p before.certificate _ (small fields 2 (not-false (is_figure fields 2) range.here)) r
kind-ranged p before Unfinished fields h r =
    let count = IsClear-from_none 22 (not (length fields == 5)) h in
    let digits = IsClear-from_none 23 (not (has_unfinished_digits fields)) count.later in
    let order = IsClear-from_none 24 (is_misplaced before section.Answer) digits.later in
    let range = IsClear-from_none 28 (not (is_figure fields 2 && is_figure fields 3)) order.later in
    let parts = and_parts (is_figure fields 2) (is_figure fields 3) (not-false (is_figure fields 2 && is_figure fields 3) range.here) in
    with-answer p before.certificate _ (small fields 2 parts.0, small fields 3 parts.1) r
kind-ranged p before Infeasible fields h r =
    let count = IsClear-from_none 22 (not (length fields == 4)) h in
    let digits = IsClear-from_none 23 (not (has_time fields)) count.later in
    let order = IsClear-from_none 24 (is_misplaced before section.Answer) digits.later in
    let name = IsClear-from_none 25 (lacks_shipment p fields 2) order.later in
    let range = IsClear-from_none 28 (not (has_time_in_range fields)) name.later in
    with-answer p before.certificate _ (shipment_in-lt p fields 2 name.here, time-range fields (not-false (has_time_in_range fields) range.here)) r
kind-ranged p before Scale fields h r =
    let count = IsClear-from_none 22 (not (length fields == 2)) h in
    let digits = IsClear-from_none 23 (not (has_number fields 1)) count.later in
    let order = IsClear-from_none 24 _ digits.later in
    let range = IsClear-from_none 28 (has_bad_scale p fields) order.later in
    with-scales p before.certificate (Some (number_at fields 1)) before.certificate.unit (scale-range p fields range.here) r.unit r
kind-ranged p before kind.Unit fields h r =
    let count = IsClear-from_none 22 (not (length fields == 2)) h in
    let digits = IsClear-from_none 23 (not (has_number fields 1)) count.later in
    let order = IsClear-from_none 24 _ digits.later in
    let range = IsClear-from_none 28 (not (is_between 1 largest_figure fields 1)) order.later in
    let limits = is_between-limits 1 largest_figure fields 1 (not-false (is_between 1 largest_figure fields 1) range.here) in
    with-scales p before.certificate before.certificate.scale (Some (number_at fields 1)) r.scale (record { least = limits.0; most = limits.1 }) r
kind-ranged p before Leg fields h r =
    let count = IsClear-from_none 22 (not (length fields == 6)) h in
    let digits = IsClear-from_none 23 (not (has_number fields 4 && has_number fields 5)) count.later in
    let order = IsClear-from_none 24 (is_misplaced before section.Legs) digits.later in
    let name = IsClear-from_none 25 (lacks_shipment p fields 1 || lacks_arc p fields 2 3) order.later in
    let range = IsClear-from_none 28 (not (is_time fields 4 && is_time fields 5)) name.later in
    let names = or_parts (lacks_shipment p fields 1) (lacks_arc p fields 2 3) name.here in
    let times = and_parts (is_time fields 4) (is_time fields 5) (not-false (is_time fields 4 && is_time fields 5) range.here) in
    let leg : IsLegInRange p (leg_in p fields) = record {
      exists = (shipment_in-lt p fields 1 names.0, arc_in-lt p fields 2 3 names.1);
      depart = in-time fields 4 times.0;
      arrive = in-time fields 5 times.1;
    } in
    record {
      answer = r.answer;
      scale = r.scale;
      unit = r.unit;
      legs = All-push (IsLegInRange p) before.certificate.legs (leg_in p fields) r.legs leg;
      trucks = r.trucks;
      points = r.points;
      tables = r.tables;
      spans = r.spans;
      beside = r.beside;
      gifts = r.gifts;
      given = r.given;
      timed = r.timed;
      tree = r.tree;
    }
kind-ranged p before Truck fields h r =
    let count = IsClear-from_none 22 (not (length fields == 6)) h in
    let digits = IsClear-from_none 23 (not (has_number fields 3 && has_number fields 4 && has_number fields 5)) count.later in
    let order = IsClear-from_none 24 (is_misplaced before section.Trucks) digits.later in
    let name = IsClear-from_none 25 (lacks_arc p fields 1 2) order.later in
    let range = IsClear-from_none 28 (not (is_time fields 3 && is_figure fields 4 && is_figure fields 5)) name.later in
    let three = and_parts (is_time fields 3 && is_figure fields 4) (is_figure fields 5) (not-false (is_time fields 3 && is_figure fields 4 && is_figure fields 5) range.here) in
    let two = and_parts (is_time fields 3) (is_figure fields 4) three.0 in
    let truck : IsTruckInRange p (truck_in p fields) = record {
      exists = arc_in-lt p fields 1 2 name.here;
      depart = in-time fields 3 two.0;
      trucks = small fields 4 two.1;
      load = small fields 5 three.1;
    } in
    record {
      answer = r.answer;
      scale = r.scale;
      unit = r.unit;
      legs = r.legs;
      trucks = All-push (IsTruckInRange p) before.certificate.trucks (truck_in p fields) r.trucks truck;
      points = r.points;
      tables = r.tables;
      spans = r.spans;
      beside = r.beside;
      gifts = r.gifts;
      given = r.given;
      timed = r.timed;
      tree = r.tree;
    }
kind-ranged p before Point fields h r =
    let count = IsClear-from_none 22 (not (length fields == 4)) h in
    let digits = IsClear-from_none 23 (not (has_number fields 2 && has_number fields 3)) count.later in
    let order = IsClear-from_none 24 (is_misplaced before section.Points) digits.later in
    let name = IsClear-from_none 25 (lacks_terminal p fields 1) order.later in
    let range = IsClear-from_none 28 (not (is_time fields 2 && is_between 1 LAST_ROUND fields 3)) name.later in
    let limits = and_parts (is_time fields 2) (is_between 1 LAST_ROUND fields 3) (not-false (is_time fields 2 && is_between 1 LAST_ROUND fields 3) range.here) in
    let point : IsPointInRange p (point_in p fields) = record {
      terminal = terminal_in-lt p fields 1 name.here;
      time = in-time fields 2 limits.0;
      round = is_between-limits 1 LAST_ROUND fields 3 limits.1;
    } in
    record {
      answer = r.answer;
      scale = r.scale;
      unit = r.unit;
      legs = r.legs;
      trucks = r.trucks;
      points = All-push (IsPointInRange p) before.certificate.points (point_in p fields) r.points point;
      tables = r.tables;
      spans = r.spans;
      beside = r.beside;
      gifts = r.gifts;
      given = r.given;
      timed = r.timed;
      tree = r.tree;
    }
kind-ranged p before Table fields h r =
    let tables = before.certificate.tables in
    let spans = before.certificate.spans in
    let gifts = before.certificate.gifts in
    let moments = before.certificate.moments in
    let by_moments = moments_in fields in
    IsInRange-with_lists p before.certificate (tables ++ ([] ∷ [])) (spans ++ ([] ∷ [])) (gifts ++ ([] ∷ [])) (moments ++ (by_moments ∷ [])) (omega (arith, length_push tables []))
    (omega (arith, r.beside, length_push tables [], length_push spans []))
    (omega (arith, r.given, length_push tables [], length_push gifts []))
    (omega (arith, r.timed, length_push tables [], length_push moments by_moments))
    (All-push (All (IsShareInRange p)) tables [] r.tables (All-nil (IsShareInRange p)))
    (All-push (All (IsSpanInRange p)) spans [] r.spans (All-nil (IsSpanInRange p)))
    (All-push (All (IsGiftInRange p)) gifts [] r.gifts (All-nil (IsGiftInRange p))) r
kind-ranged p before Share fields h r =
    let share = share_in p fields in
    let count = IsClear-from_none 22 (not (length fields == 5)) h in
    let digits = IsClear-from_none 23 (not (has_number fields 3 && has_number fields 4)) count.later in
    let order = IsClear-from_none 24 _ digits.later in
    let name = IsClear-from_none 25 (lacks_arc p fields 1 2) order.later in
    let range = IsClear-from_none 28 (not (is_time fields 3 && is_figure fields 4)) name.later in
    let limits = and_parts (is_time fields 3) (is_figure fields 4) (not-false (is_time fields 3 && is_figure fields 4) range.here) in
    let fits : IsShareInRange p share = record {
      arc = arc_in-lt p fields 1 2 name.here;
      point = in-time fields 3 limits.0;
      price = small fields 4 limits.1;
      weights = All-nil (IsWeightInRange p);
    } in
    with-last-table p before.certificate (and_share share) (λ table all. All-push (IsShareInRange p) table share all fits) r
kind-ranged p before Span fields h r =
    let span = span_in p fields in
    let has_digits = has_number fields 3 && has_number fields 4 && (has_number fields 5 && has_number fields 6) in
    let in_range = is_time fields 3 && ends_in_range fields 3 4 && is_figure fields 5 && is_figure fields 6 in
    let count = IsClear-from_none 22 (not (length fields == 7)) h in
    let digits = IsClear-from_none 23 (not has_digits) count.later in
    let order = IsClear-from_none 24 _ digits.later in
    let name = IsClear-from_none 25 (lacks_arc p fields 1 2) order.later in
    let range = IsClear-from_none 28 (not in_range) name.later in
    let four = and_parts (is_time fields 3 && ends_in_range fields 3 4 && is_figure fields 5) (is_figure fields 6) (not-false in_range range.here) in
    let three = and_parts (is_time fields 3 && ends_in_range fields 3 4) (is_figure fields 5) four.0 in
    let two = and_parts (is_time fields 3) (ends_in_range fields 3 4) three.0 in
    let limits = end-range fields 3 4 two.1 in
    let fits : IsSpanInRange p span = record {
      arc = arc_in-lt p fields 1 2 name.here;
      point = in-time fields 3 two.0;
      some = limits.0;
      until = limits.1;
      money = small fields 5 three.1;
      charge = small fields 6 four.1;
      weights = All-nil (IsWeightInRange p);
      groups = All-nil IsGroupInRange;
    } in
    with-last-spans p before.certificate (and_span span) (λ list all. All-push (IsSpanInRange p) list span all fits) r
kind-ranged p before kind.Weight fields h r =
    let weight = weight_in p fields in
    let count = IsClear-from_none 22 (not (length fields == 3)) h in
    let digits = IsClear-from_none 23 (not (has_number fields 2)) count.later in
    let order = IsClear-from_none 24 _ digits.later in
    let name = IsClear-from_none 25 (lacks_shipment p fields 1) order.later in
    let range = IsClear-from_none 28 (not (is_figure fields 2)) name.later in
    let fits : IsWeightInRange p weight = record {
      shipment = shipment_in-lt p fields 1 name.here;
      small = small fields 2 (not-false (is_figure fields 2) range.here);
    } in
    weight-ranged p before weight fits r
kind-ranged p before kind.Group fields h r =
    let count = IsClear-from_none 22 (not (length fields == 2)) h in
    let digits = IsClear-from_none 23 (not (has_number fields 1)) count.later in
    let order = IsClear-from_none 24 _ digits.later in
    let range = IsClear-from_none 28 (not (is_time fields 1)) order.later in
    group-ranged p before.certificate (number_at fields 1) (in-time fields 1 (not-false (is_time fields 1) range.here)) r
kind-ranged p before kind.Gift fields h r =
    let gift = gift_in p fields in
    let in_range = is_time fields 3 && ends_in_range fields 3 4 && is_figure fields 6 in
    let count = IsClear-from_none 22 (not (length fields == 7)) h in
    let digits = IsClear-from_none 23 (not (has_gift_digits fields)) count.later in
    let order = IsClear-from_none 24 _ digits.later in
    let name = IsClear-from_none 25 (lacks_arc p fields 1 2) order.later in
    let range = IsClear-from_none 28 (not in_range) name.later in
    let three = and_parts (is_time fields 3 && ends_in_range fields 3 4) (is_figure fields 6) (not-false in_range range.here) in
    let two = and_parts (is_time fields 3) (ends_in_range fields 3 4) three.0 in
    let limits = end-range fields 3 4 two.1 in
    let fits : IsGiftInRange p gift = record {
      arc = arc_in-lt p fields 1 2 name.here;
      point = in-time fields 3 two.0;
      some = limits.0;
      until = limits.1;
      amount = small fields 6 three.1;
    } in
    with-last-gifts p before.certificate (and_gift gift) (λ list all. All-push (IsGiftInRange p) list gift all fits) r
kind-ranged p before ByArc fields h r =
    let count = IsClear-from_none 22 (not (length fields == 5)) h in
    let order = IsClear-from_none 24 (is_misplaced before section.Tree) count.later in
    let name = IsClear-from_none 25 (lacks_shipment p fields 2 || lacks_arc p fields 3 4) order.later in
    let names = or_parts (lacks_shipment p fields 2) (lacks_arc p fields 3 4) name.here in
    IsInRange-with_node p before.certificate _ (shipment_in-lt p fields 2 names.0, arc_in-lt p fields 3 4 names.1) r
kind-ranged p before ByTime fields h r =
    let count = IsClear-from_none 22 (not (length fields == 5)) h in
    let digits = IsClear-from_none 23 (not (has_number fields 4)) count.later in
    let order = IsClear-from_none 24 (is_misplaced before section.Tree) digits.later in
    let name = IsClear-from_none 25 (lacks_shipment p fields 2 || lacks_terminal p fields 3) order.later in
    let range = IsClear-from_none 28 (not (is_time fields 4)) name.later in
    let names = or_parts (lacks_shipment p fields 2) (lacks_terminal p fields 3) name.here in
    IsInRange-with_node p before.certificate _ (shipment_in-lt p fields 2 names.0, terminal_in-lt p fields 3 names.1, in-time fields 4 (not-false (is_time fields 4) range.here)) r
kind-ranged p before ByTrucks fields h r =
    let in_range = is_time fields 4 && ends_in_range fields 4 5 && is_between 0 largest_count fields 6 in
    let count = IsClear-from_none 22 (not (length fields == 7)) h in
    let digits = IsClear-from_none 23 (not (has_number fields 4 && has_number fields 5 && has_number fields 6)) count.later in
    let order = IsClear-from_none 24 (is_misplaced before section.Tree) digits.later in
    let name = IsClear-from_none 25 (lacks_arc p fields 2 3) order.later in
    let range = IsClear-from_none 28 (not in_range) name.later in
    let three = and_parts (is_time fields 4 && ends_in_range fields 4 5) (is_between 0 largest_count fields 6) (not-false in_range range.here) in
    let two = and_parts (is_time fields 4) (ends_in_range fields 4 5) three.0 in
    let limits = end-range fields 4 5 two.1 in
    let fits : IsNodeInRange p before.certificate.tables (by_trucks_in p fields) = record {
      arc = arc_in-lt p fields 2 3 name.here;
      point = in-time fields 4 two.0;
      some = limits.0;
      until = limits.1;
      most = (is_between-limits 0 largest_count fields 6 three.1).1;
    } in
    IsInRange-with_node p before.certificate (by_trucks_in p fields) fits r
kind-ranged p before ByWay fields h r =
    let count = IsClear-from_none 22 (not (length fields == 5)) h in
    let order = IsClear-from_none 24 (is_misplaced before section.Tree) count.later in
    let name = IsClear-from_none 25 (lacks_shipment p fields 2 || lacks_arc p fields 3 4) order.later in
    let names = or_parts (lacks_shipment p fields 2) (lacks_arc p fields 3 4) name.here in
    IsInRange-with_node p before.certificate _ (shipment_in-lt p fields 2 names.0, arc_in-lt p fields 3 4 names.1) r
kind-ranged p before Leaf fields h r =
    let read = price-read before MOST_SPLITS fields h in
    IsInRange-with_node p before.certificate (leaf_in fields) (record { kind = read.kind; round = read.round; sides = read.last }) r
kind-ranged p before Narrow fields h r =
    let read = price-read before largest_figure fields h in
    IsInRange-with_node p before.certificate (narrowing_in fields) (record { kind = read.kind; round = read.round; worth = read.last }) r
kind-ranged p before End fields h r = r

maybe-ranged : (p : Problem) (before : Draft) (kind : Option LineKind) (fields : List (List ℕ)) → kind_code p before kind fields ≡ None
    → IsInRange p before.certificate → IsInRange p (with_kind_of p before kind fields).certificate
maybe-ranged p before None fields h r = r
maybe-ranged p before (Some kind) fields h r = kind-ranged p before kind fields h r

-- a line without a fault does
line-ranged : (p : Problem) (before : Draft) (fields : List (List ℕ)) → line_code p before fields ≡ None
    → IsInRange p before.certificate → IsInRange p (with_line p before fields).certificate
line-ranged p before fields h r =
    let open_still = IsClear-from_none 27 (has_ended before) h in
    maybe-ranged p before (kind_of fields) fields open_still.later r

-- the counts of tables, shares and spans grow by at most one a line
from-ranged : (p : Problem) (before : Draft) (n ordinal : ℕ) (records : List (List (List ℕ))) (c : Statement) → IsInRange p before.certificate
    → AreCounted n before.certificate.tables before.certificate.spans → certificate_from p before ordinal records ≡ Ok c
    → IsInRange p c × AreCounted (n + length records) c.tables c.spans
from-ranged p before n ordinal [] c r few h = (
  subst (λ (s : Statement). IsInRange p s) (at-end before ordinal c h) r,
  subst (λ (s : Statement). AreCounted (n + 0) s.tables s.spans) (at-end before ordinal c h)
      (counted-more n (n + 0) before.certificate.tables before.certificate.spans (omega arith) few),
)
from-ranged p before n ordinal (fields ∷ records) c r few h =
    let next = first_fault-ok ordinal (line_code p before fields) (certificate_from p (with_line p before fields) (ordinal + 1) records) c h in
    let rest = from-ranged p (with_line p before fields) (n + 1) (ordinal + 1) records c (line-ranged p before fields next.0 r) (line-fewer p before n fields few) next.1 in
    (rest.0, counted-more (n + 1 + length records) (n + length (fields ∷ records)) c.tables c.spans (omega arith) rest.1)

-- nothing is in range
nothing-ranged : (p : Problem) → IsInRange p nothing_read.certificate
nothing-ranged p = record {
  answer = lit≤ tt;
  scale = tt;
  unit = tt;
  legs = All-nil (IsLegInRange p);
  trucks = All-nil (IsTruckInRange p);
  points = All-nil (IsPointInRange p);
  tables = All-nil (All (IsShareInRange p));
  spans = All-nil (All (IsSpanInRange p));
  beside = refl;
  gifts = All-nil (All (IsGiftInRange p));
  given = refl;
  timed = refl;
  tree = All-nil (IsNodeInRange p []);
}

-- at the start there is nothing to be counted
none-counted : AreCounted 1 [] []
none-counted = record {
  few_shares = record { few_lists = omega arith; few_elements = All-nil (λ (table : List ClassShare). length table < 1) };
  few_spans = record { few_lists = omega arith; few_elements = All-nil (λ (list : List ClassSpan). length list < 1) };
}

-- what was read is in range, its tables can be counted in 32 bits, and so can the spans beside each
pub record IsCountedRead (p : Problem) (c : Statement) : Type 0 where
  pub range : IsInRange p c
  pub countable : AreCountable p c.tables
  pub few_spans : All (λ (list : List ClassSpan). length list < 2 ^ 32 - 1) c.spans

-- what records give is so, where the records can be counted
pub read-ranged : (p : Problem) (ordinal : ℕ) (records : List (List (List ℕ))) (c : Statement) → length records < 2 ^ 32 - 1
    → certificate_from p nothing_read ordinal records ≡ Ok c → IsCountedRead p c
read-ranged p ordinal records c few h =
    let all = from-ranged p nothing_read 1 ordinal records c (nothing-ranged p) none-counted h in
    let fewer = counted-more (1 + length records) (2 ^ 32 - 1) c.tables c.spans (omega arith) all.1 in
    record {
      range = all.0;
      countable = record {
        few_tables = fewer.few_shares.few_lists;
        few_shares = fewer.few_shares.few_elements;
        arcs = All-weaker (All (IsShareInRange p)) (All (λ (s : ClassShare). s.arc < length p.arcs))
            (λ table h. All-weaker (IsShareInRange p) (λ (s : ClassShare). s.arc < length p.arcs) (λ s i. i.arc) table h) c.tables all.0.tables;
      };
      few_spans = fewer.few_spans.few_elements;
    }
