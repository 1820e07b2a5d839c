-- The certificate that records give, or their first fault.
use Rattle.std.specs.Prelude.{ℕ, ◌+◌, List, [], ◌∷◌, if◌then◌else◌, Option, Some, None, Result, Ok, Err}
use Rattle.fp_model.specs.Problem.{Problem}
use Rattle.fp_records_fields.specs.Findings.{Finding, first_code}
use Rattle.fp_records_fields.specs.Fields.{number_at}
use Rattle.fp_records_fields.specs.Faults.{first_fault, Fault}
use Rattle.fp_certificate_lines.specs.declared.certificates.Answer.TheVariants as answer
use Rattle.fp_certificate.specs.declared.drafts.Draft.{Draft}
use Rattle.fp_certificate.specs.declared.lines.kinds.LineKind.{LineKind}
use Rattle.fp_certificate.specs.declared.lines.kinds.LineKind.TheVariants.{Direct, Optimal, Unfinished, Infeasible, Scale, Leg, Truck, Point, Table, Share, Span, Weight, Group, Gift, ByArc, ByTime, ByTrucks, ByWay, Leaf, Narrow, End}
use Rattle.fp_certificate.specs.declared.lines.kinds.LineKind.TheVariants as kind
use Rattle.fp_certificate.specs.Answers.{cost_faults, infeasible_faults, infeasible_in, scale_faults, unfinished_faults, unfinished_in, unit_faults, with_answer, with_scale, with_unit}
use Rattle.fp_certificate.specs.Gifts.{gift_faults, gift_in, with_gift}
use Rattle.fp_certificate.specs.Sections.{has_ended}
use Rattle.fp_certificate.specs.Kinds.{kind_of}
use Rattle.fp_certificate.specs.Points.{point_faults, point_in, with_point}
use Rattle.fp_certificate_lines.specs.Statements.{Statement}
use Rattle.fp_certificate.specs.Tables.{group_faults, moments_in, share_faults, share_in, span_faults, span_in, table_faults, weight_faults, weight_in, with_group, with_share, with_span, with_table, with_weight}
use Rattle.fp_certificate.specs.Timetables.{leg_faults, leg_in, truck_faults, truck_in, with_leg, with_truck}
use Rattle.fp_certificate.specs.Trees.{by_arc_faults, by_arc_in, by_time_faults, by_time_in, by_trucks_faults, by_trucks_in, by_way_faults, by_way_in, end_faults, leaf_faults, leaf_in, narrowing_faults, narrowing_in, with_end, with_node}

-- nothing read yet; the answer stands for none
abbrev pub nothing_read : Draft
nothing_read = record {
  certificate = record { answer = answer.Direct 0; scale = None; unit = None; legs = []; trucks = []; points = []; tables = []; spans = []; gifts = []; moments = []; tree = [] };
  latest = None;
}

-- the faults of a line of a kind, after what the lines before it have given
abbrev pub faults_of : Problem → Draft → LineKind → List (List ℕ) → List Finding
faults_of p before Direct fields = cost_faults before fields
faults_of p before Optimal fields = cost_faults before fields
faults_of p before Unfinished fields = unfinished_faults before fields
faults_of p before Infeasible fields = infeasible_faults p before fields
faults_of p before Scale fields = scale_faults p before fields
faults_of p before kind.Unit fields = unit_faults before fields
faults_of p before Leg fields = leg_faults p before fields
faults_of p before Truck fields = truck_faults p before fields
faults_of p before Point fields = point_faults p before fields
faults_of p before Table fields = table_faults before fields
faults_of p before Share fields = share_faults p before fields
faults_of p before Span fields = span_faults p before fields
faults_of p before Weight fields = weight_faults p before fields
faults_of p before Group fields = group_faults before fields
faults_of p before Gift fields = gift_faults p before fields
faults_of p before ByArc fields = by_arc_faults p before fields
faults_of p before ByTime fields = by_time_faults p before fields
faults_of p before ByTrucks fields = by_trucks_faults p before fields
faults_of p before ByWay fields = by_way_faults p before fields
faults_of p before Leaf fields = leaf_faults before fields
faults_of p before Narrow fields = narrowing_faults before fields
faults_of p before End fields = end_faults before fields

-- the code of the first fault of a line of a kind; a line of no kind has 21
abbrev pub kind_code : Problem → Draft → Option LineKind → List (List ℕ) → Option ℕ
kind_code p before None fields = Some 21
kind_code p before (Some kind) fields = first_code (faults_of p before kind fields)

-- the code of the first fault of a line, if it has one; a line after the end has 27 and no other
abbrev pub line_code : Problem → Draft → List (List ℕ) → Option ℕ
line_code p before fields = if has_ended before then Some 27 else kind_code p before (kind_of fields) fields

-- what has been read after one more line of a kind without a fault
abbrev pub with_kind : Problem → Draft → LineKind → List (List ℕ) → Draft
with_kind p before Direct fields = with_answer before (answer.Direct (number_at fields 2))
with_kind p before Optimal fields = with_answer before (answer.Optimal (number_at fields 2))
with_kind p before Unfinished fields = with_answer before (unfinished_in fields)
with_kind p before Infeasible fields = with_answer before (infeasible_in p fields)
with_kind p before Scale fields = with_scale before (number_at fields 1)
with_kind p before kind.Unit fields = with_unit before (number_at fields 1)
with_kind p before Leg fields = with_leg before (leg_in p fields)
with_kind p before Truck fields = with_truck before (truck_in p fields)
with_kind p before Point fields = with_point before (point_in p fields)
with_kind p before Table fields = with_table before (moments_in fields)
with_kind p before Share fields = with_share before (share_in p fields)
with_kind p before Span fields = with_span before (span_in p fields)
with_kind p before Weight fields = with_weight before (weight_in p fields)
with_kind p before Group fields = with_group before (number_at fields 1)
with_kind p before Gift fields = with_gift before (gift_in p fields)
with_kind p before ByArc fields = with_node before (by_arc_in p fields)
with_kind p before ByTime fields = with_node before (by_time_in p fields)
with_kind p before ByTrucks fields = with_node before (by_trucks_in p fields)
with_kind p before ByWay fields = with_node before (by_way_in p fields)
with_kind p before Leaf fields = with_node before (leaf_in fields)
with_kind p before Narrow fields = with_node before (narrowing_in fields)
with_kind p before End fields = with_end before

-- the same where the line has a kind
abbrev pub with_kind_of : Problem → Draft → Option LineKind → List (List ℕ) → Draft
with_kind_of p before None fields = before
with_kind_of p before (Some kind) fields = with_kind p before kind fields

-- what has been read after one more line without a fault
abbrev pub with_line : Problem → Draft → List (List ℕ) → Draft
with_line p before fields = with_kind_of p before (kind_of fields) fields

-- what was read, where the lines have ended; records that end without `end` have the fault 26 one
-- past the last of them
abbrev pub finished : Draft → ℕ → Result Statement Fault
finished before ordinal = if has_ended before then Ok before.certificate else Err (record { ordinal = ordinal; code = 26 })

-- what records give, where `ordinal` is that of the first of them and `before` is what those before
-- it have given: the first record with a fault decides
abbrev pub certificate_from : Problem → Draft → ℕ → List (List (List ℕ)) → Result Statement Fault
certificate_from p before ordinal [] = finished before ordinal
certificate_from p before ordinal (fields ∷ records) =
    first_fault ordinal (line_code p before fields) (certificate_from p (with_line p before fields) (ordinal + 1) records)

-- the certificate that records give, of which the first has the ordinal, or the fault that decides
abbrev pub certificate_of : Problem → ℕ → List (List (List ℕ)) → Result Statement Fault
certificate_of p ordinal records = certificate_from p nothing_read ordinal records
