-- The lines of tables, shares, spans, weights and groups: their faults in the order in which they are
-- looked for, and what they give.
use Rattle.std.specs.Prelude.{ℕ, ◌+◌, List, [], ◌∷◌, ◌++◌, length, Bool, true, false, ◌&&◌, ◌||◌, not, ◌==◌, if◌then◌else◌, Some, codes}
use Rattle.fp_model.specs.Problem.{Problem}
use Rattle.fp_prices.specs.declared.tables.Weight.{Weight}
use Rattle.fp_prices.specs.Shares.{ClassShare}
use Rattle.fp_prices_gifts.specs.declared.gifts.Gift.{Gift}
use Rattle.fp_prices_spans.specs.Spans.{ClassSpan}
use Rattle.fp_records_fields.specs.Findings.{finding}
use Rattle.fp_records_fields.specs.Findings.{Finding}
use Rattle.fp_records_fields.specs.Fields.{has_number, has_word, number_at}
use Rattle.fp_records.specs.Fields.{is_empty}
use Rattle.fp_certificate.specs.declared.drafts.Draft.{Draft}
use Rattle.fp_certificate.specs.declared.lines.sections.Section.TheVariants as section
use Rattle.fp_certificate.specs.Answers.{is_figure}
use Rattle.fp_certificate.specs.Sections.{is_misplaced}
use Rattle.fp_records_fields.specs.NamedParts.{arc_in, lacks_arc, lacks_shipment, shipment_in}
use Rattle.fp_certificate.specs.Timetables.{ends_in_range, is_time}

-- a list with what a function makes of its last element
abbrev pub with_last : {A : Type 0} → (A → A) → List A → List A
with_last f [] = []
with_last f (x ∷ []) = f x ∷ []
with_last f (x ∷ y ∷ xs) = x ∷ with_last f (y ∷ xs)

-- whether the last of some lists is empty, or there is none
abbrev pub lacks_last : {A : Type 0} → List (List A) → Bool
lacks_last [] = true
lacks_last (list ∷ []) = is_empty list
lacks_last (list ∷ next ∷ lists) = lacks_last (next ∷ lists)

-- whether the last table has no share, or there is no table
abbrev pub lacks_share : List (List ClassShare) → Bool
lacks_share tables = lacks_last tables

-- whether a span stands in the last table
abbrev pub has_span : List (List ClassSpan) → Bool
has_span spans = not (lacks_last spans)

-- whether the last element of a list passes a test; none does where there is none
abbrev pub last_is : {A : Type 0} → (A → Bool) → List A → Bool
last_is test [] = false
last_is test (x ∷ []) = test x
last_is test (x ∷ y ∷ xs) = last_is test (y ∷ xs)

-- whether a span has a group
abbrev pub is_grouped : ClassSpan → Bool
is_grouped span = not (is_empty span.groups)

-- whether the last span of the last table has a group
abbrev pub has_group : List (List ClassSpan) → Bool
has_group spans = last_is (λ (list : List ClassSpan). last_is is_grouped list) spans

-- whether a gift stands in the last table
abbrev pub has_gift : List (List Gift) → Bool
has_gift gifts = not (lacks_last gifts)

-- whether the last table has nothing that a weight can be of: the last of its spans has a group already,
-- or it has neither a span nor a share
abbrev pub lacks_weighed : List (List ClassShare) → List (List ClassSpan) → Bool
lacks_weighed tables spans = if has_span spans then has_group spans else lacks_share tables

-- whether a weight can't stand in the last table: it has a gift already, or nothing that a weight can be of
abbrev pub bars_weight : List (List ClassShare) → List (List ClassSpan) → List (List Gift) → Bool
bars_weight tables spans gifts = has_gift gifts || lacks_weighed tables spans

-- whether the line of a table doesn't tell that the table is by moments: it isn't
abbrev pub lacks_moments : List (List ℕ) → Bool
lacks_moments fields = length fields == 2

-- whether the table of a line is by moments
abbrev pub moments_in : List (List ℕ) → Bool
moments_in fields = has_word (codes "moments") fields 2

-- whether the number of a table, and the word where there is one, are such
abbrev pub has_table_digits : List (List ℕ) → Bool
has_table_digits fields = has_number fields 1 && (lacks_moments fields || moments_in fields)

-- the faults of `table,ID` and `table,ID,moments`. An ID has to be the next number, so none that passes is out of range
abbrev pub table_faults : Draft → List (List ℕ) → List Finding
table_faults before fields =
    finding 22 (not (lacks_moments fields || length fields == 3))
    ∷ finding 23 (not (has_table_digits fields))
    ∷ finding 24 (is_misplaced before section.Tables || not (number_at fields 1 == length before.certificate.tables + 1))
    ∷ []

-- a draft with other tables and other spans beside them
abbrev pub with_lists : Draft → List (List ClassShare) → List (List ClassSpan) → Draft
with_lists before tables spans =
    record { certificate = record before.certificate { tables = tables; spans = spans }; latest = Some section.Tables }

-- a draft with one more table, by moments or not, which has no shares, no spans and no gifts yet
abbrev pub with_table : Draft → Bool → Draft
with_table before by_moments = record {
  certificate = record before.certificate {
    tables = before.certificate.tables ++ ([] ∷ []);
    spans = before.certificate.spans ++ ([] ∷ []);
    gifts = before.certificate.gifts ++ ([] ∷ []);
    moments = before.certificate.moments ++ (by_moments ∷ []);
  };
  latest = Some section.Tables;
}

-- the faults of `share,FROM,TO,POINT,V`. The shares of a table stand before its spans and its gifts
abbrev pub share_faults : Problem → Draft → List (List ℕ) → List Finding
share_faults p before fields =
    finding 22 (not (length fields == 5))
    ∷ finding 23 (not (has_number fields 3 && has_number fields 4))
    ∷ finding 24 (is_misplaced before section.Tables || is_empty before.certificate.tables || has_span before.certificate.spans || has_gift before.certificate.gifts)
    ∷ finding 25 (lacks_arc p fields 1 2)
    ∷ finding 28 (not (is_time fields 3 && is_figure fields 4))
    ∷ []

-- the share of a line, which has no weights yet
abbrev pub share_in : Problem → List (List ℕ) → ClassShare
share_in p fields = record { arc = arc_in p fields 1 2; point = number_at fields 3; v = number_at fields 4; weights = [] }

-- a table with one more share
abbrev pub and_share : ClassShare → List ClassShare → List ClassShare
and_share share table = table ++ (share ∷ [])

-- a draft with one more share in its last table
abbrev pub with_share : Draft → ClassShare → Draft
with_share before share = with_lists before (with_last (and_share share) before.certificate.tables) before.certificate.spans

-- the faults of `span,FROM,TO,POINT,UNTIL,MONEY,CHARGE`. Each table brings a list of spans, so there
-- is none where there is no table. The spans of a table stand before its gifts
abbrev pub span_faults : Problem → Draft → List (List ℕ) → List Finding
span_faults p before fields =
    finding 22 (not (length fields == 7))
    ∷ finding 23 (not (has_number fields 3 && has_number fields 4 && (has_number fields 5 && has_number fields 6)))
    ∷ finding 24 (is_misplaced before section.Tables || is_empty before.certificate.spans || has_gift before.certificate.gifts)
    ∷ finding 25 (lacks_arc p fields 1 2)
    ∷ finding 28 (not (is_time fields 3 && ends_in_range fields 3 4 && is_figure fields 5 && is_figure fields 6))
    ∷ []

-- the span of a line, which has neither weights nor groups yet
abbrev pub span_in : Problem → List (List ℕ) → ClassSpan
span_in p fields = record {
  arc = arc_in p fields 1 2;
  point = number_at fields 3;
  until = number_at fields 4;
  money = number_at fields 5;
  charge = number_at fields 6;
  weights = [];
  groups = [];
}

-- the spans of a table with one more
abbrev pub and_span : ClassSpan → List ClassSpan → List ClassSpan
and_span span spans = spans ++ (span ∷ [])

-- a draft with one more span in its last list of spans
abbrev pub with_span : Draft → ClassSpan → Draft
with_span before span = with_lists before before.certificate.tables (with_last (and_span span) before.certificate.spans)

-- the faults of `weight,SHIPMENT,W`. It stands in a share or in a span of the last table, before the
-- groups of the span and the gifts of the table
abbrev pub weight_faults : Problem → Draft → List (List ℕ) → List Finding
weight_faults p before fields =
    finding 22 (not (length fields == 3))
    ∷ finding 23 (not (has_number fields 2))
    ∷ finding 24 (is_misplaced before section.Tables || bars_weight before.certificate.tables before.certificate.spans before.certificate.gifts)
    ∷ finding 25 (lacks_shipment p fields 1)
    ∷ finding 28 (not (is_figure fields 2))
    ∷ []

-- the weight of a line
abbrev pub weight_in : Problem → List (List ℕ) → Weight
weight_in p fields = record { shipment = shipment_in p fields 1; w = number_at fields 2 }

-- a share with one more weight
abbrev pub and_weight : Weight → ClassShare → ClassShare
and_weight weight share = record share { weights = share.weights ++ (weight ∷ []) }

-- a span with one more weight
abbrev pub and_span_weight : Weight → ClassSpan → ClassSpan
and_span_weight weight span = record span { weights = span.weights ++ (weight ∷ []) }

-- tables with one more weight in the last share of the last of them
abbrev pub and_last_share_weight : Weight → List (List ClassShare) → List (List ClassShare)
and_last_share_weight weight tables = with_last (with_last (and_weight weight)) tables

-- lists of spans with one more weight in the last span of the last of them
abbrev pub and_last_span_weight : Weight → List (List ClassSpan) → List (List ClassSpan)
and_last_span_weight weight spans = with_last (with_last (and_span_weight weight)) spans

-- a draft with one more weight in the last span of its last table, or in its last share where it has
-- no span
abbrev pub with_weight : Draft → Weight → Draft
with_weight before weight =
    if has_span before.certificate.spans then with_lists before before.certificate.tables (and_last_span_weight weight before.certificate.spans)
    else with_lists before (and_last_share_weight weight before.certificate.tables) before.certificate.spans

-- the faults of `group,MOMENT`. It stands in a span of the last table, before the gifts of the table
abbrev pub group_faults : Draft → List (List ℕ) → List Finding
group_faults before fields =
    finding 22 (not (length fields == 2))
    ∷ finding 23 (not (has_number fields 1))
    ∷ finding 24 (is_misplaced before section.Tables || not (has_span before.certificate.spans) || has_gift before.certificate.gifts)
    ∷ finding 28 (not (is_time fields 1))
    ∷ []

-- a span with one more group, which begins at a moment
abbrev pub and_group : ℕ → ClassSpan → ClassSpan
and_group moment span = record span { groups = span.groups ++ (moment ∷ []) }

-- lists of spans with one more group in the last span of the last of them
abbrev pub and_last_group : ℕ → List (List ClassSpan) → List (List ClassSpan)
and_last_group moment spans = with_last (with_last (and_group moment)) spans

-- a draft with one more group in the last span of its last table
abbrev pub with_group : Draft → ℕ → Draft
with_group before moment = with_lists before before.certificate.tables (and_last_group moment before.certificate.spans)
