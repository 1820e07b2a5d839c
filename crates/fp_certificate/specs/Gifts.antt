-- The lines of gifts: their faults in the order in which they are looked for, and what they give.
use Rattle.std.specs.Prelude.{ℕ, List, [], ◌∷◌, ◌++◌, length, Bool, ◌&&◌, ◌||◌, not, ◌==◌, Some, codes}
use Rattle.fp_model.specs.Problem.{Problem}
use Rattle.fp_prices_gifts.specs.declared.gifts.Gift.{Gift}
use Rattle.fp_records_fields.specs.Findings.{finding}
use Rattle.fp_records_fields.specs.Findings.{Finding}
use Rattle.fp_records_fields.specs.Fields.{has_number, has_word, number_at}
use Rattle.fp_records.specs.Fields.{is_empty}
use Rattle.fp_certificate.specs.declared.drafts.Draft.{Draft}
use Rattle.fp_certificate.specs.declared.lines.sections.Section.TheVariants as section
use Rattle.fp_certificate.specs.Answers.{is_figure}
use Rattle.fp_certificate.specs.Sections.{is_misplaced}
use Rattle.fp_certificate.specs.Tables.{with_last}
use Rattle.fp_certificate.specs.Timetables.{ends_in_range, is_time}
use Rattle.fp_records_fields.specs.NamedParts.{arc_in, lacks_arc}

-- whether a gift tells one of the two sides for which it is
abbrev pub has_side : List (List ℕ) → Bool
has_side fields = has_word (codes "least") fields 5 || has_word (codes "most") fields 5

-- whether the times, the side and the amount of a gift are such
abbrev pub has_gift_digits : List (List ℕ) → Bool
has_gift_digits fields = has_number fields 3 && has_number fields 4 && (has_side fields && has_number fields 6)

-- the faults of `gift,FROM,TO,POINT,UNTIL,SIDE,AMOUNT`. Each table brings a list of gifts, so there is
-- none where there is no table
abbrev pub gift_faults : Problem → Draft → List (List ℕ) → List Finding
gift_faults p before fields =
    finding 22 (not (length fields == 7))
    ∷ finding 23 (not (has_gift_digits fields))
    ∷ finding 24 (is_misplaced before section.Tables || is_empty before.certificate.gifts)
    ∷ finding 25 (lacks_arc p fields 1 2)
    ∷ finding 28 (not (is_time fields 3 && ends_in_range fields 3 4 && is_figure fields 6))
    ∷ []

-- the gift of a line
abbrev pub gift_in : Problem → List (List ℕ) → Gift
gift_in p fields = record {
  arc = arc_in p fields 1 2;
  point = number_at fields 3;
  until = number_at fields 4;
  least = has_word (codes "least") fields 5;
  amount = number_at fields 6;
}

-- the gifts of a table with one more
abbrev pub and_gift : Gift → List Gift → List Gift
and_gift gift gifts = gifts ++ (gift ∷ [])

-- a draft with one more gift in its last list of gifts
abbrev pub with_gift : Draft → Gift → Draft
with_gift before gift =
    record { certificate = record before.certificate { gifts = with_last (and_gift gift) before.certificate.gifts }; latest = Some section.Tables }
