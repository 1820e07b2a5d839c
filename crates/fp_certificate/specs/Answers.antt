-- The lines of answers, of a scale and of a unit: their faults, each with its code, in the order in
-- which they are looked for, and what they give. The first fault decides.
use Rattle.std.specs.Prelude.{ℕ, ◌^◌, List, [], ◌∷◌, length, Bool, ◌&&◌, ◌||◌, not, ◌==◌, nat_lt, is_some, if◌then◌else◌, Option, Some, None, codes}
use Rattle.fp_model.specs.declared.limits.TheConstants.{GREATEST_SCALE, LONGEST_FASTEST}
use Rattle.fp_model.specs.Problem.{Problem, weight_at}
use Rattle.fp_records_fields.specs.Findings.{finding}
use Rattle.fp_records_fields.specs.Findings.{Finding}
use Rattle.fp_records_fields.specs.Fields.{has_number, has_word, is_between, number_at}
use Rattle.fp_certificate_lines.specs.declared.certificates.Answer.{Answer}
use Rattle.fp_certificate_lines.specs.declared.certificates.Answer.TheVariants as answer
use Rattle.fp_certificate_lines.specs.declared.certificates.Spent.{Spent}
use Rattle.fp_certificate_lines.specs.declared.certificates.Spent.TheVariants.{Rounds, Branches, Time}
use Rattle.fp_certificate.specs.declared.drafts.Draft.{Draft}
use Rattle.fp_certificate.specs.declared.lines.sections.Section.TheVariants as section
use Rattle.fp_certificate.specs.Sections.{is_misplaced}
use Rattle.fp_certificate_lines.specs.Ranges.{largest_figure}
use Rattle.fp_records_fields.specs.NamedParts.{lacks_shipment, shipment_in}

-- whether the number in the field at a place is no larger
abbrev pub is_figure : List (List ℕ) → ℕ → Bool
is_figure fields place = is_between 0 largest_figure fields place

-- the faults of `answer,direct,COST` and of `answer,optimal,COST`
abbrev pub cost_faults : Draft → List (List ℕ) → List Finding
cost_faults before fields =
    finding 22 (not (length fields == 3))
    ∷ finding 23 (not (has_number fields 2))
    ∷ finding 24 (is_misplaced before section.Answer)
    ∷ finding 28 (not (is_figure fields 2))
    ∷ []

-- whether the numbers and the word of an unfinished answer are such
abbrev pub has_unfinished_digits : List (List ℕ) → Bool
has_unfinished_digits fields =
    has_number fields 2 && has_number fields 3 && (has_word (codes "rounds") fields 4 || has_word (codes "branches") fields 4 || has_word (codes "time") fields 4)

-- the faults of `answer,unfinished,COST,BOUND,SPENT`
abbrev pub unfinished_faults : Draft → List (List ℕ) → List Finding
unfinished_faults before fields =
    finding 22 (not (length fields == 5))
    ∷ finding 23 (not (has_unfinished_digits fields))
    ∷ finding 24 (is_misplaced before section.Answer)
    ∷ finding 28 (not (is_figure fields 2 && is_figure fields 3))
    ∷ []

-- whether a fastest time is `none` or a number
abbrev pub has_time : List (List ℕ) → Bool
has_time fields = has_word (codes "none") fields 3 || has_number fields 3

-- whether a fastest time is `none` or at most 10,000,000
abbrev pub has_time_in_range : List (List ℕ) → Bool
has_time_in_range fields = has_word (codes "none") fields 3 || is_between 0 LONGEST_FASTEST fields 3

-- the faults of `answer,infeasible,SHIPMENT,TIME`
abbrev pub infeasible_faults : Problem → Draft → List (List ℕ) → List Finding
infeasible_faults p before fields =
    finding 22 (not (length fields == 4))
    ∷ finding 23 (not (has_time fields))
    ∷ finding 24 (is_misplaced before section.Answer)
    ∷ finding 25 (lacks_shipment p fields 2)
    ∷ finding 28 (not (has_time_in_range fields))
    ∷ []

-- what was spent by an unfinished answer
abbrev pub spent_in : List (List ℕ) → Spent
spent_in fields = if has_word (codes "rounds") fields 4 then Rounds else if has_word (codes "branches") fields 4 then Branches else Time

-- the fastest time of an infeasible answer
abbrev pub time_in : List (List ℕ) → Option ℕ
time_in fields = if has_word (codes "none") fields 3 then None else Some (number_at fields 3)

-- the unfinished answer of a line
abbrev pub unfinished_in : List (List ℕ) → Answer
unfinished_in fields = answer.Unfinished (number_at fields 2) (number_at fields 3) (spent_in fields)

-- the infeasible answer of a line
abbrev pub infeasible_in : Problem → List (List ℕ) → Answer
infeasible_in p fields = answer.Infeasible (shipment_in p fields 2) (time_in fields)

-- a draft with an answer
abbrev pub with_answer : Draft → Answer → Draft
with_answer before a = record { certificate = record before.certificate { answer = a }; latest = Some section.Answer }

-- whether a scale is out of its range, or does not fit the instance
abbrev pub has_bad_scale : Problem → List (List ℕ) → Bool
has_bad_scale p fields =
    not (is_between 1 GREATEST_SCALE fields 1 && nat_lt (weight_at (number_at fields 1) p.arcs p.shipments) (2 ^ 127))

-- the faults of `scale,N`
abbrev pub scale_faults : Problem → Draft → List (List ℕ) → List Finding
scale_faults p before fields =
    finding 22 (not (length fields == 2))
    ∷ finding 23 (not (has_number fields 1))
    ∷ finding 24 (is_misplaced before section.Scale || is_some before.certificate.scale)
    ∷ finding 28 (has_bad_scale p fields)
    ∷ []

-- a draft with a scale
abbrev pub with_scale : Draft → ℕ → Draft
with_scale before n = record { certificate = record before.certificate { scale = Some n }; latest = Some section.Scale }

-- the faults of `unit,Q`
abbrev pub unit_faults : Draft → List (List ℕ) → List Finding
unit_faults before fields =
    finding 22 (not (length fields == 2))
    ∷ finding 23 (not (has_number fields 1))
    ∷ finding 24 (is_misplaced before section.Unit || is_some before.certificate.unit)
    ∷ finding 28 (not (is_between 1 largest_figure fields 1))
    ∷ []

-- a draft with a unit
abbrev pub with_unit : Draft → ℕ → Draft
with_unit before n = record { certificate = record before.certificate { unit = Some n }; latest = Some section.Unit }
