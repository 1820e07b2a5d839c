-- The lines of added points: their faults in the order in which they are looked for, and what they
-- give.
use Rattle.std.specs.Prelude.{ℕ, List, [], ◌∷◌, ◌++◌, length, ◌&&◌, not, ◌==◌, Some}
use Rattle.fp_model.specs.declared.limits.TheConstants.{LAST_ROUND}
use Rattle.fp_model.specs.Problem.{Problem}
use Rattle.fp_records_fields.specs.Findings.{finding}
use Rattle.fp_records_fields.specs.Findings.{Finding}
use Rattle.fp_records_fields.specs.Fields.{has_number, is_between, number_at}
use Rattle.fp_timenodes.specs.declared.places.AddedPoint.{AddedPoint}
use Rattle.fp_certificate.specs.declared.drafts.Draft.{Draft}
use Rattle.fp_certificate.specs.declared.lines.sections.Section.TheVariants as section
use Rattle.fp_certificate.specs.Sections.{is_misplaced}
use Rattle.fp_records_fields.specs.NamedParts.{lacks_terminal, terminal_in}
use Rattle.fp_certificate.specs.Timetables.{is_time}

-- the faults of `point,TERMINAL,TIME,ROUND`
abbrev pub point_faults : Problem → Draft → List (List ℕ) → List Finding
point_faults p before fields =
    finding 22 (not (length fields == 4))
    ∷ finding 23 (not (has_number fields 2 && has_number fields 3))
    ∷ finding 24 (is_misplaced before section.Points)
    ∷ finding 25 (lacks_terminal p fields 1)
    ∷ finding 28 (not (is_time fields 2 && is_between 1 LAST_ROUND fields 3))
    ∷ []

-- the point of a line
abbrev pub point_in : Problem → List (List ℕ) → AddedPoint
point_in p fields = record { terminal = terminal_in p fields 1; at = number_at fields 2; round = number_at fields 3 }

-- a draft with one more point
abbrev pub with_point : Draft → AddedPoint → Draft
with_point before point =
    record { certificate = record before.certificate { points = before.certificate.points ++ (point ∷ []) }; latest = Some section.Points }
