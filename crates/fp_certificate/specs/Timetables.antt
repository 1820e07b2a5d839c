-- The lines of legs and of trucks: their faults in the order in which they are looked for, and what
-- they give.
use Rattle.std.specs.Prelude.{ℕ, ◌+◌, List, [], ◌∷◌, ◌++◌, length, Bool, ◌&&◌, ◌||◌, not, ◌==◌, Some}
use Rattle.fp_model.specs.declared.limits.TheConstants.{LATEST}
use Rattle.fp_model.specs.Problem.{Problem}
use Rattle.fp_records_fields.specs.Findings.{finding}
use Rattle.fp_records_fields.specs.Findings.{Finding}
use Rattle.fp_records_fields.specs.Fields.{has_number, is_between, number_at}
use Rattle.fp_timetable.specs.declared.lines.LegLine.{LegLine}
use Rattle.fp_timetable.specs.declared.lines.TruckLine.{TruckLine}
use Rattle.fp_certificate.specs.declared.drafts.Draft.{Draft}
use Rattle.fp_certificate.specs.declared.lines.sections.Section.TheVariants as section
use Rattle.fp_certificate.specs.Answers.{is_figure}
use Rattle.fp_certificate.specs.Sections.{is_misplaced}
use Rattle.fp_records_fields.specs.NamedParts.{arc_in, lacks_arc, lacks_shipment, shipment_in}

-- whether the field at a place is a time in range
abbrev pub is_time : List (List ℕ) → ℕ → Bool
is_time fields place = is_between 0 LATEST fields place

-- whether the end of a run, told at `place`, is after the run's point, told at `start`, and at most 100,001
abbrev pub ends_in_range : List (List ℕ) → (start place : ℕ) → Bool
ends_in_range fields start place = is_between (number_at fields start + 1) (LATEST + 1) fields place

-- the faults of the arc and the time that a line names by its fields 1 to 3
abbrev pub departure_faults : Problem → List (List ℕ) → List Finding
departure_faults p fields = finding 25 (lacks_arc p fields 1 2) ∷ finding 28 (not (is_time fields 3)) ∷ []

-- the faults of `leg,SHIPMENT,FROM,TO,DEPART,ARRIVE`
abbrev pub leg_faults : Problem → Draft → List (List ℕ) → List Finding
leg_faults p before fields =
    finding 22 (not (length fields == 6))
    ∷ finding 23 (not (has_number fields 4 && has_number fields 5))
    ∷ finding 24 (is_misplaced before section.Legs)
    ∷ finding 25 (lacks_shipment p fields 1 || lacks_arc p fields 2 3)
    ∷ finding 28 (not (is_time fields 4 && is_time fields 5))
    ∷ []

-- the leg of a line
abbrev pub leg_in : Problem → List (List ℕ) → LegLine
leg_in p fields = record {
  shipment = shipment_in p fields 1;
  arc = arc_in p fields 2 3;
  depart = number_at fields 4;
  arrive = number_at fields 5;
}

-- a draft with one more leg
abbrev pub with_leg : Draft → LegLine → Draft
with_leg before leg =
    record { certificate = record before.certificate { legs = before.certificate.legs ++ (leg ∷ []) }; latest = Some section.Legs }

-- the faults of `truck,FROM,TO,DEPART,TRUCKS,LOAD`
abbrev pub truck_faults : Problem → Draft → List (List ℕ) → List Finding
truck_faults p before fields =
    finding 22 (not (length fields == 6))
    ∷ finding 23 (not (has_number fields 3 && has_number fields 4 && has_number fields 5))
    ∷ finding 24 (is_misplaced before section.Trucks)
    ∷ finding 25 (lacks_arc p fields 1 2)
    ∷ finding 28 (not (is_time fields 3 && is_figure fields 4 && is_figure fields 5))
    ∷ []

-- the truck line of a line
abbrev pub truck_in : Problem → List (List ℕ) → TruckLine
truck_in p fields = record {
  arc = arc_in p fields 1 2;
  depart = number_at fields 3;
  trucks = number_at fields 4;
  load = number_at fields 5;
}

-- a draft with one more truck line
abbrev pub with_truck : Draft → TruckLine → Draft
with_truck before truck =
    record { certificate = record before.certificate { trucks = before.certificate.trucks ++ (truck ∷ []) }; latest = Some section.Trucks }
