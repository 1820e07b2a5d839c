-- The kept legs that records give, or their first fault.
use Rattle.std.specs.Prelude.{ℕ, ◌+◌, List, [], ◌∷◌, ◌++◌, length, Bool, ◌||◌, not, ◌==◌, nat_le, Result, Ok, codes}
use Rattle.fp_model.specs.declared.limits.TheConstants.{LATEST}
use Rattle.fp_model.specs.Numbered.{shipment_at}
use Rattle.fp_model.specs.Problem.{Problem}
use Rattle.fp_records_fields.specs.Faults.{Fault, first_fault}
use Rattle.fp_records_fields.specs.Fields.{has_number, is_between, is_kind, number_at}
use Rattle.fp_records_fields.specs.Findings.{Finding, finding, first_code}
use Rattle.fp_records_fields.specs.NamedParts.{arc_in, lacks_arc, lacks_shipment, shipment_in}
use Rattle.fp_replan.specs.declared.kept.Kept.{Kept}
use Rattle.fp_replan.specs.declared.kept.TheConstants.{MOST_KEPT}
use Rattle.fp_replan.specs.KeptLegs.{goes_on, kept_of}

-- the kept leg of a record `kept,SHIPMENT,FROM,TO,DEPART`
abbrev pub kept_in : Problem → List (List ℕ) → Kept
kept_in p fields = record { shipment = shipment_in p fields 1; arc = arc_in p fields 2 3; depart = number_at fields 4 }

-- whether the fields name no shipment, or no ends that an arc joins
abbrev pub lacks_part : Problem → List (List ℕ) → Bool
lacks_part p fields = lacks_shipment p fields 1 || lacks_arc p fields 2 3

-- whether a kept leg goes on from those of its shipment before it
abbrev pub is_next : Problem → List Kept → Kept → Bool
is_next p before x = goes_on p (shipment_at p x.shipment) (kept_of before x.shipment) x.arc

-- the faults of `kept,SHIPMENT,FROM,TO,DEPART`, given the kept legs of the records before it
abbrev pub kept_faults : Problem → List Kept → List (List ℕ) → List Finding
kept_faults p before fields =
    finding 31 (not (is_kind (codes "kept") fields))
    ∷ finding 32 (not (length fields == 5))
    ∷ finding 33 (not (has_number fields 4))
    ∷ finding 34 (lacks_part p fields)
    ∷ finding 35 (not (is_between 0 LATEST fields 4))
    ∷ finding 36 (not (is_next p before (kept_in p fields)))
    ∷ finding 37 (nat_le MOST_KEPT (length before))
    ∷ []

-- what records give, where `ordinal` is that of the first of them and `before` is what those before
-- it have given: the first record with a fault decides
abbrev pub kept_from : Problem → List Kept → ℕ → List (List (List ℕ)) → Result (List Kept) Fault
kept_from p before ordinal [] = Ok before
kept_from p before ordinal (fields ∷ records) =
    first_fault ordinal (first_code (kept_faults p before fields)) (kept_from p (before ++ (kept_in p fields ∷ [])) (ordinal + 1) records)
