-- The answer that no plan goes on, with the first shipment that is stuck.
use Rattle.std.specs.Prelude.{ℕ, ◌+◌, ◌≡◌, ◌==◌, ◌&&◌, List, [], ◌∷◌, length, not, Bool, Option, Some, None, Result, Ok, Err, codes}
use Rattle.fp_model.specs.Problem.{Problem}
use Rattle.fp_records_fields.specs.Faults.{Fault, first_fault}
use Rattle.fp_records_fields.specs.Fields.{has_word, is_kind}
use Rattle.fp_records_fields.specs.Findings.{finding, first_code}
use Rattle.fp_records_fields.specs.NamedParts.{lacks_shipment, shipment_in}
use Rattle.fp_reader.specs.Input.{is_answer}
use Rattle.fp_app_tails.specs.declared.stuck_answers.StuckAnswer.{StuckAnswer}
use Rattle.fp_app_tails.specs.declared.stuck_answers.StuckAnswer.TheVariants as stuck

-- whether a record is such an answer
abbrev pub tells_stuck : List (List ℕ) → Bool
tells_stuck fields = is_answer fields && has_word (codes "stuck") fields 1

-- the fault of what stands after `end`
abbrev pub nothing_after : ℕ → List (List (List ℕ)) → Option Fault
nothing_after ordinal [] = None
nothing_after ordinal (fields ∷ records) = Some (record { ordinal = ordinal; code = 27 })

-- the fault that a code makes, or else the one of what follows
abbrev pub coded : ℕ → Option ℕ → Option Fault → Option Fault
coded ordinal (Some code) later = Some (record { ordinal = ordinal; code = code })
coded ordinal None later = later

-- the first fault of the records after the answer: they are `end` alone
abbrev pub ended_as : ℕ → List (List (List ℕ)) → Option Fault
ended_as ordinal [] = Some (record { ordinal = ordinal; code = 26 })
ended_as ordinal (fields ∷ records) =
    coded ordinal (first_code (finding 21 (not (is_kind (codes "end") fields)) ∷ finding 22 (not (length fields == 1)) ∷ [])) (nothing_after (ordinal + 1) records)

-- a number, or a fault in its place
abbrev pub unless_fault : ℕ → Option Fault → Result ℕ Fault
unless_fault shipment None = Ok shipment
unless_fault shipment (Some fault) = Err fault

-- the shipment that records name from the answer on, or their first fault
abbrev pub stuck_from : Problem → ℕ → List (List (List ℕ)) → Result ℕ Fault
stuck_from p ordinal [] = Err (record { ordinal = ordinal; code = 26 })
stuck_from p ordinal (fields ∷ records) =
    first_fault ordinal (first_code (finding 22 (not (length fields == 3)) ∷ finding 25 (lacks_shipment p fields 2) ∷ []))
    (unless_fault (shipment_in p fields 2) (ended_as (ordinal + 1) records))

-- it is what they give
abbrev pub IsStuckAnswer : Result ℕ Fault → StuckAnswer → Type 0
IsStuckAnswer read (stuck.Of shipment) = read ≡ Ok shipment
IsStuckAnswer read (stuck.Fault ordinal code) = read ≡ Err (record { ordinal = ordinal; code = code })
