-- The first fault of the records before an answer and of the answer, where they tell kept legs or a day.
use Rattle.std.specs.Prelude.{ℕ, ◌+◌, List, drop, take, Option, Some, None, Result, Ok, Err, if◌then◌else◌}
use Rattle.fp_model.specs.Problem.{Problem}
use Rattle.fp_records_fields.specs.Faults.{Fault}
use Rattle.fp_certificate.specs.Reading.{certificate_of}
use Rattle.fp_certificate_lines.specs.Statements.{Statement}
use Rattle.fp_app_tails.specs.declared.answers.Scale.{Scale}
use Rattle.fp_app_tails.specs.Ahead.{ahead_problem}
use Rattle.fp_app_tails.specs.Answers.{fits, scale_by}
use Rattle.fp_app_tails.specs.Duties.{Duty, go_on, keep}
use Rattle.fp_app_tails.specs.StuckAnswers.{stuck_from}
use Rattle.fp_app_tails.specs.Tails.{DayInstance, KeptInstance, day_told, kept_told, tells_day}
use Rattle.fp_app_tails.specs.Verdicts.{begins_stuck}

-- the fault in the place of a number
abbrev pub number_fault : Result ℕ Fault → Option Fault
number_fault (Ok k) = None
number_fault (Err f) = Some f

-- the fault of a certificate's records, or that the scale doesn't fit the instance
abbrev pub certificate_fault : Scale → Problem → Result Statement Fault → Option Fault
certificate_fault n p (Ok c) = if fits (scale_by n c) p then None else Some (record { ordinal = 0; code = 12 })
certificate_fault n p (Err f) = Some f

-- the fault of the records of an answer
abbrev pub answer_fault : Scale → Problem → Duty → (ordinal : ℕ) → List (List (List ℕ)) → Option Fault
answer_fault n p duty ordinal records =
    if begins_stuck records then number_fault (stuck_from p ordinal records) else certificate_fault n p (certificate_of (ahead_problem p duty) ordinal records)

abbrev pub day_fault : Scale → (ordinal : ℕ) → List (List (List ℕ)) → Result DayInstance Fault → Option Fault
day_fault n ordinal records (Ok x) = answer_fault n x.instance (go_on x.day) ordinal records
day_fault n ordinal records (Err f) = Some f

abbrev pub kept_fault : Scale → (ordinal : ℕ) → List (List (List ℕ)) → Result KeptInstance Fault → Option Fault
kept_fault n ordinal records (Ok x) = answer_fault n x.instance (keep x.kept) ordinal records
kept_fault n ordinal records (Err f) = Some f

-- the first fault: that of the instance, then of what is told of it, then of the answer at the place, and then that the
-- scale doesn't fit
abbrev pub tail_fault : Scale → (place : ℕ) → List (List (List ℕ)) → Option Fault
tail_fault n place records =
    if tells_day (take place records) then day_fault n (place + 1) (drop place records) (day_told (take place records)) else kept_fault n (place + 1) (drop place records) (kept_told (take place records))
