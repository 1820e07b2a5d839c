-- The day that records give, or their first fault.
use Rattle.std.specs.Prelude.{ℕ, ◌≡◌, ◌+◌, List, [], ◌∷◌, ◌++◌, length, map, Bool, false, ◌&&◌, ◌||◌, not, ◌==◌, nat_le, nat_lt, Option, Some, None, is_some, Result, Ok, Err, codes, if◌then◌else◌}
use Rattle.std.specs.List.{AllByRecursion}
use Rattle.fp_model.specs.declared.limits.TheConstants.{LATEST}
use Rattle.fp_model.specs.Problem.{Problem}
use Rattle.fp_records_fields.specs.Faults.{Fault, first_fault}
use Rattle.fp_records_fields.specs.Fields.{has_number, is_between, is_kind, number_at}
use Rattle.fp_records_fields.specs.Findings.{Finding, finding, first_code}
use Rattle.fp_replan.specs.declared.kept.Kept.{Kept}
use Rattle.fp_replan.specs.declared.kept.TheConstants.{MOST_KEPT}
use Rattle.fp_replan.specs.Records.{is_next, kept_from, kept_in, lacks_part}
use Rattle.fp_replan_present.specs.declared.presents.Tracked.{Tracked}
use Rattle.fp_replan_present.specs.declared.times.Times.{Times}
use Rattle.fp_replan_present.specs.Days.{Day, kept_in_tracked}

-- whether a record tells the present, by its first field
abbrev pub is_now : List (List ℕ) → Bool
is_now fields = is_kind (codes "now") fields

-- whether a record is one of a tracked leg, by its first field
abbrev pub is_kept : List (List ℕ) → Bool
is_kept fields = is_kind (codes "kept") fields

-- whether a record of a tracked leg tells its arrival: it has the sixth field
abbrev pub tells_arrival : List (List ℕ) → Bool
tells_arrival fields = length fields == 6

-- whether a record of a tracked leg has 5 fields, or 6
abbrev pub has_leg_fields : List (List ℕ) → Bool
has_leg_fields fields = (length fields == 5) || tells_arrival fields

-- whether its times are numbers
abbrev pub has_times : List (List ℕ) → Bool
has_times fields = has_number fields 4 && (not (tells_arrival fields) || has_number fields 5)

-- whether its times are within the limit
abbrev pub are_times_within : List (List ℕ) → Bool
are_times_within fields = is_between 0 LATEST fields 4 && (not (tells_arrival fields) || is_between 0 LATEST fields 5)

-- its times
abbrev pub times_in : List (List ℕ) → Times
times_in fields = record { depart = number_at fields 4; arrive = if tells_arrival fields then Some (number_at fields 5) else None }

-- whether a leg arrives before it departs
abbrev pub arrives_before : (depart : ℕ) → Option ℕ → Bool
arrives_before depart None = false
arrives_before depart (Some arrive) = nat_lt arrive depart

abbrev pub is_backward : Times → Bool
is_backward times = arrives_before times.depart times.arrive

-- the faults of `now,TIME` after that of its kind, given the present that the records before it tell
abbrev pub now_faults : Option ℕ → List (List ℕ) → List Finding
now_faults now fields =
    finding 32 (not (length fields == 2))
    ∷ finding 33 (not (has_number fields 1))
    ∷ finding 35 (not (is_between 0 LATEST fields 1))
    ∷ finding 38 (is_some now)
    ∷ []

-- the faults of `kept,SHIPMENT,FROM,TO,DEPART` and `kept,SHIPMENT,FROM,TO,DEPART,ARRIVE` after that of
-- their kind, given the tracked legs of the records before it
abbrev pub leg_faults : Problem → List Tracked → List (List ℕ) → List Finding
leg_faults p before fields =
    finding 32 (not (has_leg_fields fields))
    ∷ finding 33 (not (has_times fields))
    ∷ finding 34 (lacks_part p fields)
    ∷ finding 35 (not (are_times_within fields))
    ∷ finding 36 (not (is_next p (map kept_in_tracked before) (kept_in p fields)))
    ∷ finding 37 (nat_le MOST_KEPT (length before))
    ∷ finding 39 (is_backward (times_in fields))
    ∷ []

-- the faults of a record, given the day that the records before it give
abbrev pub day_faults : Problem → Day → List (List ℕ) → List Finding
day_faults p before fields =
    finding 31 (not (is_now fields) && not (is_kept fields)) ∷ (if is_now fields then now_faults before.time fields else leg_faults p before.legs fields)

-- the tracked leg of a record
abbrev pub tracked_in : Problem → List (List ℕ) → Tracked
tracked_in p fields = record { kept = kept_in p fields; arrive = (times_in fields).arrive }

-- the day with what a record tells
abbrev pub day_with : Problem → Day → List (List ℕ) → Day
day_with p before fields =
    if is_now fields then record { time = Some (number_at fields 1); legs = before.legs }
    else record { time = before.time; legs = before.legs ++ (tracked_in p fields ∷ []) }

-- what records give, where `ordinal` is that of the first of them and `before` is what those before
-- it have given: the first record with a fault decides
abbrev pub day_from : Problem → Day → ℕ → List (List (List ℕ)) → Result Day Fault
day_from p before ordinal [] = Ok before
day_from p before ordinal (fields ∷ records) =
    first_fault ordinal (first_code (day_faults p before fields)) (day_from p (day_with p before fields) (ordinal + 1) records)

-- the day of which nothing is told
abbrev pub untold : Day
untold = record { time = None; legs = [] }

-- a kept leg of which nothing else is told
abbrev pub only_kept : Kept → Tracked
only_kept x = record { kept = x; arrive = None }

-- the day of which kept legs alone are told, or the fault in their place
abbrev pub only_kept_day : Result (List Kept) Fault → Result Day Fault
only_kept_day (Ok kept) = Ok (record { time = None; legs = map only_kept kept })
only_kept_day (Err fault) = Err fault

-- records that tell nothing but kept legs: none is of the present, and none has the sixth field
abbrev pub TellKeptOnly : List (List (List ℕ)) → Type 0
TellKeptOnly records = AllByRecursion (λ (fields : List (List ℕ)). (is_now fields ≡ false) × (tells_arrival fields ≡ false)) records

-- such records are read as kept legs are
abbrev pub ReadAsKept : Type 0
ReadAsKept = (p : Problem) (ordinal : ℕ) (records : List (List (List ℕ))) → TellKeptOnly records → day_from p untold ordinal records ≡ only_kept_day (kept_from p [] ordinal records)
