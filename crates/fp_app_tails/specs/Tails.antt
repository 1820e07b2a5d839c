-- What the records after those of an instance tell: kept legs alone, or a day that is under way.
use Rattle.std.specs.Prelude.{ℕ, ◌+◌, ◌&&◌, ◌||◌, List, [], length, drop, take_while, nat_lt, not, Bool, Result, Ok, Err}
use Rattle.std.specs.List.{list_any}
use Rattle.fp_model.specs.Problem.{Problem}
use Rattle.fp_records.specs.Fields.{records_of}
use Rattle.fp_records_fields.specs.Faults.{Fault}
use Rattle.fp_reader.specs.declared.reading.Tail.TheVariants.{Alone}
use Rattle.fp_reader.specs.Input.{input_of}
use Rattle.fp_replan.specs.declared.kept.Kept.{Kept}
use Rattle.fp_replan.specs.Records.{kept_from}
use Rattle.fp_replan_present.specs.Days.{Day}
use Rattle.fp_replan_present.specs.Records.{day_from, is_kept, is_now, tells_arrival, untold}

-- whether a record begins what follows an instance: it is one of a kept leg, or of the present
abbrev pub begins_tail : List (List ℕ) → Bool
begins_tail fields = is_kept fields || is_now fields

-- whether a record tells the present, or when a kept leg arrives
abbrev pub tells_more : List (List ℕ) → Bool
tells_more fields = is_now fields || (is_kept fields && tells_arrival fields)

-- the records before the first `kept` or `now`, which are those of the instance
abbrev pub unkept_records : List (List (List ℕ)) → List (List (List ℕ))
unkept_records records = take_while (λ fields. not (begins_tail fields)) records

-- and those from there on
abbrev pub tail_records : List (List (List ℕ)) → List (List (List ℕ))
tail_records records = drop (length (unkept_records records)) records

-- whether there are such
abbrev pub has_tail : List (List (List ℕ)) → Bool
has_tail records = nat_lt (length (unkept_records records)) (length records)

-- the instance of the records before the first `kept` or `now`, or their first fault
abbrev pub unkept_instance : List (List (List ℕ)) → Result Problem Fault
unkept_instance records = input_of Alone (unkept_records records)

-- whether the records after the instance tell a day that is under way
abbrev pub tells_day : List (List (List ℕ)) → Bool
tells_day records = list_any tells_more (tail_records records)

-- an instance, and legs of it that are kept
pub record KeptInstance : Type 0 where
  pub instance : Problem
  pub kept : List Kept

-- an instance, and a day of it that is under way
pub record DayInstance : Type 0 where
  pub instance : Problem
  pub day : Day

-- an instance with the legs that records from a place on keep, or the first fault of these records
abbrev pub kept_legs : Problem → Result (List Kept) Fault → Result KeptInstance Fault
kept_legs p (Ok kept) = Ok (record { instance = p; kept = kept })
kept_legs p (Err f) = Err f

abbrev pub kept_after : List (List (List ℕ)) → Result Problem Fault → Result KeptInstance Fault
kept_after records (Ok p) = kept_legs p (kept_from p [] (length (unkept_records records) + 1) (tail_records records))
kept_after records (Err f) = Err f

-- the instance of records and its kept legs, or the first fault: the instance's before those of the kept
-- legs
abbrev pub kept_told : List (List (List ℕ)) → Result KeptInstance Fault
kept_told records = kept_after records (unkept_instance records)

-- an instance with the day that records from a place on tell, or the first fault of these records
abbrev pub told_day : Problem → Result Day Fault → Result DayInstance Fault
told_day p (Ok day) = Ok (record { instance = p; day = day })
told_day p (Err f) = Err f

abbrev pub day_after : List (List (List ℕ)) → Result Problem Fault → Result DayInstance Fault
day_after records (Ok p) = told_day p (day_from p untold (length (unkept_records records) + 1) (tail_records records))
day_after records (Err f) = Err f

-- the instance of records and its day, or the first fault: the instance's before those of the day
abbrev pub day_told : List (List (List ℕ)) → Result DayInstance Fault
day_told records = day_after records (unkept_instance records)

-- the same of the records of an input
abbrev pub unkept_instance_in : List ℕ → Result Problem Fault
unkept_instance_in input = unkept_instance (records_of input)

abbrev pub tells_day_in : List ℕ → Bool
tells_day_in input = tells_day (records_of input)

abbrev pub kept_in : List ℕ → Result KeptInstance Fault
kept_in input = kept_told (records_of input)

abbrev pub day_in : List ℕ → Result DayInstance Fault
day_in input = day_told (records_of input)
