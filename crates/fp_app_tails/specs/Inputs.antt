-- An instance and what follows it in an input, or why there is none.
use Rattle.std.specs.Prelude.{ℕ, ◌+◌, ◌≡◌, ◌≤◌, List, [], drop, length, true, false, Ok, Err, ⊤, MatchBool}
use Rattle.std.specs.List.{list_any}
use Rattle.fp_model.specs.Problem.{Problem}
use Rattle.fp_replan.specs.declared.kept.TheConstants.{MOST_KEPT}
use Rattle.fp_replan.specs.KeptLegs.{AreKept}
use Rattle.fp_replan.specs.Records.{kept_from}
use Rattle.fp_replan_present.specs.Days.{AreTracked}
use Rattle.fp_replan_present.specs.Records.{day_from, untold}
use Rattle.fp_app_tails.specs.declared.inputs.TailInput.{TailInput}
use Rattle.fp_app_tails.specs.declared.inputs.TailInput.TheVariants as given
use Rattle.fp_app_tails.specs.Tails.{day_told, kept_told, tells_day, tells_more}

-- it is the instance of the records with its kept legs, or with its day where one is told, or the first
-- fault
abbrev pub IsTailInput : List (List (List ℕ)) → TailInput → Type 0
IsTailInput records (given.Kept p kept) = (tells_day records ≡ false) × (kept_told records ≡ Ok (record { instance = p; kept = kept.items }))
IsTailInput records (given.Day p day) = (tells_day records ≡ true) × (day_told records ≡ Ok (record { instance = p; day = day }))
IsTailInput records (given.Fault ordinal code) =
    MatchBool (tells_day records) (day_told records ≡ Err (record { ordinal = ordinal; code = code })) (kept_told records ≡ Err (record { ordinal = ordinal; code = code }))

-- it is the instance and the kept legs of the records from a place on, or the first fault of these
-- records
abbrev pub IsKeptInputOf : Problem → ℕ → List (List (List ℕ)) → TailInput → Type 0
IsKeptInputOf p place records (given.Kept q kept) = (q ≡ p) × (kept_from p [] (place + 1) (drop place records) ≡ Ok kept.items)
IsKeptInputOf p place records (given.Day q day) = ⊥
IsKeptInputOf p place records (given.Fault ordinal code) = kept_from p [] (place + 1) (drop place records) ≡ Err (record { ordinal = ordinal; code = code })

-- it is the instance and the day of the records from a place on, or the first fault of these records
abbrev pub IsDayInputOf : Problem → ℕ → List (List (List ℕ)) → TailInput → Type 0
IsDayInputOf p place records (given.Kept q kept) = ⊥
IsDayInputOf p place records (given.Day q day) = (q ≡ p) × (day_from p untold (place + 1) (drop place records) ≡ Ok day)
IsDayInputOf p place records (given.Fault ordinal code) = day_from p untold (place + 1) (drop place records) ≡ Err (record { ordinal = ordinal; code = code })

-- it is the one or the other, by whether the records tell a day
abbrev pub IsTailInputOf : Problem → ℕ → List (List (List ℕ)) → TailInput → Type 0
IsTailInputOf p place records given =
    MatchBool (list_any tells_more (drop place records)) (IsDayInputOf p place records given) (IsKeptInputOf p place records given)

-- the legs can be kept or tracked, each after those before it, and there are not too many of them
abbrev pub IsSound : TailInput → Type 0
IsSound (given.Kept p kept) = AreKept p kept.items × (length kept.items ≤ MOST_KEPT)
IsSound (given.Day p day) = AreTracked p day × (length day.legs ≤ MOST_KEPT)
IsSound (given.Fault ordinal code) = ⊤
