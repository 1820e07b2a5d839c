-- Records that tell nothing but kept legs are read as those.
use Rattle.std.proofs.Common.{◌≡◌, ℕ, ◌+◌, false, ◌&&◌, ◌||◌, List, [], ◌∷◌, ◌++◌, length, map, refl, sym, ap, ap₂, ◌∙◌}
use Rattle.std.specs.Prelude.{Option, Some, None, Result, not, ◌==◌}
use Rattle.std.proofs.Math.Bool.{and-true, or-false}
use Rattle.std.proofs.lemmas.List.{length-map, map-append}
use Rattle.fp_model.specs.declared.limits.TheConstants.{LATEST}
use Rattle.fp_model.specs.Problem.{Problem}
use Rattle.fp_records_fields.specs.Faults.{Fault, first_fault}
use Rattle.fp_records_fields.specs.Fields.{has_number, is_between}
use Rattle.fp_records_fields.specs.Findings.{first_code}
use Rattle.fp_replan.specs.declared.kept.Kept.{Kept}
use Rattle.fp_replan.specs.Records.{is_next, kept_faults, kept_from, kept_in}
use Rattle.fp_replan_present.specs.declared.presents.Tracked.{Tracked}
use Rattle.fp_replan_present.specs.Days.{Day, kept_in_tracked}
use Rattle.fp_replan_present.specs.Records.{TellKeptOnly, are_times_within, day_faults, day_from, day_with, has_leg_fields, has_times, is_now, only_kept, only_kept_day, tells_arrival}

-- the day of which kept legs alone are told
abbrev pub day_of_kept : List Kept → Day
day_of_kept kept = record { time = None; legs = map only_kept kept }

back : (kept : List Kept) → map kept_in_tracked (map only_kept kept) ≡ kept
back [] = refl
back (x ∷ kept) = ap (λ (xs : List Kept). x ∷ xs) (back kept)

-- the first fault of a record is the same
faults-same : (p : Problem) (kept : List Kept) (fields : List (List ℕ)) → is_now fields ≡ false → tells_arrival fields ≡ false →
    first_code (day_faults p (day_of_kept kept) fields) ≡ first_code (kept_faults p kept fields)
faults-same p kept fields isnt untold =
    let count : has_leg_fields fields ≡ (length fields == 5) = ap (λ b. (length fields == 5) || b) untold ∙ or-false (length fields == 5) in
    let digits : has_times fields ≡ has_number fields 4 = ap (λ b. has_number fields 4 && (not b || has_number fields 5)) untold ∙ and-true (has_number fields 4) in
    let range : are_times_within fields ≡ is_between 0 LATEST fields 4 =
    ap (λ b. is_between 0 LATEST fields 4 && (not b || is_between 0 LATEST fields 5)) untold ∙ and-true (is_between 0 LATEST fields 4) in
    let next : is_next p (map kept_in_tracked (map only_kept kept)) (kept_in p fields) ≡ is_next p kept (kept_in p fields) = ap (λ (ks : List Kept). is_next p ks (kept_in p fields)) (back kept) in
    let long : length (map only_kept kept) ≡ length kept = length-map kept only_kept in
    rw (isnt, count, digits, range, next, long, untold) refl

-- and so is what it tells
day-same : (p : Problem) (kept : List Kept) (fields : List (List ℕ)) → is_now fields ≡ false → tells_arrival fields ≡ false →
    day_with p (day_of_kept kept) fields ≡ day_of_kept (kept ++ (kept_in p fields ∷ []))
day-same p kept fields isnt untold =
    let day : List Tracked → Day = λ legs. record { time = None; legs = legs } in
    rw (isnt, untold) (ap day (sym (map-append only_kept kept (kept_in p fields ∷ []))))

-- where a fault decides, what comes after doesn't
fault-same : (ordinal : ℕ) (code : Option ℕ) (rest : Result (List Kept) Fault) → first_fault ordinal code (only_kept_day rest) ≡ only_kept_day (first_fault ordinal code rest)
fault-same ordinal None rest = refl
fault-same ordinal (Some code) rest = refl

pub reads-kept : (p : Problem) (kept : List Kept) (ordinal : ℕ) (records : List (List (List ℕ))) → TellKeptOnly records →
    day_from p (day_of_kept kept) ordinal records ≡ only_kept_day (kept_from p kept ordinal records)
reads-kept p kept ordinal [] only = refl
reads-kept p kept ordinal (fields ∷ records) only =
    let more : List Kept = kept ++ (kept_in p fields ∷ []) in
    ap₂ (λ (code : Option ℕ) (rest : Result Day Fault). first_fault ordinal code rest) (faults-same p kept fields only.0.0 only.0.1)
    (ap (λ (day : Day). day_from p day (ordinal + 1) records) (day-same p kept fields only.0.0 only.0.1) ∙ reads-kept p more (ordinal + 1) records only.1)
    ∙ fault-same ordinal (first_code (kept_faults p kept fields)) (kept_from p more (ordinal + 1) records)
