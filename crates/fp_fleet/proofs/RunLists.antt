-- Days of runs: what one more run adds to what all runs give.
use Rattle.std.proofs.Common.{◌≡◌, ℕ, ◌+◌, ◌<◌, List, [], ◌∷◌, ◌++◌, length, map, set, refl, ap, arith}
use Rattle.std.specs.Prelude.{◌==◌, sum_by, if◌then◌else◌}
use Rattle.std.proofs.Math.Seq.{map-set_same}
use Rattle.std.proofs.lemmas.List.Elements.{All-push}
use Rattle.std.proofs.lemmas.List.Sums.{sum_by-cons, sum_by-set, sum_by_push}
use Rattle.fp_model.specs.Problem.{Problem}
use Rattle.fp_timetable.specs.declared.lines.TruckLine.{TruckLine}
use Rattle.fp_fleet.specs.declared.days.Run.{Run}
use Rattle.fp_fleet.specs.Queues.{day_at}
use Rattle.fp_fleet.specs.Rosters.{CanTurn, line_at}
use Rattle.fp_fleet.specs.TruckDays.{Follow, IsDay, IsRun, first_line, last_line, over_runs, turned_count, turns_in}

-- a run at the end of a day
pub over_runs-turned : (f : Run → ℕ) (days : List (List Run)) (k : ℕ) (r : Run) → k < length days →
    over_runs f (set days k (day_at days k ++ r ∷ [])) ≡ over_runs f days + f r
over_runs-turned f days k r lt =
    omega (arith, sum_by-set (λ (day : List Run). sum_by f day) days k (day_at days k ++ r ∷ []) [] lt, sum_by_push f (day_at days k) r)

-- a run that is a day
pub over_runs-begun : (f : Run → ℕ) (days : List (List Run)) (r : Run) → over_runs f (days ++ (r ∷ []) ∷ []) ≡ over_runs f days + f r
over_runs-begun f days r =
    let one : sum_by f (r ∷ []) ≡ f r + sum_by f [] = sum_by-cons f r [] in
    let none : sum_by f [] ≡ 0 = refl in
    omega (arith, sum_by_push (λ (day : List Run). sum_by f day) days (r ∷ []), one, none)

-- the end of a day with one more run
pub last_line-push : (day : List Run) (r : Run) → last_line (day ++ r ∷ []) ≡ r.line
last_line-push [] r = refl
last_line-push (s ∷ []) r = refl
last_line-push (s ∷ t ∷ day) r = last_line-push (t ∷ day) r

-- its begin
pub first_line-push : (day : List Run) (r : Run) → 0 < length day → first_line (day ++ r ∷ []) ≡ first_line day
first_line-push [] r some = absurd (omega arith)
first_line-push (s ∷ day) r some = refl

-- its turns
pub turns_in-push : (l m : ℕ) (day : List Run) (r : Run) → 0 < length day →
    turns_in l m (day ++ r ∷ []) ≡ turns_in l m day + (if last_line day == l then (if r.line == m then 1 else 0) else 0)
turns_in-push l m [] r some = absurd (omega arith)
turns_in-push l m (s ∷ []) r some = omega arith
turns_in-push l m (s ∷ t ∷ day) r some = omega (arith, turns_in-push l m (t ∷ day) r (omega arith))

-- a truck can run one line more where it can turn to it
pub Follow-push : (p : Problem) (lines : List TruckLine) (day : List Run) (r : Run) → Follow p lines day →
    (0 < length day → CanTurn p (line_at lines (last_line day)) (line_at lines r.line)) → Follow p lines (day ++ r ∷ [])
Follow-push p lines [] r follow can = tt
Follow-push p lines (s ∷ []) r follow can = (can (omega arith), tt)
Follow-push p lines (s ∷ t ∷ day) r follow can = (follow.0, Follow-push p lines (t ∷ day) r follow.1 (λ some. can (omega arith)))

-- so the day is one still
pub IsDay-push : (p : Problem) (lines : List TruckLine) (day : List Run) (r : Run) → IsDay p lines day → IsRun p lines r →
    CanTurn p (line_at lines (last_line day)) (line_at lines r.line) → IsDay p lines (day ++ r ∷ [])
IsDay-push p lines day r is run can = record {
  some = omega (arith, ap (λ (n : ℕ). n) (length-push day r));
  runs = All-push (IsRun p lines) day r is.runs run;
  follow = Follow-push p lines day r is.follow (λ some. can);
}
  where
    length-push : (xs : List Run) (x : Run) → length (xs ++ x ∷ []) ≡ length xs + 1
    length-push [] x = refl
    length-push (y ∷ xs) x = omega (arith, length-push xs x)

pub IsDay-one : (p : Problem) (lines : List TruckLine) (r : Run) → IsRun p lines r → IsDay p lines (r ∷ [])
IsDay-one p lines r run = record {
  some = omega arith;
  runs = All-push (IsRun p lines) [] r (λ i d lt. absurd (omega arith)) run;
  follow = tt;
}

-- the turns of all days with one more run
pub turned_count-turned : (days : List (List Run)) (k : ℕ) (r : Run) (l m : ℕ) → k < length days → 0 < length (day_at days k) →
    turned_count (set days k (day_at days k ++ r ∷ [])) l m
    ≡ turned_count days l m + (if last_line (day_at days k) == l then (if r.line == m then 1 else 0) else 0)
turned_count-turned days k r l m lt some =
    omega (arith, sum_by-set (turns_in l m) days k (day_at days k ++ r ∷ []) [] lt, turns_in-push l m (day_at days k) r some)

pub turned_count-begun : (days : List (List Run)) (r : Run) (l m : ℕ) → turned_count (days ++ (r ∷ []) ∷ []) l m ≡ turned_count days l m
turned_count-begun days r l m =
    let none : turns_in l m (r ∷ []) ≡ 0 = refl in
    omega (arith, sum_by_push (turns_in l m) days (r ∷ []), none)

-- the first lines are as they were
pub first_lines-turned : (days : List (List Run)) (k : ℕ) (r : Run) → 0 < length (day_at days k) →
    map first_line (set days k (day_at days k ++ r ∷ [])) ≡ map first_line days
first_lines-turned days k r some = map-set_same first_line days k (day_at days k ++ r ∷ []) [] (first_line-push (day_at days k) r some)
