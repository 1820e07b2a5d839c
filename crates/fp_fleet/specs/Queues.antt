-- What is kept while trucks begin and turn, one after the other.
use Rattle.std.specs.Prelude.{ℕ, ◌+◌, ◌-◌, ◌*◌, ◌<◌, ◌≤◌, ◌≡◌, ◌≢◌, List, [], ◌∷◌, ◌++◌, drop, length, map, min, slice_index, slice_index_or, slice_set, All, AllPairs}
use Rattle.std.specs.Int.{div_ceil}
use Rattle.fp_model.specs.Problem.{Problem}
use Rattle.fp_timetable.specs.declared.lines.TruckLine.{TruckLine}
use Rattle.fp_fleet.specs.declared.days.Run.{Run}
use Rattle.fp_fleet.specs.declared.days.TheConstants.{MOST_RUNS}
use Rattle.fp_fleet.specs.declared.fleets.Begin.{Begin}
use Rattle.fp_fleet.specs.declared.fleets.Turn.{Turn}
use Rattle.fp_fleet.specs.Counts.{begin_count, into_count, out_count, turn_count}
use Rattle.fp_fleet.specs.Fleets.{Assignment, IsAccepted}
use Rattle.fp_fleet.specs.Rosters.{line_at, truck_total}
use Rattle.fp_fleet.specs.Sweeps.{IsTimetable}
use Rattle.fp_fleet.specs.TruckDays.{IsDay, capacity_of, carried, first_line, first_lines, last_line, part_count, run_count, turned_count}

-- the trucks of a line, by their numbers, in the order in which they came to run it
abbrev pub queue_at : List (List ℕ) → ℕ → List ℕ
queue_at queues l = slice_index_or queues l []

-- the day of the truck with a number
abbrev pub day_at : List (List Run) → ℕ → List Run
day_at days k = slice_index_or days k []

-- the trucks of a line that have not turned to another, where so many have
abbrev pub waiting_at : List (List ℕ) → List ℕ → ℕ → List ℕ
waiting_at queues heads l = drop (slice_index heads l) (queue_at queues l)

-- what the next truck of a line carries when so many have run it: as much as it holds, or the rest
abbrev pub next_load : Problem → TruckLine → ℕ → ℕ
next_load p t before = min (capacity_of p t) (t.load - before * capacity_of p t)

-- a truck's day ends with a line
pub record EndsWith (days : List (List Run)) (l k : ℕ) : Type 0 where
  pub exists : k < length days
  pub last : last_line (day_at days k) ≡ l

-- what so many full trucks would carry, or all that there is
pub record IsFilled (capacity load trucks carries parts : ℕ) : Type 0 where
  pub full : trucks * capacity ≤ load → (carries ≡ trucks * capacity) × (parts ≡ 0)
  pub rest : load ≤ trucks * capacity → carries ≡ load
  pub few : parts ≤ 1

-- what is given: the lines of a timetable with as few trucks as hold their loads, not too many in all,
-- and a fleet that is accepted
pub record IsGiven (p : Problem) (lines : List TruckLine) (fleet : Assignment) : Type 0 where
  pub timetable : IsTimetable p lines
  pub holds : All (λ (t : TruckLine). t.trucks ≡ div_ceil t.load (capacity_of p t)) lines
  pub few : truck_total lines ≤ MOST_RUNS
  pub accepted : IsAccepted p lines fleet

-- trucks have begun and turned as lists of begins and of turns say
pub record AreQueued (p : Problem) (lines : List TruckLine) (begins : List Begin) (turns : List Turn) (days : List (List Run)) (queues : List (List ℕ)) (heads : List ℕ) : Type 0 where
  pub queues_long : length queues ≡ length lines
  pub heads_long : length heads ≡ length lines
  pub each : All (IsDay p lines) days
  pub firsts : map first_line days ≡ first_lines begins
  pub turned : (l m : ℕ) → turned_count days l m ≡ turn_count turns l m
  pub runs : (m : ℕ) → m < length lines → run_count days m ≡ length (queue_at queues m)
  pub came : (m : ℕ) → m < length lines → length (queue_at queues m) ≡ begin_count begins m + into_count turns m
  pub left : (l : ℕ) → l < length lines → slice_index heads l ≡ out_count turns l
  pub within : (l : ℕ) → l < length lines → slice_index heads l ≤ length (queue_at queues l)
  pub wait : (l : ℕ) → l < length lines → All (EndsWith days l) (waiting_at queues heads l)
  pub once : (l : ℕ) → l < length lines → AllPairs (λ i k. i ≢ k) (waiting_at queues heads l)
  pub loads : (m : ℕ) → m < length lines →
      IsFilled (capacity_of p (line_at lines m)) (line_at lines m).load (run_count days m) (carried days m) (part_count (capacity_of p (line_at lines m)) days m)

-- a truck runs a line next: the run is put at the end of its day, and the truck at the end of the
-- line's queue
pub record Joins (p : Problem) (lines : List TruckLine) (m k : ℕ) (days_old days_new : List (List Run)) (queues_old queues_new : List (List ℕ)) : Type 0 where
  pub days : days_new ≡ slice_set days_old k (day_at days_old k ++ (record { line = m; load = next_load p (line_at lines m) (length (queue_at queues_old m)) }) ∷ [])
  pub queues : queues_new ≡ slice_set queues_old m (queue_at queues_old m ++ k ∷ [])

-- a truck begins with a line
pub record Begins (p : Problem) (lines : List TruckLine) (m : ℕ) (days_old days_new : List (List Run)) (queues_old queues_new : List (List ℕ)) : Type 0 where
  pub days : days_new ≡ days_old ++ (record { line = m; load = next_load p (line_at lines m) (length (queue_at queues_old m)) } ∷ []) ∷ []
  pub queues : queues_new ≡ slice_set queues_old m (queue_at queues_old m ++ length days_old ∷ [])

-- the first truck that waits at the end of a line runs another next
pub record Turns (p : Problem) (lines : List TruckLine) (l m k : ℕ) (days_old days_new : List (List Run)) (queues_old queues_new : List (List ℕ)) (heads_old heads_new : List ℕ) : Type 0 where
  pub first : k ≡ slice_index (queue_at queues_old l) (slice_index heads_old l)
  pub joins : Joins p lines m k days_old days_new queues_old queues_new
  pub heads : heads_new ≡ slice_set heads_old l (slice_index heads_old l + 1)
