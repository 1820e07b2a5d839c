-- What each truck of a fleet runs: its day is the list of its runs, one after the other. A run is of a
-- truck line, by its number, with the load that this truck carries on it.
use Rattle.std.specs.Prelude.{ℕ, ◌+◌, ◌<◌, ◌≤◌, ◌≡◌, ◌==◌, ⊤, List, [], ◌∷◌, ◌++◌, length, map, replicate, sum_by, All, Option, None, Some, if◌then◌else◌}
use Rattle.fp_model.specs.Problem.{Problem, arc_at}
use Rattle.fp_timetable.specs.declared.lines.TruckLine.{TruckLine}
use Rattle.fp_fleet.specs.declared.days.Run.{Run}
use Rattle.fp_fleet.specs.declared.days.TheConstants.{MOST_RUNS}
use Rattle.fp_fleet.specs.declared.fleets.Begin.{Begin}
use Rattle.fp_fleet.specs.Counts.{turn_count}
use Rattle.fp_fleet.specs.Fleets.{Assignment}
use Rattle.fp_fleet.specs.Rosters.{CanTurn, line_at, truck_total}

-- what one truck of a line holds
abbrev pub capacity_of : Problem → TruckLine → ℕ
capacity_of p t = (arc_at p t.arc).capacity

-- the line with which a day begins, 0 for a day without runs
abbrev pub first_line : List Run → ℕ
first_line [] = 0
first_line (r ∷ day) = r.line

-- the line with which it ends
abbrev pub last_line : List Run → ℕ
last_line [] = 0
last_line (r ∷ []) = r.line
last_line (r ∷ s ∷ day) = last_line (s ∷ day)

-- a run is of a line that exists, with a load above 0 that a truck of the line holds
pub record IsRun (p : Problem) (lines : List TruckLine) (r : Run) : Type 0 where
  pub line : r.line < length lines
  pub some : 0 < r.load
  pub holds : r.load ≤ capacity_of p (line_at lines r.line)

-- a truck can run the lines one after the other: from run to run it can turn
abbrev pub Follow : Problem → List TruckLine → List Run → Type 0
Follow p lines [] = ⊤
Follow p lines (r ∷ []) = ⊤
Follow p lines (r ∷ s ∷ day) = CanTurn p (line_at lines r.line) (line_at lines s.line) × Follow p lines (s ∷ day)

-- a day: one run at least, each of them sound, and a truck can run them one after the other
pub record IsDay (p : Problem) (lines : List TruckLine) (day : List Run) : Type 0 where
  pub some : 0 < length day
  pub runs : All (IsRun p lines) day
  pub follow : Follow p lines day

-- what all runs of all trucks give together
abbrev pub over_runs : (Run → ℕ) → List (List Run) → ℕ
over_runs f days = sum_by (λ (day : List Run). sum_by f day) days

-- how often trucks run a line
abbrev pub run_count : List (List Run) → ℕ → ℕ
run_count days m = over_runs (λ (r : Run). if r.line == m then 1 else 0) days

-- what they carry on it
abbrev pub carried : List (List Run) → ℕ → ℕ
carried days m = over_runs (λ (r : Run). if r.line == m then r.load else 0) days

-- how many of them are not full, where a truck holds so much
abbrev pub part_count : (capacity : ℕ) → List (List Run) → ℕ → ℕ
part_count capacity days m = over_runs (λ (r : Run). if r.line == m then (if r.load == capacity then 0 else 1) else 0) days

-- how often a truck runs one line next after another in a day
abbrev pub turns_in : (l m : ℕ) → List Run → ℕ
turns_in l m [] = 0
turns_in l m (r ∷ []) = 0
turns_in l m (r ∷ s ∷ day) = (if r.line == l then (if s.line == m then 1 else 0) else 0) + turns_in l m (s ∷ day)

-- how often trucks do so in all days
abbrev pub turned_count : List (List Run) → (l m : ℕ) → ℕ
turned_count days l m = sum_by (turns_in l m) days

-- the lines with which trucks begin, by line, each as often as trucks begin with it
abbrev pub first_lines : List Begin → List ℕ
first_lines [] = []
first_lines (b ∷ begins) = replicate b.count b.line ++ first_lines begins

-- on a line its trucks carry its load, and at most one of them is not full
pub record CarriesLoad (p : Problem) (lines : List TruckLine) (days : List (List Run)) (m : ℕ) : Type 0 where
  pub whole : carried days m ≡ (line_at lines m).load
  pub parts : part_count (capacity_of p (line_at lines m)) days m ≤ 1

-- days are those of the trucks of a fleet: so many, each with a day that a truck can run; they begin
-- and turn as the fleet does, by their first lines; each line is run by as many trucks as it has,
-- which carry its load
pub record AreTruckDays (p : Problem) (lines : List TruckLine) (fleet : Assignment) (days : List (List Run)) : Type 0 where
  pub number : length days ≡ fleet.total
  pub each : All (IsDay p lines) days
  pub begins : map first_line days ≡ first_lines fleet.begins
  pub turns : (l m : ℕ) → turned_count days l m ≡ turn_count fleet.turns l m
  pub runs : (m : ℕ) → m < length lines → run_count days m ≡ (line_at lines m).trucks
  pub loads : (m : ℕ) → m < length lines → CarriesLoad p lines days m

-- the days of a fleet, or none exactly where all lines together have more trucks than can be told
abbrev pub AreTold : Problem → List TruckLine → Assignment → Option (List (List Run)) → Type 0
AreTold p lines fleet None = MOST_RUNS < truck_total lines
AreTold p lines fleet (Some days) = (truck_total lines ≤ MOST_RUNS) × AreTruckDays p lines fleet days
