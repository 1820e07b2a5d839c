-- Rosters: which trucks run the truck lines of a timetable, without empty moves.
-- A line's number is its place, from 0, among the lines.
-- The source: Dantzig and Fulkerson, "Minimizing the number of tankers to meet a fixed schedule",
-- Naval Research Logistics Quarterly 1, 1954, for trips that a vehicle runs one after the other.
use Rattle.std.specs.Prelude.{ℕ, ◌+◌, ◌<◌, ◌≤◌, ◌≡◌, List, length, slice_index_or}
use Rattle.fp_base_lists.specs.Below.{sum_below}
use Rattle.fp_model.specs.Problem.{Problem, arc_at}
use Rattle.fp_timetable.specs.declared.lines.TruckLine.{TruckLine}
use Rattle.fp_timetable.specs.Order.{no_line}

-- the truck line with a number
abbrev pub line_at : List TruckLine → ℕ → TruckLine
line_at lines l = slice_index_or lines l no_line

-- the terminal that a line leaves
abbrev pub tail_of : Problem → TruckLine → ℕ
tail_of p t = (arc_at p t.arc).from

-- the terminal where a line ends
abbrev pub head_of : Problem → TruckLine → ℕ
head_of p t = (arc_at p t.arc).to

-- when a line arrives
abbrev pub arrival_of : Problem → TruckLine → ℕ
arrival_of p t = t.depart + (arc_at p t.arc).time

-- the trucks of all lines
abbrev pub truck_total : List TruckLine → ℕ
truck_total lines = sum_below (length lines) (λ m. (line_at lines m).trucks)

-- a truck of one line can run another line next: the one ends at the terminal that the other
-- leaves, and arrives no later than the other departs
abbrev pub CanTurn : Problem → TruckLine → TruckLine → Type 0
CanTurn p t u = (head_of p t ≡ tail_of p u) × (arrival_of p t ≤ u.depart)

-- a roster of lines: so many trucks of a line begin with it, and so many turn from one line to
-- another. Trucks turn only where they can, each line has its trucks, and no more trucks turn out
-- of a line than it has.
pub record IsRoster (p : Problem) (lines : List TruckLine) (begins : ℕ → ℕ) (turns : ℕ → ℕ → ℕ) : Type 0 where
  pub meet : (l m : ℕ) → l < length lines → m < length lines → 0 < turns l m → CanTurn p (line_at lines l) (line_at lines m)
  pub into : (m : ℕ) → m < length lines → begins m + sum_below (length lines) (λ l. turns l m) ≡ (line_at lines m).trucks
  pub out : (l : ℕ) → l < length lines → sum_below (length lines) (λ m. turns l m) ≤ (line_at lines l).trucks

-- the size of a roster of so many lines: how many trucks it takes
abbrev pub roster_size : ℕ → (ℕ → ℕ) → ℕ
roster_size lines begins = sum_below lines begins

-- no roster of the lines takes fewer trucks, whatever begins and turns it has
abbrev pub NoRosterSmaller : Problem → List TruckLine → ℕ → Type 0
NoRosterSmaller p lines total = (begins : ℕ → ℕ) (turns : ℕ → ℕ → ℕ) → IsRoster p lines begins turns →
    total ≤ roster_size (length lines) begins
