-- What begins and turns take off the trucks of lines.
use Rattle.std.specs.Prelude.{ℕ, ◌<◌, ◌≤◌, List, length, slice_index, All}
use Rattle.fp_model.specs.Problem.{Problem}
use Rattle.fp_timetable.specs.declared.lines.TruckLine.{TruckLine}
use Rattle.fp_fleet.specs.declared.fleets.Begin.{Begin}
use Rattle.fp_fleet.specs.declared.fleets.Turn.{Turn}
use Rattle.fp_fleet.specs.Counts.{begin_count, into_count, out_count}
use Rattle.fp_fleet.specs.Fleets.{BeginExists, TurnExists}
use Rattle.fp_fleet.specs.Rosters.{CanTurn, line_at}

-- no more trucks begin with a line than it has
pub record BeginsFit (trucks : List ℕ) (begins : List Begin) : Type 0 where
  pub exist : All (BeginExists (length trucks)) begins
  pub fit : (m : ℕ) → m < length trucks → begin_count begins m ≤ slice_index trucks m

-- a turn is of lines that exist, and its trucks can turn
pub record TurnMeets (p : Problem) (lines : List TruckLine) (t : Turn) : Type 0 where
  pub exists : TurnExists (length lines) t
  pub meet : 0 < t.count → CanTurn p (line_at lines t.before) (line_at lines t.after)

-- no more trucks turn to a line than it lacks, and no more from it than are idle after it
pub record TurnsFit (p : Problem) (lines : List TruckLine) (lacking idle : List ℕ) (turns : List Turn) : Type 0 where
  pub meet : All (TurnMeets p lines) turns
  pub into : (m : ℕ) → m < length lines → into_count turns m ≤ slice_index lacking m
  pub out : (l : ℕ) → l < length lines → out_count turns l ≤ slice_index idle l
